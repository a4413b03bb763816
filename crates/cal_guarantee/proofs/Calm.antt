-- While no task holds more than it is guaranteed, no core is revoked; and so it stays where only short
-- tasks are granted cores.
use Rattle.cal_guarantee.proofs.Common.{◌≡◌, ℕ, ◌<◌, ◌≤◌, ◌⊎◌, Bool, true, false, cond, eqb, List, [], ◌∷◌, ◌++◌, length, refl, ap, sym, ◌∙◌, arith, inl, inr, cases_eq, ne_eqb, Table, owner_of, guaranteed_of, task_in, Action, Free, Unban, Ban, Revoke, Cap, Grant, Holder, actions_of, holder_of, placed, placement_of, is_free, is_held_for, held_by, Setting, so_far, frees, EachAfter, IsSteady, count_le, held_le_booked, is_leaving, is_short}
use Rattle.cal_policy.specs.declared.board.holders.Placement as placements
use Rattle.cal_policy.specs.declared.board.holders.Holder.TheVariants as holders
use Rattle.cal_guarantee.proofs.Holders.{Stays, moved_same, stays_same, moves_grant, stays_unban, stays_ban, stays_cap}
use Rattle.cal_guarantee.proofs.Steps.{IsStep, IsRevokeStep, IsGrantStep}
use Rattle.cal_guarantee.proofs.Counts.{short_parts}
use Rattle.cal_guarantee.proofs.KeptAlong.{along, steady_step, taken_open, open_free, grant_one, grant_owner}
use Rattle.cal_guarantee.proofs.Freed.{is_freed, after_frees}

-- no task of the table holds more than it is guaranteed
pub record IsCalm (table : Table) (x : List Action) : Type 0 where
  pub within : (u : ℕ) → u < length table.tasks → held_by table x u ≤ guaranteed_of table u

-- no core is being left after y that was not after x
pub record NoneLeaves (x y : List Action) : Type 0 where
  pub before : (c : ℕ) → is_leaving (holder_of y c) ≡ true → is_leaving (holder_of x c) ≡ true

-- the task of a core that is held is one of the table's
pub held_owner : (table : Table) (x : List Action) (c : ℕ) (p : placements.Placement) → IsSteady table x → holder_of x c ≡ holders.Held p → owner_of table p.thread < length table.tasks
held_owner table x c p steady e = (task_in table.tasks p.thread (steady.threads c p (ap placement_of e))).0

pub calm_revoke : (s : Setting) (acts : List Action) (core : ℕ) → IsSteady s.table (so_far s acts) → IsCalm s.table (so_far s acts) → IsRevokeStep s acts core → ⊥
calm_revoke s acts core steady calm q =
    let over = q.over in
    omega (arith, over, calm.within (owner_of s.table q.loser.thread) (held_owner s.table (so_far s acts) core q.loser steady q.held))

calm_stay : (table : Table) (x y : List Action) → Stays x y → IsCalm table x → IsCalm table y × NoneLeaves x y
calm_stay table x y m calm = (
  record { within = λ u lt. let same = stays_same x y (is_held_for table u) table.cores m in omega (arith, same, calm.within u lt) },
  record { before = λ c e. ap is_leaving (sym (m.at c)) ∙ e },
)

-- what is known of a grant makes its task a short one
abbrev pub IsToShort : (List Action → ℕ → Type 0) → Setting → List Action → Type 0
IsToShort G s acts = (core thread : ℕ) (g : IsGrantStep G s acts core thread) → is_short s.table (so_far s acts) g.task ≡ true

held_none : (table : Table) (u : ℕ) (h : Holder) → is_free h ≡ true → is_held_for table u h ≡ false
held_none table u holders.Free e = refl
held_none table u (holders.Held p) e = cc
held_none table u (holders.Leaving p cause) e = refl

calm_grant : (G : List Action → ℕ → Type 0) (s : Setting) (acts : List Action) (core thread class : ℕ) (q : IsGrantStep G s acts core thread) → is_short s.table (so_far s acts) q.task ≡ true →
    IsCalm s.table (so_far s acts) → IsCalm s.table (so_far s acts ++ Grant core thread class ∷ []) × NoneLeaves (so_far s acts) (so_far s acts ++ Grant core thread class ∷ [])
calm_grant G s acts core thread class q short calm = (record { within = λ u lt. go u lt (cases_eq u q.task) }, record { before = λ c e. leaving c e (cases_eq c core) })
  where
    go : (u : ℕ) → u < length s.table.tasks → (u ≡ q.task) ⊎ (u ≡ q.task → ⊥) → held_by s.table (so_far s acts ++ Grant core thread class ∷ []) u ≤ guaranteed_of s.table u
    go u lt (inl is) =
        let y = so_far s acts ++ Grant core thread class ∷ [] in
        let more = (grant_one s G acts core thread class q).books in
        let low = (short_parts s.table (so_far s acts) q.task short).1 in
        rw is (omega (arith, held_le_booked s.table y q.task, more, low))
    go u lt (inr ne) =
        let x = so_far s acts in
        let y = x ++ Grant core thread class ∷ [] in
        let free = open_free x core (taken_open s x q.task core q.may).0 in
        let off = ap (λ w. eqb w u) (grant_owner G s acts core thread q) ∙ ne_eqb q.task u (λ is. ne (sym is)) in
        let same = moved_same x y core (holders.Held (placed x thread)) (is_held_for s.table u) s.table.cores (moves_grant x core thread class) (off ∙ sym (held_none s.table u (holder_of x core) free)) in
        omega (arith, same, calm.within u lt)

    leaving : (c : ℕ) → is_leaving (holder_of (so_far s acts ++ Grant core thread class ∷ []) c) ≡ true → (c ≡ core) ⊎ (c ≡ core → ⊥) → is_leaving (holder_of (so_far s acts) c) ≡ true
    leaving c e (inl is) =
        let m = moves_grant (so_far s acts) core thread class in
        let there : is_leaving (holder_of (so_far s acts ++ Grant core thread class ∷ []) core) ≡ true = rw is at e in
        let clash : false ≡ true = sym (ap is_leaving m.here) ∙ there in cc
    leaving c e (inr ne) = ap is_leaving (sym ((moves_grant (so_far s acts) core thread class).others c ne)) ∙ e

pub calm_step : (U : Type 0) (G : List Action → ℕ → Type 0) (s : Setting) (acts : List Action) (a : Action) → IsStep U G s acts a → IsSteady s.table (so_far s acts) → IsToShort G s acts →
    IsCalm s.table (so_far s acts) → IsCalm s.table (so_far s acts ++ a ∷ []) × NoneLeaves (so_far s acts) (so_far s acts ++ a ∷ [])
calm_step U G s acts (Free core) q steady short calm = absurd q
calm_step U G s acts (Unban core) q steady short calm = let x = so_far s acts in calm_stay s.table x (x ++ Unban core ∷ []) (stays_unban x core) calm
calm_step U G s acts (Ban core thread started) q steady short calm = let x = so_far s acts in calm_stay s.table x (x ++ Ban core thread started ∷ []) (stays_ban x core thread started) calm
calm_step U G s acts (Cap task cap) q steady short calm = let x = so_far s acts in calm_stay s.table x (x ++ Cap task cap ∷ []) (stays_cap x task cap) calm
calm_step U G s acts (Revoke core cause) q steady short calm = absurd (calm_revoke s acts core steady calm q)
calm_step U G s acts (Grant core thread class) q steady short calm = calm_grant G s acts core thread class q (short core thread q) calm

pub leaves_refl : (x : List Action) → NoneLeaves x x
leaves_refl x = record { before = λ c e. e }

pub leaves_chain : (x y z : List Action) → NoneLeaves x y → NoneLeaves y z → NoneLeaves x z
leaves_chain x y z m n = record { before = λ c e. m.before c (n.before c e) }

abbrev pub Rests : Table → List Action → List Action → Type 0
Rests table x y = IsSteady table y × IsCalm table y × NoneLeaves x y

-- a part whose grants go to short tasks
pub calm_along : (U : Type 0) (G : List Action → ℕ → Type 0) (s : Setting) → ((acts : List Action) → IsToShort G s acts) →
    (acts more : List Action) → EachAfter (IsStep U G s) acts more → IsSteady s.table (so_far s acts) → IsCalm s.table (so_far s acts) →
    Rests s.table (so_far s acts) (so_far s (acts ++ more))
calm_along U G s short acts more each steady calm =
    along s (IsStep U G s) (Rests s.table (so_far s acts))
    (λ now a q was. let one = calm_step U G s now a q was.0 (short now) was.1 in
    (steady_step U G s now a q was.0, one.0, leaves_chain (so_far s acts) (so_far s now) (so_far s now ++ a ∷ []) was.2 one.1))
    acts more each (steady, calm, leaves_refl (so_far s acts))

-- the first part
held_unless : (table : Table) (u : ℕ) (b : Bool) (h : Holder) → is_held_for table u (cond b holders.Free h) ≡ true → is_held_for table u h ≡ true
held_unless table u true h e = cc
held_unless table u false h e = e

leaving_unless : (b : Bool) (h : Holder) → is_leaving (cond b holders.Free h) ≡ true → is_leaving h ≡ true
leaving_unless true h e = cc
leaving_unless false h e = e

pub calm_frees : (s : Setting) → IsCalm s.table (actions_of s.history) →
    IsCalm s.table (so_far s (frees s [])) × NoneLeaves (actions_of s.history) (so_far s (frees s []))
calm_frees s calm =
    let h = actions_of s.history in
    let x = so_far s (frees s []) in
    let f = after_frees s in (
      record {
        within = λ u lt. omega (
          arith,
          calm.within u lt,
          count_le (λ c. is_held_for s.table u (holder_of h c)) (λ c. is_held_for s.table u (holder_of x c)) s.table.cores
              (λ c low e. held_unless s.table u (is_freed s s.table.cores c) (holder_of h c) (ap (is_held_for s.table u) (sym (f.holder c)) ∙ e)),
        );
      },
      record { before = λ c e. leaving_unless (is_freed s s.table.cores c) (holder_of h c) (ap is_leaving (sym (f.holder c)) ∙ e) },
    )
