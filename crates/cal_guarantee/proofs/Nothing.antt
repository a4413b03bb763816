-- Where a short task finds no core to revoke, no task holds more than it is guaranteed.
use Rattle.cal_guarantee.proofs.Common.{◌≡◌, ℕ, ◌<◌, ◌≤◌, ◌⊎◌, Bool, true, false, not, ◌&&◌, cond, eqb, ltb, List, [], ◌∷◌, ◌++◌, length, Some, None, refl, ap, sym, ◌∙◌, subst, arith, inl, inr, ⊎_elim, cases_eq, cases_lt, and_from, lt-ltb, ne_eqb, or_right, Table, IsTable, owner_of, guaranteed_of, is_latency_critical, threads_of_table, Action, Free, Unban, Ban, Revoke, Cap, Grant, actions_of, holder_of, thread_granted, placed, comes_before, placement_of, is_held_for, held_by, booked_by, is_over, Setting, so_far, has_room, is_held_with_room, frees, is_granted_in, preempt_class, IsSteady, held_le_booked, so_far_more, EachAfter, is_short, waits_short, fewer_come, may_take_from, held_class, held_choice, bounded_of}
use Rattle.cal_policy.specs.declared.history.core_class.CoreClass.TheVariants as classes
use Rattle.cal_policy.specs.declared.board.holders.Placement as placements
use Rattle.cal_policy.specs.declared.board.holders.Holder.TheVariants as holders
use Rattle.cal_guarantee.proofs.Sums.{some_counted}
use Rattle.cal_guarantee.proofs.Holders.{Stays, moves_revoke, moves_grant, stays_unban, stays_ban, stays_cap}
use Rattle.cal_guarantee.proofs.Steps.{IsStep, held_of}
use Rattle.cal_guarantee.proofs.Counts.{books_stay, books_left, short_parts}
use Rattle.cal_assured.proofs.OwedTaken.{best_missing}
use Rattle.cal_guarantee.proofs.KeptAlong.{AreShort, along_acts, steady_step, revoked_last, grant_one, grant_owner}
use Rattle.cal_guarantee.proofs.NoneGranted.{granted_push, none_granted}
use Rattle.cal_guarantee.proofs.Calm.{IsCalm}
use Rattle.cal_guarantee.proofs.PassTurns.{before_turn, from_freed, turn_freed, ToShortOther, freed_steady, freed_steps}

-- task u is latency-critical and books no more than it is guaranteed
abbrev pub IsWithin : Table → List Action → ℕ → Type 0
IsWithin table x u = (is_latency_critical table u ≡ true) × (booked_by table x u ≤ guaranteed_of table u)

-- so is the task of each core that is held and was granted among these actions
abbrev pub AreWithin : Table → List Action → List Action → Type 0
AreWithin table x acts = (c : ℕ) (p : placements.Placement) → holder_of x c ≡ holders.Held p → is_granted_in acts c ≡ true → IsWithin table x (owner_of table p.thread)

within_same : (table : Table) (x y : List Action) (u : ℕ) → booked_by table y u ≡ booked_by table x u → IsWithin table x u → IsWithin table y u
within_same table x y u e w = (w.0, let low = w.1 in omega (arith, e, low))

within_stay : (table : Table) (x y acts more : List Action) → Stays x y → ((c : ℕ) → is_granted_in more c ≡ is_granted_in acts c) → AreWithin table x acts → AreWithin table y more
within_stay table x y acts more m same was c p e g =
    within_same table x y (owner_of table p.thread) ((books_stay table x y m).books (owner_of table p.thread)) (was c p (sym (m.at c) ∙ e) (sym (same c) ∙ g))

module _ (U : Type 0) (G : List Action → ℕ → Type 0) (s : Setting) (shorts : AreShort G s) (acts : List Action) (steady : IsSteady s.table (so_far s acts)) where
  within_step : (a : Action) → IsStep U G s acts a → AreWithin s.table (so_far s acts) acts → AreWithin s.table (so_far s acts ++ a ∷ []) (acts ++ a ∷ [])
  within_step (Free core) q was = absurd q
  within_step (Unban core) q was =
      let x = so_far s acts in within_stay s.table x (x ++ Unban core ∷ []) acts (acts ++ Unban core ∷ []) (stays_unban x core) (λ c. granted_push acts (Unban core) c refl) was
  within_step (Ban core thread started) q was =
      let x = so_far s acts in within_stay s.table x (x ++ Ban core thread started ∷ []) acts (acts ++ Ban core thread started ∷ []) (stays_ban x core thread started)
      (λ c. granted_push acts (Ban core thread started) c refl) was
  within_step (Cap task cap) q was =
      let x = so_far s acts in within_stay s.table x (x ++ Cap task cap ∷ []) acts (acts ++ Cap task cap ∷ []) (stays_cap x task cap) (λ c. granted_push acts (Cap task cap) c refl) was
  within_step (Revoke core cause) q was = λ c p e g. go c p e g (cases_eq c core)
    where
      go : (c : ℕ) (p : placements.Placement) → holder_of (so_far s acts ++ Revoke core cause ∷ []) c ≡ holders.Held p → is_granted_in (acts ++ Revoke core cause ∷ []) c ≡ true →
          (c ≡ core) ⊎ (c ≡ core → ⊥) → IsWithin s.table (so_far s acts ++ Revoke core cause ∷ []) (owner_of s.table p.thread)
      go c p e g (inl same) =
          let x = so_far s acts in
          let m = moves_revoke x core cause q.loser (revoked_last s acts core q steady) in
          let there : holder_of (x ++ Revoke core cause ∷ []) core ≡ holders.Held p = ap (holder_of (x ++ Revoke core cause ∷ [])) (sym same) ∙ e in
          let clash : holders.Leaving q.loser cause ≡ holders.Held p = sym m.here ∙ there in cc
      go c p e g (inr ne) =
          let x = so_far s acts in
          let y = x ++ Revoke core cause ∷ [] in
          let m = moves_revoke x core cause q.loser (revoked_last s acts core q steady) in
          within_same s.table x y (owner_of s.table p.thread) ((books_left s.table x y core q.loser cause m q.held).books (owner_of s.table p.thread))
          (was c p (sym (m.others c ne) ∙ e) (sym (granted_push acts (Revoke core cause) c refl) ∙ g))
  within_step (Grant core thread class) q was = λ c p e g. go c p e g (cases_eq c core)
    where
      mine : (u : ℕ) → u ≡ q.task → IsWithin s.table (so_far s acts ++ Grant core thread class ∷ []) u
      mine u same =
          let x = so_far s acts in
          let y = x ++ Grant core thread class ∷ [] in
          let parts = short_parts s.table x q.task (shorts acts q.task q.good) in
          let more = (grant_one s G acts core thread class q).books in
          let P : ℕ → Type 0 = λ w. IsWithin s.table y w in
          subst P (sym same) (parts.0, let low = parts.1 in omega (arith, more, low))

      theirs : (u : ℕ) → IsWithin s.table (so_far s acts) u → (u ≡ q.task) ⊎ (u ≡ q.task → ⊥) → IsWithin s.table (so_far s acts ++ Grant core thread class ∷ []) u
      theirs u w (inl same) = mine u same
      theirs u w (inr ne) =
          within_same s.table (so_far s acts) (so_far s acts ++ Grant core thread class ∷ []) u ((grant_one s G acts core thread class q).others u ne) w

      go : (c : ℕ) (p : placements.Placement) → holder_of (so_far s acts ++ Grant core thread class ∷ []) c ≡ holders.Held p → is_granted_in (acts ++ Grant core thread class ∷ []) c ≡ true →
          (c ≡ core) ⊎ (c ≡ core → ⊥) → IsWithin s.table (so_far s acts ++ Grant core thread class ∷ []) (owner_of s.table p.thread)
      go c p e g (inl same) =
          let x = so_far s acts in
          let y = x ++ Grant core thread class ∷ [] in
          let there : holder_of y core ≡ holders.Held p = ap (holder_of y) (sym same) ∙ e in
          let both : holders.Held (placed x thread) ≡ holders.Held p = sym (moves_grant x core thread class).here ∙ there in
          let place : placed x thread ≡ p = cc in
          mine (owner_of s.table p.thread) (ap (λ (r : placements.Placement). owner_of s.table r.thread) (sym place) ∙ grant_owner G s acts core thread q)
      go c p e g (inr ne) =
          let x = so_far s acts in
          let old : holder_of x c ≡ holders.Held p = sym ((moves_grant x core thread class).others c ne) ∙ e in
          let none : thread_granted c acts (Grant core thread class) ≡ None = ap (λ b. cond b (Some thread) None) (ne_eqb core c (λ same. ne (sym same))) in
          theirs (owner_of s.table p.thread) (was c p old (sym (granted_push acts (Grant core thread class) c none) ∙ g)) (cases_eq (owner_of s.table p.thread) q.task)

abbrev pub SteadyWithin : Setting → List Action → Type 0
SteadyWithin s acts = IsSteady s.table (so_far s acts) × AreWithin s.table (so_far s acts) acts

within_next : (U : Type 0) (G : List Action → ℕ → Type 0) (s : Setting) → AreShort G s → (acts : List Action) (a : Action) → IsStep U G s acts a → SteadyWithin s acts → SteadyWithin s (acts ++ a ∷ [])
within_next U G s shorts acts a q was =
    let P : List Action → Type 0 = λ x. IsSteady s.table x × AreWithin s.table x (acts ++ a ∷ []) in
    subst P (sym (so_far_more s acts (a ∷ []))) (steady_step U G s acts a q was.0, within_step U G s shorts acts was.0 a q was.1)

pub within_along : (U : Type 0) (G : List Action → ℕ → Type 0) (s : Setting) → AreShort G s → (acts more : List Action) → EachAfter (IsStep U G s) acts more → SteadyWithin s acts → SteadyWithin s (acts ++ more)
within_along U G s shorts acts more each h = along_acts (IsStep U G s) (SteadyWithin s) (λ now a q was. within_next U G s shorts now a q was) acts more each h

-- a held core has a class, unless its task is within its guarantee
preempt_some : (critical short other over : Bool) → short ≡ true → other ≡ true → over ≡ true →
    cond (not critical) (Some classes.BestEffortBurstable) (cond (short && other && over) (Some classes.LatencyCriticalBurstable) None) ≡ None → ⊥
preempt_some false short other over e f g is = cc
preempt_some true short other over e f g is =
    let all = and_from (short && other) over (and_from short other e f) g in
    let made : Some classes.LatencyCriticalBurstable ≡ None = ap (λ b. cond b (Some classes.LatencyCriticalBurstable) None) (sym all) ∙ is in cc

-- after such actions a short task to which fewer cores are coming than it lacks finds none to revoke
module _ (s : Setting) (t : ℕ) (now : List Action) (short : is_short s.table (so_far s now) t ≡ true) (there : SteadyWithin s now)
    (rooms : (k : ℕ) → k < threads_of_table s.table → has_room s k ≡ true) (nothing : held_choice s now t ≡ None) (fewer : fewer_come s (so_far s now) t ≡ true) where
  -- a core that is held by a task that is over would have been found
  found_over : (c : ℕ) (p : placements.Placement) → c < s.table.cores → holder_of (so_far s now) c ≡ holders.Held p →
      guaranteed_of s.table (owner_of s.table p.thread) < held_by s.table (so_far s now) (owner_of s.table p.thread) → (b : Bool) → is_granted_in now c ≡ b → ⊥
  found_over c p low e over true g =
      let x = so_far s now in
      let within = there.1 c p e g in
      let few = within.1 in
      omega (arith, over, few, held_le_booked s.table x (owner_of s.table p.thread))
  found_over c p low e over false g =
      let x = so_far s now in
      let other = owner_of s.table p.thread in
      let parts = short_parts s.table x t short in
      let missing = best_missing comes_before (λ k. held_class s now t k (holder_of x k)) s.table.cores c nothing low in
      let held : held_class s now t c (holders.Held p) ≡ None = ap (held_class s now t c) (sym e) ∙ missing in
      let room : has_room s p.thread ≡ true = rooms p.thread (there.0.threads c p (ap placement_of e)) in
      let may : (is_held_with_room s (holders.Held p) && not (is_granted_in now c) && may_take_from s x t other) ≡ true =
      and_from (has_room s p.thread && not (is_granted_in now c)) (may_take_from s x t other)
      (and_from (has_room s p.thread) (not (is_granted_in now c)) room (ap not g))
      (or_right (not (is_latency_critical s.table other)) (fewer_come s x t) fewer) in
      let class : preempt_class s.table x t other ≡ None = ap (λ b. cond b (preempt_class s.table x t other) None) (sym may) ∙ held in
      preempt_some (is_latency_critical s.table other) (ltb (booked_by s.table x t) (guaranteed_of s.table t)) (not (eqb other t)) (is_over s.table x other)
      (lt-ltb (booked_by s.table x t) (guaranteed_of s.table t) parts.1)
      (ap not (ne_eqb other t (λ same.
      let P : ℕ → Type 0 = λ u. guaranteed_of s.table u < held_by s.table x u in
      let mine : P t = subst P same over in
      let few = parts.1 in
      omega (arith, mine, few, held_le_booked s.table x t))))
      (lt-ltb (guaranteed_of s.table other) (held_by s.table x other) over) class

  pub calm_at : IsCalm s.table (so_far s now)
  calm_at = record {
    within = λ u low. ⊎_elim
        (λ (over : guaranteed_of s.table u < held_by s.table (so_far s now) u). absurd (go u over))
        (λ (le : held_by s.table (so_far s now) u ≤ guaranteed_of s.table u). le)
        (cases_lt (guaranteed_of s.table u) (held_by s.table (so_far s now) u));
  }
    where
      go : (u : ℕ) → guaranteed_of s.table u < held_by s.table (so_far s now) u → ⊥
      go u over =
          let x = so_far s now in
          let some = some_counted (λ c. is_held_for s.table u (holder_of x c)) s.table.cores (omega (arith, over)) in
          let held = held_of s.table u (holder_of x some.0) some.2 in
          let P : ℕ → Type 0 = λ w. guaranteed_of s.table w < held_by s.table x w in
          found_over some.0 held.0 some.1 held.1 (subst P (sym held.2) over) (is_granted_in now some.0) refl

module _ (s : Setting) (t : ℕ) (ok : IsTable s.table) (lt : t < length s.table.tasks) (steady : IsSteady s.table (actions_of s.history))
    (waiting : waits_short s (so_far s (bounded_of s)) t ≡ true) where
  -- up to the turn of the task
  pub within_there : SteadyWithin s (before_turn s t)
  within_there =
      let start : AreWithin s.table (so_far s (frees s [])) (frees s []) = λ c p e g. let clash : true ≡ false = sym g ∙ none_granted s c in cc in
      let end = within_along (Unit {0}) (ToShortOther s t) s (λ acts u g. g.1) (frees s []) (from_freed s t)
      (freed_steps s t ok lt steady waiting) (freed_steady s t ok lt steady waiting, start) in
      subst (SteadyWithin s) (sym (turn_freed s t)) end
