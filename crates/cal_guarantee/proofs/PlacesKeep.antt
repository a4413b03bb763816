-- What each act keeps holds from place to place of the order; and what an act revokes.
use Rattle.cal_guarantee.proofs.Common.{◌≡◌, ◌⊎◌, ℕ, ◌<◌, ◌≤◌, Bool, true, false, not, ◌&&◌, ◌||◌, cond, eqb, ltb, List, [], ◌∷◌, ◌++◌, length, Option, Some, None, refl, ap, sym, ◌∙◌, subst, arith, inl, inr, ⊎_elim, append_assoc, zero, suc, append-nil, cases_lt, and_parts, and_from, some_then, IsTable, owner_of, thread_of, guaranteed_of, is_latency_critical, Action, Free, Unban, Ban, Revoke, Cap, Grant, CoreClass, Candidate, Holder, actions_of, holder_of, class_number, is_idle, comes_before, booked_by, is_over, Setting, so_far, is_held_with_room, is_granted_in, preempt_class, thread_choice, grant_of, EachAfter, IsSteady, best_ranked, lowest_passes, is_short, waits, open_choice, held_class, held_choice, fewer_come, more_press, may_preempt, may_take_from, choice_for, has_acted, may_act, act_of, acts_in_place, turn_in_place, task_in_place, place_of, bounded_of, Moves, AllMove, act_moves}
use Rattle.cal_policy.specs.declared.history.action.Cause.TheVariants as causes
use Rattle.cal_policy.specs.declared.board.holders.Placement as placements
use Rattle.cal_policy.specs.declared.board.holders.Holder.TheVariants as holders
use Rattle.cal_guarantee.proofs.Steps.{IsStep, act_steps, acts_steps, none_in_turn, open_taken, preempt_cases, or_some}
use Rattle.cal_guarantee.proofs.KeptAlong.{along, steady_step}
use Rattle.cal_guarantee.proofs.PassTurns.{up_to, ToAny, after_place, place_steady}

-- the actions of a pass before an act of task v in this place
abbrev pub to_act : Setting → ℕ → ℕ → ℕ → List Action
to_act s k v i = up_to s k ++ acts_in_place i s (Some v) (up_to s k)

-- each act from place m on keeps P
abbrev pub IsKeptFrom : (List Action → Type 0) → Setting → ℕ → Type 0
IsKeptFrom P s m = (k v i : ℕ) (a : Action) → m ≤ k → v < length s.table.tasks → task_in_place s (so_far s (bounded_of s)) k ≡ Some v → IsSteady s.table (so_far s (to_act s k v i)) →
    Moves (so_far s (to_act s k v i)) a → IsStep ⊥ ToAny s (to_act s k v i) a → EachAfter (IsStep ⊥ ToAny s) (up_to s k) (acts_in_place i s (Some v) (up_to s k)) →
    act_of s (to_act s k v i) v ≡ a ∷ [] → P (to_act s k v i) → P (to_act s k v i ++ a ∷ [])

module _ (P : List Action → Type 0) (s : Setting) (m : ℕ) (ok : IsTable s.table) (steady : IsSteady s.table (actions_of s.history)) (keeps : IsKeptFrom P s m) where
  one_keeps : (k v i : ℕ) → m ≤ k → v < length s.table.tasks → task_in_place s (so_far s (bounded_of s)) k ≡ Some v → (l : List Action) → act_of s (to_act s k v i) v ≡ l → AllMove (so_far s (to_act s k v i)) l →
      EachAfter (IsStep ⊥ ToAny s) (to_act s k v i) l → P (to_act s k v i) → P (to_act s k v i ++ l)
  one_keeps k v i le lt there [] e moves each h = subst P (sym (append-nil (to_act s k v i))) h
  one_keeps k v i le lt there (a ∷ []) e moves each h =
      let acts = acts_steps ⊥ ToAny s (up_to s k) v i ok lt (λ n core low may taken. tt) in
      let st = along s (IsStep ⊥ ToAny s) (IsSteady s.table) (λ past b q was. steady_step ⊥ ToAny s past b q was) (up_to s k) (acts_in_place i s (Some v) (up_to s k)) acts (place_steady s k ok steady) in
      keeps k v i a le lt there st moves each.0 acts e h
  one_keeps k v i le lt there (a ∷ b ∷ more) e moves each h = absurd moves

  acts_keep : (k v i : ℕ) → m ≤ k → v < length s.table.tasks → task_in_place s (so_far s (bounded_of s)) k ≡ Some v → P (up_to s k) → P (to_act s k v i)
  acts_keep k v zero le lt there h = subst P (sym (append-nil (up_to s k))) h
  acts_keep k v (suc i) le lt there h =
      let now = to_act s k v i in
      subst P (append_assoc (up_to s k) (acts_in_place i s (Some v) (up_to s k)) (act_of s now v))
      (one_keeps k v i le lt there (act_of s now v) refl (act_moves s now v) (act_steps ⊥ ToAny s now v ok lt (λ core low may taken. tt)) (acts_keep k v i le lt there h))

  place_keeps : (k : ℕ) → m ≤ k → (o : Option ℕ) → task_in_place s (so_far s (bounded_of s)) k ≡ o → P (up_to s k) → P (up_to s k ++ turn_in_place s (up_to s k) o)
  place_keeps k le None e h = subst P (sym (ap (λ l. up_to s k ++ l) (none_in_turn s (up_to s k) s.table.cores) ∙ append-nil (up_to s k))) h
  place_keeps k le (Some v) e h = acts_keep k v s.table.cores le (lowest_passes (λ w. eqb (place_of s (so_far s (bounded_of s)) w) k) (length s.table.tasks) v e).0 e h

  pub places_keep : (n : ℕ) → m ≤ n → P (up_to s m) → P (up_to s n)
  places_keep zero le h = let same : m ≡ 0 = omega (arith, le) in let Q : ℕ → Type 0 = λ k. P (up_to s k) in subst Q same h
  places_keep (suc n) le h = ⊎_elim
      (λ (l : m < suc n). subst P (sym (after_place s n)) (place_keeps n (omega (arith, l)) (task_in_place s (so_far s (bounded_of s)) n) refl (places_keep n (omega (arith, l)) h)))
      (λ (g : suc n ≤ m). let same : m ≡ suc n = omega (arith, g, le) in let Q : ℕ → Type 0 = λ k. P (up_to s k) in subst Q same h)
      (cases_lt m (suc n))

-- a core that is revoked for a task: it is held by a best-effort one, or the task books less than it is guaranteed
held_whose : (s : Setting) (acts : List Action) (t c : ℕ) (r : CoreClass) (h : Holder) → holder_of (so_far s acts) c ≡ h → held_class s acts t c h ≡ Some r →
    (p : placements.Placement) × (holder_of (so_far s acts) c ≡ holders.Held p)
    × ((is_latency_critical s.table (owner_of s.table p.thread) ≡ false) ⊎ (ltb (booked_by s.table (so_far s acts) t) (guaranteed_of s.table t) ≡ true))
held_whose s acts t c r holders.Free there e = cc
held_whose s acts t c r (holders.Leaving p cause) there e = cc
held_whose s acts t c r (holders.Held p) there e =
    let x = so_far s acts in
    let other = owner_of s.table p.thread in
    let below = ltb (booked_by s.table x t) (guaranteed_of s.table t) in
    let both = some_then (is_held_with_room s (holders.Held p) && not (is_granted_in acts c) && may_take_from s x t other) (preempt_class s.table x t other) r e in
    let found = preempt_cases (is_latency_critical s.table other) (below && not (eqb other t) && is_over s.table x other) r both.1 in (
      p,
      there,
      ⊎_elim
          (λ best. inl best)
          (λ over. inr (and_parts below (not (eqb other t)) (and_parts (below && not (eqb other t)) (is_over s.table x other) over).0).0)
          found.1,
    )

-- what is known of each revocation: it is for a latency-critical task, of a core of a best-effort one where that is
-- not short
pub record IsForCritical (s : Setting) (acts : List Action) (t core : ℕ) : Type 0 where
  pub critical : is_latency_critical s.table t ≡ true
  pub loser : placements.Placement
  pub held : holder_of (so_far s acts) core ≡ holders.Held loser
  pub burstable : is_short s.table (so_far s acts) t ≡ false → is_latency_critical s.table (owner_of s.table loser.thread) ≡ false

abbrev pub IsAct : Setting → ℕ → List Action → Action → Type 0
IsAct s t acts (Free core) = Unit {0}
IsAct s t acts (Unban core) = Unit {0}
IsAct s t acts (Ban core thread started) = Unit {0}
IsAct s t acts (Cap task cap) = Unit {0}
IsAct s t acts (Revoke core cause) = IsForCritical s acts t core
IsAct s t acts (Grant core thread class) = Unit {0}

chosen_held : (s : Setting) (acts : List Action) (t : ℕ) (k : Candidate CoreClass) → may_preempt s acts t ≡ true → held_choice s acts t ≡ Some k → IsForCritical s acts t k.number
chosen_held s acts t k may e =
    let x = so_far s acts in
    let ranked = best_ranked comes_before (λ c. held_class s acts t c (holder_of x c)) s.table.cores k e in
    let whose = held_whose s acts t k.number k.rank (holder_of x k.number) refl ranked.1 in
    let parts = and_parts (is_latency_critical s.table t && more_press s x t) (not (has_acted s.table acts t) || fewer_come s x t) may in
    let critical = (and_parts (is_latency_critical s.table t) (more_press s x t) parts.0).0 in
    record {
      critical = critical;
      loser = whose.0;
      held = whose.1;
      burstable = λ not_short. ⊎_elim
          (λ best. best)
          (λ below. let short = and_from (is_latency_critical s.table t) (ltb (booked_by s.table x t) (guaranteed_of s.table t)) critical below in
          let clash : true ≡ false = sym short ∙ not_short in cc)
          whose.2;
    }

chosen_by : (s : Setting) (acts : List Action) (t : ℕ) (thread : Candidate ℕ) (k : Candidate CoreClass) → choice_for s acts t ≡ Some k → (b : Bool) → is_idle k.rank ≡ b →
    EachAfter (IsAct s t) acts (cond b (Grant k.number (thread_of s.table t thread.number) (class_number k.rank) ∷ []) (Revoke k.number (causes.Preempt t) ∷ []))
chosen_by s acts t thread k e true idle = (tt, tt)
chosen_by s acts t thread k e false idle = ⊎_elim
    (λ taken. let is = (open_taken s (so_far s acts) t k taken).1.1 in let clash : true ≡ false = sym is ∙ idle in absurd (no clash))
    (λ lost. let both = some_then (may_preempt s acts t) (held_choice s acts t) k lost.1 in (chosen_held s acts t k both.0 both.1, tt))
    (or_some (open_choice s (so_far s acts) t) (cond (may_preempt s acts t) (held_choice s acts t) None) k e)
  where
    no : true ≡ false → ⊥
    no e = cc

chosen : (s : Setting) (acts : List Action) (t : ℕ) (o : Option (Candidate ℕ)) (k : Option (Candidate CoreClass)) → choice_for s acts t ≡ k → EachAfter (IsAct s t) acts (grant_of s t o k)
chosen s acts t None k e = tt
chosen s acts t (Some thread) None e = tt
chosen s acts t (Some thread) (Some k) e = chosen_by s acts t thread k e (is_idle k.rank) refl

either : (P : List Action → Action → Type 0) (acts : List Action) (b : Bool) (l : List Action) → EachAfter P acts l → EachAfter P acts (cond b l [])
either P acts true l e = e
either P acts false l e = tt

pub act_is_act : (s : Setting) (acts : List Action) (t : ℕ) → EachAfter (IsAct s t) acts (act_of s acts t)
act_is_act s acts t = either (IsAct s t) acts (waits s (so_far s acts) t && may_act s acts t) (grant_of s t (thread_choice s (so_far s acts) t) (choice_for s acts t))
    (chosen s acts t (thread_choice s (so_far s acts) t) (choice_for s acts t) refl)
