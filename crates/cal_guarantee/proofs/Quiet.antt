-- All stays calm after the turn of a short task that may take no open core; and where nothing is being left
-- and no free core is banned, as many cores are open as are lacking.
use Rattle.cal_guarantee.proofs.Common.{◌≡◌, ℕ, ◌+◌, ◌<◌, ◌≤◌, true, false, not, List, ◌++◌, length, take, Some, None, refl, ap, sym, ◌∙◌, subst, arith, ⊎_elim, zero, suc, eqb, cases_Bool, and_from, eq-eqb, not-true, Table, IsTable, no_task, owner_of, guaranteed_of, Action, Holder, actions_of, holder_of, is_banned, is_free, is_held_for, held_by, Setting, so_far, sum_below, IsSteady, held_le_booked, is_leaving, lowest_passes, is_short, lacks, lacks_waiting, is_open, open_choice, task_in_place, place_of, acts_in_place, bounded_of, pass_of, sum_by_more, sum_by-take-le, sum_by, tasks_placed, place_lower}
use Rattle.cal_policy.specs.declared.board.holders.Placement as placements
use Rattle.cal_policy.specs.declared.board.holders.Holder.TheVariants as holders
use Rattle.cal_policy.proofs.ListLemmas.OneNumberMore.{count_both}
use Rattle.cal_guarantee.proofs.Sums.{sum_le, sum_add, covered}
use Rattle.cal_guarantee.proofs.Steps.{IsGoodTurn, acts_steps}
use Rattle.cal_guarantee.proofs.Acting.{acts_short}
use Rattle.cal_guarantee.proofs.Counts.{lacks_short, lacks_none, waiting_most}
use Rattle.cal_guarantee.proofs.KeptAlong.{AreEnough, taken_open}
use Rattle.cal_guarantee.proofs.Unbanned.{NoneBannedBelow}
use Rattle.cal_guarantee.proofs.Calm.{IsCalm, NoneLeaves, held_owner, calm_along}
use Rattle.cal_guarantee.proofs.PassTurns.{up_to, with_turn, ToAny, ToShortOther, short_first, place_is, after_own, place_steady, own_turn, the_rest}
use Rattle.cal_guarantee.proofs.NoneOpen.{were_along, none_open}

-- after the turn of a short task that may take no open core
module _ (s : Setting) (t : ℕ) (ok : IsTable s.table) (lt : t < length s.table.tasks) (steady : IsSteady s.table (actions_of s.history))
    (short : is_short s.table (so_far s (with_turn s t)) t ≡ true) (none : open_choice s (so_far s (with_turn s t)) t ≡ None) where
  -- only short tasks are granted cores
  rest_good : (k v : ℕ) → place_of s (so_far s (bounded_of s)) t < k → task_in_place s (so_far s (bounded_of s)) k ≡ Some v → IsGoodTurn (ToShortOther s t) s (up_to s k) v
  rest_good k v from e n core low may taken =
      let x = so_far s (bounded_of s) in
      let at = place_is s x k v e in (
        (λ same. let tp : place_of s x t ≡ k = ap (place_of s x) (sym same) ∙ at in omega (arith, tp, from)),
        ⊎_elim
            (λ (is : is_short s.table x v ≡ true). acts_short s (up_to s k) v n (own_turn s v k ok steady is at) may)
            (λ (not_short : is_short s.table x v ≡ false). absurd (never at not_short))
            (cases_Bool (is_short s.table x v)),
      )
    where
      never : place_of s (so_far s (bounded_of s)) v ≡ k → is_short s.table (so_far s (bounded_of s)) v ≡ false → ⊥
      never at not_short =
          let x = so_far s (bounded_of s) in
          let lt_v = (lowest_passes (λ w. eqb (place_of s x w) k) (length s.table.tasks) v e).0 in
          let own = after_own s t (place_of s x t) (tasks_placed s x t lt).own in
          let S : List Action → Type 0 = λ now. is_short s.table (so_far s now) t ≡ true in
          let N : List Action → Type 0 = λ now. open_choice s (so_far s now) t ≡ None in
          let now = acts_in_place n s (Some v) (up_to s k) in
          let were = were_along ToAny s (up_to s k) now (acts_steps ⊥ ToAny s (up_to s k) v n ok lt_v (λ act c low_c may_c taken_c. tt)) (place_steady s k ok steady) in
          let is = were.at core (taken_open s (so_far s (up_to s k ++ now)) v core taken).0 in
          none_open s t ok lt steady (subst S (sym own) short) (subst N (sym own) none) k core from low
          (λ u lt_u is_short_u. let less = place_lower s x u v lt_u (short_first s x u v is_short_u not_short) in omega (arith, less, at)) is

  -- so all stays calm to the end of the pass
  pub rest_calm : IsCalm s.table (so_far s (with_turn s t)) → IsSteady s.table (so_far s (with_turn s t)) →
      IsCalm s.table (so_far s (pass_of s)) × NoneLeaves (so_far s (with_turn s t)) (so_far s (pass_of s))
  rest_calm calm st =
      let turn = the_rest (ToShortOther s t) s t ok lt rest_good in
      let now = with_turn s t in
      let end = calm_along ⊥ (ToShortOther s t) s (λ acts core thread g. g.good.1) now turn.rest turn.each st calm in
      let P : List Action → Type 0 = λ all. IsCalm s.table (so_far s all) × NoneLeaves (so_far s now) (so_far s all) in
      subst P (sym turn.pass) (end.1, end.2)

-- what the tasks are guaranteed in all
abbrev sum_of : Table → ℕ → ℕ
sum_of table k = sum_by (λ task. task.guaranteed) (take k table.tasks)

guaranteed_to : (table : Table) (k : ℕ) → k ≤ length table.tasks → sum_below (guaranteed_of table) k ≡ sum_of table k
guaranteed_to table zero le = refl
guaranteed_to table (suc k) le =
    let more = sum_by_more (λ task. task.guaranteed) table.tasks k no_task (omega (arith, le)) in
    let one : k + 1 ≡ suc k = omega arith in
    let next : sum_of table (suc k) ≡ sum_of table (k + 1) = ap (sum_of table) (sym one) in
    omega (arith, guaranteed_to table k (omega (arith, le)), more, next)

guaranteed_all : (table : Table) → IsTable table → sum_below (guaranteed_of table) (length table.tasks) ≤ table.cores
guaranteed_all table ok =
    let part = sum_by-take-le (λ task. task.guaranteed) table.tasks (length table.tasks) in
    let all = ok.guarantees in
    omega (arith, guaranteed_to table (length table.tasks) (omega arith), part, all)

-- what a task that holds no more than it is guaranteed lacks and holds
lacks_held : (table : Table) (x : List Action) (u : ℕ) → held_by table x u ≤ guaranteed_of table u → lacks table x u + held_by table x u ≤ guaranteed_of table u
lacks_held table x u le = ⊎_elim
    (λ short. omega (arith, lacks_short table x u short, held_le_booked table x u))
    (λ not_short. omega (arith, lacks_none table x u not_short, le))
    (cases_Bool (is_short table x u))

-- where all is calm, nothing is being left and no free core is banned, as many are open as are lacking
not_open : (x : List Action) (c : ℕ) → is_leaving (holder_of x c) ≡ false → (is_free (holder_of x c) ≡ true → is_banned x c ≡ false) → is_open x c ≡ false →
    (h : Holder) → holder_of x c ≡ h → (p : placements.Placement) × (holder_of x c ≡ holders.Held p)
not_open x c stays open_is shut holders.Free e =
    let free : is_free (holder_of x c) ≡ true = ap is_free e in
    let is = and_from (is_free (holder_of x c)) (not (is_banned x c)) free (ap not (open_is free)) in
    let clash : true ≡ false = sym is ∙ shut in cc
not_open x c stays open_is shut (holders.Held p) e = (p, e)
not_open x c stays open_is shut (holders.Leaving p cause) e = let clash : true ≡ false = sym (ap is_leaving e) ∙ stays in cc

pub all_open : (s : Setting) (x : List Action) → IsTable s.table → IsSteady s.table x → IsCalm s.table x → ((c : ℕ) → c < s.table.cores → is_leaving (holder_of x c) ≡ false) →
    NoneBannedBelow x s.table.cores → AreEnough s x
all_open s x ok steady calm stays below =
    let table = s.table in
    let m = length table.tasks in
    let n = table.cores in
    let both = count_both (is_open x) n in
    let held = covered (λ c. not (is_open x c)) (λ u c. is_held_for table u (holder_of x c)) m n
    (λ c low shut.
    let found = not_open x c (stays c low) (below c low) (not-true (is_open x c) shut) (holder_of x c) refl in
    let u = owner_of table found.0.thread in
    (u, held_owner table x c found.0 steady found.1, ap (is_held_for table u) found.1 ∙ eq-eqb u u refl)) in
    let split = sum_add (lacks_waiting s x) (held_by table x) m in
    let each = sum_le (λ u. lacks_waiting s x u + held_by table x u) (guaranteed_of table) m
    (λ u low. omega (arith, waiting_most s x u, lacks_held table x u (calm.within u low))) in
    omega (arith, both, held, split, each, guaranteed_all table ok)
