-- A number of commands is never above the number of passes, so it is kept as it is.
use Rattle.cal_sched.proofs.Common.{◌≡◌, ℕ, zero, suc, add-one, ◌+◌, ◌<◌, ◌≤◌, ◌^◌, List, [], ◌∷◌, ◌++◌, length, take, Some, slice_get, refl, sym, ap, subst, ◌∙◌, arith, length-append, take_all, Table, IsTable, PassEntry, actions_of, sent_to, holder_of, Policy, IsLegalBy, Point, IsPointBy, slice_get_at}
use Rattle.cal_machine.specs.declared.command.Command.{Command}
use Rattle.cal_machine.specs.declared.command.Command.TheVariants.{Run, Park}
use Rattle.cal_policy.specs.declared.board.holders.Holder.{Holder}
use Rattle.cal_policy.specs.declared.board.holders.Holder.TheVariants.{Free, Held, Leaving}
use Rattle.cal_policy.specs.declared.board.holders.Placement as placements
use Rattle.cal_policy.specs.Board.{kept_number, kept_placement, kept_holder}
use Rattle.cal_laws.specs.Exclusion.{IsByLastRun, WasRun}
use Rattle.cal_laws.proofs.PointLemmas.EachAction.{actions_more}
use Rattle.cal_laws.proofs.PolicyLemmas.{is_point_by}
use Rattle.cal_sched.proofs.PolicyLemmas.{AreOfTheirLastRun, AreSentOneCommand}

module _ (policy : Policy) (table : Table) (history : List PassEntry) (ok : IsTable table) (legal : IsLegalBy policy table history) where
  -- the end of a pass
  abbrev end_of : ℕ → PassEntry → Point
  end_of p entry = record { table = table; history = history; pass = p; entry = entry; made = length entry.actions }

  is_end : (p : ℕ) (entry : PassEntry) → slice_get history p ≡ Some entry → IsPointBy policy (end_of p entry)
  is_end p entry at = is_point_by policy (end_of p entry) ok legal at (omega arith)

  -- all actions by then
  by_end : (p : ℕ) (entry : PassEntry) → slice_get history p ≡ Some entry
      → actions_of (take p history) ++ take (length entry.actions) entry.actions ≡ actions_of (take (suc p) history)
  by_end p entry at =
      let le : length entry.actions ≤ length entry.actions = omega arith in
      ap (λ xs. actions_of (take p history) ++ xs) (take_all (length entry.actions) entry.actions le)
      ∙ sym (actions_more history p entry at) ∙ ap (λ n. actions_of (take n history)) (add-one p)

  -- a thread is sent no more commands than there are passes
  sent_at_most : AreSentOneCommand policy → (k p : ℕ) → p ≤ length history → sent_to (actions_of (take p history)) k ≤ p
  sent_at_most one k zero le = omega arith
  sent_at_most one k (suc p) le =
      let it = slice_get_at history p (omega arith) in
      let before = sent_at_most one k p (omega arith) in
      let more : sent_to (actions_of (take (suc p) history)) k ≤ sent_to (actions_of (take p history)) k + 1 =
      rw (by_end p it.0 it.1) at (one (end_of p it.0) (is_end p it.0 it.1) k) in
      omega arith

  -- the number of a core's holder is that of one of its commands
  number_at_most : (p : ℕ) (c : ℕ) (placement : placements.Placement) (after : List Command) → p ≤ length history → AreSentOneCommand policy
      → WasRun (actions_of (take p history)) c placement after → placement.number ≤ length history
  number_at_most p c placement after le one was =
      let sent : sent_to (actions_of (take p history)) placement.thread ≡ length (was.earlier ++ Run c ∷ after) = ap length was.commands in
      let long = length-append was.earlier (Run c ∷ after) in
      let most = sent_at_most one placement.thread p le in
      let number : placement.number ≡ length was.earlier + 1 = was.number in
      omega arith

  same_number : (n : ℕ) → n ≤ length history → length history ≤ 1048576 → kept_number n ≡ n
  same_number n le few = let low : n ≤ 2 ^ 64 = omega arith in omega arith

  same_placement : (placement : placements.Placement) → placement.number ≤ length history → length history ≤ 1048576 → kept_placement placement ≡ placement
  same_placement placement le few = ap (λ n. record placement { number = n }) (same_number placement.number le few)

  same_holder : (p c : ℕ) (holder : Holder) → p ≤ length history → length history ≤ 1048576 → AreSentOneCommand policy
      → IsByLastRun (actions_of (take p history)) c holder → kept_holder holder ≡ holder
  same_holder p c Free le few one by = refl
  same_holder p c (Held placement) le few one by =
      ap Held (same_placement placement (number_at_most p c placement [] le one by) few)
  same_holder p c (Leaving placement cause) le few one by =
      ap (λ q. Leaving q cause) (same_placement placement (number_at_most p c placement (Park ∷ []) le one by) few)

  holder_upto : (p c : ℕ) → p ≤ length history → c < table.cores → length history ≤ 1048576 → AreSentOneCommand policy → AreOfTheirLastRun policy
      → kept_holder (holder_of (actions_of (take p history)) c) ≡ holder_of (actions_of (take p history)) c
  holder_upto zero c le low few one runs = refl
  holder_upto (suc p) c le low few one runs =
      let it = slice_get_at history p (omega arith) in
      let by : IsByLastRun (actions_of (take (suc p) history)) c (holder_of (actions_of (take (suc p) history)) c) =
      subst (λ x. IsByLastRun x c (holder_of x c)) (by_end p it.0 it.1) (runs (end_of p it.0) (is_end p it.0 it.1) c low) in
      same_holder (suc p) c (holder_of (actions_of (take (suc p) history)) c) le few one by

  -- who has a core is kept as it is
  pub holder_kept : (c : ℕ) → c < table.cores → length history ≤ 1048576 → AreSentOneCommand policy → AreOfTheirLastRun policy
      → kept_holder (holder_of (actions_of history) c) ≡ holder_of (actions_of history) c
  holder_kept c low few one runs =
      let le : length history ≤ length history = omega arith in
      subst (λ h. kept_holder (holder_of (actions_of h) c) ≡ holder_of (actions_of h) c) (take_all (length history) history le)
      (holder_upto (length history) c le low few one runs)
