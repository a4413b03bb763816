use Rattle.cal_measure.proofs.Common.{nat_lt, ◌≡◌, ◌∙◌, ◌+◌, ◌++◌, ◌∷◌, [], ℕ, List, Option, length, length-append, take, ap, sym, subst, arith, Agrees, actions_of, PassEntry, bandwidth_in, in_state_after, is_over_limit}
use Rattle.cal_measure.specs.declared.states.CoreState.TheVariants as states
use Rattle.cal_measure.proofs.OneMore.{slice_here, take_here}
use Rattle.cal_measure.proofs.walk.machine_time.MachineTime.with_pass.Goals as goal

pub returns : goal.returns
returns c = λ h e few state figure lasting was.
    let table = c.args.config.now in
    let h2 : List PassEntry = h ++ e ∷ [] in
    let long = length-append h (e ∷ []) in
    let y = actions_of (take (length h + 1) h2) in
    let agrees : Agrees c.args.board.now y = subst (λ (l : List PassEntry). Agrees c.args.board.now (actions_of l)) (sym (take_here h e)) state.actions in
    let counts = c.count_states-counts.ensures y agrees in
    let held : c.count_states-counts.result.held ≡ in_state_after table h2 states.Held (length h) = counts.held in
    let leaving : c.count_states-counts.result.leaving ≡ in_state_after table h2 states.Leaving (length h) = counts.leaving in
    let banned : c.count_states-counts.result.banned ≡ in_state_after table h2 states.Banned (length h) = counts.banned in
    let free : c.count_states-counts.result.free ≡ in_state_after table h2 states.Free (length h) = counts.free in
    let is_over : c.is_above-is_over.result ≡ is_over_limit table h2 (length h) =
    c.is_above-is_over.ensures ∙ ap (λ n. nat_lt table.bandwidth_limit n) figure ∙ sym (ap (λ (o : Option PassEntry). nat_lt table.bandwidth_limit (bandwidth_in o)) (slice_here h e)) in
    let at_end : (p : ℕ) → length h2 ≡ p + 1 → length h ≡ p = λ p is. omega (arith, is, long) in
    record {
      numbers = c.lasted-numbers.ensures table h e few lasting was;
      held = λ p is. held ∙ ap (in_state_after table h2 states.Held) (at_end p is);
      leaving = λ p is. leaving ∙ ap (in_state_after table h2 states.Leaving) (at_end p is);
      banned = λ p is. banned ∙ ap (in_state_after table h2 states.Banned) (at_end p is);
      free = λ p is. free ∙ ap (in_state_after table h2 states.Free) (at_end p is);
      is_over = λ p is. is_over ∙ ap (λ n. is_over_limit table h2 n) (at_end p is);
    }
