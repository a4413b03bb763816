use Rattle.cal_measure.proofs.Common.{◌≡◌, ◌∙◌, ◌+◌, ◌*◌, ◌<◌, ◌≤◌, ◌^◌, ◌++◌, ◌∷◌, [], List, Some, length, length-append, ap, subst, sym, arith, with_items_is, actions_of, Agrees, Action, PassEntry, AreActionsOf, EachTask, IsTimeOf, last_clock, since, until_next, TaskActions, TaskTime}
use Rattle.std.specs.Vec.{with_items}
use Rattle.cal_policy.proofs.BoardLemmas.Replayed.{actions_push}
use Rattle.cal_measure.proofs.OneMore.{clock_here, since_last}
use Rattle.cal_measure.proofs.walk.Walk.pass.Goals as goal

pub returns-clause-walk : goal.returns-clause-walk
returns-clause-walk c = λ h e few state now figure acts was.
    let table = c.args.config.now in
    let h2 : List PassEntry = h ++ e ∷ [] in
    let before = c.args.self.now in
    let board = c.count_actions_of_each.new.board in
    let actions = c.count_actions_of_each.new.numbers in
    let times = c.time_each.new.times in
    let low : length h < 1048576 = few in
    let many_actions : length actions ≡ length before.actions.items = c.count_actions_of_each.ensures.many ∙ ap (λ (l : List TaskActions). length l) c.as_mut_slice-numbers.ensures.value in
    let many_times : length times ≡ length before.times.items = c.time_each.ensures.many ∙ ap (λ (l : List TaskTime). length l) c.as_mut_slice-times.ensures.value in
    let actions_is : (with_items before.actions actions).items ≡ actions = with_items_is before.actions actions (omega (arith, many_actions, before.actions.ok.0)) in
    let times_is : (with_items before.times times).items ≡ times = with_items_is before.times times (omega (arith, many_times, before.times.ok.0)) in
    let x = actions_of h in
    let more : x ++ c.args.actions.now ≡ actions_of h2 = ap (λ (l : List Action). x ++ l) acts ∙ sym (actions_push h e) in
    let size : length (actions_of h2) ≡ length x + length c.args.actions.now = ap (λ (l : List Action). length l) (sym more) ∙ length-append x c.args.actions.now in
    let few_actions : length (actions_of h2) ≤ length h2 * 338 = let a = was.few_actions in let b = c.requires.few in let d = length-append h (e ∷ []) in omega (arith, size, a, b, d) in
    let low_actions : length (x ++ c.args.actions.now) < 2 ^ 64 = subst (λ (l : List Action). length l < 2 ^ 64) (sym more)
    (let a = was.few_actions in let b = c.requires.few in omega (arith, size, a, b, low)) in
    let agrees : Agrees board (actions_of h2) = subst (λ (l : List Action). Agrees board l) more (c.count_actions_of_each.ensures.agrees x was.state) in
    let lasts : c.ticks_since-lasts.result ≡ until_next h e =
    c.ticks_since-lasts.ensures ∙ ap (λ o. since o c.args.given.now) was.clock ∙ ap (λ n. since (last_clock h) n) now ∙ since_last h e in
    let P : List TaskActions → Type 0 = λ l. EachTask (λ t of_task. AreActionsOf table t x of_task) l in
    let Q : List TaskTime → Type 0 = λ l. EachTask (IsTimeOf table h) l in
    let counted : EachTask (λ t of_task. AreActionsOf table t (x ++ c.args.actions.now) of_task) actions =
    c.count_actions_of_each.ensures.numbers x low_actions was.state (subst P (sym c.as_mut_slice-numbers.ensures.value) was.actions) in
    let timed : EachTask (IsTimeOf table h2) times =
    c.time_each.ensures.times h e few state now lasts (subst Q (sym c.as_mut_slice-times.ensures.value) was.times) in
    record {
      state = agrees;
      clock = ap (λ n. Some n) now ∙ sym (clock_here h e);
      actions = subst (λ (l : List TaskActions). EachTask (λ t of_task. AreActionsOf table t (actions_of h2) of_task) l) (sym actions_is)
          (subst (λ (l : List Action). EachTask (λ t of_task. AreActionsOf table t l of_task) actions) more counted);
      times = subst (λ (l : List TaskTime). EachTask (IsTimeOf table h2) l) (sym times_is) timed;
      machine = c.with_pass-self.ensures h e few state figure lasts was.machine;
      few_actions = few_actions;
      few = let long = length-append h (e ∷ []) in omega (arith, low, long);
    }
