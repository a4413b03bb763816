-- Each place has the turn of its task.
use Rattle.cal_policy.proofs.Common.{length, refl, sym, ◌∙◌, arith, append-nil, length-set, NO_TURN, task_in_place, setting_in, so_far}
use Rattle.cal_policy.proofs.AssuredLemmas.NextTurn.{by_place, come_first, come_last, come_idle, come_next}
use Rattle.cal_policy.proofs.AssuredLemmas.NoneToTake.{none_in_place}
use Rattle.cal_policy.proofs.AssuredLemmas.Waiting.{nothing_in_place}
use Rattle.cal_policy.proofs.PassLemmas.PartSoFar.{Reached_skip}
use Rattle.cal_policy.proofs.pass.Pass.grant_in_turn.Goals as goal

-- where no task waits none is given anything
pub returns-then-none_waits-clause-acts : goal.returns-then-none_waits-clause-acts
returns-then-none_waits-clause-acts c = λ h room st.
    let s = setting_in c.args.self.now h in
    let out = c.args.out.now in
    Reached_skip (by_place s out) s out out c.args.board.now 0 (length s.table.tasks) (omega arith)
    (λ place a b. nothing_in_place s out (so_far s out) place (task_in_place s (so_far s out) place) refl (c.if-none_waits.ensures.waits refl h out st))
    (sym (append-nil out), st)

-- where none may take a core none is given one
pub returns-then-none_may_take-clause-acts : goal.returns-then-none_may_take-clause-acts
returns-then-none_may_take-clause-acts c = λ h room st.
    let s = setting_in c.args.self.now h in
    let out = c.args.out.now in
    Reached_skip (by_place s out) s out out c.args.board.now 0 (length s.table.tasks) (omega arith)
    (λ place a b. none_in_place s out (task_in_place s (so_far s out) place) (c.if-none_may_take.ensures refl h out st))
    (sym (append-nil out), st)

pub loop-init : goal.loop-init
loop-init c = record {
  acts = λ h room st.
      let s = setting_in c.args.self.now h in
      let out = c.args.out.now in
      come_first s out c.args.board.now NO_TURN c.turns-turns.result (sym (append-nil out), st) (c.turns-turns.ensures h out st);
  ready = c.requires.of_table.ready;
  all = c.turns-turns.type_inv.1.0.1;
}

-- where no task has a turn left none is given anything more
pub returns-in_default-clause-acts : goal.returns-in_default-clause-acts
returns-in_default-clause-acts c = λ h room st.
    let s = setting_in c.args.self.now h in
    come_last s c.args.out.now c.loop.out c.loop.board NO_TURN c.loop.turns c.loop.counter (c.loop.invariant.acts h room st)
    (λ t lt. c.in_default.ensures.none t (omega (arith, lt, c.tasks.ensures.count)))

pub returns-then-none_may_take-2-clause-acts : goal.returns-then-none_may_take-2-clause-acts
returns-then-none_may_take-2-clause-acts c = λ h room st.
    let s = setting_in c.args.self.now h in
    let come = c.loop.invariant.acts h room st in
    come_idle s c.args.out.now c.loop.out c.loop.board NO_TURN c.loop.turns c.loop.counter come
    (λ place. none_in_place s c.loop.out (task_in_place s (so_far s c.args.out.now) place) (c.if-none_may_take-2.ensures refl h c.loop.out come.made.1))

pub loop-preserved : goal.loop-preserved
loop-preserved c =
    let i = c.loop.invariant in
    let few = c.requires.of_table.accepted.tasks in record {
      acts = λ h room st.
          let s = setting_in c.args.self.now h in
          come_next s c.args.out.now c.loop.out c.take_turn.new.out c.loop.board c.take_turn.new.board NO_TURN c.loop.turns c.loop.counter c.in-Some.task few i.all (i.acts h room st)
          (omega (arith, c.in-Some.ensures.next, c.tasks.ensures.count)) c.in-Some.ensures.has
          (λ u lt. c.in-Some.ensures.least u (omega (arith, lt, c.tasks.ensures.count)))
          room
          (λ fits now. c.take_turn.ensures.acts h fits now);
      ready = c.take_turn.ensures.ready;
      all = length-set c.loop.turns c.in-Some.task 885443715538058477568 ∙ i.all;
    }
