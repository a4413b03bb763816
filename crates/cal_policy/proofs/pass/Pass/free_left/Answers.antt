-- Each core that may have been left gives what is due, and the cores between give nothing.
use Rattle.cal_policy.proofs.Common.{◌<◌, arith, setting_in, free_at}
use Rattle.cal_policy.proofs.PassLemmas.PartSoFar.{Reached_step, Reached_skip}
use Rattle.cal_policy.proofs.PassLemmas.NothingDue.{free_not_unshown}
use Rattle.cal_policy.proofs.pass.Pass.free_left.Goals as goal

pub loop-core-preserved : goal.loop-core-preserved
loop-core-preserved c =
    let core = c.in-Some.core in
    let few : core < 128 = omega (arith, c.requires.of_table.accepted.machine.most, c.in-Some.ensures.next.1) in
    record {
      acts = λ h st.
          let s = setting_in c.args.self.now h in
          let r = c.loop-core.invariant.acts h st in
          Reached_step (free_at s) s c.args.out.now _ _ c.loop-core.board c.note_shown.new.self core _
          (Reached_skip (free_at s) s c.args.out.now _ c.loop-core.board c.loop-core.first core c.in-Some.ensures.next.0
          (λ k a b. free_not_unshown c.args.self.now.config.now c.loop-core.board s c.loop-core.out r.1 c.loop-core.invariant.ready k (omega (arith, b, few)) (c.in-Some.ensures.between k a b)) r)
          (c.free_due-action.ensures.due h _ r.1) c.make.ensures.out (λ st2. c.note_shown.ensures.stands s _ (c.make.ensures.stands s st2));
      ready = c.note_shown.ensures.ready c.args.self.now.config.now c.make.ensures.ready;
      length = omega (arith, c.make.ensures.length, c.loop-core.invariant.length, c.in-Some.ensures.next.0);
      first = omega (arith, c.in-Some.ensures.next.1);
    }

pub returns-clause-acts : goal.returns-clause-acts
returns-clause-acts c = λ h st.
    let s = setting_in c.args.self.now h in
    let r = c.loop-core.invariant.acts h st in
    let few = c.requires.of_table.accepted.machine.most in
    Reached_skip (free_at s) s c.args.out.now _ c.loop-core.board c.loop-core.first c.args.self.now.config.now.cores c.loop-core.invariant.first
    (λ k a b. free_not_unshown c.args.self.now.config.now c.loop-core.board s c.loop-core.out r.1 c.loop-core.invariant.ready k (omega (arith, b, few)) (c.in_default.ensures.none k a b)) r
