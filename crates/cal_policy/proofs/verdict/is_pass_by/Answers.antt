use Rattle.std.proofs.lemmas.Bool.{both_ways}
use Rattle.cal_policy.proofs.PolicyLemmas.{pass_input, pass_actions, pass_from}
use Rattle.cal_policy.proofs.verdict.is_pass_by.Goals as goal

pub returns-then-not-is_input : goal.returns-then-not-is_input
returns-then-not-is_input c = (
  λ bad. absurd (cc),
  λ pass. absurd (both_ways c.is_input.result c.if-not-is_input.true (c.is_input.ensures.1 (pass_input c.args.policy c.args.config.now c.args.before.now c.args.entry.now pass))),
)

pub returns : goal.returns
returns c =
    let input = c.is_input.ensures.0 c.if-not-is_input.false in (
      λ so. pass_from c.args.policy c.args.config.now c.args.before.now c.args.entry.now input (c.does_so.ensures.0 so),
      λ pass. c.does_so.ensures.1 (pass_actions c.args.policy c.args.config.now c.args.before.now c.args.entry.now pass),
    )
