use Rattle.std.proofs.Common.{ap, ◌∙◌}
use Rattle.cal_policy.specs.Explain.PolicyTurns.{made_before_by}
use Rattle.cal_policy.specs.Explain.Walks.{setting_of}
use Rattle.cal_policy.proofs.ExplainLemmas.Assured.{made_at_end}
use Rattle.cal_policy.proofs.explain.walk.PassWalk.made.Goals as goal

pub returns-clause-all : goal.returns-clause-all
returns-clause-all c = λ e h w.
    let policy = c.args.self.now.terms.policy in
    let s = setting_of c.args.self.now h in
    rw c.as_slice.ensures.value (w.made ∙ ap (made_before_by policy s) e ∙ made_at_end policy s)
