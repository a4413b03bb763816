use Rattle.cal_policy.proofs.Common.{sym, ◌∙◌, so_far, setting_in}
use Rattle.cal_policy.proofs.PassLemmas.Bandwidth.{ranked}
use Rattle.cal_policy.proofs.pass.Pass.victim_rank.Goals as goal

pub returns-in-Some : goal.returns-in-Some
returns-in-Some c = λ h acts st f.
    let s = setting_in c.args.self.now h in
    ranked s (so_far s acts) c.args.task _ _
    (sym c.is_latency_critical.ensures ∙ c.if-is_latency_critical.false)
    (sym c.in-Some.is ∙ f) (c.task_misses.ensures h acts st)
