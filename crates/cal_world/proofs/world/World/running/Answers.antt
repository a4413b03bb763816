use Rattle.cal_world.proofs.Common.{◌≤◌, sym, ap, ◌∙◌, arith, threads_of_table, running_on, Past}
use Rattle.cal_world.proofs.ScheduleLemmas.Nobody.{nobody_runs}
use Rattle.cal_world.proofs.world.World.running.Goals as goal

pub returns-else-k-len : goal.returns-else-k-len
returns-else-k-len c =
    let is = c.self.invariant in
    let past : threads_of_table c.self.inside.config ≤ c.args.k =
    (let all = is.kept.all_standings in let len = c.len.ensures in let past = c.if-k-len.false in omega arith) in
    sym (nobody_runs c.self.inside.policy c.self.inside.config c.self.inside.events.items is.legal c.args.k past) ∙ ap (λ (past : Past). running_on past.events c.args.k) c.self.view_is
