use Rattle.cal_sched.proofs.Common.{◌≡◌, ◌<◌, ap, ◌∙◌, arith, actions_of, holder_of, history_of, SchedulerView}
use Rattle.cal_sched.proofs.Numbers.{holder_kept}
use Rattle.cal_sched.proofs.PolicyLemmas.{last_run_by, one_command_by}
use Rattle.cal_sched.proofs.bare_scheduler.BareScheduler.holder.Goals as goal

pub returns : goal.returns
returns c =
    let s : SchedulerView = record {
      table = c.self.inside.config;
      policy = c.self.inside.book.policy;
      history = history_of c.self.inside.book.policy c.self.inside.config c.self.inside.past;
      observers = c.self.inside.observers.items;
      senders = c.self.inside.senders.items;
    } in
    let is : s ≡ c.args.self.now = c.self.view_is in
    let cores : s.table.cores ≡ c.args.self.now.table.cores = ap (λ (v : SchedulerView). v.table.cores) is in
    let asked : c.args.core < c.args.self.now.table.cores = c.requires in
    let low : c.args.core < s.table.cores = omega (arith, cores, asked) in
    c.holder.ensures s.history (c.board.ensures.agrees s.history c.self.invariant.1)
    ∙ holder_kept s.policy s.table s.history c.limits.ensures c.self.invariant.0.legal c.args.core low c.self.invariant.0.few
    (one_command_by c.each_policy_is_permitted.ensures c.threads_are_sent_one_command.ensures s.policy) (last_run_by c.each_policy_is_permitted.ensures c.holders_are_of_their_last_run.ensures s.policy)
    ∙ ap (λ (v : SchedulerView). holder_of (actions_of v.history) c.args.core) is
