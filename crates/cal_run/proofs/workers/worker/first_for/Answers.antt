use Rattle.cal_run.proofs.Common.{nat_lt, rules, Arrival}
use Rattle.std.proofs.lemmas.List.Sorted.{IsPartitionPoint-from_clause, IsPartitionedBy-ltb}
use Rattle.cal_run.proofs.WorkersLemmas.NextRequest.{first_is_next, threads_rise}
use Rattle.cal_run.proofs.workers.worker.first_for.Goals as goal

pub returns : goal.returns
returns c =
    let requests = c.args.requests.now in
    let parted = IsPartitionedBy-ltb (λ (a : Arrival). a.thread) requests c.args.k (threads_rise requests c.requires.rising) in
    first_is_next requests c.args.k c.partition_point.result
    (IsPartitionPoint-from_clause (λ (a : Arrival). nat_lt a.thread c.args.k) _ _ c.partition_point.ensures.partitioned parted (λ a r q k. search rules))
