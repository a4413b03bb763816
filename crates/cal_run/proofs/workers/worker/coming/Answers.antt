use Rattle.cal_run.proofs.Common.{sym, slice_index_or, arith, slice_get-get_or, Arrival}
use Rattle.cal_run.proofs.WorkersLemmas.NextRequest.{apart_from, comes_next, is_other, next_after_all, next_after_it, next_after_other, none_is_next, other_is_next}
use Rattle.cal_run.proofs.workers.worker.coming.Goals as goal

abbrev no_arrival : Arrival
no_arrival = record { thread = 0; turn = 0; request = record { id = 0; work = 0; misses = 0 } }

pub returns-then-next-requests-clause-request : goal.returns-then-next-requests-clause-request
returns-then-next-requests-clause-request c = sym (none_is_next c.args.requests.now c.args.k c.args.j c.args.next c.requires.next (omega arith))

pub returns-then-next-requests-clause-next : goal.returns-then-next-requests-clause-next
returns-then-next-requests-clause-next c = next_after_all c.args.requests.now c.args.k c.args.j c.args.next c.requires.next (omega arith)

pub returns-then-arrival-k-clause-request : goal.returns-then-arrival-k-clause-request
returns-then-arrival-k-clause-request c =
    let requests = c.args.requests.now in
    let a = slice_index_or requests c.args.next no_arrival in
    sym (other_is_next requests c.args.k c.args.j c.args.next a c.requires.next c.requires.rising (slice_get-get_or requests c.args.next no_arrival (omega arith)) (is_other c.args.k c.args.j a (apart_from c.then-arrival-k.either)))

pub returns-then-arrival-k-clause-next : goal.returns-then-arrival-k-clause-next
returns-then-arrival-k-clause-next c =
    let requests = c.args.requests.now in
    next_after_other requests c.args.k c.args.j c.args.next (slice_index_or requests c.args.next no_arrival) c.requires.next c.requires.rising (slice_get-get_or requests c.args.next no_arrival (omega arith)) (apart_from c.then-arrival-k.either)

pub returns-clause-request : goal.returns-clause-request
returns-clause-request c =
    let requests = c.args.requests.now in
    sym (comes_next requests c.args.k c.args.j c.args.next (slice_index_or requests c.args.next no_arrival) c.requires.next (slice_get-get_or requests c.args.next no_arrival (omega arith)) (omega arith) (omega arith))

pub returns-clause-next : goal.returns-clause-next
returns-clause-next c =
    let requests = c.args.requests.now in
    next_after_it requests c.args.k c.args.j c.args.next (slice_index_or requests c.args.next no_arrival) c.requires.next c.requires.rising (slice_get-get_or requests c.args.next no_arrival (omega arith)) (omega arith) (omega arith)

pub returns-clause-work : goal.returns-clause-work
returns-clause-work c =
    let requests = c.args.requests.now in
    c.requires.work.at c.args.next (slice_index_or requests c.args.next no_arrival) (slice_get-get_or requests c.args.next no_arrival (omega arith))
