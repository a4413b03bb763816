use Rattle.std.proofs.Common.{◌≡◌}
use Rattle.cal_kthread.specs.Team.{place_of}
use Rattle.test_runtime.proofs.kernel_threads.meetings.requests_come.Given as goal

abbrev pub invariant-loop-id : goal.invariant-loop-id
invariant-loop-id l = place_of l.thread.thread ≡ place_of l.initial.thread.thread
