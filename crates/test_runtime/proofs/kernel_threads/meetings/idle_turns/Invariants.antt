use Rattle.std.proofs.Common.{◌≡◌}
use Rattle.cal_kthread.specs.Team.{place_of}
use Rattle.test_runtime.proofs.kernel_threads.meetings.idle_turns.Given as goal

abbrev pub invariant-loop-now : goal.invariant-loop-now
invariant-loop-now l = place_of l.thread.thread ≡ place_of l.initial.thread.thread
