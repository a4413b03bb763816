use Rattle.std.proofs.Common.{◌≡◌, map, length}
use Rattle.cal_kthread.specs.Team.{IsTeam, place_of}
use Rattle.test_runtime.proofs.kernel_threads.all_steps.Given as goal

abbrev pub invariant-loop-step : goal.invariant-loop-step
invariant-loop-step l = IsTeam (map (λ t. place_of t.thread) l.threads.items) × (length l.threads.items ≡ length l.initial.threads.items)
