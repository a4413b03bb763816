use Rattle.std.proofs.Common.{◌<◌, All, length, take}
use Rattle.cal_load.proofs.asked.are_known.Given as goal

-- the tasks so far are known
abbrev pub invariant-loop-load : goal.invariant-loop-load
invariant-loop-load l =
    All (λ load. load.task < length l.config.tasks) (take l.load-index l.loads)
