use Rattle.std.proofs.Common.{take}
use Rattle.cal_world.proofs.ScheduleLemmas.Invariant.{holds}
use Rattle.cal_world.proofs.ScheduleLemmas.Reading.{whole_read}
use Rattle.cal_world.specs.Reads.{ReadsAreWhole}
use Rattle.cal_world.proofs.ScheduleLemmas.Safety.{of_legal}
use Rattle.cal_world.proofs.schedules.reads_are_whole.Goals as goal

pub returns-clause-safe : goal.returns-clause-safe
returns-clause-safe c = λ table events ok is n le.
    whole_read table (take n events) (holds c.permitted_is_safe.ensures c.action_is_one_more.ensures c.look_is_one_more.ensures table events ok is n le)

pub returns-clause-legal : goal.returns-clause-legal
returns-clause-legal c = of_legal ReadsAreWhole c.legal_lists_are_safe.ensures (returns-clause-safe c)
