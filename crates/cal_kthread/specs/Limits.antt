-- The most entries of a journal, and the room that a turn asks for. The other definitions cite the
-- constants of the code alone. Each number is here once: a constant with another number is refused.
use Rattle.std.specs.Prelude.{◌≡◌, ◌^◌, refl}
use Rattle.cal_kthread.specs.declared.kernel_thread.TheConstants.{MOST_ENTRIES, TURN_ENTRIES}

pub most_entries-is : MOST_ENTRIES ≡ 2 ^ 20
most_entries-is = refl

pub turn_entries-is : TURN_ENTRIES ≡ 6
turn_entries-is = refl
