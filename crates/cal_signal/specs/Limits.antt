-- The limits of records and pages, Doranjei's, and the number of each. The other definitions cite
-- the constants of the code alone.
use Rattle.std.specs.Prelude.{◌≡◌, ◌-◌, ◌^◌, refl}
use Rattle.cal_signal.specs.declared.record.TheConstants.{MOST_MISSES}
use Rattle.cal_signal.specs.declared.publisher.TheConstants.{LAST_PLACE}

pub most_misses-is : MOST_MISSES ≡ 2 ^ 56
most_misses-is = refl

pub last_place-is : LAST_PLACE ≡ 2 ^ 62 - 1
last_place-is = refl
