-- The most rounds of a run's watch, and its number. The other definitions cite the constant of the
-- code alone.
use Rattle.std.specs.Prelude.{◌≡◌, refl}
use Rattle.cal_run.specs.declared.parts.opening.TheConstants.{MOST_ROUNDS}

pub most_rounds-is : MOST_ROUNDS ≡ 1024
most_rounds-is = refl
