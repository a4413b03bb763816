-- The most bytes of an input. The other definitions cite the constant of the code alone. Its number
-- is here once: a constant with another number is refused.
use Rattle.std.specs.Prelude.{◌≡◌, ◌^◌, refl}
use Rattle.cal_input.specs.declared.reading.TheConstants.{INPUT_LIMIT}

pub input_limit-is : INPUT_LIMIT ≡ 2 ^ 26
input_limit-is = refl
