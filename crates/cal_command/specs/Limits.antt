-- The limit of a ring, Doranjei's, and its number. The other definitions cite the constant of the
-- code alone.
use Rattle.std.specs.Prelude.{◌≡◌, ◌^◌, refl}
use Rattle.cal_command.specs.declared.rule.TheConstants.{MOST_COMMANDS}

pub most_commands-is : MOST_COMMANDS ≡ 2 ^ 62
most_commands-is = refl
