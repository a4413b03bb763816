-- Parts of a whole, to three digits.
use Rattle.std.specs.Prelude.{ℕ, ◌+◌, ◌*◌, ◌/◌, ◌==◌, Option, Some, None, if◌then◌else◌}

-- how many thousandths of a whole a part is, to the nearest, half of one upwards; of no whole
-- nothing
abbrev pub thousandths_of : ℕ → ℕ → Option ℕ
thousandths_of part whole =
    if whole == 0 then None else Some ((2000 * part + whole) / (2 * whole))
