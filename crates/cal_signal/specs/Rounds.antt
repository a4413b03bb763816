-- What rounds of looks found, of which each has a look at each page, in order.
use Rattle.std.specs.Prelude.{ℕ, List, [], Option, Some, None, slice_get}
use Rattle.std.specs.List.{flat_map}
use Rattle.cal_signal.specs.declared.record.Record.{Record}
use Rattle.cal_signal.specs.declared.look.Look.{Look}
use Rattle.cal_signal.specs.Looks.{whole_of}

-- place and record of a look, where there is one and it is whole
abbrev pub found_by : Option Look → List (ℕ × Record)
found_by None = []
found_by (Some look) = whole_of look

-- what the rounds found of page k
abbrev pub found_at : List (List Look) → ℕ → List (ℕ × Record)
found_at rounds k = flat_map (λ round. found_by (slice_get round k)) rounds
