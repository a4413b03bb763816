-- What a look is worth: the pair of place and record that a whole one gains, and the versions of a
-- busy one.
use Rattle.std.specs.Prelude.{◌≡◌, ℕ, ◌%◌, ◌<◌, ◌⊎◌, List, [], ◌∷◌}
use Rattle.cal_signal.specs.declared.record.Record.{Record}
use Rattle.cal_signal.specs.declared.look.Look.{Look}
use Rattle.cal_signal.specs.declared.look.Look.TheVariants.{Whole, Busy}

-- the two versions of a busy look: an odd one alone, given twice, or an even one and then a greater
-- (the textbook seqlock's)
abbrev pub IsBusyPair : ℕ → ℕ → Type 0
IsBusyPair first second = ((first % 2 ≡ 1) × (second ≡ first))
    ⊎ ((first % 2 ≡ 0) × (first < second))

-- a whole look adds its place and its record to the looks, a busy one nothing
abbrev pub whole_of : Look → List (ℕ × Record)
whole_of (Whole number rec) = (number, rec) ∷ []
whole_of (Busy first second) = []
