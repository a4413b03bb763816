-- In which order the passes and the turns of a paced run are made: the latest stands first.
use Rattle.std.specs.Prelude.{ℕ, zero, suc, List}
use Rattle.cal_run.specs.Order.{Made, then_passes, then_turns}

-- after these, a round of so many passes, and then of a turn of each thread
abbrev pub then_round : (pace threads : ℕ) → List Made → List Made
then_round pace threads made = then_turns threads (then_passes pace made)

-- after these, n rounds: the passes before a turn stand between it and the turn before
unfoldable pub then_rounds : (pace threads n : ℕ) → List Made → List Made
then_rounds pace threads zero made = made
then_rounds pace threads (suc n) made =
    then_round pace threads (then_rounds pace threads n made)
