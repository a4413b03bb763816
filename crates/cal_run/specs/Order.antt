-- In which order the passes and the turns of a run are made. In each list the latest stands first.
use Rattle.std.specs.Prelude.{ℕ, zero, suc, nat_lt, List, ◌∷◌, Option, None, Some, if◌then◌else◌}

-- a pass, or a turn of the thread with this number
abbrev pub Made : Type 0
Made = Option ℕ

abbrev pub a_pass : Made
a_pass = None

abbrev pub turn_of : ℕ → Made
turn_of k = Some k

-- after these, n passes
unfoldable pub then_passes : ℕ → List Made → List Made
then_passes zero made = made
then_passes (suc n) made = a_pass ∷ then_passes n made

-- after these, a turn of each of the first n threads, in thread order
unfoldable pub then_turns : ℕ → List Made → List Made
then_turns zero made = made
then_turns (suc n) made = turn_of n ∷ then_turns n made

-- after these, round r: one pass, and then a turn of each thread, as long as there are any left
abbrev pub then_round : (passes turns threads r : ℕ) → List Made → List Made
then_round passes turns threads r made =
    let passed = if nat_lt r passes then a_pass ∷ made else made in
    if nat_lt r turns then then_turns threads passed else passed

-- after these, the first n rounds of a run with so many passes, and so many turns of each thread
unfoldable pub then_rounds : (passes turns threads n : ℕ) → List Made → List Made
then_rounds passes turns threads zero made = made
then_rounds passes turns threads (suc n) made =
    then_round passes turns threads n (then_rounds passes turns threads n made)
