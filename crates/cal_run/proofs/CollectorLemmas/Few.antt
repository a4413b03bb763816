-- How few entries the turns of a run make.
use Rattle.cal_run.proofs.Common.{◌≡◌, ◌≤◌, ◌*◌, ℕ, List, [], length, min, take, arith, length-take, AreTurns, Given, TurnsAddUp, Entry}

-- five a turn at most
pub few_entries : TurnsAddUp → (turns : List Given) (n : ℕ) (journal : List Entry) → AreTurns (take n turns) [] journal → length journal ≤ 5 * n
few_entries law turns n journal made =
    let few = (law (take n turns) journal made).few in
    let taken : length (take n turns) ≡ min n (length turns) = length-take n turns in
    omega (arith, few, taken)
