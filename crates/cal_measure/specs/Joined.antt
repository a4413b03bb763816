-- Lists end to end.
use Rattle.std.specs.Prelude.{ℕ, zero, suc, List, [], ◌++◌}

-- what f gives of 0, 1 and so on up to below n, end to end
abbrev pub joined_below : {X : Type 0} → (ℕ → List X) → ℕ → List X
joined_below f zero = []
joined_below f (suc n) = joined_below f n ++ f n
