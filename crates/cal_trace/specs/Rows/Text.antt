-- Rows as text.
use Rattle.std.specs.Prelude.{◌+◌, ℕ, List, [], ◌∷◌, ◌++◌, codes}
use Rattle.cal_trace.specs.Rows.{Fields}

-- what f makes of each member of a list and its number, from this number on
abbrev pub numbered : {X Y : Type 0} → (ℕ → X → Y) → ℕ → List X → List Y
numbered f n [] = []
numbered f n (x ∷ xs) = f n x ∷ numbered f (n + 1) xs

-- fields after the first, a comma before each, and the end of the line
abbrev pub after_first : Fields → List ℕ
after_first [] = codes "\n"
after_first (field ∷ fields) = 44 ∷ (field ++ after_first fields)

-- a row's line: its fields with commas between, and a line feed
abbrev pub line_of : Fields → List ℕ
line_of [] = codes "\n"
line_of (field ∷ fields) = field ++ after_first fields
