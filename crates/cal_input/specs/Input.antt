-- What an input is made of: a task table, a separator line, a trace.
use Rattle.std.specs.Prelude.{◌==◌, ◌||◌, bytes_eq, ℕ, List, [], ◌∷◌, ◌++◌, Bool, codes, Option}
use Rattle.std.specs.Prelude.{Some, None, option_map, if◌then◌else◌, ⊤}
use Rattle.std.specs.List.{concat}
use Rattle.cal_input.specs.declared.fault.RunFault.{RunFault}
use Rattle.cal_input.specs.declared.fault.RunFault.TheVariants as fault

-- a fault of the reading alone
abbrev pub IsOfReading : RunFault → Type 0
IsOfReading fault.Read = ⊤
IsOfReading fault.Length = ⊤
IsOfReading fault.Memory = ⊤
IsOfReading _ = ⊥

-- a byte in front of the first of the lines
abbrev pub before_line : ℕ → List (List ℕ) → List (List ℕ)
before_line b [] = (b ∷ []) ∷ []
before_line b (line ∷ lines) = (b ∷ line) ∷ lines

-- the lines of a text, each with the line feed that ends it; what stands after the last line feed
-- is a line too
unfoldable pub lines_of : List ℕ → List (List ℕ)
lines_of [] = []
lines_of (b ∷ text) = if b == 10 then (b ∷ []) ∷ lines_of text else before_line b (lines_of text)

-- a separator line: exactly three dashes and a line feed, with a carriage return before it or
-- without
abbrev pub is_separator : List ℕ → Bool
is_separator line = bytes_eq line (codes "---\n") || bytes_eq line (codes "---\r\n")

-- the lines before the first separator line, end to end, and those after it
unfoldable pub parts_at : List (List ℕ) → Option (List ℕ × List ℕ)
parts_at [] = None
parts_at (line ∷ lines) =
    if is_separator line then Some ([], concat lines)
    else option_map (λ parts. (line ++ parts.0, parts.1)) (parts_at lines)

-- the task table and the trace of an input
abbrev pub input_parts : List ℕ → Option (List ℕ × List ℕ)
input_parts text = parts_at (lines_of text)
