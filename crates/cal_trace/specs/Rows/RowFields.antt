-- What a row's fields say.
use Rattle.std.specs.Prelude.{◌==◌, ◌&&◌, ℕ, List, [], ◌∷◌, Bool, true, false, length, drop}
use Rattle.std.specs.Prelude.{Option, Some, None}
use Rattle.std.specs.Option.{is_some, unwrap_or, option_and_then}
use Rattle.std.specs.Str.{bytes_eq}
use Rattle.csv.specs.Records.{field_at}
use Rattle.cal_trace.specs.Rows.Number.{spelled_number}
use Rattle.cal_trace.specs.Rows.{Fields}

-- the number that the field at a place spells
abbrev pub number_in : Fields → ℕ → Option ℕ
number_in fields place = option_and_then spelled_number (field_at fields place)

-- the same, and 0 where there is none
abbrev pub number_at : Fields → ℕ → ℕ
number_at fields place = unwrap_or (number_in fields place) 0

-- whether the field at a place spells a number
abbrev pub is_number_at : Fields → ℕ → Bool
is_number_at fields place = is_some (number_in fields place)

-- whether each of these fields spells a number
abbrev pub all_numbers : Fields → Bool
all_numbers [] = true
all_numbers (field ∷ fields) = is_some (spelled_number field) && all_numbers fields

-- whether each field after the first spells a number
abbrev pub has_numbers : Fields → Bool
has_numbers fields = all_numbers (drop 1 fields)

-- whether the field at a place is this word
abbrev pub is_word : Option (List ℕ) → List ℕ → Bool
is_word None word = false
is_word (Some field) word = bytes_eq field word

-- whether a row begins with this word and has so many fields
abbrev pub is_row : List ℕ → ℕ → Fields → Bool
is_row word count fields = (length fields == count) && is_word (field_at fields 0) word
