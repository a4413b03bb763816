-- Numbers that texts spell in decimal digits.
use Rattle.std.specs.Prelude.{◌≡◌, ◌≤◌, ◌+◌, ◌-◌, ◌*◌, ◌^◌, ◌⊎◌, ℕ, List, ◌∷◌, ◌++◌, length}
use Rattle.std.specs.Str.Parse.{IsNumeral, digits_value}

-- a text is digits, which spell this number
abbrev pub Spells : List ℕ → ℕ → Type 0
Spells text n = IsNumeral 10 text × (n ≡ digits_value 10 text)

-- a text is up to so many digits after a point, which spell this number of the last place
pub record SpellsPart (places : ℕ) (text : List ℕ) (n : ℕ) : Type 0 where
  pub digits : IsNumeral 10 text
  pub few : length text ≤ places
  pub is : n ≡ digits_value 10 text * 10 ^ (places - length text)

-- a text is digits before a point and up to so many after it, which spell this number of the last place
pub record IsPointed (places : ℕ) (text : List ℕ) (n : ℕ) : Type 0 where
  pub whole : List ℕ
  pub part : List ℕ
  pub text_is : text ≡ whole ++ 46 ∷ part
  pub ones : ℕ
  pub rest : ℕ
  pub before : Spells whole ones
  pub after : SpellsPart places part rest
  pub is : n ≡ ones * 10 ^ places + rest

-- a text is digits, and maybe a point and up to so many digits more, which spell this number of the
-- last place
abbrev pub IsDecimal : ℕ → List ℕ → ℕ → Type 0
IsDecimal places text n =
    (IsNumeral 10 text × (n ≡ digits_value 10 text * 10 ^ places)) ⊎ IsPointed places text n
