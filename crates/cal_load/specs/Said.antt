-- What the words of a load say.
use Rattle.std.specs.Prelude.{◌≡◌, ◌≤◌, ◌*◌, ◌==◌, ◌⊎◌, ℕ, List, ◌∷◌, ◌++◌, codes}
use Rattle.std.specs.List.{AllZip, slice_split}
use Rattle.cal_load.specs.Decimals.{IsDecimal, Spells}
use Rattle.cal_load.specs.declared.log.length.LogScale.{LogScale}
use Rattle.cal_load.specs.declared.making.Pattern.{Pattern}
use Rattle.cal_load.specs.declared.making.Pattern.TheVariants.{Bursts, Even, Poisson}
use Rattle.cal_load.specs.declared.service.ServicePart.{ServicePart}

-- a word names a way in which requests come: `poisson`, `even` or `bursts:N`, N from 2 to 10,000
abbrev pub Names : List ℕ → Pattern → Type 0
Names word Poisson = word ≡ codes "poisson"
Names word Even = word ≡ codes "even"
Names word (Bursts many) = (number : List ℕ) × (word ≡ codes "bursts:" ++ number)
    × Spells number many × (2 ≤ many) × (many ≤ 10_000)

-- a piece of a word is a share in percent, `%:`, and the turns of so many requests
pub record SaysShare (piece : List ℕ) (part : ServicePart) : Type 0 where
  pub share : List ℕ
  pub turns : List ℕ
  pub piece_is : piece ≡ (share ++ codes "%") ++ 58 ∷ turns
  pub share_is : IsDecimal 3 share part.share
  pub turns_are : Spells turns part.turns

-- it is that, or the turns of all requests
abbrev pub SaysPart : List ℕ → ServicePart → Type 0
SaysPart piece part = (Spells piece part.turns × (part.share ≡ 100_000)) ⊎ SaysShare piece part

-- the pieces of a word, between commas
abbrev pub pieces_of : List ℕ → List (List ℕ)
pieces_of word = slice_split (λ code. code == 44) word

-- each piece of a word says the part at its place, and there are no others
abbrev pub SaysService : List ℕ → List ServicePart → Type 0
SaysService word parts = AllZip SaysPart (pieces_of word) parts

-- a unit has so many nanoseconds
abbrev pub IsUnit : List ℕ → ℕ → Type 0
IsUnit unit many = ((unit ≡ codes "ns") × (many ≡ 1)) ⊎ ((unit ≡ codes "us") × (many ≡ 1_000))
    ⊎ ((unit ≡ codes "ms") × (many ≡ 1_000_000)) ⊎ ((unit ≡ codes "s") × (many ≡ 1_000_000_000))

-- a number of units of so many nanoseconds is this time, in billionths of a nanosecond
pub record SaysTime (unit : ℕ) (number : List ℕ) (time : ℕ) : Type 0 where
  pub units : ℕ
  pub spelled : IsDecimal 9 number units
  pub is : time ≡ units * unit

-- a word is this number and a unit, which has so many nanoseconds
abbrev pub EndsInUnit : List ℕ → List ℕ → ℕ → Type 0
EndsInUnit word number many = (unit : List ℕ) × (word ≡ number ++ unit) × IsUnit unit many

-- a word is a number and a unit, which are this time
pub record SaysLength (word : List ℕ) (time : ℕ) : Type 0 where
  pub number : List ℕ
  pub many : ℕ
  pub word_is : EndsInUnit word number many
  pub time_is : SaysTime many number time

-- two words name the unit of a log's numbers and the length of a turn
pub record SaysScale (unit turn : List ℕ) (scale : LogScale) : Type 0 where
  pub unit_is : IsUnit unit scale.unit
  pub turn_is : SaysLength turn scale.turn
