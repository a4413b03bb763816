-- Pages, and looks that fit a page.
use Rattle.std.specs.Prelude.{◌≡◌, ℕ, ◌≤◌, List, [], ◌∷◌}
use mathlib.Core.Option.{some}
use lib.ListN.{get_elem?}
use Rattle.cal_signal.specs.declared.record.Record.{Record}
use Rattle.cal_signal.specs.Records.{MayFollow, zero_record}

-- over any records: which may follow which, and which is first
module _ {T : Type 0} where
  -- each record of the list follows the one before it, and the first follows x
  abbrev pub Chain : (T → T → Type 0) → T → List T → Type 0
  Chain follows x [] = Unit {0}
  Chain follows x (y ∷ ys) = follows x y × Chain follows y ys

  -- place 0 is the first record, and each further one follows the one before it
  abbrev pub IsPageOf : (T → T → Type 0) → T → List T → Type 0
  IsPageOf follows first [] = ⊥
  IsPageOf follows first (x ∷ xs) = (x ≡ first) × Chain follows x xs

  -- the last of x and then the list
  abbrev pub last_from : T → List T → T
  last_from x [] = x
  last_from x (y ∷ ys) = last_from y ys

  -- each look is a place of the page with the record there, and places never fall, from the floor
  -- on
  abbrev pub FitsFrom : List T → ℕ → List (ℕ × T) → Type 0
  FitsFrom page floor [] = Unit {0}
  FitsFrom page floor (l ∷ ls) =
      (floor ≤ l.0) × (get_elem? page l.0 ≡ some l.1) × FitsFrom page l.0 ls

  -- the place of the last look, the floor where there is none
  abbrev pub floor_from : ℕ → List (ℕ × T) → ℕ
  floor_from floor [] = floor
  floor_from floor (l ∷ ls) = floor_from l.0 ls

  -- some page has the looks
  abbrev pub FitsSomeOf : (T → T → Type 0) → T → List (ℕ × T) → Type 0
  FitsSomeOf follows first looks =
      (page : List T) × IsPageOf follows first page × FitsFrom page 0 looks

-- place 0 is the zero record, and each further one is shaped and later than the one before
abbrev pub IsPage : List Record → Type 0
IsPage = IsPageOf MayFollow zero_record

-- the page on which these records were published, in order
abbrev pub page_of : List Record → List Record
page_of published = zero_record ∷ published

-- the record at the last place of that page
abbrev pub last_published : List Record → Record
last_published = last_from zero_record

-- each look is a place of the page with the record there, and places never fall (the textbook
-- seqlock's promise)
abbrev pub FitsPage : List Record → List (ℕ × Record) → Type 0
FitsPage page looks = FitsFrom page 0 looks

-- the place of the last look, 0 where there is none
abbrev pub floor_of : List (ℕ × Record) → ℕ
floor_of = floor_from 0

-- the looks fit some page
abbrev pub FitsSomePage : List (ℕ × Record) → Type 0
FitsSomePage looks = (page : List Record) × IsPage page × FitsPage page looks
