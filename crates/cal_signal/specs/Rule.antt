-- The rule of a page: what holds of its words and of what its seats know, between any two steps.
-- It is said for any records, of n words each, so that no word is spoken of by name.
use Rattle.std.specs.Prelude.{◌≡◌, ℕ, ◌+◌, ◌/◌, ◌%◌, ◌<◌, ◌≤◌, Bool, true}
use Rattle.std.specs.Prelude.{◌||◌, ◌↔◌, List, ◌∷◌, length, slice_index}
use mathlib.Core.Option.{some}
use lib.ListN.{get_elem?}
use Rattle.atomic_table.specs.Table.{State}
use Rattle.cal_signal.specs.declared.view.View.{View}
use Rattle.cal_signal.specs.Pages.{Chain, last_from, FitsFrom}

module _ {T : Type 0} where
  -- the seat has an observer's part, the first's or the second's
  abbrev pub sees : View T → Bool
  sees v = v.observes || v.watches

  -- which parts the seat has: the publisher's, the first observer's, the second's
  abbrev pub parts_of : View T → Bool × Bool × Bool
  parts_of v = (v.publishes, v.observes, v.watches)

  -- a part stands in just one view
  abbrev pub Sole : (View T → Bool) → List (View T) → Type 0
  Sole part views = (seat : ℕ) × (seat < length views)
      × ((j : ℕ) (v : View T) → get_elem? views j ≡ some v → (part v ≡ true) ↔ (j ≡ seat))

  module _ (words : T → List ℕ) (n : ℕ) (zero : T) (version : ℕ) (published : List T) where
    -- what an observer knows in the midst of a look and after it
    pub record Observes (v : View T) : Type 0 where
      -- no version that it loaded is above the page's
      pub below : (k x : ℕ) → get_elem? v.loads k ≡ some x → x ≤ version
      -- nor is the first one of this look
      pub first : v.first ≤ version
      -- it has read no more words than a record has
      pub short : length v.read ≤ n
      -- while the page's version is still the first of this look, and even, the words that it read
      -- begin the last record
      pub same : v.first ≡ version → version % 2 ≡ 0 → (i : ℕ) → i < length v.read →
          slice_index v.read i ≡ slice_index (words (last_from zero published)) i
      -- its looks fit what was published
      pub fits : FitsFrom (zero ∷ published) 0 v.looks

    -- what stands in a view with the publisher's part is so, and of one with an observer's part the
    -- above holds
    pub record Knows (stored : List ℕ) (v : View T) : Type 0 where
      pub as_publisher : v.publishes ≡ true →
          (v.version ≡ version) × (v.published ≡ published) × (v.stored ≡ stored)
      pub as_observer : sees v ≡ true → Observes v

  -- A version 2i says that places 0 to i are published and that the words are those of place i. A
  -- version 2i + 1 says the same of the places; the words are the first ones of the record to come,
  -- and after those the words of place i.
  pub record Kept (words : T → List ℕ) (n : ℕ) (follows : T → T → Type 0) (zero : T)
      (s : State (Unit {0}) (View T)) : Type 0 where
    -- the records that were published, without the zero record of place 0
    pub published : List T
    -- the words of the record to come that are stored so far
    pub stored : List ℕ
    -- word 0 is the version, and n words of a record follow it
    pub wide : length s.words ≡ n + 1
    -- each record may follow the one before it
    pub page : Chain follows zero published
    -- the version is twice the last place, or one more
    pub place : slice_index s.words 0 / 2 ≡ length published
    -- while the version is even no record is being written
    pub at_rest : slice_index s.words 0 % 2 ≡ 0 → length stored ≡ 0
    -- no more words are stored than a record has
    pub short : length stored ≤ n
    -- the words that are stored so far stand in the page
    pub written : (i : ℕ) → i < length stored → slice_index s.words (i + 1) ≡ slice_index stored i
    -- the others are still those of the last record
    pub unwritten : (i : ℕ) → length stored ≤ i → i < n →
        slice_index s.words (i + 1) ≡ slice_index (words (last_from zero published)) i
    -- one seat publishes
    pub publisher : Sole (λ v. v.publishes) s.views
    -- one seat has the first observer's part
    pub observer : Sole (λ v. v.observes) s.views
    -- one seat has the second observer's part
    pub watcher : Sole (λ v. v.watches) s.views
    -- each seat knows of the page what its parts let it know
    pub each_seat : (j : ℕ) (v : View T) → get_elem? s.views j ≡ some v →
        Knows words n zero (slice_index s.words 0) published stored v
