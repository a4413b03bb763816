-- What each kind of atomic step does to the view of the seat that takes it.
use Rattle.std.specs.Prelude.{◌≡◌, ◌≢◌, ℕ, ◌/◌, ◌≤◌, true, false, List, [], ◌∷◌, ◌++◌, length, slice_index}
use Rattle.atomic_table.specs.Table.{Me, Step}
use Rattle.cal_signal.specs.declared.view.View.{View}
use Rattle.cal_signal.specs.Pages.{last_from, IsPageOf, FitsFrom, FitsSomeOf, floor_from}

-- a seat as a step finds it and leaves it: its view, and no slots
abbrev pub SeatView : Type 0 → Type 0
SeatView T = Me (Unit {0}) (View T)

module _ {T : Type 0} where
  -- the view that a new page begins with: it has all parts, and its lists are empty
  abbrev pub opening_view : View T
  opening_view = record {
    publishes = true;
    version = 0;
    published = [];
    stored = [];
    observes = true;
    watches = true;
    loads = [];
    first = 0;
    read = [];
    looks = [];
  }

  -- the view that a join leaves behind: it has no part
  abbrev pub no_part : View T
  no_part = record {
    publishes = false;
    version = 0;
    published = [];
    stored = [];
    observes = false;
    watches = false;
    loads = [];
    first = 0;
    read = [];
    looks = [];
  }

  -- the split in publisher and observer
  abbrev pub publisher_part : View T → View T
  publisher_part v = record v {
    observes = false;
    watches = false;
    loads = [];
    first = 0;
    read = [];
    looks = [];
  }

  abbrev pub observer_part : View T → View T
  observer_part v = record v { publishes = false; version = 0; published = []; stored = [] }

  -- the split that cuts off the second observer
  abbrev pub without_watcher : View T → View T
  without_watcher v = record v { watches = false }

  abbrev pub watcher_part : View T → View T
  watcher_part v = record v {
    publishes = false;
    version = 0;
    published = [];
    stored = [];
    observes = false;
  }

  -- the join of a publisher's view and an observer's
  abbrev pub both_parts : View T → View T → View T
  both_parts v w = record w {
    publishes = true;
    version = v.version;
    published = v.published;
    stored = v.stored;
  }

  -- the join in a look at an open page: the publisher's version is one more that was loaded
  abbrev pub both_looking : View T → View T → View T
  both_looking v w = record (both_parts v w) { loads = w.loads ++ v.version ∷ [] }

  -- the join in a reading back: the last place with its record is one more look
  abbrev pub both_reading : T → View T → View T → View T
  both_reading zero v w = record (both_parts v w) {
    looks = w.looks
        ++ (length v.published, last_from zero v.published) ∷ [];
  }

  -- a version load by a view with both parts: it learns that its records are a page, which its
  -- looks fit
  abbrev pub learned : (T → T → Type 0) → T → Step (Unit {0}) → SeatView T → ℕ → SeatView T → Type 0
  learned follows zero st m r m' =
      (m' ≡ m) × IsPageOf follows zero (zero ∷ m.0.published)
      × FitsFrom (zero ∷ m.0.published) 0 m.0.looks

  -- the open store, from 2i to 2i + 1
  abbrev pub opened : Step (Unit {0}) → SeatView T → ℕ → SeatView T → Type 0
  opened st m r m' = m' ≡ (record m.0 { version = r }, m.1)

  -- a word store
  abbrev pub wrote : Step (Unit {0}) → SeatView T → ℕ → SeatView T → Type 0
  wrote st m r m' = m' ≡ (record m.0 { stored = m.0.stored ++ r ∷ [] }, m.1)

  -- the publisher's load of a word that stays as it is, in place of a store: it finds that word of
  -- the last record
  abbrev pub spared : (T → List ℕ) → T → Step (Unit {0}) → SeatView T → ℕ → SeatView T → Type 0
  spared words zero st m r m' =
      (r ≡ slice_index (words (last_from zero m.0.published)) (length m.0.stored))
      × (m' ≡ (record m.0 { stored = m.0.stored ++ r ∷ [] }, m.1))

  -- the closing store, from 2i + 1 to 2i + 2: the record that the stored words make is published
  abbrev pub closed : (List ℕ → T) → Step (Unit {0}) → SeatView T → ℕ → SeatView T → Type 0
  closed of st m r m' = m' ≡ (
    record m.0 {
      version = r;
      stored = [];
      published = m.0.published ++ of m.0.stored ∷ [];
    },
    m.1,
  )

  -- the first version load of a look
  abbrev pub started : Step (Unit {0}) → SeatView T → ℕ → SeatView T → Type 0
  started st m r m' = m' ≡ (record m.0 { loads = m.0.loads ++ r ∷ []; first = r; read = [] }, m.1)

  -- a word load
  abbrev pub peeked : Step (Unit {0}) → SeatView T → ℕ → SeatView T → Type 0
  peeked st m r m' = m' ≡ (record m.0 { read = m.0.read ++ r ∷ [] }, m.1)

  -- the second version load of a look: where it finds the first again, the place and the record
  -- that was read are one more look
  abbrev pub ended : (List ℕ → T) → (T → T → Type 0) → T → Step (Unit {0}) → SeatView T → ℕ →
      SeatView T → Type 0
  ended of follows zero st m r m' =
      (m.0.first ≤ r)
      × (r ≡ m.0.first → (m' ≡ (
        record m.0 {
          loads = m.0.loads ++ r ∷ [];
          looks = m.0.looks ++ (r / 2, of m.0.read) ∷ [];
        },
        m.1,
      )) × FitsSomeOf follows zero m'.0.looks
      × (floor_from 0 m.0.looks ≤ r / 2))
      × (r ≢ m.0.first → m' ≡ (record m.0 { loads = m.0.loads ++ r ∷ [] }, m.1))
