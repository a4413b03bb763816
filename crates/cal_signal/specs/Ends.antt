-- What a contract sees of the ends of a page, and what the fields of each end keep.
use Rattle.std.specs.Prelude.{◌≡◌, ℕ, ◌+◌, ◌*◌, ◌%◌, ◌≤◌}
use Rattle.std.specs.Prelude.{true, false, List, [], length, take}
use Rattle.atomic_table.specs.Seated.{TableId}
use Rattle.atomic_table.specs.declared.shared.Seat.{Seat}
use Rattle.cal_signal.specs.declared.view.View.{View}
use Rattle.cal_signal.specs.declared.publisher.TheConstants.{LAST_PLACE}
use Rattle.cal_signal.specs.declared.record.Record.{Record}
use Rattle.cal_signal.specs.declared.record.TheConstants.{WORDS}
use Rattle.cal_signal.specs.Records.{words_of, MayFollow}
use Rattle.cal_signal.specs.Pages.{last_published, floor_of}
use Rattle.cal_signal.specs.Rule.{sees, parts_of}

-- which page, and the records published, in order, without the zero record at place 0
pub record PublisherView : Type 0 where
  pub page : TableId
  pub published : List Record

-- the same while the next record is being written: that record, and how many of its words are
-- stored
pub record OpenView : Type 0 where
  pub page : TableId
  pub published : List Record
  pub pending : Record
  pub stored : ℕ

-- which page, each version loaded, and each successful look: its place and its record
pub record ObserverView : Type 0 where
  pub page : TableId
  pub loads : List ℕ
  pub looks : List (ℕ × Record)

-- the same in the middle of a look: the first version, and how many words are loaded
pub record LookView : Type 0 where
  pub page : TableId
  pub loads : List ℕ
  pub looks : List (ℕ × Record)
  pub first : ℕ
  pub loaded : ℕ

abbrev pub PageSeat : Type 0
PageSeat = Seat (Unit {0}) (View Record)

abbrev pub publisher_view : PageSeat → PublisherView
publisher_view s = record { page = s.table_id; published = s.me.0.published }

abbrev pub observer_view : PageSeat → ObserverView
observer_view s = record { page = s.table_id; loads = s.me.0.loads; looks = s.me.0.looks }

-- a seat at the page z
pub record Sits (s : PageSeat) (z : TableId) : Type 0 where
  pub table : s.table_id ≡ z
  pub words : z.words ≡ WORDS + 1
  pub empty : s.me.1 ≡ []

-- what a publisher keeps beside its seat: the last place and the record there
pub record IsPublisher (s : PageSeat) (z : TableId) (place : ℕ) (last : Record) : Type 0 where
  -- its seat is at this page
  pub sits : Sits s z
  -- the seat has the publisher's part and no other
  pub part : parts_of s.me.0 ≡ (true, false, false)
  -- the version that it stored last is that of the place, and even
  pub version : s.me.0.version ≡ 2 * place
  -- no record is being written
  pub stored : s.me.0.stored ≡ []
  -- so many records were published
  pub placed : place ≡ length s.me.0.published
  -- and this is the last of them
  pub ends : last ≡ last_published s.me.0.published
  -- no place is above the last that a page has
  pub bound : place ≤ LAST_PLACE

-- the same while the next record is being written
pub record IsOpen (s : PageSeat) (z : TableId) (place : ℕ) (pending : Record)
    (count : ℕ) : Type 0 where
  -- its seat is at this page
  pub sits : Sits s z
  -- the seat has the publisher's part and no other
  pub part : parts_of s.me.0 ≡ (true, false, false)
  -- the version that it stored last is odd
  pub version : s.me.0.version ≡ 2 * place + 1
  -- a record has no more words than that
  pub some_left : count ≤ WORDS
  -- the first words of the pending record are stored
  pub stored : s.me.0.stored ≡ take count (words_of pending)
  -- so many records were published before it
  pub placed : place ≡ length s.me.0.published
  -- there is a place for it
  pub bound : place + 1 ≤ LAST_PLACE
  -- and it may follow the last of them
  pub follows : MayFollow (last_published s.me.0.published) pending

-- what an observer keeps beside its seat: the place below which it sees no record any more
pub record IsObserver (s : PageSeat) (z : TableId) (floor : ℕ) : Type 0 where
  -- its seat is at this page
  pub sits : Sits s z
  -- the seat has an observer's part
  pub part : sees s.me.0 ≡ true
  -- the floor is the place of its last successful look
  pub low : floor ≡ floor_of s.me.0.looks

-- the same in the middle of a look
pub record IsLooking (s : PageSeat) (z : TableId) (floor first : ℕ) (words : List ℕ)
    (count : ℕ) : Type 0 where
  -- its seat is at this page
  pub sits : Sits s z
  -- the seat has an observer's part
  pub part : sees s.me.0 ≡ true
  -- the floor is the place of its last successful look
  pub low : floor ≡ floor_of s.me.0.looks
  -- the look began at an even version
  pub even : first % 2 ≡ 0
  -- which the seat knows
  pub begun : s.me.0.first ≡ first
  -- there is a place for each word of a record
  pub wide : length words ≡ WORDS
  -- no more are loaded than that
  pub some_left : count ≤ WORDS
  -- the words that were loaded are the first of these
  pub read : s.me.0.read ≡ take count words
