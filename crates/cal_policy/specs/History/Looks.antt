-- What all looks so far say of each thread. Looks are a list of passes, each a list with one look
-- for each thread.
use Rattle.std.specs.Prelude.{ℕ, List, Option, Some, None, slice_get}
use Rattle.std.specs.Option.{unwrap_or, option_and_then}
use Rattle.cal_signal.specs.declared.record.Record.{Record}
use Rattle.cal_signal.specs.declared.look.Look.{Look}
use Rattle.cal_signal.specs.declared.look.Look.TheVariants as found
use Rattle.cal_signal.specs.declared.shown.Shown.{Shown}
use Rattle.cal_signal.specs.Records.{zero_record}
use Rattle.cal_signal.specs.Shown.{nothing_shown}
use Rattle.cal_policy.specs.declared.history.look.Seen.{Seen}
use Rattle.cal_policy.specs.declared.history.look.Seen.TheVariants.{Whole, Busy, Ahead, Foreign}
use Rattle.cal_policy.specs.History.Lists.{last_of}

-- the record that a look lets be kept: that of a Whole one alone
abbrev pub record_to_keep : Seen → Option Record
record_to_keep (Whole number rec) = Some rec
record_to_keep (Busy first second) = None
record_to_keep (Ahead number rec) = None
record_to_keep (Foreign number rec) = None

-- the record that a pass's looks let be kept of thread k
abbrev pub to_keep_at : List Seen → ℕ → Option Record
to_keep_at seen k = option_and_then record_to_keep (slice_get seen k)

-- the kept record of thread k: that of its last Whole look, else the zero record
abbrev pub kept_by : List (List Seen) → ℕ → Record
kept_by looks k = unwrap_or (last_of (λ before seen. to_keep_at seen k) looks) zero_record

-- the place and record that a look carried, whatever was judged of it
abbrev pub shown_by : Seen → Option Shown
shown_by (Whole number rec) = Some (record { number = number; rec = rec })
shown_by (Busy first second) = None
shown_by (Ahead number rec) = Some (record { number = number; rec = rec })
shown_by (Foreign number rec) = Some (record { number = number; rec = rec })

-- what a pass's look at thread k carried
abbrev pub shown_at : List Seen → ℕ → Option Shown
shown_at seen k = option_and_then shown_by (slice_get seen k)

-- what the last look at thread k that carried a record showed, else number 0 and the zero record
abbrev pub last_shown : List (List Seen) → ℕ → Shown
last_shown looks k = unwrap_or (last_of (λ before seen. shown_at seen k) looks) nothing_shown

-- the look, without its judgement
abbrev pub look_of : Seen → Look
look_of (Whole number rec) = found.Whole number rec
look_of (Busy first second) = found.Busy first second
look_of (Ahead number rec) = found.Whole number rec
look_of (Foreign number rec) = found.Whole number rec
