-- What a history has otherwise than it was.
use Rattle.std.specs.Prelude.{◌≡◌, ◌≢◌, ◌⊎◌, ℕ, Bool, true, false}
use Rattle.cal_signal.specs.declared.look.Look.{Look}
use Rattle.cal_signal.specs.declared.look.Look.TheVariants as found
use Rattle.cal_signal.specs.declared.record.Record.{Record}
use Rattle.cal_signal.specs.declared.shown.Shown.{Shown}
use Rattle.cal_policy.specs.declared.history.look.Seen.{Seen}
use Rattle.cal_policy.specs.declared.history.look.Seen.TheVariants as seen
use Rattle.cal_replay.specs.declared.unlike.Unlike.{Unlike}
use Rattle.cal_replay.specs.declared.unlike.Unlike.TheVariants as unlike
use Rattle.cal_replay.specs.declared.unlike.Word.{Word}
use Rattle.cal_replay.specs.declared.unlike.Word.TheVariants as words

-- a word of a record at its place
abbrev pub word_of : Word → Shown → ℕ
word_of words.Number shown = shown.number
word_of words.Taken shown = shown.rec.taken
word_of words.Running shown = shown.rec.running
word_of words.Queued shown = shown.rec.queued
word_of words.Oldest shown = shown.rec.oldest
word_of words.Started shown = shown.rec.started
word_of words.Misses shown = shown.rec.misses
word_of words.Stamp shown = shown.rec.stamp
word_of words.Paused shown = shown.rec.paused
word_of words.Since shown = shown.rec.since

-- the look is whole
abbrev pub is_whole : Seen → Bool
is_whole (seen.Whole number rec) = true
is_whole (seen.Busy first second) = false
is_whole (seen.Ahead number rec) = false
is_whole (seen.Foreign number rec) = false

-- this word of a record was told so, and published otherwise
abbrev pub IsUnlikeWord : Shown → Shown → Unlike → Type 0
IsUnlikeWord told published (unlike.Word word a b) =
    (a ≡ word_of word told) × (b ≡ word_of word published) × (a ≢ b)
IsUnlikeWord told published other = ⊥

-- a whole look was told so, and the page gave otherwise
abbrev pub IsUnlikeWhole : Shown → Look → Unlike → Type 0
IsUnlikeWhole told (found.Whole number rec) u =
    IsUnlikeWord told (record { number = number; rec = rec }) u
IsUnlikeWhole told (found.Busy first second) u = u ≡ unlike.NoRecord

-- a look was told so, and the page gave this
abbrev pub IsUnlikeLook : Seen → Look → Unlike → Type 0
IsUnlikeLook (seen.Whole number rec) look u =
    IsUnlikeWhole (record { number = number; rec = rec }) look u
IsUnlikeLook (seen.Busy first second) look u = u ≡ unlike.Busy
IsUnlikeLook (seen.Ahead number rec) look u = u ≡ unlike.Ahead
IsUnlikeLook (seen.Foreign number rec) look u = u ≡ unlike.Foreign

-- room was told so, and the ring answered otherwise
abbrev pub IsUnlikeRoom : Bool → Bool → Unlike → Type 0
IsUnlikeRoom false true u = u ≡ unlike.HasRoom
IsUnlikeRoom true false u = u ≡ unlike.HasNoRoom
IsUnlikeRoom false false u = ⊥
IsUnlikeRoom true true u = ⊥

-- one of both
abbrev pub IsUnlike : Seen → Bool → Look → Bool → Unlike → Type 0
IsUnlike told has_room look room u = IsUnlikeLook told look u ⊎ IsUnlikeRoom has_room room u
