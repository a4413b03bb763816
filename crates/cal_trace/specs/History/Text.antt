-- The text of a history, as it is written: in the newest version.
use Rattle.std.specs.Prelude.{ℕ, List, [], ◌∷◌, ◌++◌, length, map, codes, decimal, slice_index_or}
use Rattle.std.specs.Prelude.{Bool, false, if◌then◌else◌}
use Rattle.std.specs.List.{flat_map}
use Rattle.cal_signal.specs.Records.{words_of}
use Rattle.cal_signal.specs.declared.record.Record.{Record}
use Rattle.cal_policy.specs.declared.history.look.Seen.{Seen}
use Rattle.cal_policy.specs.declared.history.look.Seen.TheVariants as seen
use Rattle.cal_policy.specs.declared.history.action.Action.{Action}
use Rattle.cal_policy.specs.declared.history.action.Action.TheVariants.{Free, Unban, Ban, Revoke}
use Rattle.cal_policy.specs.declared.history.action.Action.TheVariants.{Cap, Grant}
use Rattle.cal_policy.specs.declared.history.action.Cause.{Cause}
use Rattle.cal_policy.specs.declared.history.action.Cause.TheVariants as causes
use Rattle.cal_policy.specs.declared.history.entry.PassEntry.{PassEntry}
use Rattle.cal_trace.specs.Rows.{Fields}
use Rattle.cal_trace.specs.Rows.Text.{numbered, line_of}
use Rattle.cal_trace.specs.Rows.Version.{version_word}
use Rattle.cal_trace.specs.declared.rows.version.TheConstants.Version.{WRITTEN}

-- whether a ring has room, as a number
abbrev pub room_number : Bool → ℕ
room_number room = if room then 1 else 0

-- the row of a look that found a record
abbrev pub record_fields : List ℕ → ℕ → Bool → ℕ → Record → Fields
record_fields word thread room number rec =
    word ∷ decimal thread ∷ decimal (room_number room) ∷ decimal number
    ∷ map decimal (words_of rec)

-- the row of a look at a thread
abbrev pub look_fields : ℕ → Bool → Seen → Fields
look_fields thread room (seen.Whole number rec) =
    record_fields (codes "whole") thread room number rec
look_fields thread room (seen.Ahead number rec) =
    record_fields (codes "ahead") thread room number rec
look_fields thread room (seen.Foreign number rec) =
    record_fields (codes "foreign") thread room number rec
look_fields thread room (seen.Busy first second) =
    codes "busy" ∷ decimal thread ∷ decimal (room_number room) ∷ decimal first ∷ decimal second ∷ []

-- the row of a revocation
abbrev pub revocation_fields : ℕ → Cause → Fields
revocation_fields core (causes.Ban by) =
    codes "revoke" ∷ decimal core ∷ codes "ban" ∷ decimal by ∷ []
revocation_fields core causes.Bandwidth = codes "revoke" ∷ decimal core ∷ codes "bandwidth" ∷ []
revocation_fields core (causes.Preempt task) =
    codes "revoke" ∷ decimal core ∷ codes "preempt" ∷ decimal task ∷ []

-- the row of an action
abbrev pub action_fields : Action → Fields
action_fields (Free core) = codes "free" ∷ decimal core ∷ []
action_fields (Unban core) = codes "unban" ∷ decimal core ∷ []
action_fields (Ban core thread started) =
    codes "ban" ∷ decimal core ∷ decimal thread ∷ decimal started ∷ []
action_fields (Revoke core cause) = revocation_fields core cause
action_fields (Cap task cap) = codes "cap" ∷ decimal task ∷ decimal cap ∷ []
action_fields (Grant core thread class) =
    codes "grant" ∷ decimal core ∷ decimal thread ∷ decimal class ∷ []

-- the row that begins a pass
abbrev pub pass_fields : PassEntry → Fields
pass_fields entry = codes "pass" ∷ decimal entry.input.now ∷ decimal entry.input.bandwidth ∷ []

-- the rows of a pass's looks, in thread order
abbrev pub look_rows : List Bool → List Seen → List Fields
look_rows rooms looks =
    numbered (λ k look. look_fields k (slice_index_or rooms k false) look) 0 looks

-- the rows of a pass
abbrev pub entry_rows : PassEntry → List Fields
entry_rows entry =
    pass_fields entry ∷ look_rows entry.input.rooms entry.input.seen
    ++ map action_fields entry.actions

abbrev pub header_row : Fields
header_row = codes "caladan-history" ∷ version_word WRITTEN ∷ []

abbrev pub end_fields : ℕ → Fields
end_fields passes = codes "end" ∷ decimal passes ∷ []

-- the rows of a history
abbrev pub history_rows : List PassEntry → List Fields
history_rows history = header_row ∷ flat_map entry_rows history ++ end_fields (length history) ∷ []

-- the lines of rows
abbrev pub lines_of : List Fields → List ℕ
lines_of rows = flat_map line_of rows

-- the text of a history but for its last row: what is written of one that goes on
abbrev pub begun_text : List PassEntry → List ℕ
begun_text history = lines_of (header_row ∷ flat_map entry_rows history)

-- the text of a history
abbrev pub history_text : List PassEntry → List ℕ
history_text history = lines_of (history_rows history)
