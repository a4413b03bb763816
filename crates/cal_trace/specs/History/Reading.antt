-- What the reader of histories keeps, and what it means: nothing of a pass that was handed out.
use Rattle.std.specs.Prelude.{◌≡◌, ℕ, List, length, Option, Result}
use Rattle.cal_machine.specs.Table.{Table}
use Rattle.cal_machine.specs.Tasks.{threads_in}
use Rattle.cal_policy.specs.declared.history.entry.PassEntry.{PassEntry}
use Rattle.cal_trace.specs.Rows.SoFar.{SoFar, whole}
use Rattle.cal_trace.specs.History.{take_row, history_of}
use Rattle.cal_trace.specs.Rows.Passes as passes
use Rattle.cal_trace.specs.Rows.SoFar as rows
use Rattle.cal_trace.specs.Rows.Reading.{read_on}
use Rattle.cal_trace.specs.Rows.{IsReading, rest_of, rows_of}
use Rattle.cal_trace.specs.declared.fault.TraceFault.{TraceFault}
use Rattle.cal_trace.specs.declared.history.action_rows.Extent.{Extent}
use Rattle.cal_trace.specs.declared.history.file.HistoryRows.{HistoryRows}
use Rattle.cal_trace.specs.declared.history.reading.OpenEntry.{OpenEntry}
use Rattle.cal_trace.specs.declared.history.reading.HistoryReading.{HistoryReading}
use Rattle.cal_trace.specs.declared.rows.version.Version.{Version}

-- a pass at hand, with the looks and actions that it has so far
abbrev pub entry_at_hand : OpenEntry → PassEntry
entry_at_hand entry = record {
  input = record {
    now = entry.now;
    bandwidth = entry.bandwidth;
    seen = entry.seen.items;
    rooms = entry.rooms.items;
  };
  actions = entry.actions.items;
}

-- what the rows so far have given, where these passes were handed out
abbrev pub so_far : List PassEntry → HistoryReading → SoFar PassEntry
so_far given reading = rows.so_far entry_at_hand given reading.passes

-- what is kept of the passes that were handed out
abbrev pub KeepsHistory : List PassEntry → HistoryReading → Type 0
KeepsHistory given reading = rows.IsCounted entry_at_hand given reading.passes

-- what the rows are read by
abbrev pub file_of : HistoryReading → Extent × Version
file_of reading = (reading.extent, reading.version)

-- how many cores, threads and tasks a table has
abbrev pub extent_of : Table → Extent
extent_of table = record {
  cores = table.cores;
  threads = threads_in table.tasks;
  tasks = length table.tasks;
}

-- more rows can be read
abbrev pub IsOpen : HistoryRows → Type 0
IsOpen history = IsReading history.rows

-- how many rows are still to come
abbrev pub rows_left : HistoryRows → ℕ
rows_left history = length (rest_of history.rows)

-- what these passes and the rows still to come give
abbrev pub still_gives : List PassEntry → HistoryRows → Result (List PassEntry) TraceFault
still_gives given history =
    read_on (take_row history.reading.extent history.reading.version) whole
    (so_far given history.reading) history.rows

-- These passes of a text were given, for a table of this extent: they and the rows still to come
-- give what the whole text gives.
pub record HasGiven (extent : Extent) (text : List ℕ) (given : List PassEntry)
    (history : HistoryRows) : Type 0 where
  pub of : history.reading.extent ≡ extent
  pub kept : KeepsHistory given history.reading
  pub same : still_gives given history ≡ history_of extent (rows_of text)

-- after these passes there is one more, or they are all that the text has, or the text has this
-- fault
abbrev pub GivesNext : Extent → List ℕ → List PassEntry → Result (Option PassEntry) TraceFault →
    HistoryRows → Type 0
GivesNext extent text given result new =
    passes.GivesNext (λ all. HasGiven extent text all new)
    (history_of extent (rows_of text)) given result
