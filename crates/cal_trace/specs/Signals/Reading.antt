-- What the reader of signals keeps, and what it means: nothing of a pass that was handed out.
use Rattle.std.specs.Prelude.{◌≡◌, ◌<◌, ℕ, List, length, Option, Result, slice_index_or}
use Rattle.std.specs.Vec.{vec_len}
use Rattle.cal_signal.specs.Shown.{nothing_shown}
use Rattle.cal_trace.specs.Signals.Fitting.{IsFittingSoFar}
use Rattle.cal_trace.specs.Rows.Passes as passes
use Rattle.cal_trace.specs.Rows.SoFar as rows
use Rattle.cal_trace.specs.Rows.Reading.{read_on}
use Rattle.cal_trace.specs.Rows.{IsReading, rest_of, rows_of}
use Rattle.cal_trace.specs.Rows.SoFar.{SoFar, passes_of, whole}
use Rattle.cal_trace.specs.Signals.{last_shown, take_row, signals_of}
use Rattle.cal_trace.specs.declared.fault.TraceFault.{TraceFault}
use Rattle.cal_trace.specs.declared.rows.version.Version.{Version}
use Rattle.cal_trace.specs.declared.signals.file.SignalRows.{SignalRows}
use Rattle.cal_trace.specs.declared.signals.reading.OpenPass.{OpenPass}
use Rattle.cal_trace.specs.declared.signals.reading.SignalReading.{SignalReading}
use Rattle.cal_trace.specs.declared.signals.SignalPass.{SignalPass}

-- a pass at hand, with the looks that it has so far
abbrev pub pass_at_hand : OpenPass → SignalPass
pass_at_hand pass = record { now = pass.now; bandwidth = pass.bandwidth; looks = pass.looks.items }

-- what the rows so far have given, where these passes were handed out
abbrev pub so_far : List SignalPass → SignalReading → SoFar SignalPass
so_far given reading = rows.so_far pass_at_hand given reading.passes

-- each thread has a place for what it showed last
abbrev pub HasPlaces : SignalReading → Type 0
HasPlaces reading = vec_len reading.shown ≡ reading.threads

-- what is kept of the passes that were handed out, and what each thread showed last
pub record KeepsSignals (given : List SignalPass) (reading : SignalReading) : Type 0 where
  pub counted : rows.IsCounted pass_at_hand given reading.passes
  pub shown : (k : ℕ) → k < reading.threads →
      slice_index_or reading.shown.items k nothing_shown ≡
      last_shown k (passes_of (so_far given reading))

-- and these passes fit
abbrev pub KeepsFittingSignals : List SignalPass → SignalReading → Type 0
KeepsFittingSignals given reading =
    KeepsSignals given reading × IsFittingSoFar reading.threads (so_far given reading)

-- what the rows are read by
abbrev pub file_of : SignalReading → ℕ × Version
file_of reading = (reading.threads, reading.version)

-- more rows can be read
pub record IsOpen (signals : SignalRows) : Type 0 where
  pub rows : IsReading signals.rows
  pub places : HasPlaces signals.reading

-- how many rows are still to come
abbrev pub rows_left : SignalRows → ℕ
rows_left signals = length (rest_of signals.rows)

-- what these passes and the rows still to come give
abbrev pub still_gives : List SignalPass → SignalRows → Result (List SignalPass) TraceFault
still_gives given signals =
    read_on (take_row signals.reading.threads signals.reading.version) whole
    (so_far given signals.reading) signals.rows

-- These passes of a text were given, for so many threads. They fit, and they and the rows still to
-- come give what the whole text gives.
pub record HasGiven (threads : ℕ) (text : List ℕ) (given : List SignalPass)
    (signals : SignalRows) : Type 0 where
  pub extent : signals.reading.threads ≡ threads
  pub kept : KeepsSignals given signals.reading
  pub fit : IsFittingSoFar threads (so_far given signals.reading)
  pub same : still_gives given signals ≡ signals_of threads (rows_of text)

-- after these passes there is one more, or they are all that the text has, or the text has this
-- fault
abbrev pub GivesNext : ℕ → List ℕ → List SignalPass → Result (Option SignalPass) TraceFault →
    SignalRows → Type 0
GivesNext threads text given result new =
    passes.GivesNext (λ all. HasGiven threads text all new)
    (signals_of threads (rows_of text)) given result
