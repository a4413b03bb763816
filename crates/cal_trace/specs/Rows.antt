-- The rows of a text, and those that a reader has still to give.
pub mod Answers
pub mod Header
pub mod LookRows
pub mod Number
pub mod Passes
pub mod Reading
pub mod RowFields
pub mod Shown
pub mod SoFar
pub mod Text
pub mod Version
use Rattle.std.specs.Prelude.{◌≡◌, ◌+◌, ◌<◌, ◌^◌, ℕ, List, [], ◌∷◌, Bool, true, false, length}
use Rattle.std.specs.Prelude.{Option, Some, None}
use Rattle.csv.specs.Machine.{ends_at_end}
use Rattle.csv.specs.Reading.{Ready, default_config, records, records_from, source_of, strip_bom}
use Rattle.csv.specs.Reading.{has_failed, is_flexible}
use Rattle.csv.specs.Records.{fields_of}
use Rattle.csv.specs.declared.parser.State.{State}
use Rattle.csv.specs.declared.reader.Trim.TheVariants as trim
use Rattle.cal_trace.specs.declared.rows.Rows.{Rows}

-- a row: its fields, each as bytes
abbrev pub Fields : Type 0
Fields = List (List ℕ)

-- the rows of a text, as `csv` gives its records, a byte order mark at its front apart
abbrev pub rows_of : List ℕ → List Fields
rows_of text = records default_config (strip_bom text)

-- the rows of these bytes, from a state between two rows
abbrev pub rows_from : State → Option (List ℕ) → List Fields
rows_from state None = []
rows_from state (Some bytes) = records_from default_config (length bytes + 1) state bytes

-- the bytes that a reader over a slice has still to read
abbrev pub unread : Rows → Option (List ℕ)
unread rows = source_of (λ s. Some s.now) rows.reader

-- the rows still to come
abbrev pub rest_of : Rows → List Fields
rest_of rows = rows_from rows.reader.state (unread rows)

-- the fields of the row at hand
abbrev pub row_at : Rows → Fields
row_at rows = fields_of rows.record

-- rows are read as they are, of any number of fields, from a state between two rows, and their
-- numbers fit
pub record IsReading (rows : Rows) : Type 0 where
  pub untrimmed : rows.reader.trim ≡ trim.None
  pub flexible : is_flexible rows.reader ≡ true
  pub ready : Ready rows.reader
  pub plain : rows.reader.config ≡ default_config
  pub between : ends_at_end rows.reader.state ≡ false
  pub going : has_failed rows.reader ≡ false
  pub numbered : rows.number + length (rest_of rows) + 1 < 2 ^ 64

-- the bytes could not be read, or memory was refused: no more rows come
abbrev pub HasStopped : Rows → Type 0
HasStopped rows = has_failed rows.reader ≡ true

-- one step: there was a row, which is now at hand, or the rows were at their end
abbrev pub StepsOn : Rows → Rows → Bool → Type 0
StepsOn old new true =
    (rest_of old ≡ row_at new ∷ rest_of new) × (new.number ≡ old.number + 1) × IsReading new
StepsOn old new false = (rest_of old ≡ []) × (new.number ≡ old.number)
