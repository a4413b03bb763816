-- Records as rows give them.
use Rattle.std.specs.Prelude.{ℕ, List, map}
use Rattle.std.specs.List.{range_with_len}
use Rattle.cal_signal.specs.Records as records
use Rattle.cal_signal.specs.declared.record.Record.{Record}
use Rattle.cal_signal.specs.declared.record.TheConstants.{WORDS}
use Rattle.cal_trace.specs.Rows.RowFields.{number_at}
use Rattle.cal_trace.specs.Rows.{Fields}

-- the words of a record in its row, from the field at place 4 on; words that the row lacks are 0
abbrev pub shown_words : Fields → List ℕ
shown_words fields = map (number_at fields) (range_with_len 4 WORDS)

-- the record of a row
abbrev pub record_of : Fields → Record
record_of fields = records.record_of (shown_words fields)
