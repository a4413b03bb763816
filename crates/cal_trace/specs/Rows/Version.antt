-- The versions of a file, which its header row names.
use Rattle.std.specs.Prelude.{◌&&◌, ℕ, List, Bool, codes, Option, Some, None, if◌then◌else◌}
use Rattle.csv.specs.Records.{field_at}
use Rattle.cal_trace.specs.Rows.RowFields.{is_row, is_word}
use Rattle.cal_trace.specs.Rows.{Fields}
use Rattle.cal_trace.specs.declared.rows.version.Version.{Version}
use Rattle.cal_trace.specs.declared.rows.version.Version.TheVariants as version

-- the word by which a header row names a version
abbrev pub version_word : Version → List ℕ
version_word version.One = codes "1"
version_word version.Two = codes "2"

-- whether a row is the header of a file of this name and version
abbrev pub is_header : List ℕ → Version → Fields → Bool
is_header name version fields =
    is_row name 2 fields && is_word (field_at fields 1) (version_word version)

-- the version that a file's header row names, where the row is that file's header
abbrev pub version_of : List ℕ → Fields → Option Version
version_of name fields =
    if is_header name version.One fields then Some version.One
    else if is_header name version.Two fields then Some version.Two
    else None

-- how many fields a row with a record has: version 1 lacks the record's last two words
abbrev pub record_fields : Version → ℕ
record_fields version.One = 11
record_fields version.Two = 13
