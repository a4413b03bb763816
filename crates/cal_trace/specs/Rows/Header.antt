-- The header row of a file.
use Rattle.std.specs.Prelude.{ℕ, List, [], ◌∷◌, Option, Some, None, Result, Ok, Err}
use Rattle.cal_trace.specs.Rows.Version.{version_of}
use Rattle.cal_trace.specs.Rows.{Fields}
use Rattle.cal_trace.specs.declared.fault.FaultKind.TheVariants as kind
use Rattle.cal_trace.specs.declared.fault.TraceFault.{TraceFault}
use Rattle.cal_trace.specs.declared.rows.version.Version.{Version}
use Rattle.cal_trace.specs.declared.rows.version.Version.TheVariants as version

-- a file that has a version, and its rows after the header
abbrev pub with_version : Option Version → List Fields → Result (Version × List Fields) TraceFault
with_version None rest = Err (record { row = 1; kind = kind.Header })
with_version (Some version) rest = Ok (version, rest)

-- the version of a file of this name and its rows after the header, which is its first row
abbrev pub header_of : List ℕ → List Fields → Result (Version × List Fields) TraceFault
header_of name [] = Err (record { row = 1; kind = kind.Header })
header_of name (header ∷ rest) = with_version (version_of name header) rest

-- the same of a file that has version 1 alone: a row that names another is not its header
abbrev pub if_one : Version → List Fields → Result (Version × List Fields) TraceFault
if_one version.One rest = Ok (version.One, rest)
if_one other rest = Err (record { row = 1; kind = kind.Header })

abbrev pub in_version_one : Result (Version × List Fields) TraceFault →
    Result (Version × List Fields) TraceFault
in_version_one (Err fault) = Err fault
in_version_one (Ok file) = if_one file.0 file.1
