-- Words, and whether a table has the tasks of some loads.
use Rattle.std.specs.Borrow.{Bor}
use Rattle.std.specs.Prelude.{◌<◌, ℕ, List, [], length, All, Option, Some, None}
use Rattle.cal_load.specs.declared.making.TaskLoad.{TaskLoad}
use Rattle.cal_machine.specs.Table.{Table}

-- the table has the task of each of these loads
abbrev pub AreKnown : Table → List TaskLoad → Type 0
AreKnown table loads = All (λ load. load.task < length table.tasks) loads

-- a word, or an empty one where there is none
abbrev pub text_of : Option (Bor (List ℕ)) → List ℕ
text_of None = []
text_of (Some word) = word.now
