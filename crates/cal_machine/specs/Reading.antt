-- Reading the task table: its checks in their order, of which the first that fails is the fault.
use Rattle.std.specs.Prelude.{◌==◌, ◌&&◌, ◌+◌, ℕ, ℤ, List, [], ◌∷◌, codes, not, nat_le, Option}
use Rattle.std.specs.Prelude.{Some, None, option_and_then, Result, Ok, Err, if◌then◌else◌}
use Rattle.std.specs.Str.{is_utf8}
use Rattle.toml.specs.Parse.{parse_document}
use Rattle.toml.specs.Data.{Data, Items, no_items, item, Members}
use Rattle.cal_machine.specs.Outcome.{◌>>=◌}
use Rattle.cal_machine.specs.Fields.{known_keys, value_at, integer_of, string_of}
use Rattle.cal_machine.specs.Fields.{items_of, table_of, number_in, cores_in, kind_in}
use Rattle.cal_machine.specs.Table.{Table}
use Rattle.cal_machine.specs.Tasks.{is_best_effort, threads_in, guaranteed_in}
use Rattle.cal_machine.specs.declared.task.Task.{Task}
use Rattle.cal_machine.specs.declared.fault.ConfigFault.{ConfigFault}
use Rattle.cal_machine.specs.declared.fault.ConfigFault.TheVariants.{NotToml, OutOfRange}
use Rattle.cal_machine.specs.declared.fault.ConfigFault.TheVariants.{BestEffortGuarantee}
use Rattle.cal_machine.specs.declared.fault.ConfigFault.TheVariants.{GuaranteesExceedCores}
use Rattle.cal_machine.specs.declared.fault.ConfigFault.TheVariants.{TooManyThreads}
use Rattle.cal_machine.specs.declared.numbering.TheConstants.{MOST_THREADS}
use Rattle.cal_machine.specs.declared.task_table.TheConstants.{MOST_TASKS, MOST_LIMIT, MOST_TICKS}

-- The numbers of the top table, and its tasks as the text has them.
pub record TopFields : Type 0 where
  pub cores : ℤ
  pub bandwidth_limit : ℤ
  pub tasks : Items

-- The top table: no unknown key, no missing key, the types.
unfoldable pub top_fields : Members → Result TopFields ConfigFault
top_fields members = do
  known ← known_keys (codes "cores" ∷ codes "bandwidth_limit" ∷ codes "task" ∷ []) members
  cores ← value_at (codes "cores") known
  bandwidth_limit ← value_at (codes "bandwidth_limit") known
  tasks ← value_at (codes "task") known
  cores ← integer_of cores
  bandwidth_limit ← integer_of bandwidth_limit
  tasks ← items_of tasks
  Ok (record { cores = cores; bandwidth_limit = bandwidth_limit; tasks = tasks })

-- The top table within its ranges, its tasks not looked at yet.
pub record Top : Type 0 where
  pub cores : ℕ
  pub bandwidth_limit : ℕ
  pub tasks : Items

-- How many items there are.
abbrev pub item_count : Items → ℕ
item_count no_items = 0
item_count (item first items) = item_count items + 1

-- 1 to MOST_TASKS tasks.
abbrev pub few_in : Items → Result Items ConfigFault
few_in items = if nat_le 1 (item_count items) && nat_le (item_count items) MOST_TASKS then Ok items
    else Err OutOfRange

-- The ranges of the top table.
unfoldable pub top_within : TopFields → Result Top ConfigFault
top_within fields = do
  cores ← cores_in fields.cores
  bandwidth_limit ← number_in 0 MOST_TICKS fields.bandwidth_limit
  tasks ← few_in fields.tasks
  Ok (record { cores = cores; bandwidth_limit = bandwidth_limit; tasks = tasks })

-- What stands at the keys of a task.
pub record TaskValues : Type 0 where
  pub kind : Data
  pub guaranteed : Data
  pub limit : Data
  pub delay : Data
  pub request : Data

-- A task's table: no unknown key, no missing key.
unfoldable pub task_values : Members → Result TaskValues ConfigFault
task_values members = do
  known ← known_keys (codes "kind" ∷ codes "guaranteed" ∷ codes "limit" ∷ codes "delay" ∷ codes
      "request" ∷ []) members
  kind ← value_at (codes "kind") known
  guaranteed ← value_at (codes "guaranteed") known
  limit ← value_at (codes "limit") known
  delay ← value_at (codes "delay") known
  request ← value_at (codes "request") known
  Ok (record {
    kind = kind;
    guaranteed = guaranteed;
    limit = limit;
    delay = delay;
    request = request;
  })

-- The text and the numbers of a task.
pub record TaskFields : Type 0 where
  pub kind : List ℕ
  pub guaranteed : ℤ
  pub limit : ℤ
  pub delay : ℤ
  pub request : ℤ

-- A task's types.
unfoldable pub task_fields : TaskValues → Result TaskFields ConfigFault
task_fields values = do
  kind ← string_of values.kind
  guaranteed ← integer_of values.guaranteed
  limit ← integer_of values.limit
  delay ← integer_of values.delay
  request ← integer_of values.request
  Ok (record {
    kind = kind;
    guaranteed = guaranteed;
    limit = limit;
    delay = delay;
    request = request;
  })

-- No core is guaranteed to a best-effort task.
abbrev pub fair : Task → Result Task ConfigFault
fair task = if is_best_effort task.kind && not (task.guaranteed == 0) then Err BestEffortGuarantee
    else Ok task

-- A task's ranges; then no core is guaranteed to a best-effort task.
unfoldable pub task_within : TaskFields → Result Task ConfigFault
task_within fields = do
  kind ← kind_in fields.kind
  limit ← number_in 1 MOST_LIMIT fields.limit
  guaranteed ← number_in 0 limit fields.guaranteed
  delay ← number_in 0 MOST_TICKS fields.delay
  request ← number_in 0 MOST_TICKS fields.request
  fair (record {
    kind = kind;
    guaranteed = guaranteed;
    limit = limit;
    delay = delay;
    request = request;
  })

-- One task: it is a table, its keys, its types, its ranges.
unfoldable pub task_from : Data → Result Task ConfigFault
task_from value = do
  members ← table_of value
  values ← task_values members
  fields ← task_fields values
  task_within fields

-- The tasks, each in order.
unfoldable pub tasks_from : Items → Result (List Task) ConfigFault
tasks_from no_items = Ok []
tasks_from (item value items) = do
  first ← task_from value
  others ← tasks_from items
  Ok (first ∷ others)

-- No more cores are guaranteed than there are; then there are at most MOST_THREADS kernel threads.
abbrev pub within_sums : Table → Result Table ConfigFault
within_sums table =
    if nat_le (guaranteed_in table.tasks) table.cores
    then (if nat_le (threads_in table.tasks) MOST_THREADS then Ok table else Err TooManyThreads)
    else Err GuaranteesExceedCores

-- The task table of a TOML table: the top table, each task, the sums.
unfoldable pub table_from : Members → Result Table ConfigFault
table_from members = do
  fields ← top_fields members
  top ← top_within fields
  tasks ← tasks_from top.tasks
  within_sums (record { cores = top.cores; bandwidth_limit = top.bandwidth_limit; tasks = tasks })

-- Bytes as text, if they are UTF-8.
abbrev pub text_of : List ℕ → Option (List ℕ)
text_of bytes = if is_utf8 bytes then Some bytes else None

abbrev pub document_from : Option Members → Result Table ConfigFault
document_from None = Err NotToml
document_from (Some members) = table_from members

-- The task table that bytes spell, or the first check that fails: they are a TOML document, and
-- then its checks.
abbrev pub table_in : List ℕ → Result Table ConfigFault
table_in bytes = document_from (option_and_then parse_document (text_of bytes))
