-- What the checks let through is within the limits.
use Rattle.std.proofs.Common.{◌≡◌, ◌≤◌, ◌%◌, ◌&&◌, ◌==◌, ℕ, ℤ, pos, negsuc, Bool, true, false, not, nat_le, List, [], ◌∷◌, length, Option, Some, None, option_and_then, Result, Ok, Err, is_ok, All, refl, ap, arith, if◌then◌else◌}
use Rattle.std.specs.Result.{result_unwrap_or}
use Rattle.std.proofs.lemmas.Bool.{and_parts, leb-true, eqb-true, not-false, false≢true}
use Rattle.std.proofs.lemmas.List.Elements.{All-nil, All-cons}
use Rattle.toml.specs.Parse.{parse_document}
use Rattle.toml.specs.Data.{Data, Items, no_items, item, Members}
use Rattle.cal_machine.specs.Outcome.{◌>>=◌}
use Rattle.cal_machine.specs.Fields.{table_of, number_in, cores_in, kind_in}
use Rattle.cal_machine.specs.Machine.{IsMachine, is_machine}
use Rattle.cal_machine.specs.Reading.{TopFields, top_fields, Top, top_within, few_in, item_count, fair, task_values, TaskFields, task_fields, task_within, task_from, tasks_from, table_from, within_sums, text_of, document_from, table_in}
use Rattle.cal_machine.specs.Table.{Table, IsTask, IsTable}
use Rattle.cal_machine.specs.declared.task_table.TheConstants.{MOST_TICKS}
use Rattle.cal_machine.specs.Tasks.{is_best_effort, threads_in, guaranteed_in}
use Rattle.cal_machine.specs.declared.task.Task.{Task}
use Rattle.cal_machine.specs.declared.task.Kind.TheVariants.{BestEffort}
use Rattle.cal_machine.specs.declared.fault.ConfigFault.{ConfigFault}
use Rattle.cal_machine.specs.declared.fault.ConfigFault.TheVariants as fault

-- the value of an `Ok`
same_ok : {A : Type 0} (x y : A) → ◌≡◌ {A = Result A ConfigFault} (Ok x) (Ok y) → x ≡ y
same_ok {A} x y e = ap (λ (r : Result A ConfigFault). result_unwrap_or r x) e

no_ok : {A : Type 0} (f : ConfigFault) (y : A) → ◌≡◌ {A = Result A ConfigFault} (Err f) (Ok y) → ⊥
no_ok {A} f y e = false≢true (ap (λ (r : Result A ConfigFault). is_ok r) e)

-- where two checks pass, the first one did, and the second one on what it found
passed : {A B : Type 0} (r : Result A ConfigFault) (f : A → Result B ConfigFault) (y : B) → (r >>= f) ≡ Ok y → (x : A) × (r ≡ Ok x) × (f x ≡ Ok y)
passed (Ok x) f y e = (x, refl, e)
passed (Err g) f y e = absurd (no_ok g y e)

-- a test passed: it holds, and the value is the one that was tested
tested : {A : Type 0} (b : Bool) (x y : A) (f : ConfigFault) → (if b then Ok x else Err f) ≡ Ok y → (b ≡ true) × (x ≡ y)
tested true x y f e = (refl, same_ok x y e)
tested false x y f e = absurd (no_ok f y e)

number_within : (least most : ℕ) (z : ℤ) (n : ℕ) → number_in least most z ≡ Ok n → (least ≤ n) × (n ≤ most)
number_within least most (pos m) n e =
    let t = tested (nat_le least m && nat_le m most) m n fault.OutOfRange e in
    let p = and_parts (nat_le least m) (nat_le m most) (t.0) in
    rw (← t.1) (leb-true least m (p.0), leb-true m most (p.1))
number_within least most (negsuc m) n e = absurd (no_ok fault.OutOfRange n e)

cores_within : (z : ℤ) (n : ℕ) → cores_in z ≡ Ok n → IsMachine n
cores_within (pos m) n e =
    let t = tested (is_machine m) m n fault.OutOfRange e in
    let p = and_parts ((m % 2 == 0) && nat_le 2 m) (nat_le m 128) (t.0) in
    let q = and_parts (m % 2 == 0) (nat_le 2 m) (p.0) in
    rw (← t.1) (record { even = eqb-true (m % 2) 0 (q.0); least = leb-true 2 m (q.1); most = leb-true m 128 (p.1) })
cores_within (negsuc m) n e = absurd (no_ok fault.OutOfRange n e)

few_within : (items got : Items) → few_in items ≡ Ok got → (1 ≤ item_count got) × (item_count got ≤ 16)
few_within items got e =
    let t = tested (nat_le 1 (item_count items) && nat_le (item_count items) 16) items got fault.OutOfRange e in
    let p = and_parts (nat_le 1 (item_count items)) (nat_le (item_count items) 16) (t.0) in
    rw (← t.1) (leb-true 1 (item_count items) (p.0), leb-true (item_count items) 16 (p.1))

pub top_is : (fields : TopFields) (top : Top) → top_within fields ≡ Ok top → IsMachine top.cores × (top.bandwidth_limit ≤ MOST_TICKS) × (1 ≤ item_count top.tasks) × (item_count top.tasks ≤ 16)
unfolding top_within
top_is fields top e =
    let cores = passed (cores_in fields.cores) (λ cores. number_in 0 MOST_TICKS fields.bandwidth_limit >>= λ limit. few_in fields.tasks >>= λ tasks. Ok (record { cores = cores; bandwidth_limit = limit; tasks = tasks })) top e in
    let limit = passed (number_in 0 MOST_TICKS fields.bandwidth_limit) (λ limit. few_in fields.tasks >>= λ tasks. Ok (record { cores = cores.0; bandwidth_limit = limit; tasks = tasks })) top (cores.2) in
    let tasks = passed (few_in fields.tasks) (λ tasks. Ok (record { cores = cores.0; bandwidth_limit = limit.0; tasks = tasks })) top (limit.2) in
    let few = few_within fields.tasks (tasks.0) (tasks.1) in
    rw (← same_ok (record { cores = cores.0; bandwidth_limit = limit.0; tasks = tasks.0 }) top (tasks.2))
    (cores_within fields.cores (cores.0) (cores.1), (number_within 0 MOST_TICKS fields.bandwidth_limit (limit.0) (limit.1)).1, few.0, few.1)

fair_is : (task got : Task) → fair task ≡ Ok got → (task ≡ got) × (task.kind ≡ BestEffort → task.guaranteed ≡ 0)
fair_is task got e = go (is_best_effort task.kind && not (task.guaranteed == 0)) refl e
  where
    go : (b : Bool) → is_best_effort task.kind && not (task.guaranteed == 0) ≡ b → ◌≡◌ {A = Result Task ConfigFault} (if b then Err fault.BestEffortGuarantee else Ok task) (Ok got) → (task ≡ got) × (task.kind ≡ BestEffort → task.guaranteed ≡ 0)
    go true b e = absurd (no_ok fault.BestEffortGuarantee got e)
    go false b e = (same_ok task got e, λ kind. eqb-true task.guaranteed 0 (not-false (task.guaranteed == 0) (rw kind at b)))

task_is : (fields : TaskFields) (task : Task) → task_within fields ≡ Ok task → IsTask task
unfolding task_within
task_is fields task e =
    let kind = passed (kind_in fields.kind) (λ kind. number_in 1 16 fields.limit >>= λ limit. number_in 0 limit fields.guaranteed >>= λ guaranteed. number_in 0 MOST_TICKS fields.delay >>= λ delay. number_in 0 MOST_TICKS fields.request >>= λ request. fair (record { kind = kind; guaranteed = guaranteed; limit = limit; delay = delay; request = request })) task e in
    let limit = passed (number_in 1 16 fields.limit) (λ limit. number_in 0 limit fields.guaranteed >>= λ guaranteed. number_in 0 MOST_TICKS fields.delay >>= λ delay. number_in 0 MOST_TICKS fields.request >>= λ request. fair (record { kind = kind.0; guaranteed = guaranteed; limit = limit; delay = delay; request = request })) task (kind.2) in
    let guaranteed = passed (number_in 0 (limit.0) fields.guaranteed) (λ guaranteed. number_in 0 MOST_TICKS fields.delay >>= λ delay. number_in 0 MOST_TICKS fields.request >>= λ request. fair (record { kind = kind.0; guaranteed = guaranteed; limit = limit.0; delay = delay; request = request })) task (limit.2) in
    let delay = passed (number_in 0 MOST_TICKS fields.delay) (λ delay. number_in 0 MOST_TICKS fields.request >>= λ request. fair (record { kind = kind.0; guaranteed = guaranteed.0; limit = limit.0; delay = delay; request = request })) task (guaranteed.2) in
    let request = passed (number_in 0 MOST_TICKS fields.request) (λ request. fair (record { kind = kind.0; guaranteed = guaranteed.0; limit = limit.0; delay = delay.0; request = request })) task (delay.2) in
    let last = fair_is (record { kind = kind.0; guaranteed = guaranteed.0; limit = limit.0; delay = delay.0; request = request.0 }) task (request.2) in
    let limits = number_within 1 16 fields.limit (limit.0) (limit.1) in
    rw (← last.0) (record {
      some_limit = limits.0;
      limit = limits.1;
      guaranteed = (number_within 0 (limit.0) fields.guaranteed (guaranteed.0) (guaranteed.1)).1;
      delay = (number_within 0 MOST_TICKS fields.delay (delay.0) (delay.1)).1;
      request = (number_within 0 MOST_TICKS fields.request (request.0) (request.1)).1;
      best_effort = last.1;
    })

task_from_is : (value : Data) (task : Task) → task_from value ≡ Ok task → IsTask task
unfolding task_from
task_from_is value task e =
    let members = passed (table_of value) (λ members. task_values members >>= λ values. task_fields values >>= task_within) task e in
    let values = passed (task_values (members.0)) (λ values. task_fields values >>= task_within) task (members.2) in
    let fields = passed (task_fields (values.0)) task_within task (values.2) in
    task_is (fields.0) task (fields.2)

pub tasks_are : (items : Items) (tasks : List Task) → tasks_from items ≡ Ok tasks → (length tasks ≡ item_count items) × All IsTask tasks
unfolding tasks_from
tasks_are no_items tasks e = rw (← same_ok [] tasks e) (refl, All-nil IsTask)
tasks_are (item value items) tasks e =
    let first = passed (task_from value) (λ first. tasks_from items >>= λ others. Ok (first ∷ others)) tasks e in
    let others = passed (tasks_from items) (λ others. Ok (first.0 ∷ others)) tasks (first.2) in
    let rest = tasks_are items (others.0) (others.1) in
    rw (← same_ok (first.0 ∷ others.0) tasks (others.2)) (omega (arith, rest.0), All-cons IsTask (first.0) (others.0) (task_from_is value (first.0) (first.1)) (rest.1))

sums_are : (table got : Table) → within_sums table ≡ Ok got → (table ≡ got) × (guaranteed_in table.tasks ≤ table.cores) × (threads_in table.tasks ≤ 128)
sums_are table got e = go (nat_le (guaranteed_in table.tasks) table.cores) (nat_le (threads_in table.tasks) 128) refl refl e
  where
    go : (a b : Bool) → nat_le (guaranteed_in table.tasks) table.cores ≡ a → nat_le (threads_in table.tasks) 128 ≡ b
        → ◌≡◌ {A = Result Table ConfigFault} (if a then (if b then Ok table else Err fault.TooManyThreads) else Err fault.GuaranteesExceedCores) (Ok got)
        → (table ≡ got) × (guaranteed_in table.tasks ≤ table.cores) × (threads_in table.tasks ≤ 128)
    go true true cores threads e = (same_ok table got e, leb-true (guaranteed_in table.tasks) table.cores cores, leb-true (threads_in table.tasks) 128 threads)
    go true false cores threads e = absurd (no_ok fault.TooManyThreads got e)
    go false b cores threads e = absurd (no_ok fault.GuaranteesExceedCores got e)

-- tasks that were read from a top table within its ranges are few
pub few_tasks : (fields : TopFields) (top : Top) (tasks : List Task) → top_within fields ≡ Ok top → tasks_from top.tasks ≡ Ok tasks → length tasks ≤ 16
few_tasks fields top tasks within read = omega (arith, (tasks_are top.tasks tasks read).0, (top_is fields top within).3)

-- a top table within its ranges, and tasks that were read from it and do not ask too much together,
-- are a table
pub parts_are : (fields : TopFields) (top : Top) (tasks : List Task) → top_within fields ≡ Ok top → tasks_from top.tasks ≡ Ok tasks
    → guaranteed_in tasks ≤ top.cores → threads_in tasks ≤ 128
    → IsTable (record { cores = top.cores; bandwidth_limit = top.bandwidth_limit; tasks = tasks })
parts_are fields top tasks within read cores threads =
    let ranges = top_is fields top within in
    let list = tasks_are top.tasks tasks read in
    record {
      machine = ranges.0;
      bandwidth_limit = ranges.1;
      some_task = omega (arith, list.0, ranges.2);
      tasks = omega (arith, list.0, ranges.3);
      each = list.1;
      guarantees = cores;
      threads = threads;
    }

-- each table that is accepted is one
pub accepted : (given : Members) (table : Table) → table_from given ≡ Ok table → IsTable table
unfolding table_from
accepted given table e =
    let fields = passed (top_fields given) (λ fields. top_within fields >>= λ top. tasks_from top.tasks >>= λ tasks. within_sums (record { cores = top.cores; bandwidth_limit = top.bandwidth_limit; tasks = tasks })) table e in
    let top = passed (top_within (fields.0)) (λ top. tasks_from top.tasks >>= λ tasks. within_sums (record { cores = top.cores; bandwidth_limit = top.bandwidth_limit; tasks = tasks })) table (fields.2) in
    let tasks = passed (tasks_from (top.0).tasks) (λ tasks. within_sums (record { cores = (top.0).cores; bandwidth_limit = (top.0).bandwidth_limit; tasks = tasks })) table (top.2) in
    let sums = sums_are (record { cores = (top.0).cores; bandwidth_limit = (top.0).bandwidth_limit; tasks = tasks.0 }) table (tasks.2) in
    rw (← sums.0) (parts_are (fields.0) (top.0) (tasks.0) (top.1) (tasks.1) (sums.1) (sums.2))

-- each table that bytes spell is one
pub accepted_text : (bytes : List ℕ) (table : Table) → table_in bytes ≡ Ok table → IsTable table
accepted_text bytes table e = go (option_and_then parse_document (text_of bytes)) e
  where
    go : (document : Option Members) → document_from document ≡ Ok table → IsTable table
    go None e = absurd (no_ok fault.NotToml table e)
    go (Some given) e = accepted given table e
