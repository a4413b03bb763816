-- Reading tasks one after the other.
use Rattle.std.proofs.Common.{◌≡◌, ◌<◌, ◌≤◌, ◌+◌, ◌==◌, ℕ, true, false, List, [], ◌∷◌, ◌++◌, length, drop, get_or, Result, Ok, Err, refl, sym, ap, ◌∙◌, append_assoc, arith}
use Rattle.std.proofs.lemmas.Bool.{lt-leb, le-leb, eqb-true, eqb-false}
use Rattle.std.proofs.lemmas.List.{append-nil, drop_all}
use Rattle.toml.specs.View.{view, items_view}
use Rattle.toml.specs.declared.value.Value.{Value}
use Rattle.toml.proofs.Views.{items_view-drop}
use Rattle.cal_machine.specs.Outcome.{◌>>=◌, Fails}
use Rattle.cal_machine.specs.Reading.{item_count, few_in, task_from, tasks_from}
use Rattle.cal_machine.specs.declared.task.Task.{Task}
use Rattle.cal_machine.specs.declared.fault.ConfigFault.{ConfigFault}
use Rattle.cal_machine.specs.declared.fault.ConfigFault.TheVariants as fault

-- there are as many items as values
pub item_count_is : (items : List Value) → item_count (items_view items) ≡ length items
item_count_is [] = refl
item_count_is (first ∷ items) = rw (item_count_is items) (omega arith)

pub few : (items : List Value) → (length items == 0) ≡ false → length items ≤ 16 → few_in (items_view items) ≡ Ok (items_view items)
few items some most = rw (item_count_is items, le-leb 1 (length items) (omega (arith, eqb-false (length items) 0 some)), le-leb (length items) 16 most) refl

pub none : (items : List Value) → (length items == 0) ≡ true → few_in (items_view items) ≡ Err fault.OutOfRange
none items e = rw (item_count_is items, eqb-true (length items) 0 e) refl

pub many : (items : List Value) → 16 < length items → few_in (items_view items) ≡ Err fault.OutOfRange
many items lt = rw (item_count_is items, le-leb 1 (length items) (omega (arith, lt)), lt-leb (length items) 16 lt) refl

-- what was read before, and what is still read
abbrev pub with_front : List Task → Result (List Task) ConfigFault → Result (List Task) ConfigFault
with_front front read = read >>= λ tasks. Ok (front ++ tasks)

regroup : (front : List Task) (t : Task) (read : Result (List Task) ConfigFault) → with_front front (read >>= λ tasks. Ok (t ∷ tasks)) ≡ with_front (front ++ t ∷ []) read
regroup front t (Ok tasks) = ap (λ (x : List Task). Ok x) (sym (append_assoc front (t ∷ []) tasks))
regroup front t (Err f) = refl

-- a fault that reading a task gives is what reading all of them gives
pub ends : (items : List Value) (i : ℕ) (v : Value) (front : List Task) (f : ConfigFault) (total : Result (List Task) ConfigFault) → i < length items → v ≡ get_or items i v
    → Fails f (task_from (view v))
    → with_front front (tasks_from (items_view (drop i items))) ≡ total
    → Fails f total
unfolding tasks_from
ends items i v front f total lt is h so_far = go f h
  where
    here : (g : ConfigFault) → task_from (view v) ≡ Err g → total ≡ Err g
    here g e = sym so_far ∙ rw (items_view-drop items i v lt, ← is, e) refl

    go : (g : ConfigFault) → Fails g (task_from (view v)) → Fails g total
    go fault.Memory e = tt
    go fault.NotToml e = here _ e
    go fault.UnknownKey e = here _ e
    go fault.MissingKey e = here _ e
    go fault.WrongType e = here _ e
    go fault.OutOfRange e = here _ e
    go fault.BestEffortGuarantee e = here _ e
    go fault.GuaranteesExceedCores e = here _ e
    go fault.TooManyThreads e = here _ e

pub goes_on : (items : List Value) (i : ℕ) (v : Value) (front : List Task) (t : Task) (total : Result (List Task) ConfigFault) → i < length items → v ≡ get_or items i v
    → task_from (view v) ≡ Ok t
    → with_front front (tasks_from (items_view (drop i items))) ≡ total
    → with_front (front ++ t ∷ []) (tasks_from (items_view (drop (i + 1) items))) ≡ total
unfolding tasks_from
goes_on items i v front t total lt is e so_far =
    let later = tasks_from (items_view (drop (i + 1) items)) in
    let one : tasks_from (items_view (drop i items)) ≡ (later >>= λ tasks. Ok (t ∷ tasks)) = rw (items_view-drop items i v lt, ← is, e) refl in
    sym (regroup front t later) ∙ ap (with_front front) (sym one) ∙ so_far

pub is_done : (items : List Value) (i : ℕ) (front : List Task) (total : Result (List Task) ConfigFault) → length items ≤ i
    → with_front front (tasks_from (items_view (drop i items))) ≡ total
    → total ≡ Ok front
unfolding tasks_from
is_done items i front total le so_far = sym so_far ∙ rw (drop_all i items le) (ap (λ (x : List Task). Ok x) (append-nil front))
