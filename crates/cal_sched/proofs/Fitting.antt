-- What a pass finds makes an input that the pass may be given.
use Rattle.cal_sched.proofs.Common.{◌≡◌, ℕ, zero, suc, ◌+◌, ◌<◌, Bool, true, false, nat_lt, List, [], ◌∷◌, ◌++◌, length, map, Option, Some, None, slice_get, refl, sym, ap, ◌∙◌, arith, option_map, if◌then◌else◌, append-nil, length-map, slice_get_within, Record, Look, ObserverView, whole_of, Table, FoundLook, Action, PassEntry, judged_looks, judged_input, actions_of, looks_of, sent_to, judged, is_foreign, IsFitLook, IsInput, threads_of_table, HasLooked, slice_get_at, some_same}
use Rattle.std.specs.Option.{unwrap_or, option_or, option_and_then}
use Rattle.std.specs.List.{enumerate_from}
use Rattle.std.proofs.lemmas.Grind.{flat_map-append}
use Rattle.cal_signal.specs.declared.look.Look.TheVariants.{Whole, Busy}
use Rattle.cal_signal.specs.declared.shown.Shown.{Shown}
use Rattle.cal_signal.specs.Rounds.{found_by}
use Rattle.cal_signal.specs.Shown.{IsFitShown, found_from, last_found, nothing_shown, shown_of}
use Rattle.cal_signal.proofs.Following.{follows}
use Rattle.cal_policy.specs.declared.history.look.Seen.{Seen}
use Rattle.cal_policy.specs.declared.history.look.Seen.TheVariants as seen
use Rattle.cal_policy.specs.History.Lists.{last_after}
use Rattle.cal_policy.specs.History.Found.{looks_at}
use Rattle.cal_policy.specs.History.Looks.{last_shown, look_of, shown_at, shown_by}
use Rattle.cal_policy.proofs.JudgementLemmas.OpenInput.{length-judged_looks}
use Rattle.cal_policy.proofs.ListLemmas.OneMore.{unwrap_or_or}
use Rattle.cal_policy.proofs.JudgementLemmas.Judged.{look_of-judged}

-- one of the three judgements of a whole look
three : (P : Seen → Type 0) (ahead foreign : Bool) (number : ℕ) (rec : Record) → P (seen.Ahead number rec) → P (seen.Foreign number rec) → P (seen.Whole number rec)
    → P (if ahead then seen.Ahead number rec else if foreign then seen.Foreign number rec else seen.Whole number rec)
three P true foreign number rec a f w = a
three P false true number rec a f w = f
three P false false number rec a f w = w

-- the look of a thread, as judged
judged_from : (cores : ℕ) (x : List Action) (n : ℕ) (found : List FoundLook) (k : ℕ)
    → slice_get (map (λ (one : ℕ × FoundLook). judged cores x one.0 one.1.look) (enumerate_from n found)) k ≡ option_map (λ (one : FoundLook). judged cores x (n + k) one.look) (slice_get found k)
judged_from cores x n [] k = refl
judged_from cores x n (d ∷ ds) zero = let same : n ≡ n + 0 = omega arith in ap (λ m. Some (judged cores x m d.look)) same
judged_from cores x n (d ∷ ds) (suc k) =
    let same : n + 1 + k ≡ n + suc k = omega arith in
    judged_from cores x (n + 1) ds k ∙ ap (λ m. option_map (λ (one : FoundLook). judged cores x m one.look) (slice_get ds k)) same

pub judged_at : (table : Table) (history : List PassEntry) (found : List FoundLook) (k : ℕ)
    → slice_get (judged_looks table history found) k ≡ option_map (λ (one : FoundLook). judged table.cores (actions_of history) k one.look) (slice_get found k)
judged_at table history found k =
    let same : 0 + k ≡ k = omega arith in
    judged_from table.cores (actions_of history) 0 found k ∙ ap (λ m. option_map (λ (one : FoundLook). judged table.cores (actions_of history) m one.look) (slice_get found k)) same

-- one pass more: what it found is what was found last, else what was before
found_then : (last : Shown) (o : Option Seen) (more : List (ℕ × Record)) (rest : Option Shown) → ((here : Shown) → found_from here more ≡ unwrap_or rest here)
    → found_from last (found_by (option_map look_of o) ++ more) ≡ unwrap_or (option_or rest (option_and_then shown_by o)) last
found_then last None more rest h = h last ∙ sym (unwrap_or_or rest None last)
found_then last (Some (seen.Busy first second)) more rest h = h last ∙ sym (unwrap_or_or rest None last)
found_then last (Some (seen.Whole number rec)) more rest h = h (record { number = number; rec = rec }) ∙ sym (unwrap_or_or rest (Some (record { number = number; rec = rec })) last)
found_then last (Some (seen.Ahead number rec)) more rest h = h (record { number = number; rec = rec }) ∙ sym (unwrap_or_or rest (Some (record { number = number; rec = rec })) last)
found_then last (Some (seen.Foreign number rec)) more rest h = h (record { number = number; rec = rec }) ∙ sym (unwrap_or_or rest (Some (record { number = number; rec = rec })) last)

found_is_shown : (k : ℕ) (history : List PassEntry) (before : List (List Seen)) (last : Shown)
    → found_from last (looks_at history k) ≡ unwrap_or (last_after (λ (b : List (List Seen)) (s : List Seen). shown_at s k) before (looks_of history)) last
found_is_shown k [] before last = refl
found_is_shown k (e ∷ es) before last =
    found_then last (slice_get e.input.seen k) (looks_at es k) (last_after (λ (b : List (List Seen)) (s : List Seen). shown_at s k) (before ++ e.input.seen ∷ []) (looks_of es))
    (λ here. found_is_shown k es (before ++ e.input.seen ∷ []) here)

-- what was found last at a thread is what it showed last
pub found_last : (k : ℕ) (history : List PassEntry) → last_found (looks_at history k) ≡ last_shown (looks_of history) k
found_last k history = found_is_shown k history [] nothing_shown

-- a look, as judged, fits what was found before it
look_fits : (cores : ℕ) (x : List Action) (k : ℕ) (look : Look) (was is : ObserverView) → HasLooked was is look → IsFitLook (last_found was.looks) (judged cores x k look)
look_fits cores x k (Busy first second) was is looked = looked.found.0
look_fits cores x k (Whole number rec) was is looked =
    let fit : IsFitShown (last_found was.looks) (shown_of (number, rec)) = follows was.looks (number, rec) (rw looked.looks at looked.found.1) in
    three (IsFitLook (last_found was.looks)) (nat_lt (sent_to x k) rec.taken) (is_foreign cores x k rec) number rec fit fit fit

-- the next look of a thread, as judged, fits what it showed last
pub next_fits : (table : Table) (history : List PassEntry) (k : ℕ) (look : Look) (was is : ObserverView) → was.looks ≡ looks_at history k → HasLooked was is look
    → IsFitLook (last_shown (looks_of history) k) (judged table.cores (actions_of history) k look)
next_fits table history k look was is same looked =
    let last : last_found was.looks ≡ last_shown (looks_of history) k = ap last_found same ∙ found_last k history in
    rw (← last) (look_fits table.cores (actions_of history) k look was is looked)

-- the look of a judged one
some_mapped : {X Y : Type 0} (f : X → Y) (o : Option X) (x : X) (y : Y) → o ≡ Some x → option_map f o ≡ Some y → f x ≡ y
some_mapped f o x y is e = some_same (f x) y (sym (ap (option_map f) is) ∙ e)

pub found_is_input : (table : Table) (history : List PassEntry) (now bandwidth : ℕ) (observers looked : List ObserverView) (found : List FoundLook)
    → length observers ≡ threads_of_table table → length looked ≡ length observers → length found ≡ length observers
    → ((k : ℕ) (was : ObserverView) → slice_get observers k ≡ Some was → was.looks ≡ looks_at history k)
    → ((k : ℕ) (was is : ObserverView) (one : FoundLook) → slice_get observers k ≡ Some was → slice_get looked k ≡ Some is → slice_get found k ≡ Some one → HasLooked was is one.look)
    → IsInput table history (judged_input table history now bandwidth found)
found_is_input table history now bandwidth observers looked found pages same one_each looks each = record {
  looks = record {
    looks = length-judged_looks table history found ∙ one_each ∙ pages;
    rooms = length-map found (λ (one : FoundLook). one.room) ∙ one_each ∙ pages;
    fit = λ k seen e.
        let it = at_thread k seen e in
        rw (← it.6) (next_fits table history k it.0.look it.2 it.3 (looks k it.2 it.4) (each k it.2 it.3 it.0 it.4 it.5 it.1));
  };
  as_judged = λ k seen e.
      let it = at_thread k seen e in
      rw (← it.6, look_of-judged table.cores (actions_of history) k it.0.look) refl;
}
  where
    at_thread : (k : ℕ) (seen : Seen) → slice_get (judged_looks table history found) k ≡ Some seen
        → (one : FoundLook) × (slice_get found k ≡ Some one) × (was : ObserverView) × (is : ObserverView) × (slice_get observers k ≡ Some was)
        × (slice_get looked k ≡ Some is) × (judged table.cores (actions_of history) k one.look ≡ seen)
    at_thread k seen e =
        let within : k < length (judged_looks table history found) = slice_get_within (judged_looks table history found) k seen e in
        let lt : k < length found = omega (arith, length-judged_looks table history found) in
        let one = slice_get_at found k lt in
        let was = slice_get_at observers k (omega arith) in
        let is = slice_get_at looked k (omega arith) in (
          one.0,
          one.1,
          was.0,
          is.0,
          was.1,
          is.1,
          some_mapped (λ (f : FoundLook). judged table.cores (actions_of history) k f.look) (slice_get found k) one.0 seen one.1 (sym (judged_at table history found k) ∙ e),
        )

-- what a pass's look found is the whole look that was judged
pub found_in : (table : Table) (history : List PassEntry) (found : List FoundLook) (k : ℕ) (one : FoundLook) → slice_get found k ≡ Some one
    → found_by (option_map look_of (slice_get (judged_looks table history found) k)) ≡ whole_of one.look
found_in table history found k one at =
    ap (λ (o : Option Seen). found_by (option_map look_of o)) (judged_at table history found k ∙ ap (option_map (λ (f : FoundLook). judged table.cores (actions_of history) k f.look)) at)
    ∙ ap whole_of (look_of-judged table.cores (actions_of history) k one.look)

-- one pass more: each thread's looks gain what it found
pub looks_at-append : (k : ℕ) (history : List PassEntry) (entry : PassEntry) → looks_at (history ++ entry ∷ []) k ≡ looks_at history k ++ found_by (option_map look_of (slice_get entry.input.seen k))
looks_at-append k history entry =
    flat_map-append (λ (e : PassEntry). found_by (option_map look_of (slice_get e.input.seen k))) history (entry ∷ [])
    ∙ ap (λ (ls : List (ℕ × Record)). looks_at history k ++ ls) (append-nil (found_by (option_map look_of (slice_get entry.input.seen k))))
