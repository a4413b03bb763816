-- The worked run: its steps in order, and that they are those of one run where its passes are legal,
-- so that what `linearise` asks can be met.
use Rattle.std.proofs.Common.{◌≡◌, ℕ, zero, suc, List, [], ◌∷◌, length, take, Some, refl, sym, ap, subst, ◌∙◌, arith}
use Rattle.std.specs.List.{slice_get}
use Rattle.cal_machine.specs.Table.{Table}
use Rattle.cal_signal.specs.declared.record.Record.{Record}
use Rattle.cal_policy.specs.declared.history.look.Seen.{Seen}
use Rattle.cal_policy.specs.declared.history.look.Seen.TheVariants.{Whole}
use Rattle.cal_policy.specs.History.{actions_of, commands_to}
use Rattle.cal_policy.specs.Pass.{IsLegal}
use Rattle.cal_machine.specs.TableTasks.{threads_of_table}
use Rattle.cal_policy.specs.declared.history.entry.PassEntry.{PassEntry}
use Rattle.cal_kthread.specs.Journal.{IsJournal, commands_of}
use Rattle.cal_linear.specs.Steps.{journal_at}
use Rattle.cal_linear.specs.Linear.{linear}
use Rattle.cal_linear.specs.Runs.{IsPublication, AreOfOneRun, AreWatched}
use Rattle.test_runtime.specs.WorkedRow.{waiting, at_work, granting, resting, passes, journal, rounds, order}

-- the order of its steps, and of the rounds of its watcher
pub worked_order : linear passes (journal ∷ []) rounds ≡ order
worked_order = refl

-- what it did is a journal
kept : (k : ℕ) → IsJournal (journal_at (journal ∷ []) k)
kept zero = record {
  each = (tt, ((refl, refl, refl), (refl, ((refl, refl, refl), (tt, ((refl, refl, refl), tt))))));
  page = (
    refl,
    (
      ((omega arith, omega arith, omega arith), (omega arith, omega arith)),
      (((omega arith, omega arith, omega arith), (omega arith, omega arith)), (((omega arith, omega arith, omega arith), (omega arith, omega arith)), tt)),
    ),
  );
}
kept (suc k) = record { each = tt; page = (refl, tt) }

-- each whole look of its passes is a publication
is_there : (place number : ℕ) (shown rec : Record) → Whole place shown ≡ Whole number rec → IsPublication (journal ∷ []) 0 place shown → IsPublication (journal ∷ []) 0 number rec
is_there place number shown rec e at =
    let number_is : place ≡ number = cc in
    let rec_is : shown ≡ rec = cc in
    let P : ℕ → Type 0 = λ n. IsPublication (journal ∷ []) 0 n rec in
    let Q : Record → Type 0 = λ r. IsPublication (journal ∷ []) 0 place r in
    subst P number_is (subst Q rec_is at)

only_look : (shown : Seen) (k : ℕ) (number : ℕ) (rec : Record) → slice_get (shown ∷ []) k ≡ Some (Whole number rec) → (k ≡ 0) × (shown ≡ Whole number rec)
only_look shown zero number rec e = (refl, (cc))
only_look shown (suc k) number rec e = absurd (cc)

looks_of_row : (place : ℕ) (shown : Record) → IsPublication (journal ∷ []) 0 place shown → (entry : PassEntry) → entry.input.seen ≡ Whole place shown ∷ [] →
    (k number : ℕ) (rec : Record) → slice_get entry.input.seen k ≡ Some (Whole number rec) → IsPublication (journal ∷ []) k number rec
looks_of_row place shown at entry is k number rec e =
    let only = only_look (Whole place shown) k number rec (ap (λ (l : List Seen). slice_get l k) (sym is) ∙ e) in
    let P : ℕ → Type 0 = λ n. IsPublication (journal ∷ []) n number rec in
    subst P (sym only.0) (is_there place number shown rec only.1 at)

looks : (p : ℕ) (entry : PassEntry) → slice_get passes p ≡ Some entry → (k number : ℕ) (rec : Record) → slice_get entry.input.seen k ≡ Some (Whole number rec) → IsPublication (journal ∷ []) k number rec
looks zero entry e = let same : granting ≡ entry = cc in looks_of_row 1 waiting refl entry (sym (ap (λ (x : PassEntry). x.input.seen) same))
looks (suc zero) entry e = let same : resting ≡ entry = cc in looks_of_row 2 at_work refl entry (sym (ap (λ (x : PassEntry). x.input.seen) same))
looks (suc (suc p)) entry e = absurd (cc)

-- what it took was sent first
first : (k : ℕ) → commands_of (journal_at (journal ∷ []) k) ≡ take (length (commands_of (journal_at (journal ∷ []) k))) (commands_to (actions_of passes) k)
first zero = refl
first (suc k) = refl

-- the row is of one run, at any table of one thread at which its passes are legal
pub row_is_run : (table : Table) → IsLegal table passes → 1 ≡ threads_of_table table → AreOfOneRun table passes (journal ∷ [])
row_is_run table legal count = record { legal = legal; count = count; kept = kept; looks = looks; first = first }

-- and no round is watched beside it
pub none_watched : (table : Table) → AreWatched table (journal ∷ []) []
none_watched table = record { rounds = λ r round e. absurd (cc); fit = λ k. tt }
