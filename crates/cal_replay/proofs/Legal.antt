-- A replay of a history of a policy is a run by the policy.
use Rattle.std.proofs.Common.{◌≡◌, ℕ, ◌-◌, zero, suc, List, [], ◌∷◌, ◌++◌, length, replicate, Some, refl, sym, ap, subst, ◌∙◌, arith}
use Rattle.std.specs.List.{slice_get}
use Rattle.std.proofs.lemmas.List.{length-replicate}
use Rattle.cal_machine.specs.Table.{Table, IsTable}
use Rattle.cal_machine.specs.TableTasks.{threads_of_table}
use Rattle.cal_machine.specs.declared.request.Request.{Request}
use Rattle.cal_signal.specs.Pages.{FitsPage}
use Rattle.cal_signal.specs.Rounds.{found_at, found_by}
use Rattle.cal_signal.specs.declared.look.Look.{Look}
use Rattle.cal_signal.specs.declared.look.Look.TheVariants.{Busy}
use Rattle.cal_signal.specs.declared.record.Record.{Record}
use Rattle.cal_policy.specs.Policies.{IsLegalBy}
use Rattle.cal_policy.specs.declared.history.entry.PassEntry.{PassEntry}
use Rattle.cal_policy.specs.declared.policy.Policy.{Policy}
use Rattle.cal_kthread.specs.declared.journal.entry.Entry.{Entry}
use Rattle.cal_linear.specs.Law.{FittingLooksArePublications, LinearIsLegalBy}
use Rattle.cal_linear.specs.Runs.{AreOfOneRunBy, AreWatched, page_at}
use Rattle.cal_trace.specs.declared.arrivals.Arrivals.{Arrivals}
use Rattle.cal_run.specs.Parts.{filled, rounds_of, unread_round}
use Rattle.cal_replay.specs.Replays.{IsReplay, ReplayOfPolicyIsRun}

-- no look of an unread round is whole
nothing_read : (n k : ℕ) → found_by (slice_get (replicate n (Busy 1 1)) k) ≡ []
nothing_read zero k = refl
nothing_read (suc n) zero = refl
nothing_read (suc n) (suc k) = nothing_read n k

nothing_found : (m n k : ℕ) → found_at (replicate m (replicate n (Busy 1 1))) k ≡ []
nothing_found zero n k = refl
nothing_found (suc m) n k = ap (λ (ls : List (ℕ × Record)). ls ++ found_at (replicate m (replicate n (Busy 1 1))) k) (nothing_read n k) ∙ nothing_found m n k

-- each member of a list of the same is the one
each_same : {X : Type 0} (P : X → Type 0) (x : X) (m i : ℕ) (y : X) → P x → slice_get (replicate m x) i ≡ Some y → P y
each_same P x zero i y p at = absurd (cc)
each_same P x (suc m) zero y p at = let same : x ≡ y = cc in rw (← same) p
each_same P x (suc m) (suc i) y p at = each_same P x m i y p at

-- rounds that read nothing fit every page
unread_fit : (table : Table) (arrivals : Arrivals) (journals : List (List Entry)) → AreWatched table journals (filled table arrivals [])
unread_fit table arrivals journals =
    let n = threads_of_table table in
    let m = rounds_of arrivals - 0 in
    record {
      rounds = λ r round. each_same (λ (l : List Look). length l ≡ n) (unread_round table) m r round (length-replicate n (Busy 1 1));
      fit = λ k. subst (λ (looks : List (ℕ × Record)). FitsPage (page_at journals k) looks) (sym (nothing_found m n k)) tt;
    }

pub is_run : FittingLooksArePublications → LinearIsLegalBy → ReplayOfPolicyIsRun
is_run fitting linear policy table arrivals history journals left ok replay legal =
    let watched = filled table arrivals [] in
    let fits = unread_fit table arrivals journals in
    let one : AreOfOneRunBy policy table history journals = record {
      legal = legal;
      count = replay.threads;
      kept = replay.kept;
      looks = fitting history journals replay.looks;
      first = replay.taken;
    } in
    let many : length watched ≡ rounds_of arrivals - 0 = length-replicate (rounds_of arrivals - 0) (unread_round table) in
    record {
      passes = replay.passes;
      threads = replay.threads;
      turns = replay.turns;
      kept = replay.kept;
      rounds = many ∙ (let whole : rounds_of arrivals - 0 ≡ rounds_of arrivals = omega arith in whole);
      looks = replay.looks;
      watched = fits;
      taken = replay.taken;
      events = linear policy table history journals watched one fits;
      order = refl;
      lefts = replay.lefts;
      account = replay.account;
      once = record { given = replay.once.given; others = replay.once.others };
    }
