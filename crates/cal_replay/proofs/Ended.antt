-- What closed pages and rings and replayed passes say together: the replay.
use Rattle.std.proofs.Common.{◌≡◌, ℕ, ◌+◌, ◌<◌, ◌≤◌, suc, zero, List, [], ◌∷◌, ◌++◌, map, length, take, Option, Some, None, refl, sym, ap, subst, ◌∙◌, ⊎_elim, arith}
use Rattle.std.specs.Prelude.{option_map}
use Rattle.std.specs.List.{slice_get}
use Rattle.std.proofs.lemmas.Bool.{cases_lt}
use Rattle.std.proofs.lemmas.List.{get_or_past, length-map}
use Rattle.std.proofs.lemmas.Option.{slice_get_past, get_or_from_slice_get}
use Rattle.std.proofs.Math.Seq.{take-length}
use Rattle.cal_machine.proofs.Places.{slice_get_at}
use Rattle.cal_machine.specs.Table.{Table}
use Rattle.cal_machine.specs.TableTasks.{threads_of_table}
use Rattle.cal_machine.specs.declared.request.Request.{Request}
use Rattle.cal_signal.specs.Pages.{FitsPage}
use Rattle.cal_signal.specs.Rounds.{found_by}
use Rattle.cal_signal.specs.declared.record.Record.{Record}
use Rattle.cal_policy.specs.declared.history.look.Seen.{Seen}
use Rattle.cal_policy.specs.declared.history.entry.PassEntry.{PassEntry}
use Rattle.cal_policy.specs.History.{actions_of, commands_to}
use Rattle.cal_policy.specs.History.Found.{looks_at}
use Rattle.cal_policy.specs.History.Looks.{look_of}
use Rattle.cal_kthread.specs.Journal.{IsJournal, commands_of}
use Rattle.cal_kthread.specs.Turn.Turns.{AreTurns, Given}
use Rattle.cal_kthread.specs.declared.journal.entry.Entry.{Entry}
use Rattle.cal_linear.specs.Runs.{AreFirst, page_at}
use Rattle.cal_linear.specs.Steps.{journal_at}
use Rattle.cal_trace.specs.Arrivals.FitsTable.{FitsTable}
use Rattle.cal_trace.specs.declared.arrivals.Arrival.{Arrival}
use Rattle.cal_trace.specs.declared.arrivals.Arrivals.{Arrivals}
use Rattle.cal_run.specs.Closing.{HaveClosed}
use Rattle.cal_run.specs.Outcome.GivenOnce.{GivenStandOnce}
use Rattle.cal_run.specs.Outcome.{figures_of}
use Rattle.cal_run.specs.Workers.GivenTurns.{turns_from, turns_given}
use Rattle.cal_run.specs.Workers.{HaveMade, journals_of}
use Rattle.cal_run.specs.declared.workers.worker.Worker.{Worker}
use Rattle.cal_replay.specs.Parts.{AreReplayParts}
use Rattle.cal_replay.specs.Replays.{IsReplay, ended}
use Rattle.cal_replay.specs.declared.ending.ReplayParts.{ReplayParts}

-- where no pass looked at a thread, none found anything of it
none_shown : (history : List PassEntry) (k n : ℕ) → ((p : ℕ) (entry : PassEntry) → slice_get history p ≡ Some entry → length entry.input.seen ≡ n) → n ≤ k → looks_at history k ≡ []
none_shown [] k n few past = refl
none_shown (entry ∷ history) k n few past =
    let many : length entry.input.seen ≡ n = few 0 entry refl in
    let none : slice_get entry.input.seen k ≡ None = slice_get_past entry.input.seen k (omega (arith, many, past)) in
    ap (λ (o : Option Seen). found_by (option_map look_of o) ++ looks_at history k) none ∙ none_shown history k n (λ p. few (suc p)) past

-- the journal of a thread that there is not is empty
past_journal : (journals : List (List Entry)) (k : ℕ) → length journals ≤ k → journal_at journals k ≡ []
past_journal journals k past = get_or_past journals k [] past

no_turn : IsJournal []
no_turn = record { each = tt; page = (refl, tt) }

-- the turns that are given to a thread are as many as their clocks
many_turns : (requests : List Arrival) (k j : ℕ) (clocks : List ℕ) → length (turns_from requests k j clocks) ≡ length clocks
many_turns requests k j [] = refl
many_turns requests k j (now ∷ clocks) = ap suc (many_turns requests k (j + 1) clocks)

journal_of_worker : (workers : List Worker) (k : ℕ) (worker : Worker) → slice_get workers k ≡ Some worker → slice_get (map (λ (w : Worker). w.thread.journal) workers) k ≡ Some worker.thread.journal
journal_of_worker [] k worker at = absurd (cc)
journal_of_worker (w ∷ ws) zero worker at = let same : w ≡ worker = cc in ap (λ (x : Worker). Some x.thread.journal) same
journal_of_worker (w ∷ ws) (suc k) worker at = journal_of_worker ws k worker at

module _ (table : Table) (arrivals : Arrivals) (history : List PassEntry) (parts : ReplayParts) (lefts : List (List Request))
    (are : AreReplayParts table arrivals history (length arrivals.turns) parts)
    (closed : HaveClosed parts.workers.items parts.replayer.observers.items parts.watch.observers parts.replayer.senders.items (journals_of parts.workers.items) lefts) where
  abbrev workers : List Worker
  workers = parts.workers.items

  abbrev journals : List (List Entry)
  journals = journals_of parts.workers.items

  many_journals : length journals ≡ threads_of_table table
  many_journals = length-map workers (λ (w : Worker). w.thread.journal) ∙ are.threads

  kept_journals : (k : ℕ) → IsJournal (journal_at journals k)
  kept_journals k = ⊎_elim
      (λ low. let j = slice_get_at journals k low in subst IsJournal (sym (get_or_from_slice_get journals k j.0 [] j.1)) (closed.kept k j.0 j.1))
      (λ past. subst IsJournal (sym (past_journal journals k past)) no_turn)
      (cases_lt k (length journals))

  looks_fit : (k : ℕ) → FitsPage (page_at journals k) (looks_at history k)
  looks_fit k = ⊎_elim
      (λ low.
      let o = slice_get_at parts.replayer.observers.items k (let a = are.replayed.pages in omega (arith, low, a)) in
      let same : o.0.looks ≡ looks_at history k = are.replayed.looks k o.0 o.1 in
      subst (λ (looks : List (ℕ × Record)). FitsPage (page_at journals k) looks) same (closed.observed k o.0 o.1))
      (λ past.
      let none = none_shown history k (threads_of_table table) (λ p entry at. (are.replayed.permitted.passes p entry at).input.looks.looks) past in
      subst (λ (looks : List (ℕ × Record)). FitsPage (page_at journals k) looks) (sym none) tt)
      (cases_lt k (threads_of_table table))

  taken_first : (k : ℕ) → AreFirst (commands_of (journal_at journals k)) (commands_to (actions_of history) k)
  taken_first k = ⊎_elim
      (λ low.
      let r = slice_get_at parts.replayer.senders.items k (let a = are.replayed.rings in omega (arith, low, a)) in
      subst (AreFirst (commands_of (journal_at journals k))) (are.replayed.sent k r.0 r.1) (closed.taken k r.0 r.1))
      (λ past.
      let many = many_journals in
      subst (λ (journal : List Entry). AreFirst (commands_of journal) (commands_to (actions_of history) k)) (sym (past_journal journals k (omega (arith, past, many)))) refl)
      (cases_lt k (threads_of_table table))

  -- each thread made all its turns
  made_turns : (k : ℕ) → k < threads_of_table table → AreTurns (turns_given arrivals.requests arrivals.turns k) [] (journal_at journals k)
  made_turns k low =
      let many = are.threads in
      let worker = slice_get_at workers k (omega (arith, low, many)) in
      let its : AreTurns (take (length arrivals.turns) (turns_given arrivals.requests arrivals.turns k)) [] worker.0.thread.journal = (are.turns k worker.0 worker.1).turns in
      let own : journal_at journals k ≡ worker.0.thread.journal =
      get_or_from_slice_get (map (λ (w : Worker). w.thread.journal) workers) k worker.0.thread.journal [] (journal_of_worker workers k worker.0 worker.1) in
      let turns = turns_given arrivals.requests arrivals.turns k in
      let all : take (length arrivals.turns) turns ≡ turns = ap (λ (n : ℕ). take n turns) (sym (many_turns arrivals.requests k 0 arrivals.turns)) ∙ take-length turns in
      subst (λ (journal : List Entry). AreTurns turns [] journal) (sym own) (subst (λ (given : List Given). AreTurns given [] worker.0.thread.journal) all its)

  pub is_replay : FitsTable table arrivals → map figures_of history ≡ arrivals.passes → GivenStandOnce → IsReplay table arrivals history journals lefts
  is_replay fits passed law = record {
    passes = passed;
    permitted = are.replayed.permitted;
    whole = are.replayed.whole;
    looks = looks_fit;
    taken = taken_first;
    threads = many_journals;
    turns = made_turns;
    kept = kept_journals;
    lefts = closed.count ∙ are.threads;
    account = closed.account;
    once = law table arrivals (ended history journals lefts) fits many_journals made_turns closed.account;
  }
