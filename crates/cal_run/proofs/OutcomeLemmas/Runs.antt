-- What closed pages and rings and a kept scheduler and watch say together: the run.
use Rattle.cal_run.proofs.Common.{◌≡◌, ℕ, ◌+◌, ◌<◌, ◌≤◌, zero, suc, List, [], ◌∷◌, ◌++◌, map, length, take, Option, Some, None, refl, sym, ap, subst, ◌∙◌, ⊎_elim, arith, option_map, slice_get, cases_lt, get_or_past, length-map, slice_get_past, get_or_from_slice_get, slice_get_at, pass_at_by, pass_input, Table, Request, Look, Record, ObserverView, FitsPage, PassEntry, IsLegalBy, threads_of_table, IsKept, SchedulerView, IsJournal, commands_of, AreTurns, Given, Entry, AreFirst, AreOfOneRunBy, AreWatched, page_at, journal_at, FitsTable, Arrival, Arrivals, HaveClosed, turns_from, turns_given, IsRunBy, AreOfOneTeam, HasPassed, rounds_of, scheduler_seat_of, watch_seat_of, HaveMade, Seat, seat_of, seats_of, Worker}
use Rattle.std.proofs.Math.Seq.{take-length}
use Rattle.cal_signal.specs.Rounds.{found_at, found_by}
use Rattle.cal_policy.specs.declared.history.look.Seen.{Seen}
use Rattle.cal_policy.specs.History.{actions_of, commands_to}
use Rattle.cal_policy.specs.History.Found.{looks_at}
use Rattle.cal_policy.specs.History.Looks.{look_of}
use Rattle.cal_sched.specs.Watching as watching
use Rattle.cal_linear.specs.Law.{FittingLooksArePublications, IsLinearisedBy}
use Rattle.cal_linear.specs.Linear.{linear}
use Rattle.cal_world.specs.declared.event.Event.{Event}
use Rattle.cal_run.specs.Outcome.GivenOnce.{GivenStandOnce}
use Rattle.cal_run.specs.declared.outcome.Outcome.{Outcome}

-- where no pass looked at a thread, none found anything of it
none_shown : (history : List PassEntry) (k n : ℕ) → ((p : ℕ) (entry : PassEntry) → slice_get history p ≡ Some entry → length entry.input.seen ≡ n) → n ≤ k → looks_at history k ≡ []
none_shown [] k n few past = refl
none_shown (entry ∷ history) k n few past =
    let many : length entry.input.seen ≡ n = few 0 entry refl in
    let none : slice_get entry.input.seen k ≡ None = slice_get_past entry.input.seen k (omega (arith, many, past)) in
    ap (λ (o : Option Seen). found_by (option_map look_of o) ++ looks_at history k) none ∙ none_shown history k n (λ p. few (suc p)) past

none_found : (rounds : List (List Look)) (k n : ℕ) → ((r : ℕ) (round : List Look) → slice_get rounds r ≡ Some round → length round ≡ n) → n ≤ k → found_at rounds k ≡ []
none_found [] k n few past = refl
none_found (round ∷ rounds) k n few past =
    let many : length round ≡ n = few 0 round refl in
    let none : slice_get round k ≡ None = slice_get_past round k (omega (arith, many, past)) in
    ap (λ (o : Option Look). found_by o ++ found_at rounds k) none ∙ none_found rounds k n (λ r. few (suc r)) past

-- the journal of a thread that there is not is empty
past_journal : (journals : List (List Entry)) (k : ℕ) → length journals ≤ k → journal_at journals k ≡ []
past_journal journals k past = get_or_past journals k [] past

no_turn : IsJournal []
no_turn = record { each = tt; page = (refl, tt) }

-- the turns that are given to a thread are as many as their clocks
many_turns : (requests : List Arrival) (k j : ℕ) (clocks : List ℕ) → length (turns_from requests k j clocks) ≡ length clocks
many_turns requests k j [] = refl
many_turns requests k j (now ∷ clocks) = ap suc (many_turns requests k (j + 1) clocks)

journal_of_worker : (workers : List Worker) (k : ℕ) (worker : Worker) → slice_get workers k ≡ Some worker → slice_get (map (λ (w : Worker). w.thread.journal) workers) k ≡ Some worker.thread.journal
journal_of_worker [] k worker at = absurd (cc)
journal_of_worker (w ∷ ws) zero worker at = let same : w ≡ worker = cc in ap (λ (x : Worker). Some x.thread.journal) same
journal_of_worker (w ∷ ws) (suc k) worker at = journal_of_worker ws k worker at

module _ (table : Table) (s : SchedulerView) (w : watching.WatchView) (workers : List Worker) (journals : List (List Entry)) (lefts : List (List Request))
    (kept : IsKept s) (watched : watching.HaveWatched w.given w.observers w.rounds) (together : AreOfOneTeam table (scheduler_seat_of s) (seats_of workers) (watch_seat_of w))
    (closed : HaveClosed workers s.observers w.observers s.senders journals lefts) where
  many_workers : length workers ≡ threads_of_table table
  many_workers = sym (length-map workers (λ (w : Worker). seat_of w.thread)) ∙ together.threads

  pub many_journals : length journals ≡ threads_of_table table
  many_journals = ap length closed.same ∙ length-map workers (λ (w : Worker). w.thread.journal) ∙ many_workers

  same_threads : threads_of_table s.table ≡ threads_of_table table
  same_threads = ap threads_of_table together.same_table

  pub many_watchers : length w.observers ≡ threads_of_table table
  many_watchers = sym (length-map w.observers (λ (o : ObserverView). o.page)) ∙ ap length together.watched ∙ length-map (seats_of workers) (λ (s : Seat). s.page) ∙ together.threads

  legal : IsLegalBy s.policy table s.history
  legal = subst (λ (t : Table). IsLegalBy s.policy t s.history) together.same_table kept.legal

  pub kept_journals : (k : ℕ) → IsJournal (journal_at journals k)
  kept_journals k = ⊎_elim
      (λ low. let j = slice_get_at journals k low in subst IsJournal (sym (get_or_from_slice_get journals k j.0 [] j.1)) (closed.kept k j.0 j.1))
      (λ past. subst IsJournal (sym (past_journal journals k past)) no_turn)
      (cases_lt k (length journals))

  pub looks_fit : (k : ℕ) → FitsPage (page_at journals k) (looks_at s.history k)
  looks_fit k = ⊎_elim
      (λ low.
      let o = slice_get_at s.observers k (let a = kept.pages in let b = same_threads in omega (arith, low, a, b)) in
      let same : o.0.looks ≡ looks_at s.history k = kept.looks k o.0 o.1 in
      subst (λ (looks : List (ℕ × Record)). FitsPage (page_at journals k) looks) same (closed.observed k o.0 o.1))
      (λ past.
      let none = none_shown s.history k (threads_of_table table) (λ p entry at. (pass_input s.policy table (take p s.history) entry (pass_at_by s.policy table s.history legal p entry at)).looks.looks) past in
      subst (λ (looks : List (ℕ × Record)). FitsPage (page_at journals k) looks) (sym none) tt)
      (cases_lt k (threads_of_table table))

  pub taken_first : (k : ℕ) → AreFirst (commands_of (journal_at journals k)) (commands_to (actions_of s.history) k)
  taken_first k = ⊎_elim
      (λ low.
      let r = slice_get_at s.senders k (let a = kept.rings in let b = same_threads in omega (arith, low, a, b)) in
      subst (AreFirst (commands_of (journal_at journals k))) (kept.sent k r.0 r.1) (closed.taken k r.0 r.1))
      (λ past.
      let many = many_journals in
      subst (λ (journal : List Entry). AreFirst (commands_of journal) (commands_to (actions_of s.history) k)) (sym (past_journal journals k (omega (arith, past, many)))) refl)
      (cases_lt k (threads_of_table table))

  -- the watch's observers had seen nothing when they were handed in
  found_fits : (k : ℕ) → k < threads_of_table table → FitsPage (page_at journals k) (found_at w.rounds k)
  found_fits k low =
      let many = many_watchers in
      let count = watched.same_many in
      let is = slice_get_at w.observers k (omega (arith, low, many)) in
      let was = slice_get_at w.given k (omega (arith, low, many, count)) in
      let nothing : was.0.looks ≡ [] = together.unwatched k was.0 was.1 in
      let since : is.0.looks ≡ was.0.looks ++ found_at w.rounds k = (watched.each k was.0 is.0 was.1 is.1).1 in
      let same : is.0.looks ≡ found_at w.rounds k =
      since ∙ ap (λ (looks : List (ℕ × Record)). looks ++ found_at w.rounds k) nothing in
      subst (λ (looks : List (ℕ × Record)). FitsPage (page_at journals k) looks) same (closed.watched k is.0 is.1)

  many_looks : (r : ℕ) (round : List Look) → slice_get w.rounds r ≡ Some round → length round ≡ threads_of_table table
  many_looks r round at = watched.one_each r round at ∙ sym watched.same_many ∙ many_watchers

  pub are_watched : AreWatched table journals w.rounds
  are_watched = record {
    rounds = many_looks;
    fit = λ k. ⊎_elim
        (λ low. found_fits k low)
        (λ past. subst (λ (looks : List (ℕ × Record)). FitsPage (page_at journals k) looks) (sym (none_found w.rounds k (threads_of_table table) many_looks past)) tt)
        (cases_lt k (threads_of_table table));
  }

  pub are_of_one_run : FittingLooksArePublications → AreOfOneRunBy s.policy table s.history journals
  are_of_one_run law = record {
    legal = legal;
    count = many_journals;
    kept = kept_journals;
    looks = law s.history journals looks_fit;
    first = taken_first;
  }

  -- each thread made all its turns
  made_turns : (arrivals : Arrivals) → HaveMade arrivals (length arrivals.turns) workers → (k : ℕ) → k < threads_of_table table →
      AreTurns (turns_given arrivals.requests arrivals.turns k) [] (journal_at journals k)
  made_turns arrivals made k low =
      let many = many_workers in
      let worker = slice_get_at workers k (omega (arith, low, many)) in
      let its : AreTurns (take (length arrivals.turns) (turns_given arrivals.requests arrivals.turns k)) [] worker.0.thread.journal = (made k worker.0 worker.1).turns in
      let own : journal_at journals k ≡ worker.0.thread.journal =
      ap (λ (js : List (List Entry)). journal_at js k) closed.same ∙ get_or_from_slice_get (map (λ (w : Worker). w.thread.journal) workers) k worker.0.thread.journal [] (journal_of_worker workers k worker.0 worker.1) in
      let turns = turns_given arrivals.requests arrivals.turns k in
      let all : take (length arrivals.turns) turns ≡ turns = ap (λ (n : ℕ). take n turns) (sym (many_turns arrivals.requests k 0 arrivals.turns)) ∙ take-length turns in
      subst (λ (journal : List Entry). AreTurns turns [] journal) (sym own) (subst (λ (given : List Given). AreTurns given [] worker.0.thread.journal) all its)

  pub is_run : (arrivals : Arrivals) (events : List Event) → FitsTable table arrivals → HasPassed arrivals (length arrivals.passes) s → HaveMade arrivals (length arrivals.turns) workers →
      length w.rounds ≡ rounds_of arrivals → IsLinearisedBy s.policy table s.history journals w.rounds events → events ≡ linear s.history journals w.rounds → GivenStandOnce →
      IsRunBy s.policy table arrivals (record { history = s.history; journals = journals; left = lefts; events = events; watched = w.rounds })
  is_run arrivals events fits passed made rounds linearised ordered law =
      let outcome : Outcome = record { history = s.history; journals = journals; left = lefts; events = events; watched = w.rounds } in
      record {
        passes = passed ∙ take-length arrivals.passes;
        threads = many_journals;
        turns = made_turns arrivals made;
        kept = kept_journals;
        rounds = rounds;
        looks = looks_fit;
        watched = are_watched;
        taken = taken_first;
        events = linearised;
        order = ordered;
        lefts = closed.count ∙ many_workers;
        account = closed.account;
        once = law table arrivals outcome fits many_journals (made_turns arrivals made) closed.account;
      }
