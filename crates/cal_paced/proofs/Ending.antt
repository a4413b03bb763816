-- What a paced run ends with.
use Rattle.cal_paced.proofs.Common.{◌≡◌, ℕ, zero, suc, ◌-◌, ◌*◌, ◌<◌, ◌≤◌, List, [], ◌∷◌, length, map, Some, refl, sym, ap, subst, ◌∙◌, arith, min, slice_index, slice_get, sum_by-cons, slice_get_within, Entry, Table, Policy, EachStandsOnce, IsRunBy, AreParts, HasPassed, MayBeEnded, rounds_of, journals_of, Parts, Worker, MayFollow, zero_record, Record, Arrivals, HaveFigures, figure_before, misses_at, shown_before, shown_in_turn, DifferFrom, IsMadeUpTo, misses_of_records, risen_before, standings_of, pass_of, ArePaced, IsPacedFor, IsPacedRunOf, AreFirstRounds, Standing, Given, Shown, Plan}
use Rattle.cal_kthread.specs.Journal.{IsJournal, records_of}
use Rattle.cal_linear.specs.Steps.{journal_at}
use Rattle.cal_run.specs.Outcome.Headline.{HeadlineBy}
use Rattle.cal_run.specs.declared.outcome.Outcome.{Outcome}
use Rattle.cal_signal.specs.Pages.{Chain}
use Rattle.cal_trace.specs.declared.arrivals.Arrival.{Arrival}
use Rattle.cal_paced.specs.declared.plan.Figure.{Figure}
use Rattle.cal_paced.proofs.Differing.{paced-still}
use Rattle.cal_paced.proofs.Evenly.{before-some}

-- the misses on a page never fall
chain-rises : (x : Record) (xs : List Record) (m : ℕ) → Chain MayFollow x xs → m < length xs
    → slice_index (map (λ (r : Record). r.misses) (x ∷ xs)) m ≤ slice_index (map (λ (r : Record). r.misses) (x ∷ xs)) (suc m)
chain-rises x [] m chain low = absurd (omega (arith, low))
chain-rises x (y ∷ ys) zero chain low = chain.0.0.1
chain-rises x (y ∷ ys) (suc m) chain low = chain-rises y ys m chain.1 (omega (arith, low))

rises : (journal : List Entry) (m : ℕ) → IsJournal journal → m < length (records_of journal) → misses_at journal m ≤ misses_at journal (suc m)
rises journal m kept low = chain-rises zero_record (records_of journal) m kept.page.1 low

-- so what their sum rose is the sum of what each rose
summed : (journals : List (List Entry)) (m : ℕ) → ((k : ℕ) (journal : List Entry) → slice_get journals k ≡ Some journal → misses_at journal m ≤ misses_at journal (suc m))
    → (misses_of_records journals m ≤ misses_of_records journals (suc m)) × (misses_of_records journals (suc m) - misses_of_records journals m ≡ shown_in_turn journals m)
summed [] m each = (omega arith, refl)
summed (j ∷ js) m each =
    let own = each 0 j refl in
    let rest = summed js m (λ k journal at. each (suc k) journal at) in
    let low = rest.0 in
    let same = rest.1 in
    let now = sum_by-cons (λ (journal : List Entry). misses_at journal (suc m)) j js in
    let was = sum_by-cons (λ (journal : List Entry). misses_at journal m) j js in
    let both = sum_by-cons (λ (journal : List Entry). misses_at journal (suc m) - misses_at journal m) j js in
    (omega (arith, own, low, now, was), omega (arith, own, low, same, now, was, both))

pub shown-is : (journals : List (List Entry)) (n j : ℕ) → ((k : ℕ) (journal : List Entry) → slice_get journals k ≡ Some journal → IsJournal journal)
    → ((k : ℕ) (journal : List Entry) → slice_get journals k ≡ Some journal → length (records_of journal) ≡ n) → j < n → risen_before journals j ≡ shown_before journals j
shown-is journals n zero kept count low = omega arith
shown-is journals n (suc j) kept count low =
    let back : suc j - 1 ≡ j = omega arith in
    ap (λ (m : ℕ). misses_of_records journals (suc j) - misses_of_records journals m) back
    ∙ (summed journals j (λ k journal at. rises journal j (kept k journal at) (let many = count k journal at in omega (arith, many, low)))).1

-- a journal by its place
at-place : (journals : List (List Entry)) (k : ℕ) (journal : List Entry) → slice_get journals k ≡ Some journal → journal_at journals k ≡ journal
at-place [] k journal at = absurd (cc)
at-place (j ∷ js) zero journal at = (let same : j ≡ journal = cc in same)
at-place (j ∷ js) (suc k) journal at = at-place js k journal at

-- journals of threads
worker-at : (workers : List Worker) (k : ℕ) (journal : List Entry) → slice_get (journals_of workers) k ≡ Some journal → (w : Worker) × (slice_get workers k ≡ Some w) × (w.thread.journal ≡ journal)
worker-at [] k journal at = absurd (cc)
worker-at (w ∷ ws) zero journal at = (w, refl, cc)
worker-at (w ∷ ws) (suc k) journal at = worker-at ws k journal at

journals-stand : (workers : List Worker) (saved : List ℕ) → length saved ≡ length workers → journals_of workers ≡ map (λ (standing : Standing). standing.thread.journal) (standings_of workers saved)
journals-stand [] [] same = refl
journals-stand [] (s ∷ ss) same = refl
journals-stand (w ∷ ws) [] same = absurd (omega (arith, same))
journals-stand (w ∷ ws) (s ∷ ss) same = ap (λ (l : List (List Entry)). w.thread.journal ∷ l) (journals-stand ws ss (omega (arith, same)))

-- the figures of the plan
with-figures : (plan : Plan) (figure : Figure) (arrivals given is : Arrivals) (journals : List (List Entry)) → plan.figure ≡ figure → IsPacedFor plan arrivals given
    → (plan.figure ≡ Given → is ≡ given) → (plan.figure ≡ Shown → HaveFigures plan.pace (shown_before journals) is.passes)
    → HaveFigures plan.pace (figure_before figure arrivals.passes journals) is.passes
with-figures plan Given arrivals given is journals by paced same shown =
    let P : Arrivals → Type 0 = λ a. HaveFigures plan.pace (figure_before Given arrivals.passes []) a.passes in
    subst P (sym (same by)) (paced.figures by)
with-figures plan Shown arrivals given is journals by paced same shown = shown by

-- a run on paced arrivals whose rounds led to its parts is a paced run
pub paced-run : (policy : Policy) (table other : Table) (plan : Plan) (arrivals given is : Arrivals) (parts : Parts) (saved : List ℕ) (misses : ℕ) (outcome : Outcome)
    → IsPacedFor plan arrivals given → DifferFrom 0 given is → (plan.figure ≡ Given → is ≡ given) → IsMadeUpTo (length is.turns) plan other is parts saved misses
    → outcome.journals ≡ journals_of parts.workers.items → IsRunBy policy table is outcome → HeadlineBy policy table outcome → IsPacedRunOf policy table plan arrivals is outcome
paced-run policy table other plan arrivals given is parts saved misses outcome paced differ same made own run headline = record {
  paced = still;
  figures = with-figures plan plan.figure arrivals given is outcome.journals refl paced same shown;
  run = run;
  headline = headline;
  once = let P : List Arrival → Type 0 = λ l. EachStandsOnce (record arrivals { requests = l }) outcome in
      subst P still.requests (record { given = run.once.given; others = run.once.others });
  rounds = made.shares.0;
  shares = let turns = still.turns in let requests = still.requests in
      let alike : ◌≡◌ {A = Arrivals} (record is { passes = arrivals.passes }) arrivals = (λ i. record { passes = arrivals.passes; turns = turns i; requests = requests i }) in
      let P : Arrivals → Type 0 = λ a. AreFirstRounds plan a (length a.turns) made.shares.0 in
      subst P alike (record {
        many = made.shares.1.many;
        first = made.shares.1.first;
        each = λ j was after at there. (let round = made.shares.1.each j was after at there in record { many = round.many; each = round.each });
      });
  journals = λ threads at.
      let Q : ℕ → Type 0 = λ n. slice_get made.shares.0 n ≡ Some threads in
      let both = sym made.shares.2 ∙ subst Q (sym (ap (λ (l : List ℕ). length l) still.turns)) at in
      let last : standings_of parts.workers.items saved ≡ threads = cc in
      own ∙ journals-stand parts.workers.items saved made.kept ∙ ap (map (λ (standing : Standing). standing.thread.journal)) last;
}
  where
    still : ArePaced plan.pace arrivals is
    still = paced-still plan.pace 0 arrivals given is differ paced.paced

    kept : (k : ℕ) (journal : List Entry) → slice_get outcome.journals k ≡ Some journal → IsJournal journal
    kept k journal at = subst (λ (j : List Entry). IsJournal j) (at-place outcome.journals k journal at) (run.kept k)

    count : (k : ℕ) (journal : List Entry) → slice_get outcome.journals k ≡ Some journal → length (records_of journal) ≡ length is.turns
    count k journal at =
        let P : List (List Entry) → Type 0 = λ l. slice_get l k ≡ Some journal in
        let w = worker-at parts.workers.items k journal (subst P own at) in
        ap (λ (j : List Entry). length (records_of j)) (sym w.2) ∙ (made.shown k w.0 w.1).count

    shown : plan.figure ≡ Shown → HaveFigures plan.pace (shown_before outcome.journals) is.passes
    shown so j i pass within at =
        let low = slice_get_within is.passes (pass_of plan.pace j i) pass at in
        let many = differ.many ∙ paced.paced.clocks.many in
        let turns = ap (λ (l : List ℕ). length l) still.turns in
        let before : j < length is.turns = before-some plan.pace (length is.turns) j i
        (let row : plan.pace * length arrivals.turns ≡ plan.pace * length is.turns = ap (λ (n : ℕ). plan.pace * n) (sym turns) in omega (arith, low, many, row)) in
        let P : List (List Entry) → Type 0 = λ l. pass.bandwidth ≡ risen_before l j in
        subst P (sym own) (made.figures so j i pass before within at) ∙ shown-is outcome.journals (length is.turns) j kept count before

-- the parts after the last round
pub all-made : (plan : Plan) (table other : Table) (given : Arrivals) (parts : Parts) (saved : List ℕ) (misses r : ℕ) → length given.passes ≡ plan.pace * length given.turns
    → other ≡ table → min (length given.passes) parts.watch.most ≡ r → IsMadeUpTo (length given.turns) plan other given parts saved misses
    → AreParts table given (length given.passes) (length given.turns) r parts
all-made plan table other given parts saved misses r many same rounds made =
    let P : Table → Type 0 = λ t. AreParts t given (length given.passes) (length given.turns) r parts in
    let Q : ℕ → Type 0 = λ n. HasPassed given n parts.scheduler in
    subst P same (record {
      together = made.are.together;
      passes = subst Q (sym many) made.are.passes;
      turns = made.are.turns;
      rounds = let was = made.are.rounds in was ∙ ap (λ (n : ℕ). min n parts.watch.most) (sym many) ∙ rounds;
    })

-- may be ended: where all rounds of the watch were made, and where none was
pub ended : (table : Table) (given : Arrivals) (parts : Parts) → AreParts table given (length given.passes) (length given.turns) (rounds_of given) parts → MayBeEnded table given parts
ended table given parts are = record {
  are = record { together = are.together; passes = are.passes; turns = are.turns; rounds = refl };
  few = let all = are.rounds in omega (arith, all);
}

pub may-be-ended : (table : Table) (given : Arrivals) (parts : Parts) → AreParts table given (length given.passes) (length given.turns) 0 parts → MayBeEnded table given parts
may-be-ended table given parts are = record {
  are = record { together = are.together; passes = are.passes; turns = are.turns; rounds = refl };
  few = let none = are.rounds in omega (arith, none);
}
