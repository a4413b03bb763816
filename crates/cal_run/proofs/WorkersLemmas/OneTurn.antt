-- A turn of a thread, of those that it is given.
use Rattle.cal_run.proofs.Common.{◌≡◌, ℕ, ◌+◌, ◌*◌, ◌<◌, ◌≤◌, List, [], take, length, Some, sym, ap, subst, ◌∙◌, arith, Option, slice_get, take_next, Request, last_published, record_in, records_of, AreTurns, Given, IsOneTurn, OneTurnMore, TurnsAddUp, Arrivals, request_at, turns_given, FitSomeTable, HasMade, IsNext, Worker}
use Rattle.cal_kthread.proofs.JournalLemmas.OneEntryMore.{length-filter_map}
use Rattle.cal_trace.specs.declared.arrivals.reading.TheConstants.{MOST_TURNS}
use Rattle.cal_run.proofs.CollectorLemmas.Few.{few_entries}
use Rattle.cal_run.proofs.WorkersLemmas.GivenTurns.{given_at}

-- a page has places for all turns
pub has_room : TurnsAddUp → (arrivals : Arrivals) (worker : Worker) (j : ℕ) → FitSomeTable arrivals → j < length arrivals.turns → HasMade arrivals worker.number j worker
    → length (records_of worker.thread.journal) ≤ 5 * MOST_TURNS
has_room add_up arrivals worker j fits given made =
    let journal = worker.thread.journal in
    let few : length journal ≤ 5 * j = few_entries add_up (turns_given arrivals.requests arrivals.turns worker.number) j journal made.turns in
    let records : length (records_of journal) ≤ length journal = length-filter_map record_in journal in
    let most : length arrivals.turns ≤ MOST_TURNS = fits.1.few_turns in
    omega (arith, few, records, given, most)

-- it made one turn more of those that it is given
pub made_more : OneTurnMore → (arrivals : Arrivals) (was is : Worker) (j now : ℕ) (request : Option Request) → FitSomeTable arrivals → slice_get arrivals.turns j ≡ Some now
    → request ≡ request_at arrivals.requests was.number j → HasMade arrivals was.number j was → is.number ≡ was.number → IsOneTurn now request was.thread.journal is.thread.journal
    → IsNext arrivals.requests was.number (j + 1) is.next → (last_published is.thread.thread.publisher.published).stamp ≡ now → HasMade arrivals was.number (j + 1) is
made_more one_more arrivals was is j now request fits at came made number added next stamped =
    let k = was.number in
    let given = turns_given arrivals.requests arrivals.turns k in
    let zero_on : 0 + j ≡ j = omega arith in
    let this : slice_get given j ≡ Some (now, request) =
    given_at arrivals.requests k 0 j now arrivals.turns at ∙ ap (λ n. Some (now, request_at arrivals.requests k n)) zero_on ∙ ap (λ r. Some (now, r)) (sym came) in
    let P : List Given → Type 0 = λ turns. AreTurns turns [] is.thread.journal in
    record {
      number = number;
      turns = subst P (sym (take_next given j (now, request) this)) (one_more (take j given) now request [] was.thread.journal is.thread.journal made.turns added);
      next = next;
      stamp = λ i clock le e.
          let P : ℕ → Type 0 = λ n. n ≤ clock in
          subst P (sym stamped) (fits.1.never_fall.at j i now clock (omega (arith, le)) at e);
    }
