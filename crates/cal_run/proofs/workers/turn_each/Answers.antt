use Rattle.cal_run.proofs.Common.{◌≡◌, ◌<◌, ◌≤◌, ◌+◌, ◌*◌, ◌++◌, ℕ, List, Some, length, get_or, arith, subst, slice_get, slice_get-get_or, Entry, then_turns, turns_given}
use Rattle.cal_kthread.specs.Turn.Entries.{entries_of}
use Rattle.cal_kthread.specs.declared.kernel_thread.TheConstants.{MOST_ENTRIES}
use Rattle.cal_trace.specs.declared.arrivals.reading.TheConstants.{MOST_TURNS}
use Rattle.cal_run.proofs.CollectorLemmas.Few.{few_entries}
use Rattle.cal_run.proofs.CollectorLemmas.Order.{all-turns, no-turns, one-turn}
use Rattle.cal_run.proofs.CollectorLemmas.Journals.{journal_at_place, journals_after}
use Rattle.cal_run.proofs.WorkersLemmas.Turns.{all_turned, may_turn, none_turned, one_turned}
use Rattle.cal_run.proofs.workers.turn_each.Goals as goal

pub loop-k-init : goal.loop-k-init
loop-k-init g c = record {
  turned = none_turned c.args.arrivals.now c.args.j c.args.workers.now c.requires.made;
  suits = λ table held. held;
  collected = λ history held. held;
  wrote = λ first history held. held;
  same = λ first held. held;
  ordered = λ made held. no-turns made (λ l. g.C.Collector.met c.args.collector.now l) held;
}

pub turn-requires-clause-made : goal.turn-requires-clause-made
turn-requires-clause-made g c = may_turn _ _ c.loop-k.k _ c.loop-k.workers _ c.loop-k.invariant.turned (slice_get-get_or c.loop-k.workers c.loop-k.k c.index-workers-k.result
    (let a = c.loop-k-test.true in let b = c.loop-k.auto.workers in omega (arith, a, b)))

pub loop-k-preserved : goal.loop-k-preserved
loop-k-preserved g c =
    let workers = c.loop-k.workers in
    let k : ℕ = c.loop-k.k in
    let was = get_or workers k c.index-workers-k.result in
    let is = c.turn.new.self in
    let entries = c.in_ok-entries.entries in
    let low = c.loop-k-test.true in
    let many = c.loop-k.auto.workers in
    let at : slice_get workers k ≡ Some was = slice_get-get_or workers k c.index-workers-k.result (omega (arith, low, many)) in
    let made = c.in_ok-entries.ensures.made in
    let handed = c.in_ok-entries.ensures.handed in
    let arrivals = c.args.arrivals.now in
    let j : ℕ = c.args.j in
    let few : length is.thread.journal ≤ 5 * (j + 1) = few_entries c.turns_add_up.ensures (turns_given arrivals.requests arrivals.turns was.number) (j + 1) is.thread.journal made.turns in
    let given : j < length arrivals.turns = c.requires.given in
    let most : length arrivals.turns ≤ MOST_TURNS = c.requires.fits.1.few_turns in
    let fits : length is.thread.journal ≤ MOST_ENTRIES = omega arith in
    let P : List Entry → Type 0 = λ l. length l ≤ MOST_ENTRIES in
    record {
      turned = one_turned arrivals j k c.args.workers.now workers _ is c.loop-k.invariant.turned at made c.turn.ensures.seat;
      suits = λ table held. c.in_ok-add_turn.ensures.suits table (c.loop-k.invariant.suits table held);
      collected = λ history held.
          let Q : List (List Entry) → Type 0 = λ l. g.C.Collector.holds c.add_turn.new.self history l in
          subst Q (journals_after workers k is (was.thread.journal ++ entries_of entries) handed)
          (c.in_ok-add_turn.ensures.collected history _ was.thread.journal (c.loop-k.invariant.collected history held) (journal_at_place workers k was at) (subst P handed fits));
      wrote = λ first history held. c.add_turn.ensures.wrote first history (c.loop-k.invariant.wrote first history held);
      same = λ first held. c.add_turn.ensures.same first (c.loop-k.invariant.same first held);
      ordered = λ made held. one-turn k made (λ l. g.C.Collector.met c.add_turn.new.self l) (c.in_ok-add_turn.ensures.ordered (then_turns k made) (c.loop-k.invariant.ordered made held));
    }

pub returns-clause-made : goal.returns-clause-made
returns-clause-made g c = all_turned c.args.arrivals.now c.args.j c.loop-k.k c.args.workers.now c.loop-k.workers c.loop-k.invariant.turned
    (let a = c.loop-k-test.false in let b = c.loop-k.auto.workers in omega (arith, a, b))

pub returns-clause-suits : goal.returns-clause-suits
returns-clause-suits g c = c.loop-k.invariant.suits

pub returns-clause-ordered : goal.returns-clause-ordered
returns-clause-ordered g c = λ made held.
    all-turns c.loop-k.k (length c.args.workers.now) made (λ l. g.C.Collector.met c.loop-k.collector l) (c.loop-k.invariant.ordered made held)
    (let a = c.loop-k-test.false in let b = c.loop-k.auto.workers in let m = c.loop-k.invariant.turned in omega (arith, a, b))
