use Rattle.cal_paced.proofs.Common.{◌≡◌, ◌<◌, ◌≤◌, ◌+◌, ◌*◌, ◌++◌, ℕ, List, Some, length, map, get_or, subst, arith, slice_index, slice_get, set, slice_get-get_or, has, entries_of, Entry, then_turns, request_at, turns_given, Worker, all-turns, no-turns, one-turn, all_turned, may_turn, none_turned, one_turned, IsTurnBy, share}
use Rattle.cal_kthread.specs.declared.kernel_thread.TheConstants.{MOST_ENTRIES}
use Rattle.cal_trace.specs.declared.arrivals.reading.TheConstants.{MOST_TURNS}
use Rattle.cal_run.proofs.CollectorLemmas.Few.{few_entries}
use Rattle.cal_run.proofs.CollectorLemmas.Journals.{journal_at_place, journals_after}
use Rattle.cal_paced.proofs.Turning.{StoodUpTo, all-stood, none-stood, nothing-at, one-stood, set-same, turn-by-nobody}
use Rattle.cal_paced.proofs.rounds.whole_turns.Goals as goal

pub loop-k-init : goal.loop-k-init
loop-k-init g c = record {
  turned = none_turned c.args.given.now c.args.r c.args.workers.now c.requires.made;
  stood = λ plan nobody. none-stood plan c.args.given.now c.args.r c.args.workers.now c.args.keeping.now.saved.items;
  suits = λ table held. held;
  collected = λ history held. held;
  ordered = λ made held. no-turns made (λ l. g.C.Collector.met c.args.collector.now l) held;
}

pub turn_on-requires-clause-made : goal.turn_on-requires-clause-made
turn_on-requires-clause-made g c = may_turn _ _ c.loop-k.k _ c.loop-k.workers _ c.loop-k.invariant.turned (slice_get-get_or c.loop-k.workers c.loop-k.k c.index-workers-k.result
    (let a = c.loop-k-test.true in let b = c.loop-k.auto.workers in omega (arith, a, b)))

pub loop-k-preserved : goal.loop-k-preserved
loop-k-preserved g c =
    let workers = c.loop-k.workers in
    let before = c.args.workers.now in
    let k : ℕ = c.loop-k.k in
    let was = get_or workers k c.index-workers-k.result in
    let is = c.turn_on.new.self in
    let entries = c.in_ok-entries.entries in
    let low = c.loop-k-test.true in
    let many = c.loop-k.auto.workers in
    let at : slice_get workers k ≡ Some was = slice_get-get_or workers k c.index-workers-k.result (omega (arith, low, many)) in
    let made = c.in_ok-entries.ensures.made in
    let handed = c.in_ok-entries.ensures.handed in
    let given = c.args.given.now in
    let r : ℕ = c.args.r in
    let few : length is.thread.journal ≤ 5 * (r + 1) = few_entries c.turns_add_up.ensures (turns_given given.requests given.turns was.number) (r + 1) is.thread.journal made.turns in
    let some : r < length given.turns = c.requires.given in
    let most : length given.turns ≤ MOST_TURNS = c.requires.fits.1.few_turns in
    let fits : length is.thread.journal ≤ MOST_ENTRIES = omega arith in
    let P : List Entry → Type 0 = λ l. length l ≤ MOST_ENTRIES in
    let saved = c.args.keeping.now.saved.items in
    let told = c.in_ok-entries.ensures.turned in
    let number : was.number ≡ k = (c.loop-k.invariant.turned.left k was (omega arith) at).number in
    let zero_at : slice_get saved k ≡ Some 0 = nothing-at (length before) k saved c.requires.nothing (omega (arith, low)) in
    record {
      turned = one_turned given r k before workers _ is c.loop-k.invariant.turned at made c.turn_on.ensures.seat;
      stood = λ plan nobody.
          let T : ℕ → Type 0 = λ n. IsTurnBy (slice_index given.turns r) (request_at given.requests n r) (share plan (map (λ (w : Worker). w.thread) before) was.thread)
          (record { thread = was.thread; saved = 0 }) (record { thread = is.thread; saved = 0 }) in
          let turn = turn-by-nobody plan (map (λ (w : Worker). w.thread) before) (slice_index given.turns r) (request_at given.requests was.number r) (has c.args.keeping.now.all) told.0 was.thread is.thread nobody c.requires.cores told.1 told.2 in
          let S : List ℕ → Type 0 = λ l. StoodUpTo plan given r (k + 1) before (set workers k is) saved l in
          subst S (set-same saved k 0 zero_at) (one-stood plan given r k before workers saved saved was is 0 0 (c.loop-k.invariant.stood plan nobody) at zero_at (subst T number turn));
      suits = λ table held. c.in_ok-add_turn.ensures.suits table (c.loop-k.invariant.suits table held);
      collected = λ history held.
          let Q : List (List Entry) → Type 0 = λ l. g.C.Collector.holds c.add_turn.new.self history l in
          subst Q (journals_after workers k is (was.thread.journal ++ entries_of entries) handed)
          (c.in_ok-add_turn.ensures.collected history _ was.thread.journal (c.loop-k.invariant.collected history held) (journal_at_place workers k was at) (subst P handed fits));
      ordered = λ made held. one-turn k made (λ l. g.C.Collector.met c.add_turn.new.self l) (c.in_ok-add_turn.ensures.ordered (then_turns k made) (c.loop-k.invariant.ordered made held));
    }

pub returns-clause-made : goal.returns-clause-made
returns-clause-made g c = all_turned c.args.given.now c.args.r c.loop-k.k c.args.workers.now c.loop-k.workers c.loop-k.invariant.turned
    (let a = c.loop-k-test.false in let b = c.loop-k.auto.workers in omega (arith, a, b))

pub returns-clause-shares : goal.returns-clause-shares
returns-clause-shares g c plan nobody =
    all-stood plan c.args.given.now c.args.r c.loop-k.k c.args.workers.now c.loop-k.workers c.args.keeping.now.saved.items c.args.keeping.now.saved.items c.requires.kept (c.loop-k.invariant.stood plan nobody)
    (let a = c.loop-k-test.false in let b = c.loop-k.auto.workers in omega (arith, a, b))

pub returns-clause-suits : goal.returns-clause-suits
returns-clause-suits g c = c.loop-k.invariant.suits

pub returns-clause-ordered : goal.returns-clause-ordered
returns-clause-ordered g c = λ made held.
    all-turns c.loop-k.k (length c.args.workers.now) made (λ l. g.C.Collector.met c.loop-k.collector l) (c.loop-k.invariant.ordered made held)
    (let a = c.loop-k-test.false in let b = c.loop-k.auto.workers in omega (arith, a, b))
