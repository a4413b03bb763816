-- Passes, turns and requests, put together as arrivals.
use Rattle.cal_load.proofs.Common.{◌≡◌, ◌∙◌, ◌<◌, ◌≤◌, ◌+◌, ◌*◌, ℕ, List, Some, length, get_or, slice_get, sym, subst, arith, slice_get-get_or, AreBuilt, Came, IsTiming, ArePassesOf, AreTurnsOf, clock_to, turn_clock, Timing, Table, threads_in, IsArrival, FitsTable, Each, Arrival, GivenPass}
use Rattle.std.proofs.Math.Nat.{mul-le-mul_left}
use Rattle.cal_came.specs.Came.{clock_of}
use Rattle.cal_trace.specs.Arrivals.Text.{AreSpelled}
use Rattle.cal_trace.specs.declared.arrivals.Arrivals.{Arrivals}
use Rattle.cal_load.proofs.ClockLemmas.{pass_words, turn_words, clocks_some, clocks_rise}

abbrev pub assembled : List GivenPass → List ℕ → List Arrival → Arrivals
assembled passes turns requests = record { passes = passes; turns = turns; requests = requests }

pub assembled_fits : (table : Table) (timing : Timing) (thread : ℕ) (passes : List GivenPass) (turns : List ℕ) (requests : List Arrival) → IsTiming timing → ArePassesOf timing passes
    → AreTurnsOf timing turns → AreBuilt (threads_in table.tasks) timing.turns thread requests → FitsTable table (assembled passes turns requests)
assembled_fits table timing thread passes turns requests is of_passes of_turns built =
    let most = is.most_turns in
    let long = of_passes.long in
    let many = of_turns.long in
    record {
      few_passes = omega (arith, most, long);
      few_turns = omega (arith, most, many);
      clocks = clocks_some timing turns is of_turns;
      never_fall = clocks_rise timing turns of_turns;
      each = subst (λ (n : ℕ). Each (IsArrival (threads_in table.tasks) n) requests) (sym many) built.each;
      rising = built.rising;
      once = built.once;
    }

pub assembled_spelled : (threads : ℕ) (timing : Timing) (thread : ℕ) (passes : List GivenPass) (turns : List ℕ) (requests : List Arrival) → IsTiming timing → ArePassesOf timing passes
    → AreTurnsOf timing turns → AreBuilt threads timing.turns thread requests → AreSpelled (assembled passes turns requests)
assembled_spelled threads timing thread passes turns requests is of_passes of_turns built = record {
  passes = pass_words timing passes is of_passes;
  turns = turn_words timing turns is of_turns;
  ids = record { at = λ k a e. (built.ids.at k a e).1 };
}

-- the clock of a turn that there is
clock_is : (timing : Timing) (turns : List ℕ) (turn : ℕ) → AreTurnsOf timing turns → turn < timing.turns → get_or turns turn 0 ≡ turn_clock timing turn
clock_is timing turns turn of_turns lt =
    let long = of_turns.long in
    let within : turn < length turns = omega (arith, lt, long) in
    of_turns.each turn (get_or turns turn 0) (slice_get-get_or turns turn 0 within)

clock_to_is : (timing : Timing) (turn : ℕ) → turn < timing.turns → clock_to timing turn ≡ turn_clock timing turn
clock_to_is timing turn lt = grind (arith, lt)

-- a request that came to its turn or one before it came at the clock of that
pub came_at_turn : (table : Table) (timing : Timing) (thread : ℕ) (turns : List ℕ) (requests : List Arrival) (arrival : Arrival) (i : ℕ) (one : Came)
    → AreTurnsOf timing turns → AreBuilt (threads_in table.tasks) timing.turns thread requests → slice_get requests i ≡ Some arrival → one.turn ≤ arrival.turn
    → one.clock ≡ clock_to timing one.turn → one.clock ≡ get_or turns one.turn 0
came_at_turn table timing thread turns requests arrival i one of_turns built at le clock =
    let own = (built.each.at i arrival at).turn in
    let within : one.turn < timing.turns = omega (arith, own, le) in
    clock ∙ clock_to_is timing one.turn within ∙ sym (clock_is timing turns one.turn of_turns within)

-- and that is not after the clock of its turn
pub came_before : (table : Table) (timing : Timing) (thread : ℕ) (turns : List ℕ) (requests : List Arrival) (arrival : Arrival) (i : ℕ) (one : Came)
    → AreTurnsOf timing turns → AreBuilt (threads_in table.tasks) timing.turns thread requests → slice_get requests i ≡ Some arrival → one.turn ≤ arrival.turn
    → one.clock ≡ clock_to timing one.turn → one.clock ≤ clock_of turns arrival
came_before table timing thread turns requests arrival i one of_turns built at le clock =
    let own = (built.each.at i arrival at).turn in
    let within : one.turn < timing.turns = omega (arith, own, le) in
    let is : one.clock ≡ turn_clock timing one.turn = clock ∙ clock_to_is timing one.turn within in
    let rises : timing.ticks * (one.turn + 1) ≤ timing.ticks * (arrival.turn + 1) = mul-le-mul_left timing.ticks (omega (arith, le)) in
    let early : one.clock ≤ turn_clock timing arrival.turn = omega (arith, is, rises) in
    subst (λ (n : ℕ). one.clock ≤ n) (sym (clock_is timing turns arrival.turn of_turns (omega (arith, own)))) early
