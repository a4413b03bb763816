-- The clocks of a run that is made: how great they are, and that they never fall.
use Rattle.cal_load.proofs.Common.{◌≡◌, ◌<◌, ◌≤◌, ◌+◌, ◌*◌, ℕ, List, length, Some, slice_get, ap, arith, slice_get_within, IsTiming, ArePassesOf, AreTurnsOf, Timing, EachLater, Each, IsWord, GivenPass}
use Rattle.std.proofs.Math.Nat.{mul-le-mul, mul-le-mul_left}
use Rattle.cal_trace.specs.Arrivals.Text.{HasPassWords}
use Rattle.cal_trace.specs.Limits.{most_turns-is}

-- a whole number of turns is no more than all of them
pub clock_small : (timing : Timing) (k : ℕ) → IsTiming timing → k < timing.turns → timing.ticks * (k + 1) ≤ 1000000000 * 174762
clock_small timing k is lt =
    let turns = is.most_turns in
    let within : k + 1 ≤ 174762 = omega (arith, turns, lt, most_turns-is) in
    let few : timing.ticks ≤ 1000000000 = is.most_ticks in
    mul-le-mul few within

clock_some : (timing : Timing) (k : ℕ) → IsTiming timing → 1 ≤ timing.ticks * (k + 1)
clock_some timing k is =
    let one : 1 ≤ k + 1 = omega arith in
    let some : 1 * 1 ≤ timing.ticks * (k + 1) = mul-le-mul is.some_ticks one in
    omega (arith, some)

clock_rises : (timing : Timing) (i j : ℕ) → i < j → timing.ticks * (i + 1) ≤ timing.ticks * (j + 1)
clock_rises timing i j lt = mul-le-mul_left timing.ticks (omega arith)

-- a place that there is
place : {X : Type 0} (xs : List X) (k : ℕ) (x : X) → slice_get xs k ≡ Some x → k < length xs
place xs k x e = slice_get_within xs k x e

pub pass_words : (timing : Timing) (passes : List GivenPass) → IsTiming timing → ArePassesOf timing passes → Each HasPassWords passes
pass_words timing passes is are = record {
  at = λ k pass e.
      let long = are.long in
      let lt : k < timing.turns = omega (arith, long, place passes k pass e) in
      let small = clock_small timing k is lt in
      let now : pass.now ≡ timing.ticks * (k + 1) = ap (λ (p : GivenPass). p.now) (are.each k pass e) in
      let figure : pass.bandwidth ≡ 0 = ap (λ (p : GivenPass). p.bandwidth) (are.each k pass e) in
      (omega (arith, small, now), omega (arith, figure));
}

pub turn_words : (timing : Timing) (turns : List ℕ) → IsTiming timing → AreTurnsOf timing turns → Each IsWord turns
turn_words timing turns is are = record {
  at = λ k now e.
      let long = are.long in
      let ticks = is.most_ticks in
      let lt : k < timing.turns = omega (arith, long, place turns k now e) in
      let small = clock_small timing k is lt in
      let clock = are.each k now e in
      omega (arith, small, clock, ticks);
}

pub clocks_some : (timing : Timing) (turns : List ℕ) → IsTiming timing → AreTurnsOf timing turns → Each (λ now. 1 ≤ now) turns
clocks_some timing turns is are = record { at = λ k now e. let some = clock_some timing k is in let clock = are.each k now e in omega (arith, some, clock) }

pub clocks_rise : (timing : Timing) (turns : List ℕ) → AreTurnsOf timing turns → EachLater (λ now later. now ≤ later) turns
clocks_rise timing turns are = record {
  at = λ i j now later lt e f.
      let rises = clock_rises timing i j lt in
      let first = are.each i now e in
      let second = are.each j later f in
      omega (arith, rises, first, second);
}
