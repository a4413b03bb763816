use Rattle.cal_run.proofs.Common.{◌≡◌, ℕ, ◌+◌, length, min, List, false, true, ap, arith, nat_lt, nat_tests}
use Rattle.cal_run.proofs.RoundsLemmas.Rounds.{turns_counted}
use Rattle.cal_run.proofs.rounds.turns_of_round.Goals as goal

pub returns-then-r-as_slice-clause-made : goal.returns-then-r-as_slice-clause-made
returns-then-r-as_slice-clause-made g c =
    let many = ap (λ (l : List ℕ). length l) c.as_slice.ensures in
    turns_counted c.args.arrivals.now c.args.workers.now (min c.args.r (length c.args.arrivals.now.turns)) (min (c.args.r + 1) (length c.args.arrivals.now.turns)) (omega (arith, many, c.if-r-as_slice.true)) c.requires.made

pub turn_each-requires-clause-made : goal.turn_each-requires-clause-made
turn_each-requires-clause-made g c =
    let many = ap (λ (l : List ℕ). length l) c.as_slice.ensures in
    turns_counted c.args.arrivals.now c.args.workers.now (min c.args.r (length c.args.arrivals.now.turns)) c.args.r (omega (arith, many, c.if-r-as_slice.false)) c.requires.made

pub returns-clause-made : goal.returns-clause-made
returns-clause-made g c =
    let many = ap (λ (l : List ℕ). length l) c.as_slice.ensures in
    turns_counted c.args.arrivals.now c.turn_each.new.workers (c.args.r + 1) (min (c.args.r + 1) (length c.args.arrivals.now.turns)) (omega (arith, many, c.if-r-as_slice.false)) c.in_ok-turn_each.ensures.made

pub returns-then-r-as_slice-clause-ordered : goal.returns-then-r-as_slice-clause-ordered
returns-then-r-as_slice-clause-ordered g c = λ made held.
    let many = ap (λ (l : List ℕ). length l) c.as_slice.ensures in
    let test = c.if-r-as_slice.true in
    let none : nat_lt c.args.r (length c.args.arrivals.now.turns) ≡ false = grind (arith, nat_tests, many, test) in
    rw none held

pub returns-clause-ordered : goal.returns-clause-ordered
returns-clause-ordered g c = λ made held.
    let many = ap (λ (l : List ℕ). length l) c.as_slice.ensures in
    let test = c.if-r-as_slice.false in
    let some : nat_lt c.args.r (length c.args.arrivals.now.turns) ≡ true = grind (arith, nat_tests, many, test) in
    rw some (c.in_ok-turn_each.ensures.ordered made held)
