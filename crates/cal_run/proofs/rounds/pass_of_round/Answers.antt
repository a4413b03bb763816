use Rattle.cal_run.proofs.Common.{◌≡◌, length, List, false, true, ap, arith, nat_lt, nat_tests, GivenPass}
use Rattle.cal_run.proofs.rounds.pass_of_round.Goals as goal

pub returns-then-r-as_slice-clause-ordered : goal.returns-then-r-as_slice-clause-ordered
returns-then-r-as_slice-clause-ordered g c = λ made held.
    let many = ap (λ (l : List GivenPass). length l) c.as_slice.ensures in
    let test = c.if-r-as_slice.true in
    let none : nat_lt c.args.r (length c.args.arrivals.now.passes) ≡ false = grind (arith, nat_tests, many, test) in
    rw none held

pub returns-clause-ordered : goal.returns-clause-ordered
returns-clause-ordered g c = λ made held.
    let many = ap (λ (l : List GivenPass). length l) c.as_slice.ensures in
    let test = c.if-r-as_slice.false in
    let some : nat_lt c.args.r (length c.args.arrivals.now.passes) ≡ true = grind (arith, nat_tests, many, test) in
    rw some (c.make_pass.ensures.ordered made held)
