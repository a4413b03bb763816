use Rattle.cal_paced.proofs.Common.{◌≡◌, ◌+◌, ◌*◌, ℕ, refl, subst, sym, ◌∙◌, arith, mul_comm, then_passes, HasPassed, SchedulerSeat, all-passes, no-passes, one-pass}
use Rattle.cal_paced.proofs.Rounding.{times-next}
use Rattle.cal_paced.proofs.rounds.make_passes.Goals as goal

pub loop-p-init : goal.loop-p-init
loop-p-init g c = record {
  suits = c.requires.suits;
  passed = let P : ℕ → Type 0 = λ n. HasPassed c.args.given.now n c.args.scheduler.now in subst P (mul_comm c.args.pace c.args.r) c.requires.passed;
  seat = refl;
  collected = λ journals held. held;
  ordered = (0, omega (arith), λ made held. no-passes made (λ l. g.C.Collector.met c.args.collector.now l) held);
}

pub make_pass-requires-clause-suits : goal.make_pass-requires-clause-suits
make_pass-requires-clause-suits g c =
    let P : SchedulerSeat → Type 0 = λ s. g.C.Collector.suits c.loop-p.collector s.table in
    subst P (sym c.loop-p.invariant.seat) c.loop-p.invariant.suits

pub loop-p-preserved : goal.loop-p-preserved
loop-p-preserved g c =
    let P : SchedulerSeat → Type 0 = λ s. g.C.Collector.suits c.make_pass.new.self s.table in
    record {
      suits = subst P c.loop-p.invariant.seat c.in_ok-make_pass.ensures.suits;
      passed = c.in_ok-make_pass.ensures.passed;
      seat = c.make_pass.ensures.seat ∙ c.loop-p.invariant.seat;
      collected = λ journals held. c.in_ok-make_pass.ensures.collected journals (c.loop-p.invariant.collected journals held);
      ordered =
          let so_far = c.loop-p.invariant.ordered in
          let at = so_far.1 in
          (so_far.0 + 1, omega (arith, at), λ made held. one-pass so_far.0 made (λ l. g.C.Collector.met c.make_pass.new.self l) (c.in_ok-make_pass.ensures.ordered (then_passes so_far.0 made) (so_far.2 made held)));
    }

pub returns-clause-suits : goal.returns-clause-suits
returns-clause-suits g c = c.loop-p.invariant.suits

pub returns-clause-passed : goal.returns-clause-passed
returns-clause-passed g c =
    let end = c.loop-p-test.false in
    let high = c.loop-p.auto.p-end in
    let more = times-next c.args.pace c.args.r in
    let turned = mul_comm c.args.pace c.args.r in
    let all : c.loop-p.p ≡ c.args.pace * (c.args.r + 1) = omega (arith, end, high, more, turned) in
    let P : ℕ → Type 0 = λ n. HasPassed c.args.given.now n c.loop-p.scheduler in
    subst P all c.loop-p.invariant.passed

pub returns-clause-collected : goal.returns-clause-collected
returns-clause-collected g c = c.loop-p.invariant.collected

pub returns-clause-ordered : goal.returns-clause-ordered
returns-clause-ordered g c = λ made held.
    let so_far = c.loop-p.invariant.ordered in
    let at = so_far.1 in
    let end = c.loop-p-test.false in
    let high = c.loop-p.auto.p-end in
    all-passes so_far.0 c.args.pace made (λ l. g.C.Collector.met c.loop-p.collector l) (so_far.2 made held) (omega (arith, at, end, high))
