use Rattle.std.proofs.Common.{◌≡◌, ◌+◌, ℕ, List, ap, length, min, subst, sym, take, arith}
use Rattle.cal_policy.specs.declared.history.entry.PassEntry.{PassEntry}
use Rattle.cal_trace.specs.declared.arrivals.GivenPass.{GivenPass}
use Rattle.cal_replay.specs.Parts.{AreGivenPasses}
use Rattle.cal_replay.specs.Passes.{HasReplayed}
use Rattle.cal_replay.proofs.lockstep.pass_of_round.Goals as goal

pub returns-then-r-as_slice-clause-replayed : goal.returns-then-r-as_slice-clause-replayed
returns-then-r-as_slice-clause-replayed c =
    let many = ap (λ (l : List GivenPass). length l) c.as_slice.ensures in
    let p = length c.args.arrivals.now.passes in
    let past = c.if-r-as_slice.true in
    let same : min c.args.r p ≡ min (c.args.r + 1) p = omega (arith, many, past) in
    subst (λ (n : ℕ). HasReplayed c.args.config.now (take n c.args.history.now) c.args.replayer.now) same c.requires.replayed

pub returns-then-r-as_slice-clause-given : goal.returns-then-r-as_slice-clause-given
returns-then-r-as_slice-clause-given c =
    let many = ap (λ (l : List GivenPass). length l) c.as_slice.ensures in
    let p = length c.args.arrivals.now.passes in
    let past = c.if-r-as_slice.true in
    let same : min c.args.r p ≡ min (c.args.r + 1) p = omega (arith, many, past) in
    subst (λ (n : ℕ). AreGivenPasses c.args.arrivals.now n (take n c.args.history.now)) same c.requires.given

pub pass_of-requires-clause-replayed : goal.pass_of-requires-clause-replayed
pass_of-requires-clause-replayed c =
    let many = ap (λ (l : List GivenPass). length l) c.as_slice.ensures in
    let low = c.if-r-as_slice.false in
    let same : min c.args.r (length c.args.arrivals.now.passes) ≡ c.args.r = omega (arith, many, low) in
    subst (λ (n : ℕ). HasReplayed c.args.config.now (take n c.args.history.now) c.args.replayer.now) same c.requires.replayed

pub pass_of-requires-clause-given : goal.pass_of-requires-clause-given
pass_of-requires-clause-given c =
    let many = ap (λ (l : List GivenPass). length l) c.as_slice.ensures in
    let low = c.if-r-as_slice.false in
    let same : min c.args.r (length c.args.arrivals.now.passes) ≡ c.args.r = omega (arith, many, low) in
    subst (λ (n : ℕ). AreGivenPasses c.args.arrivals.now n (take n c.args.history.now)) same c.requires.given
