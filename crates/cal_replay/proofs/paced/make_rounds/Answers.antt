use Rattle.std.proofs.Common.{◌≡◌, ◌+◌, ◌*◌, ◌∙◌, ◌≤◌, ℕ, List, ap, length, refl, subst, sym, arith}
use Rattle.cal_paced.proofs.Differing.{differ-more, differ-none, fit-still}
use Rattle.cal_replay.specs.Paced.{ArePacedUpTo}
use Rattle.cal_replay.proofs.paced.make_rounds.Goals as goal

pub loop-r-init : goal.loop-r-init
loop-r-init g c = record {
  made = c.requires.opened;
  given = differ-none 0 c.args.given.now;
  few = refl;
  collected = λ held. held;
  suits = λ table held. held;
}

pub make_round-requires-clause-fits : goal.make_round-requires-clause-fits
make_round-requires-clause-fits g c = fit-still 0 c.args.given.now c.loop-r.given c.loop-r.invariant.given c.requires.fits

pub make_round-requires-clause-many : goal.make_round-requires-clause-many
make_round-requires-clause-many g c =
    let differ = c.loop-r.invariant.given in
    differ.many ∙ c.requires.many ∙ ap (λ (l : List ℕ). c.args.plan.now.pace * length l) (sym differ.turns)

pub make_round-requires-clause-told : goal.make_round-requires-clause-told
make_round-requires-clause-told g c = c.requires.told ∙ sym c.loop-r.invariant.given.many

pub make_round-requires-clause-here : goal.make_round-requires-clause-here
make_round-requires-clause-here g c =
    let turns = ap (λ (l : List ℕ). length l) c.loop-r.invariant.given.turns in
    let value = ap (λ (l : List ℕ). length l) c.as_slice-r-end.ensures in
    let low = c.loop-r-test.true in omega (arith, turns, value, low)

pub make_round-requires-clause-few : goal.make_round-requires-clause-few
make_round-requires-clause-few g c = let few = c.loop-r.invariant.few in let most = c.requires.few in omega (arith, few, most)

pub returns-in_err-make_round-clause-given : goal.returns-in_err-make_round-clause-given
returns-in_err-make_round-clause-given g c = differ-more 0 (c.args.plan.now.pace * c.loop-r.r) c.args.given.now c.loop-r.given c.make_round.new.given (omega arith) c.loop-r.invariant.given c.make_round.ensures.given

pub loop-r-preserved : goal.loop-r-preserved
loop-r-preserved g c = record {
  made = c.in_ok-make_round.ensures.made;
  given = differ-more 0 (c.args.plan.now.pace * c.loop-r.r) c.args.given.now c.loop-r.given c.make_round.new.given (omega arith) c.loop-r.invariant.given c.make_round.ensures.given;
  few = c.in_ok-make_round.ensures.few ∙ c.loop-r.invariant.few;
  collected = λ held. c.in_ok-make_round.ensures.collected (c.loop-r.invariant.collected held);
  suits = λ table held. c.in_ok-make_round.ensures.suits table (c.loop-r.invariant.suits table held);
}

pub returns-clause-made : goal.returns-clause-made
returns-clause-made g c =
    let turns = ap (λ (l : List ℕ). length l) c.loop-r.invariant.given.turns in
    let value = ap (λ (l : List ℕ). length l) c.as_slice-r-end.ensures in
    let end = c.loop-r-test.false in
    let high = c.loop-r.auto.r-end in
    let all : c.loop-r.r ≡ length c.loop-r.given.turns = omega (arith, turns, value, end, high) in
    subst (λ (n : ℕ). ArePacedUpTo n c.args.plan.now c.args.config.now c.loop-r.given c.args.history.now c.loop-r.parts c.loop-r.keeping) all c.loop-r.invariant.made
