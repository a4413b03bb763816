use Rattle.cal_paced.proofs.Common.{◌≡◌, ◌+◌, ◌*◌, ℕ, List, length, refl, subst, sym, ap, ◌∙◌, arith, Table, Made, IsMadeUpTo, then_round, then_rounds}
use Rattle.cal_paced.proofs.Differing.{differ-more, differ-none, fit-still}
use Rattle.cal_paced.proofs.Ordering.{no-rounds, one-round}
use Rattle.cal_paced.proofs.Rounding.{made-first}
use Rattle.cal_paced.proofs.rounds.make_rounds.Goals as goal

pub loop-r-init : goal.loop-r-init
loop-r-init g c = record {
  made = made-first c.args.plan.now c.args.parts.now.scheduler.table c.args.given.now c.args.parts.now c.args.keeping.now.saved.items c.args.keeping.now.misses
      c.requires.opened c.requires.fresh c.requires.nothing c.requires.no_misses;
  given = differ-none 0 c.args.given.now;
  as_given = λ so. refl;
  few = refl;
  cores = c.requires.cores;
  most = refl;
  policy = refl;
  suits = c.requires.suits;
  collected = λ held. held;
  ordered = λ made held. no-rounds _ _ made (λ l. g.C.Collector.met c.args.collector.now l) held;
}

pub make_round-requires-clause-fits : goal.make_round-requires-clause-fits
make_round-requires-clause-fits g c = fit-still 0 c.args.given.now c.loop-r.given c.loop-r.invariant.given c.requires.fits

pub make_round-requires-clause-many : goal.make_round-requires-clause-many
make_round-requires-clause-many g c =
    let differ = c.loop-r.invariant.given in
    differ.many ∙ c.requires.many ∙ ap (λ (l : List ℕ). c.args.plan.now.pace * length l) (sym differ.turns)

pub make_round-requires-clause-given : goal.make_round-requires-clause-given
make_round-requires-clause-given g c =
    let turns = ap (λ (l : List ℕ). length l) c.loop-r.invariant.given.turns in
    let value = ap (λ (l : List ℕ). length l) c.as_slice-r-end.ensures in
    let low = c.loop-r-test.true in omega (arith, turns, value, low)

pub make_round-requires-clause-before : goal.make_round-requires-clause-before
make_round-requires-clause-before g c =
    let made = c.loop-r.invariant.made in
    let P : Table → Type 0 = λ t. IsMadeUpTo c.loop-r.r c.args.plan.now t c.loop-r.given c.loop-r.parts c.loop-r.keeping.saved.items c.loop-r.keeping.misses in
    subst P (sym made.are.together.same_table) made

pub make_round-requires-clause-suits : goal.make_round-requires-clause-suits
make_round-requires-clause-suits g c =
    let P : Table → Type 0 = λ t. g.C.Collector.suits c.loop-r.collector t in
    subst P (sym c.loop-r.invariant.made.are.together.same_table) c.loop-r.invariant.suits

pub loop-r-preserved : goal.loop-r-preserved
loop-r-preserved g c =
    let made = c.loop-r.invariant.made in
    let P : Table → Type 0 = λ t. g.C.Collector.suits c.make_round.new.collector t in
    let Q : Table → Type 0 = λ t. IsMadeUpTo (c.loop-r.r + 1) c.args.plan.now t c.make_round.new.given c.make_round.new.parts c.make_round.new.keeping.saved.items c.make_round.new.keeping.misses in
    record {
      made = subst Q made.are.together.same_table c.in_ok-make_round.ensures.made;
      given = differ-more 0 (c.args.plan.now.pace * c.loop-r.r) c.args.given.now c.loop-r.given c.make_round.new.given (omega arith) c.loop-r.invariant.given c.make_round.ensures.given;
      as_given = λ so. c.make_round.ensures.as_given so ∙ c.loop-r.invariant.as_given so;
      few = c.in_ok-make_round.ensures.few ∙ c.loop-r.invariant.few;
      cores = c.in_ok-make_round.ensures.cores;
      most = c.in_ok-make_round.ensures.most ∙ c.loop-r.invariant.most;
      policy = c.in_ok-make_round.ensures.policy ∙ c.loop-r.invariant.policy;
      suits = subst P made.are.together.same_table c.in_ok-make_round.ensures.suits;
      collected = λ held. c.in_ok-make_round.ensures.collected (c.loop-r.invariant.collected held);
      ordered = λ made held.
          let pace = c.args.plan.now.pace in
          let threads = length c.args.parts.now.workers.items in
          let M : List Made → Type 0 = λ l. g.C.Collector.met c.make_round.new.collector l in
          let so_far = then_rounds pace threads c.loop-r.r made in
          one-round pace threads made M c.loop-r.r
          (subst (λ (n : ℕ). M (then_round pace n so_far)) c.loop-r.invariant.few (c.in_ok-make_round.ensures.ordered so_far (c.loop-r.invariant.ordered made held)));
    }

pub returns-clause-suits : goal.returns-clause-suits
returns-clause-suits g c = c.loop-r.invariant.suits

-- after the last round
pub returns-clause-made : goal.returns-clause-made
returns-clause-made g c =
    let end = c.loop-r-test.false in
    let turns = ap (λ (l : List ℕ). length l) c.loop-r.invariant.given.turns in
    let value = ap (λ (l : List ℕ). length l) c.as_slice-r-end.ensures in
    let high = c.loop-r.auto.r-end in
    let all : c.loop-r.r ≡ length c.loop-r.given.turns = omega (arith, end, turns, value, high) in
    let P : ℕ → Type 0 = λ n. IsMadeUpTo n c.args.plan.now c.args.parts.now.scheduler.table c.loop-r.given c.loop-r.parts c.loop-r.keeping.saved.items c.loop-r.keeping.misses in
    subst P all c.loop-r.invariant.made

pub returns-clause-given : goal.returns-clause-given
returns-clause-given g c = c.loop-r.invariant.given

pub returns-clause-as_given : goal.returns-clause-as_given
returns-clause-as_given g c = c.loop-r.invariant.as_given

pub returns-clause-ordered : goal.returns-clause-ordered
returns-clause-ordered g c = λ made held.
    let end = c.loop-r-test.false in
    let turns = ap (λ (l : List ℕ). length l) c.loop-r.invariant.given.turns in
    let value = ap (λ (l : List ℕ). length l) c.as_slice-r-end.ensures in
    let high = c.loop-r.auto.r-end in
    let all : c.loop-r.r ≡ length c.args.given.now.turns = omega (arith, end, turns, value, high) in
    let P : ℕ → Type 0 = λ n. g.C.Collector.met c.loop-r.collector (then_rounds c.args.plan.now.pace (length c.args.parts.now.workers.items) n made) in
    subst P all (c.loop-r.invariant.ordered made held)
