use Rattle.cal_run.proofs.Common.{ℕ, List, length, refl, subst, sym, ◌∙◌, arith, Table, IsLegalBy, PassEntry, legal_none_by, Made, then_round, then_rounds}
use Rattle.cal_run.proofs.CollectorLemmas.Opened.{no_pass_yet}
use Rattle.cal_run.proofs.CollectorLemmas.Order.{no-rounds, one-round}
use Rattle.cal_run.proofs.RoundsLemmas.FirstPasses.{first_alike, first_passes}
use Rattle.cal_run.proofs.RoundsLemmas.Rounds.{before_rounds, with_table}
use Rattle.cal_run.proofs.rounds.make_rounds.Goals as goal

pub loop-r-init : goal.loop-r-init
loop-r-init g c = record {
  made = before_rounds c.args.parts.now.scheduler.table c.args.arrivals.now c.args.parts.now c.requires.opened;
  most = refl;
  policy = refl;
  suits = c.requires.suits;
  collected = λ held. held;
  legal =
      let s = c.args.parts.now.scheduler in
      let P : List PassEntry → Type 0 = λ h. IsLegalBy s.policy s.table h in
      subst P (sym (no_pass_yet c.args.arrivals.now s c.requires.opened.passes)) (legal_none_by s.policy s.table);
  wrote = λ first held. held;
  same = λ first held. held;
  many = refl;
  ordered = λ made held. no-rounds _ _ _ made (λ l. g.C.Collector.met c.args.collector.now l) held;
}

pub make_round-requires-clause-before : goal.make_round-requires-clause-before
make_round-requires-clause-before g c =
    let made = c.loop-r.invariant.made in
    with_table c.args.parts.now.scheduler.table _ c.args.arrivals.now c.loop-r.r c.loop-r.parts (sym made.together.same_table) made

pub make_round-requires-clause-suits : goal.make_round-requires-clause-suits
make_round-requires-clause-suits g c =
    let P : Table → Type 0 = λ t. g.C.Collector.suits c.loop-r.collector t in
    subst P (sym c.loop-r.invariant.made.together.same_table) c.loop-r.invariant.suits

pub loop-r-preserved : goal.loop-r-preserved
loop-r-preserved g c =
    let made = c.loop-r.invariant.made in
    let P : Table → Type 0 = λ t. g.C.Collector.suits c.make_round.new.collector t in
    record {
      most = c.in_ok-make_round.ensures.most ∙ c.loop-r.invariant.most;
      policy = c.in_ok-make_round.ensures.policy ∙ c.loop-r.invariant.policy;
      suits = subst P made.together.same_table c.in_ok-make_round.ensures.suits;
      made = with_table _ c.args.parts.now.scheduler.table c.args.arrivals.now _ c.make_round.new.parts made.together.same_table c.in_ok-make_round.ensures.made;
      collected = λ held. c.in_ok-make_round.ensures.collected (c.loop-r.invariant.collected held);
      legal = c.in_ok-make_round.ensures.legal;
      wrote = λ first held. c.in_ok-make_round.ensures.wrote first (c.loop-r.invariant.wrote first held);
      same = λ first held. c.make_round.ensures.same first (c.loop-r.invariant.same first held);
      many = c.in_ok-make_round.ensures.many ∙ c.loop-r.invariant.many;
      ordered = λ made held.
          let passes = length c.args.arrivals.now.passes in
          let turns = length c.args.arrivals.now.turns in
          let M : List Made → Type 0 = λ l. g.C.Collector.met c.make_round.new.collector l in
          let so_far = then_rounds passes turns (length c.args.parts.now.workers.items) c.loop-r.r made in
          one-round passes turns (length c.args.parts.now.workers.items) made M c.loop-r.r
          (subst (λ (n : ℕ). M (then_round passes turns n c.loop-r.r so_far)) c.loop-r.invariant.many
          (c.in_ok-make_round.ensures.ordered so_far (c.loop-r.invariant.ordered made held)));
    }

pub returns-clause-suits : goal.returns-clause-suits
returns-clause-suits g c = c.loop-r.invariant.suits

pub returns-clause-first : goal.returns-clause-first
returns-clause-first g c =
    let kept = c.loop-r.invariant in
    let history = c.loop-r.parts.scheduler.history in
    first_alike _ _ _ _ c.args.arrivals.now history kept.policy kept.made.together.same_table (first_passes _ _ c.args.arrivals.now _ history kept.legal kept.made.passes)

pub returns-clause-ordered : goal.returns-clause-ordered
returns-clause-ordered g c = λ made held.
    let passes = length c.args.arrivals.now.passes in
    let turns = length c.args.arrivals.now.turns in
    let P : ℕ → Type 0 = λ n. g.C.Collector.met c.loop-r.collector (then_rounds passes turns (length c.args.parts.now.workers.items) n made) in
    subst P (let end = c.loop-r-test.false in let high = c.loop-r.auto.r-end in let many = c.rounds_to_make-r-end.ensures in omega (arith, end, high, many)) (c.loop-r.invariant.ordered made held)
