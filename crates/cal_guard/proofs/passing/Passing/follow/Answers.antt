use Rattle.cal_guard.proofs.Common.{ℕ, ◌+◌, ◌<◌, ◌++◌, take, sym, subst, arith, take_all, append-nil, Action, slice_get-get_or, Free, NamesTable, each_at, after_more, IsAfter}
use Rattle.cal_guard.proofs.passing.Passing.follow.Goals as goal

pub loop-permitted-init : goal.loop-permitted-init
loop-permitted-init c = record {
  after = λ s acts is. subst (IsAfter c.args.self.now s) (sym (append-nil acts)) is;
  made = omega arith;
  ready = c.requires.ready;
}

pub take-requires-clause-ready : goal.take-requires-clause-ready
take-requires-clause-ready c = c.loop-permitted.invariant.ready

pub take-requires-clause-names : goal.take-requires-clause-names
take-requires-clause-names c =
    let P : ℕ → Action → Type 0 = λ i a. NamesTable c.args.config.now a × (c.args.self.now.made + i < 338) in
    (each_at P c.args.actions.now c.loop-permitted.permitted-index _ c.loop-permitted-test.true c.requires.follow).0

pub take-requires-clause-few : goal.take-requires-clause-few
take-requires-clause-few c =
    let few = (c.requires.follow c.loop-permitted.permitted-index _ (slice_get-get_or c.args.actions.now c.loop-permitted.permitted-index (Free 0) c.loop-permitted-test.true)).1 in
    let made = c.loop-permitted.invariant.made in omega (arith, few, made)

pub loop-permitted-preserved : goal.loop-permitted-preserved
loop-permitted-preserved c = record {
  after = λ s acts is.
      let n = c.loop-permitted.permitted-index in
      let actions = c.args.actions.now in
      subst (IsAfter c.take.new.self s) (after_more acts actions n _ c.loop-permitted-test.true) (c.take.ensures.after s (acts ++ take n actions) (c.loop-permitted.invariant.after s acts is));
  made = let made = c.loop-permitted.invariant.made in let more = c.take.ensures.made in omega (arith, made, more);
  ready = c.take.ensures.ready;
}

pub returns-clause-after : goal.returns-clause-after
returns-clause-after c = λ s acts is.
    subst (λ l. IsAfter c.loop-permitted.self s (acts ++ l)) (take_all c.loop-permitted.permitted-index c.args.actions.now c.loop-permitted-test.false) (c.loop-permitted.invariant.after s acts is)

pub returns-clause-made : goal.returns-clause-made
returns-clause-made c = let made = c.loop-permitted.invariant.made in let past = c.loop-permitted-test.false in omega (arith, made, past)
