use Rattle.caladan_c.proofs.Common.{◌+◌, ◌<◌, [], List, length, ap, sym, refl, ◌∙◌, arith, rules, slice_get_within, IsTakenAt, Found}
use Rattle.caladan_c.proofs.OneByOne.{said_to}
use Rattle.caladan_c.proofs.Walked.{grown_to, grown_all}
use Rattle.caladan_c.proofs.walk.take_each.Goals as goal

pub loop-k-init : goal.loop-k-init
loop-k-init c = record {
  count = (c.begin.ensures c.args.on.config.now []).count;
  room = refl;
  taken = λ h quiet agrees. c.begin.ensures c.args.on.config.now h;
  said = λ h quiet agrees j o lt at. absurd (omega (arith, lt));
}

pub loop-k-preserved : goal.loop-k-preserved
loop-k-preserved c =
    let i = c.loop-k.invariant in
    let room : c.loop-k.k < length c.loop-k.judged = omega (arith, i.room, c.requires.count, c.requires.room, c.loop-k-test.true) in
    record {
      count = c.take_by_itself.ensures.count ∙ ap (λ k. k + 1) i.count;
      room = search rules;
      taken = λ h quiet agrees.
          let At : List Found → Type 0 = λ xs. IsTakenAt c.args.on.config.now h xs c.take_by_itself.new.came in
          grown_to At c.args.looks.now c.loop-k.k _ c.loop-k-test.true
          (λ count. c.take_by_itself.ensures.taken h _ quiet agrees (count ∙ sym i.count) (i.taken h quiet agrees));
      said = λ h quiet agrees. said_to c.args.on.config.now.cores h c.args.looks.now c.loop-k.judged _ c.loop-k.k c.take_by_itself.result _ room refl
          (rw i.count at (c.take_by_itself.ensures.said h quiet agrees)) c.loop-k-test.true (i.said h quiet agrees);
    }

pub returns-clause-taken : goal.returns-clause-taken
returns-clause-taken c = λ h quiet agrees.
    let At : List Found → Type 0 = λ xs. IsTakenAt c.args.on.config.now h xs c.loop-k.came in
    grown_all At c.args.looks.now c.loop-k.k c.loop-k-test.false (c.loop-k.invariant.taken h quiet agrees)

pub returns-clause-said : goal.returns-clause-said
returns-clause-said c = λ h quiet agrees k one at.
    let within = slice_get_within c.args.looks.now k one at in
    c.loop-k.invariant.said h quiet agrees k one (omega (arith, within, c.loop-k-test.false)) at
