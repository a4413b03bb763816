-- The next entry is orderly after those before it.
use Rattle.cal_policy.proofs.Common.{ℕ, List, length, take, refl, subst, arith, slice_get_read, PassEntry, actions_of, looks_of, IsOrderlyEntry, Agrees, KeepingAgrees}
use Rattle.cal_policy.proofs.ListLemmas.Each.{each_more_item, each_all, take_item}
use Rattle.cal_policy.proofs.judgement.orderly.orderly.Goals as goal

pub loop-entry-init : goal.loop-entry-init
loop-entry-init c = record {
  entries = λ p lt entry e. absurd (omega (arith, lt));
  agrees = c.new-board.ensures.agrees;
  keeping = c.new-board.ensures.keeping;
  ready = c.new-board.ensures.ready c.args.config.now;
}

pub loop-entry-preserved : goal.loop-entry-preserved
loop-entry-preserved c =
    let i = c.loop-entry.invariant in
    let n = c.loop-entry.entry-index in
    let history = c.args.history.now in
    let h = take n history in
    let longer = take_item history n c.entry-item.result c.loop-entry-test.true c.entry-item.is in
    let P : ℕ → PassEntry → Type 0 = λ p entry. IsOrderlyEntry c.args.config.now (take p history) entry in
    let A : List PassEntry → Type 0 = λ l. Agrees c.replay_fitting.new.board (actions_of l) in
    let K : List PassEntry → Type 0 = λ l. KeepingAgrees c.replay_fitting.new.board.keeping (looks_of l) in record {
      entries = each_more_item P history n c.entry-item.result c.entry-item.is i.entries
          ((c.replay_fitting.ensures.fits h i.agrees i.keeping).0 c.if-not-replay_fitting.false);
      agrees = subst A longer (c.replay_fitting.ensures.agrees c.if-not-replay_fitting.false h i.agrees);
      keeping = subst K longer (c.replay_fitting.ensures.keeping c.if-not-replay_fitting.false h i.keeping);
      ready = c.replay_fitting.ensures.ready;
    }

pub returns-then-not-replay_fitting : goal.returns-then-not-replay_fitting
returns-then-not-replay_fitting c =
    let i = c.loop-entry.invariant in
    let n = c.loop-entry.entry-index in
    let history = c.args.history.now in
    let here = slice_get_read history (length history) n c.entry-item.result refl c.loop-entry-test.true c.entry-item.is in
    (λ yes. cc, λ o. (c.if-not-replay_fitting.ensures.fits (take n history) i.agrees i.keeping).1 (o.entries n c.entry-item.result here))

pub returns : goal.returns
returns c =
    let P : ℕ → PassEntry → Type 0 = λ p entry. IsOrderlyEntry c.args.config.now (take p c.args.history.now) entry in
    (λ _. record { entries = each_all P c.args.history.now c.loop-entry.entry-index c.loop-entry-test.false c.loop-entry.invariant.entries }, λ _. refl)
