-- Each action of an orderly history names what the table has.
use Rattle.cal_policy.proofs.Common.{◌≡◌, ℕ, ◌+◌, ◌-◌, List, length, take, refl, subst, arith, slice_get_read, PassEntry, actions_of, looks_of, KeepsBefore, Agrees, KeepingAgrees}
use Rattle.cal_policy.proofs.ListLemmas.Each.{take_item}
use Rattle.cal_policy.proofs.BoardLemmas.StateKept.{names_of_fitting}
use Rattle.cal_policy.proofs.board.replay.board_of.Goals as goal

pub replay-requires-clause-names : goal.replay-requires-clause-names
replay-requires-clause-names c =
    let n = c.loop-entry.entry-index in
    let history = c.args.history.now in
    let here = slice_get_read history (length history) n c.entry-item.result refl c.loop-entry-test.true c.entry-item.is in
    let o = c.requires.entries n c.entry-item.result here in
    names_of_fitting c.args.config.now (actions_of (take n history)) c.entry-item.result.actions c.limits.ensures o.actions

pub replay-requires-clause-looks : goal.replay-requires-clause-looks
replay-requires-clause-looks c =
    let n = c.loop-entry.entry-index in
    let history = c.args.history.now in
    let here = slice_get_read history (length history) n c.entry-item.result refl c.loop-entry-test.true c.entry-item.is in
    let fits = c.requires.entries n c.entry-item.result here in omega (arith, fits.looks.looks, c.limits.ensures.threads)

pub loop-entry-preserved : goal.loop-entry-preserved
loop-entry-preserved c =
    let i = c.loop-entry.invariant in
    let n = c.loop-entry.entry-index in
    let history = c.args.history.now in
    let h = take n history in
    let here = slice_get_read history (length history) n c.entry-item.result refl c.loop-entry-test.true c.entry-item.is in
    let longer = take_item history n c.entry-item.result c.loop-entry-test.true c.entry-item.is in
    let A : List PassEntry → Type 0 = λ l. Agrees c.replay.new.board (actions_of l) in
    let K : List PassEntry → Type 0 = λ l. KeepingAgrees c.replay.new.board.keeping (looks_of l) in
    let B : ℕ → Type 0 = λ m. KeepsBefore c.replay.new.board.keeping (looks_of (take m history)) in
    let same : n ≡ n + 1 - 1 = omega arith in record {
      agrees = subst A longer (c.replay.ensures.agrees h i.agrees);
      keeping = subst K longer (c.replay.ensures.keeping h i.keeping (c.requires.entries n c.entry-item.result here).looks.fit);
      before = subst B same (c.replay.ensures.before h i.keeping);
      ready = c.replay.ensures.ready;
    }
