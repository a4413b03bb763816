use Rattle.std.proofs.Common.{◌≡◌, ℕ, ◌<◌, ◌+◌, false, true, List, Option, length, take, refl, subst, arith}
use Rattle.std.proofs.lemmas.Option.{slice_get_read}
use Rattle.cal_policy.proofs.ListLemmas.Each.{each_more_item, take_item}
use Rattle.cal_policy.specs.History.{actions_of, looks_of}
use Rattle.cal_policy.specs.Judgement.Orderly.{IsOrderly, IsOrderlyEntry}
use Rattle.cal_policy.specs.State.{Agrees, KeepingAgrees}
use Rattle.cal_policy.specs.declared.board.Board.{Board}
use Rattle.cal_policy.specs.declared.history.entry.PassEntry.{PassEntry}
use Rattle.cal_explain.proofs.OnePassMore.{each_of, orderly_before, orderly_of}
use Rattle.cal_explain.specs.Reached.{IsOrderlyState, IsReached}
use Rattle.cal_explain.proofs.reached.reached_after.Goals as goal

pub returns-in-None : goal.returns-in-None
returns-in-None c = λ o.
    let history = c.args.history.now in
    let table = c.args.config.now in
    let n = c.args.pass in
    let R : Option Board → Type 0 = λ state. IsReached table (take n history) state in
    (subst R c.in-None.is c.requires.before) (orderly_before table history n c.requires.within o)

pub returns-then-replay_fitting : goal.returns-then-replay_fitting
returns-then-replay_fitting c =
    let history = c.args.history.now in
    let table = c.args.config.now in
    let n = c.args.pass in
    let h = take n history in
    let lt = c.requires.within in
    let entry = c.index-history-pass.result in
    let R : Option Board → Type 0 = λ state. IsReached table h state in
    let s : IsOrderlyState table h c.in-Some.board = subst R c.in-Some.is c.requires.before in
    let longer = take_item history n entry lt c.index-history-pass.is in
    let P : ℕ → PassEntry → Type 0 = λ p x. IsOrderlyEntry table (take p history) x in
    let A : List PassEntry → Type 0 = λ l. Agrees c.replay_fitting.new.board (actions_of l) in
    let K : List PassEntry → Type 0 = λ l. KeepingAgrees c.replay_fitting.new.board.keeping (looks_of l) in
    let yes = c.if-replay_fitting.true in record {
      orderly = orderly_of table history (n + 1) (omega (arith, lt))
          (each_more_item P history n entry c.index-history-pass.is (each_of table history n (omega (arith, lt)) s.orderly)
          ((c.replay_fitting.ensures.fits h s.after.actions s.after.looks).0 yes));
      after = record {
        actions = subst A longer (c.replay_fitting.ensures.agrees yes h s.after.actions);
        looks = subst K longer (c.replay_fitting.ensures.keeping yes h s.after.looks);
      };
      ready = c.replay_fitting.ensures.ready;
    }

pub returns-else-replay_fitting : goal.returns-else-replay_fitting
returns-else-replay_fitting c = λ o.
    let history = c.args.history.now in
    let table = c.args.config.now in
    let n = c.args.pass in
    let h = take n history in
    let lt = c.requires.within in
    let entry = c.index-history-pass.result in
    let R : Option Board → Type 0 = λ state. IsReached table h state in
    let s : IsOrderlyState table h c.in-Some.board = subst R c.in-Some.is c.requires.before in
    let here = slice_get_read history (length history) n entry refl lt c.index-history-pass.is in
    let no : false ≡ true = (c.if-replay_fitting.ensures.fits h s.after.actions s.after.looks).1
    (each_of table history (n + 1) (omega (arith, lt)) o n (omega arith) entry here) in
    cc
