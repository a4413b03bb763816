use Rattle.std.proofs.Common.{refl}
use Rattle.cal_signal.specs.declared.shown.Shown.{Shown}
use Rattle.cal_replay.specs.Unlike.{IsUnlikeWord}
use Rattle.cal_replay.specs.declared.unlike.Unlike.{Unlike}
use Rattle.cal_replay.proofs.Or.{or_so}
use Rattle.cal_replay.proofs.unlike.unlike_words.Goals as goal

pub returns-clause-some : goal.returns-clause-some
returns-clause-some c = λ m n.
    let told : Shown = record { number = m; rec = c.args.told.now } in
    let published : Shown = record { number = n; rec = c.args.published.now } in
    let P : Unlike → Type 0 = IsUnlikeWord told published in
    or_so P _ _ _ c.or-4.ensures
    (or_so P _ _ _ c.or-3.ensures
    (or_so P _ _ _ c.or-2.ensures
    (or_so P _ _ _ c.or.ensures (c.unlike_word.ensures.some told published refl refl) (c.unlike_word-2.ensures.some told published refl refl))
    (c.unlike_word-3.ensures.some told published refl refl))
    (c.unlike_word-4.ensures.some told published refl refl))
    (c.unlike_last_words.ensures.some m n)
