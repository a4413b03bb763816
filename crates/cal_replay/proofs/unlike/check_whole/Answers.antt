use Rattle.std.proofs.Common.{Option, Some, refl, subst, sym}
use Rattle.std.specs.Prelude.{IfSome}
use Rattle.cal_signal.specs.declared.look.Look.{Look}
use Rattle.cal_signal.specs.declared.shown.Shown.{Shown}
use Rattle.cal_replay.specs.Unlike.{IsUnlikeWhole, IsUnlikeWord}
use Rattle.cal_replay.specs.declared.unlike.Unlike.{Unlike}
use Rattle.cal_replay.proofs.Or.{or_so}
use Rattle.cal_replay.proofs.unlike.check_whole.Goals as goal

pub returns-in-Some-clause-unlike : goal.returns-in-Some-clause-unlike
returns-in-Some-clause-unlike c =
    let told = c.args.told in
    let published : Shown = record { number = c.in-Whole.number; rec = c.in-Whole.rec } in
    let P : Unlike → Type 0 = IsUnlikeWord told published in
    let so : IfSome c.or-apart.result P = or_so P _ _ _ c.or-apart.ensures (c.unlike_word.ensures.some told published refl refl) (c.unlike_words.ensures.some told.number published.number) in
    let here : P c.in-Some.unlike = subst (λ (o : Option Unlike). IfSome o P) c.in-Some.is so in
    subst (λ (l : Look). IsUnlikeWhole told l c.in-Some.unlike) (sym c.in-Whole.is) here
