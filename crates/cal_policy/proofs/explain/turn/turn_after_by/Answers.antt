use Rattle.cal_policy.proofs.Common.{ap, sym, subst, ◌∙◌, Table, made_before, next_turn, IsTurn}
use Rattle.cal_policy.proofs.ExplainLemmas.Assured.{assured_follows}
use Rattle.cal_policy.proofs.explain.turn.turn_after_by.Goals as goal

pub returns-in-Caladan-clause-follows : goal.returns-in-Caladan-clause-follows
returns-in-Caladan-clause-follows c = λ s e. rw c.in-Caladan.is (c.turn_after.ensures.follows s e)

pub returns-in-Assured-clause-follows : goal.returns-in-Assured-clause-follows
returns-in-Assured-clause-follows c = λ s e.
    let P : Table → Type 0 = λ t. IsTurn t c.args.turn in
    rw c.in-Assured.is
    (ap (made_before s) (c.assured_turn_after.ensures.next ∙ ap (λ (t : Table). next_turn t c.args.turn) (sym e))
    ∙ assured_follows s c.args.turn (subst P (sym e) c.requires.turn))
