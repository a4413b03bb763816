use Rattle.cal_engine.proofs.Common.{[], ◌∷◌, ◌++◌, subst, on_ok_weaker, PassEntry}
use Rattle.cal_engine.proofs.jobs.deciding.decider.Decider.hand_on.Goals as goal

pub returns-clause-decided : goal.returns-clause-decided
returns-clause-decided g c = λ h legal given few before.
    let made = c.in_ok-entry.ensures.decided h legal before.agrees given in
    let agrees = rw made at (c.in_ok-entry.ensures.agrees h legal before.agrees given) in
    let P : PassEntry → Type 0 = λ e. g.K.Keeper.keeps c.take.new.self (h ++ e ∷ []) in
    on_ok_weaker c.take.result (λ kept. record { agrees = agrees; kept = subst P made kept }) (c.take.ensures.keeps h few before.kept)
