use Rattle.std.proofs.Common.{◌≡◌, None, Some, refl}
use Rattle.cal_engine.proofs.command_words.command_line.asked_with.Goals as goal

pub returns-in-Some-clause-job : goal.returns-in-Some-clause-job
returns-in-Some-clause-job c = λ explained asked says names.
    let found : Some c.in-Some.job ≡ Some asked = c.in-Some.ensures (Some asked) names in
    let said : c.is_explained-explained.result ≡ explained = c.is_explained-explained.ensures explained says in
    (cc, refl, said)

pub returns-in-Some-clause-two : goal.returns-in-Some-clause-two
returns-in-Some-clause-two c = λ names.
    let no : Some c.in-Some.job ≡ None = c.in-Some.ensures None names in
    absurd (cc)

pub returns-in_ok-conflict-in-None-clause-job : goal.returns-in_ok-conflict-in-None-clause-job
returns-in_ok-conflict-in-None-clause-job c = λ explained asked says names.
    let no : None ≡ Some asked = c.in-None.ensures (Some asked) names in
    absurd (cc)
