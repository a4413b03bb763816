use Rattle.cal_engine.proofs.Common.{◌≡◌, None, Some, subst, ◌∙◌, Policy, IsAsked}
use Rattle.cal_engine.proofs.command_words.command_line.asked_of.Goals as goal

pub returns-in-Some-clause-job : goal.returns-in-Some-clause-job
returns-in-Some-clause-job c = λ policy explained asked by says names.
    let found : Some c.in-Some.policy ≡ Some policy = c.in-Some.ensures ∙ by in
    let same : c.in-Some.policy ≡ policy = cc in
    subst (λ (p : Policy). IsAsked asked p explained c.asked_with.result) same (c.asked_with.ensures.job explained asked says names)

pub returns-in-Some-clause-two : goal.returns-in-Some-clause-two
returns-in-Some-clause-two c = λ policy by names. c.asked_with.ensures.two names

pub returns-in-Some-clause-no_policy : goal.returns-in-Some-clause-no_policy
returns-in-Some-clause-no_policy c = λ none.
    let no : Some c.in-Some.policy ≡ None = c.in-Some.ensures ∙ none in
    absurd (cc)

pub returns-in_ok-no_policy-in-None-clause-job : goal.returns-in_ok-no_policy-in-None-clause-job
returns-in_ok-no_policy-in-None-clause-job c = λ policy explained asked by says names.
    let no : None ≡ Some policy = c.in-None.ensures ∙ by in
    absurd (cc)

pub returns-in_ok-no_policy-in-None-clause-two : goal.returns-in_ok-no_policy-in-None-clause-two
returns-in_ok-no_policy-in-None-clause-two c = λ policy by names.
    let no : None ≡ Some policy = c.in-None.ensures ∙ by in
    absurd (cc)
