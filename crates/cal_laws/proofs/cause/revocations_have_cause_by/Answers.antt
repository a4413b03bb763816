use Rattle.cal_laws.proofs.Common.{◌≡◌, ℕ, List, [], Some, sym, subst, Revoke, Cause, Action, EachAfter, each_at, RevocationsHaveCause, Point, setting_at, made_at, next_at}
use Rattle.cal_policy.specs.declared.policy.Policy.{Policy}
use Rattle.cal_policy.specs.declared.policy.Policy.TheVariants.{Caladan, Assured}
use Rattle.cal_policy.specs.Assured.Cause as assured
use Rattle.cal_policy.proofs.AssuredLemmas.Done.{IsDone, pass_done}
use Rattle.cal_laws.specs.Policies.{IsPointBy, IsOwnPoint, HasCauseBy}
use Rattle.cal_laws.proofs.cause.revocations_have_cause_by.Goals as goal

-- each action of a pass of the second policy is one that it makes at its place
own_cause : (here : Point) → IsOwnPoint here → (core : ℕ) (cause : Cause) → next_at here ≡ Some (Revoke core cause) → assured.HasCause (setting_at here) (made_at here) core cause
own_cause here at core cause next =
    let s = setting_at here in
    let pass = at.legal.passes here.pass here.entry at.entry in
    let P : List Action → Type 0 = λ xs. EachAfter (IsDone s) [] xs in
    each_at (IsDone s) [] here.entry.actions here.made (Revoke core cause) (subst P (sym pass.actions) (pass_done s)) next

by : RevocationsHaveCause → (policy : Policy) (here : Point) → IsPointBy policy here → (core : ℕ) (cause : Cause) → next_at here ≡ Some (Revoke core cause)
    → HasCauseBy policy (setting_at here) (made_at here) core cause
by law Caladan = law
by law Assured = own_cause

pub returns : goal.returns
returns c = by c.revocations_have_cause.ensures
