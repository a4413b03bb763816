-- Equal lists of actions: each variant is told by its own fields.
use Rattle.cal_policy.proofs.Common.{◌≡◌, refl, arith, Decides-eqb, Action, Free, Unban, Ban, Revoke, Cap, Grant, Cause}
use Rattle.std.specs.Bool.{Decides}
use Rattle.std.proofs.lemmas.Slice.Eq.{slice_eq-Decides}
use Rattle.cal_policy.specs.declared.history.action.Cause.TheVariants as causes
use Rattle.cal_policy.specs.contracts.history.action.ActionPartialEq.TheImpl.{eq-value}
use Rattle.cal_policy.specs.contracts.history.action.CausePartialEq.TheImpl as cause_eq
use Rattle.cal_policy.proofs.verdict.same_actions.Goals as goal

cause_decides : (a b : Cause) → Decides (cause_eq.eq-value.it a b) (a ≡ b)
cause_decides (causes.Ban x) (causes.Ban y) = grind (arith, Decides-eqb x y)
cause_decides (causes.Ban x) causes.Bandwidth = (λ e. cc, λ e. cc)
cause_decides (causes.Ban x) (causes.Preempt y) = (λ e. cc, λ e. cc)
cause_decides causes.Bandwidth (causes.Ban y) = (λ e. cc, λ e. cc)
cause_decides causes.Bandwidth causes.Bandwidth = (λ e. refl, λ e. refl)
cause_decides causes.Bandwidth (causes.Preempt y) = (λ e. cc, λ e. cc)
cause_decides (causes.Preempt x) (causes.Ban y) = (λ e. cc, λ e. cc)
cause_decides (causes.Preempt x) causes.Bandwidth = (λ e. cc, λ e. cc)
cause_decides (causes.Preempt x) (causes.Preempt y) = grind (arith, Decides-eqb x y)

action_decides : (a b : Action) → Decides (eq-value.it a b) (a ≡ b)
action_decides (Free c) (Free c2) = grind (arith, Decides-eqb c c2)
action_decides (Free c) (Unban c2) = (λ e. cc, λ e. cc)
action_decides (Free c) (Ban c2 k2 s2) = (λ e. cc, λ e. cc)
action_decides (Free c) (Revoke c2 v) = (λ e. cc, λ e. cc)
action_decides (Free c) (Cap t2 n2) = (λ e. cc, λ e. cc)
action_decides (Free c) (Grant c2 k2 m2) = (λ e. cc, λ e. cc)
action_decides (Unban c) (Free c2) = (λ e. cc, λ e. cc)
action_decides (Unban c) (Unban c2) = grind (arith, Decides-eqb c c2)
action_decides (Unban c) (Ban c2 k2 s2) = (λ e. cc, λ e. cc)
action_decides (Unban c) (Revoke c2 v) = (λ e. cc, λ e. cc)
action_decides (Unban c) (Cap t2 n2) = (λ e. cc, λ e. cc)
action_decides (Unban c) (Grant c2 k2 m2) = (λ e. cc, λ e. cc)
action_decides (Ban c k s) (Free c2) = (λ e. cc, λ e. cc)
action_decides (Ban c k s) (Unban c2) = (λ e. cc, λ e. cc)
action_decides (Ban c k s) (Ban c2 k2 s2) = grind (arith, Decides-eqb c c2, Decides-eqb k k2, Decides-eqb s s2)
action_decides (Ban c k s) (Revoke c2 v) = (λ e. cc, λ e. cc)
action_decides (Ban c k s) (Cap t2 n2) = (λ e. cc, λ e. cc)
action_decides (Ban c k s) (Grant c2 k2 m2) = (λ e. cc, λ e. cc)
action_decides (Revoke c u) (Free c2) = (λ e. cc, λ e. cc)
action_decides (Revoke c u) (Unban c2) = (λ e. cc, λ e. cc)
action_decides (Revoke c u) (Ban c2 k2 s2) = (λ e. cc, λ e. cc)
action_decides (Revoke c u) (Revoke c2 v) = grind (arith, Decides-eqb c c2, cause_decides u v)
action_decides (Revoke c u) (Cap t2 n2) = (λ e. cc, λ e. cc)
action_decides (Revoke c u) (Grant c2 k2 m2) = (λ e. cc, λ e. cc)
action_decides (Cap t n) (Free c2) = (λ e. cc, λ e. cc)
action_decides (Cap t n) (Unban c2) = (λ e. cc, λ e. cc)
action_decides (Cap t n) (Ban c2 k2 s2) = (λ e. cc, λ e. cc)
action_decides (Cap t n) (Revoke c2 v) = (λ e. cc, λ e. cc)
action_decides (Cap t n) (Cap t2 n2) = grind (arith, Decides-eqb t t2, Decides-eqb n n2)
action_decides (Cap t n) (Grant c2 k2 m2) = (λ e. cc, λ e. cc)
action_decides (Grant c k m) (Free c2) = (λ e. cc, λ e. cc)
action_decides (Grant c k m) (Unban c2) = (λ e. cc, λ e. cc)
action_decides (Grant c k m) (Ban c2 k2 s2) = (λ e. cc, λ e. cc)
action_decides (Grant c k m) (Revoke c2 v) = (λ e. cc, λ e. cc)
action_decides (Grant c k m) (Cap t2 n2) = (λ e. cc, λ e. cc)
action_decides (Grant c k m) (Grant c2 k2 m2) = grind (arith, Decides-eqb c c2, Decides-eqb k k2, Decides-eqb m m2)

pub returns : goal.returns
returns c = slice_eq-Decides action_decides c.args.a.now c.args.b.now c.eq.result c.eq.ensures
