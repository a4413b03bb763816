use Rattle.cal_policy.proofs.Common.{◌≡◌, ℕ, Bool, true, false, List, [], refl, ap, sym, not, ◌∙◌, ◌++◌, append-nil, Kind, is_latency_critical, Action, Setting, setting_in, grant_at, grant_of_kind_at, is_of_kind}
use Rattle.cal_machine.specs.declared.task.Kind.TheVariants as kinds
use Rattle.cal_policy.proofs.PassLemmas.Branches.{when_true, when_false}
use Rattle.cal_policy.proofs.pass.Pass.grant_of_kind.Goals as goal

not_it : (b : Bool) → true ≡ not b → false ≡ b
not_it true e = cc
not_it false e = refl

its_grant : (kind : Kind) (s : Setting) (acts : List Action) (t : ℕ) → true ≡ is_of_kind kind s.table t → grant_at s acts t ≡ grant_of_kind_at kind s acts t
its_grant kinds.LatencyCritical s acts t e = when_true (is_latency_critical s.table t) _ _ e
its_grant kinds.BestEffort s acts t e = when_false (is_latency_critical s.table t) _ _ (not_it (is_latency_critical s.table t) e)

its_none : (kind : Kind) (s : Setting) (acts : List Action) (t : ℕ) → false ≡ is_of_kind kind s.table t → [] ≡ grant_of_kind_at kind s acts t
its_none kinds.LatencyCritical s acts t e = when_false (is_latency_critical s.table t) _ _ e
its_none kinds.BestEffort s acts t e = when_true (is_latency_critical s.table t) _ _ (it (is_latency_critical s.table t) e)
  where
    it : (b : Bool) → false ≡ not b → true ≡ b
    it true e = refl
    it false e = cc

pub returns-then-is_of_kind-clause-acts : goal.returns-then-is_of_kind-clause-acts
returns-then-is_of_kind-clause-acts c = λ h s. (
  c.make.ensures.out ∙ ap (λ acts. c.args.out.now ++ acts) (c.grant_due-action.ensures.due h _ s ∙ its_grant c.args.kind (setting_in c.args.self.now h) c.args.out.now c.args.task c.if-is_of_kind.ensures),
  c.make.ensures.stands _ s,
)

pub returns-else-is_of_kind-clause-acts : goal.returns-else-is_of_kind-clause-acts
returns-else-is_of_kind-clause-acts c = λ h s. (
  sym (append-nil c.args.out.now) ∙ ap (λ acts. c.args.out.now ++ acts) (its_none c.args.kind (setting_in c.args.self.now h) c.args.out.now c.args.task c.if-is_of_kind.ensures),
  s,
)
