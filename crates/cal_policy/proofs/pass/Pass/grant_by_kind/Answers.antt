-- The latency-critical tasks and the best-effort ones are all tasks.
use Rattle.cal_policy.proofs.Common.{◌≡◌, ◌+◌, ◌≤◌, ◌++◌, ◌∙◌, length, refl, ap, arith, Setting, setting_in, grants_of_kind, is_of_kind, tasks_of_kind}
use Rattle.cal_machine.specs.declared.task.Kind.TheVariants as kinds
use Rattle.cal_policy.proofs.ListLemmas.OneNumberMore.{count_at_most, count_both}
use Rattle.cal_policy.proofs.PassLemmas.FromParts.{follows}
use Rattle.cal_policy.proofs.PassLemmas.NoneGranted.{nothing_granted}
use Rattle.cal_policy.proofs.pass.Pass.grant_by_kind.Goals as goal

pub grants_of_kind-requires-clause-room : goal.grants_of_kind-requires-clause-room
grants_of_kind-requires-clause-room c =
    let table = c.args.self.now.config.now in
    let few : tasks_of_kind kinds.LatencyCritical table ≤ length table.tasks = count_at_most (is_of_kind kinds.LatencyCritical table) (length table.tasks) in
    omega (arith, few, c.requires.room)

pub grants_of_kind-requires-2-clause-room : goal.grants_of_kind-requires-2-clause-room
grants_of_kind-requires-2-clause-room c =
    let table = c.args.self.now.config.now in
    let all : tasks_of_kind kinds.LatencyCritical table + tasks_of_kind kinds.BestEffort table ≡ length table.tasks =
    count_both (is_of_kind kinds.LatencyCritical table) (length table.tasks) in
    omega (arith, all, c.requires.room)

-- where no thread waits no task is granted a core
pub returns-then-none_waits-clause-acts : goal.returns-then-none_waits-clause-acts
returns-then-none_waits-clause-acts c = λ h st.
    let s : Setting = setting_in c.args.self.now h in
    let none = nothing_granted c.args.board.now s c.args.out.now st c.requires.of_table.ready.keeping c.requires.of_table.accepted.threads (c.if-none_waits.ensures.kept refl) in
    (none kinds.BestEffort ∙ ap (λ o. o ++ grants_of_kind kinds.BestEffort s o) (none kinds.LatencyCritical), st)

pub returns-clause-acts : goal.returns-clause-acts
returns-clause-acts c = λ h st.
    let s : Setting = setting_in c.args.self.now h in
    let critical = c.grants_of_kind.ensures.acts h st in
    let rest = c.grants_of_kind-2.ensures.acts h critical.1 in
    (follows (grants_of_kind kinds.BestEffort s) _ _ _ critical.0 rest.0, rest.1)
