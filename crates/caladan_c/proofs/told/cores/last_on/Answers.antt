use Rattle.std.proofs.Common.{◌≡◌, ◌<◌, ℕ, Some, None, ap, sym, ◌∙◌, arith, option_map}
use Rattle.cal_machine.specs.declared.machine.TheConstants.{MOST_CORES}
use Rattle.cal_policy.specs.declared.board.holders.Placement.{Placement}
use Rattle.cal_policy.specs.History.{actions_of, last_thread}
use Rattle.caladan_c.specs.Cores.{told_last_of}
use Rattle.caladan_c.specs.declared.told.cores.ToldLast.{ToldLast}
use Rattle.caladan_c.proofs.LastGrant.{kept_thread}
use Rattle.caladan_c.proofs.told.cores.last_on.Goals as goal

pub returns-in-Some-clause-last : goal.returns-in-Some-clause-last
returns-in-Some-clause-last c = λ h state.
    let low : c.args.core < MOST_CORES = omega (arith, c.if-core-cores.false, c.limits.ensures.machine) in
    let thread : last_thread (actions_of h) c.args.core ≡ Some c.in-Some.grant.thread =
    c.last_thread_is_placed.ensures (actions_of h) c.args.core ∙ kept_thread _ _ (state.actions.holding.granted c.args.core low) ∙ ap (option_map (λ (p : Placement). p.thread)) c.in-Some.is in
    ap (λ (task : ℕ). let told : ToldLast = record { granted = 1; thread = c.in-Some.grant.thread; task = task } in told) c.task_of.ensures.task
    ∙ sym (ap (told_last_of c.args.config.now) thread)

pub returns-in-None-clause-last : goal.returns-in-None-clause-last
returns-in-None-clause-last c = λ h state.
    let low : c.args.core < MOST_CORES = omega (arith, c.if-core-cores.false, c.limits.ensures.machine) in
    let thread : last_thread (actions_of h) c.args.core ≡ None =
    c.last_thread_is_placed.ensures (actions_of h) c.args.core ∙ kept_thread _ _ (state.actions.holding.granted c.args.core low) ∙ ap (option_map (λ (p : Placement). p.thread)) c.in-None.is in
    sym (ap (told_last_of c.args.config.now) thread)
