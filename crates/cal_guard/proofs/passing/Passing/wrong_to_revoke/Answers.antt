-- The core is held, and of its thread and that thread's task all is as the actions say.
use Rattle.cal_guard.proofs.Common.{◌≡◌, ◌<◌, List, ap, sym, subst, ◌∙◌, arith, option_or, IfSome, owner_of, threads_of_table, Action, Holder, holder_of, Setting, setting_at, so_far, kept_holder, placement_of, is_over, AtGuarantee, unless, wrong_to_send, wrong_to_revoke}
use Rattle.cal_policy.specs.declared.board.holders.Placement.{Placement}
use Rattle.cal_policy.specs.declared.board.holders.Holder.TheVariants.{Free, Held, Leaving}
use Rattle.cal_guard.proofs.passing.Passing.wrong_to_revoke.Goals as goal

of_held : (s : Setting) (acts : List Action) (h : Holder) (p : Placement) → Held p ≡ kept_holder h →
    option_or (unless (is_over s.table (so_far s acts) (owner_of s.table p.thread)) AtGuarantee) (wrong_to_send s acts p.thread) ≡ wrong_to_revoke s acts h
of_held s acts Free p e = cc
of_held s acts (Leaving q cause) p e = cc
of_held s acts (Held q) p e =
    let same : p.thread ≡ q.thread = cc in
    ap (λ t. option_or (unless (is_over s.table (so_far s acts) (owner_of s.table t)) AtGuarantee) (wrong_to_send s acts t)) same

pub returns-in-Held : goal.returns-in-Held
returns-in-Held c = λ h acts agrees sent.
    let s : Setting = setting_at c.args.config.now c.args.terms.now h in
    let p : Placement = c.in-Held.placement in
    let low : c.args.core < 128 = omega (arith, c.requires.core, c.requires.table.machine.most) in
    let P : Holder → Type 0 = λ o. IfSome (placement_of o) (λ q. q.thread < threads_of_table c.args.config.now) in
    let own : p.thread < threads_of_table c.args.config.now = subst P c.in-Held.is (c.requires.ready.own.holding.holders c.args.core) in
    let kept : Held p ≡ kept_holder (holder_of (so_far s acts) c.args.core) = sym c.in-Held.is ∙ agrees.holding.holders c.args.core low in
    let over : c.is_over.result ≡ is_over s.table (so_far s acts) (owner_of s.table p.thread) =
    c.is_over.ensures (so_far s acts) agrees ∙ ap (λ t. is_over s.table (so_far s acts) t) c.task_of-task.ensures.task in
    let send : c.wrong_to_send.result ≡ wrong_to_send s acts p.thread = c.wrong_to_send.ensures c.args.config.now h acts own sent in
    c.or.ensures
    ∙ ap (λ o. option_or o c.wrong_to_send.result) (c.unless.ensures ∙ ap (λ b. unless b AtGuarantee) over)
    ∙ ap (λ o. option_or (unless (is_over s.table (so_far s acts) (owner_of s.table p.thread)) AtGuarantee) o) send
    ∙ of_held s acts (holder_of (so_far s acts) c.args.core) p kept
