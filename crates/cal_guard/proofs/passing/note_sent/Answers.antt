use Rattle.cal_guard.proofs.Common.{◌<◌, Some, None, refl, sym, ap, subst, ◌∙◌, arith, ltb, length, option_map, IfSome, threads_of_table, core_changed, granted_in, NamesTable, addressed_to, so_far, is_core}
use Rattle.cal_guard.proofs.Sent.{noted, to_addressed, granted_last, inserted, sent_below, thread_below}
use Rattle.cal_guard.proofs.passing.note_sent.Goals as goal

pub insert-requires : goal.insert-requires
insert-requires c =
    let threads = threads_of_table c.args.config.now in
    let below = sent_below c.args.config.now.cores threads c.thread_granted.result (c.in-Some.thread, c.in-Some.field-0-1) c.args.action c.requires.names
    (λ core cause is. subst (λ o. IfSome o (λ thread. thread < threads)) (sym (c.thread_granted.ensures core (c.core_changed_by-core.ensures.changed ∙ ap core_changed is)))
    (thread_below threads (granted_in c.args.board.now.holding core) (c.requires.ready.own.holding.granted core)))
    (λ x granted k. ap (addressed_to k) (sym c.in-Some.is) ∙ c.command_for.ensures x granted k) in
    let most = c.requires.table.threads in
    omega (arith, below, most)

pub returns-in-Some : goal.returns-in-Some
returns-in-Some c = λ s acts agrees was.
    let x = so_far s acts in
    noted c.args.sent.now c.insert.new.self s acts c.args.action (Some c.in-Some.thread)
    (λ k. ap (λ l. ltb 0 (length l)) (sym (c.command_for.ensures x
    (λ core cause is.
    let low : core < c.args.config.now.cores = subst (NamesTable c.args.config.now) is c.requires.names in
    c.thread_granted.ensures core (c.core_changed_by-core.ensures.changed ∙ ap core_changed is)
    ∙ granted_last x core (granted_in c.args.board.now.holding core) (agrees.holding.granted core (omega arith))) k))
    ∙ to_addressed c.command_for.result k ∙ ap (λ o. is_core k (option_map (λ p. p.0) o)) c.in-Some.is)
    was (inserted c.args.sent.now c.insert.new.self c.in-Some.thread c.insert.ensures)

pub returns-in_default : goal.returns-in_default
returns-in_default c = λ s acts agrees was.
    let x = so_far s acts in
    noted c.args.sent.now c.args.sent.now s acts c.args.action None
    (λ k. ap (λ l. ltb 0 (length l)) (sym (c.command_for.ensures x
    (λ core cause is.
    let low : core < c.args.config.now.cores = subst (NamesTable c.args.config.now) is c.requires.names in
    c.thread_granted.ensures core (c.core_changed_by-core.ensures.changed ∙ ap core_changed is)
    ∙ granted_last x core (granted_in c.args.board.now.holding core) (agrees.holding.granted core (omega arith))) k))
    ∙ to_addressed c.command_for.result k ∙ ap (λ o. is_core k (option_map (λ p. p.0) o)) c.in_default.is)
    was (λ k lt. refl)
