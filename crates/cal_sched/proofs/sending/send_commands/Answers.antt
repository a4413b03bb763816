use Rattle.cal_sched.proofs.Common.{◌≡◌, ◌<◌, ◌≤◌, List, [], ◌∷◌, ◌++◌, length, take, get_or, Some, None, slice_get, refl, sym, ap, subst, ◌∙◌, arith, slice_get-get_or, slice_get_read, SenderView, HasRoom, Action, IsSentBy, actions_of, threads_of_table, history_of, entry_of}
use Rattle.cal_policy.specs.declared.history.action.Action.TheVariants.{Free}
use Rattle.cal_sched.proofs.Sent.{SentBelow-none, SentBelow-silent, SentBelow-more, SentBelow-all, of_last, room_known, sendable}
use Rattle.cal_sched.proofs.PolicyLemmas.{one_command_by, room_by}
use Rattle.cal_sched.proofs.sending.send_commands.Goals as goal
use Rattle.cal_sched.proofs.sending.send_commands.Goals.{in-Some, in_default}

pub loop-action-init : goal.loop-action-init
loop-action-init c =
    let before = history_of c.args.book.now.policy c.args.config.now c.args.past.now in
    let last = entry_of c.args.book.now.policy c.args.config.now before c.args.pass.now in
    SentBelow-none before last c.args.senders.now (of_last c.args.config.now c.args.book.now (before ++ last ∷ []) c.args.senders.now before last c.requires.may refl).sent

pub bounds-senders-thread : goal.bounds-senders-thread
bounds-senders-thread c =
    let before = history_of c.args.book.now.policy c.args.config.now c.args.past.now in
    let last = entry_of c.args.book.now.policy c.args.config.now before c.args.pass.now in
    let i = c.loop-action.action-index in
    let items : List Action = c.args.actions.now in
    let facts = of_last c.args.config.now c.args.book.now (before ++ last ∷ []) c.args.senders.now before last c.requires.may refl in
    let same : items ≡ last.actions = c.requires.made in
    let at : slice_get last.actions i ≡ Some (get_or items i (Free 0)) = rw (← same) (slice_get-get_or items i (Free 0) c.loop-action-test.true) in
    let by = rw c.in-Some.is at (c.command_of.ensures c.args.book.now.policy c.args.config.now before last c.limits.ensures facts.legal facts.agrees i at) in
    let low : c.in-Some.thread < threads_of_table c.args.config.now = by.thread in
    let rings : length c.args.senders.now ≡ threads_of_table c.args.config.now = c.requires.may.rings in
    let many : length c.loop-action.senders ≡ length c.args.senders.now = c.loop-action.auto.senders in
    omega (arith, low, rings, many)

pub send-requires : goal.send-requires
send-requires c =
    let before = history_of c.args.book.now.policy c.args.config.now c.args.past.now in
    let last = entry_of c.args.book.now.policy c.args.config.now before c.args.pass.now in
    let i = c.loop-action.action-index in
    let t = c.in-Some.thread in
    let items : List Action = c.args.actions.now in
    let action : Action = get_or items i (Free 0) in
    let now : List SenderView = c.loop-action.senders in
    let facts = of_last c.args.config.now c.args.book.now (before ++ last ∷ []) c.args.senders.now before last c.requires.may refl in
    let same : items ≡ last.actions = c.requires.made in
    let at : slice_get last.actions i ≡ Some action = rw (← same) (slice_get-get_or items i (Free 0) c.loop-action-test.true) in
    let by : IsSentBy c.args.config.now (actions_of before ++ take i last.actions) action (Some (t, c.in-Some.command)) =
    rw c.in-Some.is at (c.command_of.ensures c.args.book.now.policy c.args.config.now before last c.limits.ensures facts.legal facts.agrees i at) in
    let low : t < threads_of_table c.args.config.now = by.thread in
    let rings : length c.args.senders.now ≡ threads_of_table c.args.config.now = c.requires.may.rings in
    let many : length now ≡ length c.args.senders.now = c.loop-action.auto.senders in
    let had : SenderView = c.index-senders-thread.result in
    let here : slice_get now t ≡ Some had = slice_get_read now (length now) t had refl (omega (arith, low, rings, many)) c.index-senders-thread.is in
    let room : HasRoom had = room_known before last c.args.senders.now c.args.book.now.policy c.args.config.now i action t c.in-Some.command now had c.limits.ensures facts.legal
    (room_by c.each_policy_is_permitted.ensures c.commands_go_where_is_room.ensures c.args.book.now.policy) (one_command_by c.each_policy_is_permitted.ensures c.threads_are_sent_one_command.ensures c.args.book.now.policy) at (by.exact t) many facts.room c.loop-action.invariant here in
    record {
      room = subst HasRoom c.index-senders-thread.is room;
      core = sendable c.args.config.now c.in-Some.command c.limits.ensures by.core;
    }

pub loop-action-preserved : goal.loop-action-preserved
loop-action-preserved c =
    let before = history_of c.args.book.now.policy c.args.config.now c.args.past.now in
    let last = entry_of c.args.book.now.policy c.args.config.now before c.args.pass.now in
    let i = c.loop-action.action-index in
    let items : List Action = c.args.actions.now in
    let action : Action = get_or items i (Free 0) in
    let now : List SenderView = c.loop-action.senders in
    let facts = of_last c.args.config.now c.args.book.now (before ++ last ∷ []) c.args.senders.now before last c.requires.may refl in
    let same : items ≡ last.actions = c.requires.made in
    let at : slice_get last.actions i ≡ Some action = rw (← same) (slice_get-get_or items i (Free 0) c.loop-action-test.true) in
    let sent : IsSentBy c.args.config.now (actions_of before ++ take i last.actions) action c.command_of.result =
    c.command_of.ensures c.args.book.now.policy c.args.config.now before last c.limits.ensures facts.legal facts.agrees i at in
    let rings : length c.args.senders.now ≡ threads_of_table c.args.config.now = c.requires.may.rings in
    let many : length now ≡ length c.args.senders.now = c.loop-action.auto.senders in
    elim c.match-command_of.branch [
      | in-Some w ↦
          let t = w.in-Some.thread in
          let by : IsSentBy c.args.config.now (actions_of before ++ take i last.actions) action (Some (t, w.in-Some.command)) = rw w.in-Some.is at sent in
          let low : t < threads_of_table c.args.config.now = by.thread in
          let had : SenderView = w.index-senders-thread.result in
          let here : slice_get now t ≡ Some had = slice_get_read now (length now) t had refl (omega (arith, low, rings, many)) w.index-senders-thread.is in
          rw w.senders-is (SentBelow-more before last c.args.senders.now c.args.book.now.policy c.args.config.now i action t w.in-Some.command now had w.send.new.self c.limits.ensures facts.legal
          (one_command_by c.each_policy_is_permitted.ensures c.threads_are_sent_one_command.ensures c.args.book.now.policy) facts.sent at by.exact c.loop-action.invariant here
          (w.send.ensures.ring ∙ ap (λ (x : SenderView). x.ring) (sym w.index-senders-thread.is))
          (w.send.ensures.sent ∙ ap (λ (x : SenderView). x.sent ++ w.in-Some.command ∷ []) (sym w.index-senders-thread.is)))
      | in_default w ↦
          let by : IsSentBy c.args.config.now (actions_of before ++ take i last.actions) action None = rw w.in_default.is at sent in
          rw w.senders-is (SentBelow-silent before last c.args.senders.now i action now at by.exact c.loop-action.invariant)
    ]

pub returns : goal.returns
returns c =
    let before = history_of c.args.book.now.policy c.args.config.now c.args.past.now in
    let last = entry_of c.args.book.now.policy c.args.config.now before c.args.pass.now in
    let items : List Action = c.args.actions.now in
    let same : items ≡ last.actions = c.requires.made in
    let ge : length last.actions ≤ c.loop-action.action-index = rw (← same) c.loop-action-test.false in
    (SentBelow-all before last c.args.senders.now c.loop-action.action-index c.loop-action.senders ge c.loop-action.invariant)
