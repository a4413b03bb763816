use Rattle.std.proofs.Common.{◌≡◌, ◌<◌, ◌≤◌, ◌+◌, ◌++◌, ◌∷◌, ◌∙◌, [], ℕ, List, Option, Some, None, length, get_or, slice_get, take, refl, sym, ap, subst, arith, append_assoc}
use Rattle.std.proofs.lemmas.List.{append-nil, take_all}
use Rattle.std.proofs.lemmas.Option.{slice_get-get_or}
use Rattle.cal_command.specs.Rings.{SenderView, HasRoom}
use Rattle.cal_machine.proofs.Last.{take_next}
use Rattle.cal_machine.specs.Table.{Table}
use Rattle.cal_machine.specs.TableTasks.{threads_of_table}
use Rattle.cal_machine.specs.declared.command.Command.{Command}
use Rattle.cal_policy.specs.Book.{IsSentBy}
use Rattle.cal_policy.specs.History.{actions_of}
use Rattle.cal_policy.specs.State.{Agrees}
use Rattle.cal_policy.specs.declared.board.Board.{Board}
use Rattle.cal_policy.specs.declared.history.action.Action.{Action}
use Rattle.cal_policy.specs.declared.history.action.Action.TheVariants.{Free}
use Rattle.cal_policy.specs.declared.history.entry.PassEntry.{PassEntry}
use Rattle.cal_sched.proofs.Sent.{SentBelow-all, SentBelow-none, SentBelow-silent, sendable}
use Rattle.cal_replay.specs.Passes.{MaySendSo}
use Rattle.cal_replay.proofs.Sends.{SentBelow-more, room_known}
use Rattle.cal_replay.proofs.sending.send_each.Goals as goal
use Rattle.cal_replay.proofs.sending.send_each.Goals.{in-Some, in_default}

-- the action at a place of the pass
at_place : (entry : PassEntry) (items : List Action) (i : ℕ) → items ≡ entry.actions → i < length items → slice_get entry.actions i ≡ Some (get_or items i (Free 0))
at_place entry items i same lt = subst (λ (l : List Action). slice_get l i ≡ Some (get_or items i (Free 0))) same (slice_get-get_or items i (Free 0) lt)

pub loop-action-init : goal.loop-action-init
loop-action-init c = record {
  sent = λ before may. SentBelow-none before c.args.entry.now c.args.senders.now.items may.sent;
  agrees = λ x held. subst (λ (l : List Action). Agrees c.args.sent.now l) (sym (append-nil x)) held;
  ready = c.requires.may.1.ready;
}

pub command_of-command-requires-clause-ready : goal.command_of-command-requires-clause-ready
command_of-command-requires-clause-ready c = c.loop-action.invariant.ready

pub command_of-command-requires-clause-names : goal.command_of-command-requires-clause-names
command_of-command-requires-clause-names c =
    c.requires.may.1.names c.loop-action.action-index _ (at_place c.args.entry.now c.as_slice-actions.result.now c.loop-action.action-index c.as_slice-actions.ensures c.loop-action-test.true)

pub apply-requires-clause-ready : goal.apply-requires-clause-ready
apply-requires-clause-ready c = c.loop-action.invariant.ready

pub apply-requires-clause-names : goal.apply-requires-clause-names
apply-requires-clause-names c =
    c.requires.may.1.names c.loop-action.action-index _ (at_place c.args.entry.now c.as_slice-actions.result.now c.loop-action.action-index c.as_slice-actions.ensures c.loop-action-test.true)

-- what an action of the pass sends
abbrev Sent : (table : Table) (before : List PassEntry) (entry : PassEntry) (i : ℕ) (action : Action) (o : Option (ℕ × Command)) → Type 0
Sent table before entry i action o = IsSentBy table (actions_of before ++ take i entry.actions) action o

pub index_mut-requires : goal.index_mut-requires
index_mut-requires c =
    let before = c.requires.may.0 in
    let may = c.requires.may.1 in
    let i = c.loop-action.action-index in
    let entry = c.args.entry.now in
    let items : List Action = c.as_slice-actions.result.now in
    let by : Sent c.args.config.now before entry i (get_or items i (Free 0)) (Some (c.in-Some.thread, c.in-Some.command)) = subst (λ (o : Option (ℕ × Command)). Sent c.args.config.now before entry i (get_or items i (Free 0)) o) c.in-Some.is (c.command_of-command.ensures (actions_of before ++ take i entry.actions) (c.loop-action.invariant.agrees (actions_of before) may.agrees)) in
    let low : c.in-Some.thread < threads_of_table c.args.config.now = by.thread in
    let below = (c.loop-action.invariant.sent before may).rings in
    let rings = may.rings in
    let own = c.loop-action.senders.ok.0 in
    omega (arith, low, below, rings, own)

pub send-requires-clause-room : goal.send-requires-clause-room
send-requires-clause-room c =
    let before = c.requires.may.0 in
    let may = c.requires.may.1 in
    let i = c.loop-action.action-index in
    let entry = c.args.entry.now in
    let t = c.in-Some.thread in
    let items : List Action = c.as_slice-actions.result.now in
    let at = at_place entry items i c.as_slice-actions.ensures c.loop-action-test.true in
    let by : Sent c.args.config.now before entry i (get_or items i (Free 0)) (Some (t, c.in-Some.command)) = subst (λ (o : Option (ℕ × Command)). Sent c.args.config.now before entry i (get_or items i (Free 0)) o) c.in-Some.is
    (c.command_of-command.ensures (actions_of before ++ take i entry.actions) (c.loop-action.invariant.agrees (actions_of before) may.agrees)) in
    let below = c.loop-action.invariant.sent before may in
    let low = by.thread in
    let many = below.rings in
    let rings = may.rings in
    let had : SenderView = c.index_mut.result.now in
    let here : slice_get c.loop-action.senders.items t ≡ Some had = slice_get-get_or c.loop-action.senders.items t _ (omega (arith, low, many, rings)) ∙ ap Some (sym c.index_mut.ensures.value) in
    room_known before entry c.args.senders.now.items c.args.config.now i (get_or items i (Free 0)) t c.in-Some.command c.loop-action.senders.items had may.permitted
    c.commands_go_where_is_room.ensures c.threads_are_sent_one_command.ensures at (by.exact t) many may.room below here

pub send-requires-clause-core : goal.send-requires-clause-core
send-requires-clause-core c =
    let before = c.requires.may.0 in
    let may = c.requires.may.1 in
    let i = c.loop-action.action-index in
    let entry = c.args.entry.now in
    let items : List Action = c.as_slice-actions.result.now in
    let by : Sent c.args.config.now before entry i (get_or items i (Free 0)) (Some (c.in-Some.thread, c.in-Some.command)) = subst (λ (o : Option (ℕ × Command)). Sent c.args.config.now before entry i (get_or items i (Free 0)) o) c.in-Some.is
    (c.command_of-command.ensures (actions_of before ++ take i entry.actions) (c.loop-action.invariant.agrees (actions_of before) may.agrees)) in
    sendable c.args.config.now c.in-Some.command c.limits.ensures by.core

pub loop-action-preserved : goal.loop-action-preserved
loop-action-preserved c =
    let i = c.loop-action.action-index in
    let entry = c.args.entry.now in
    let items : List Action = c.as_slice-actions.result.now in
    let action : Action = get_or items i (Free 0) in
    let at = at_place entry items i c.as_slice-actions.ensures c.loop-action-test.true in
    record {
      sent = λ before may.
          let below = c.loop-action.invariant.sent before may in
          let told : Sent c.args.config.now before entry i action c.command_of-command.result =
          c.command_of-command.ensures (actions_of before ++ take i entry.actions) (c.loop-action.invariant.agrees (actions_of before) may.agrees) in
          elim c.match-command.branch [
            | in-Some w ↦
                let t = w.in-Some.thread in
                let by : Sent c.args.config.now before entry i action (Some (t, w.in-Some.command)) = subst (λ (o : Option (ℕ × Command)). Sent c.args.config.now before entry i action o) w.in-Some.is told in
                let low = by.thread in
                let many = below.rings in
                let rings = may.rings in
                let had : SenderView = w.index_mut.result.now in
                let here : slice_get c.loop-action.senders.items t ≡ Some had = slice_get-get_or c.loop-action.senders.items t _ (omega (arith, low, many, rings)) ∙ ap Some (sym w.index_mut.ensures.value) in
                rw w.senders-is (SentBelow-more before entry c.args.senders.now.items c.args.config.now i action t w.in-Some.command c.loop-action.senders.items had w.send.new.self may.permitted
                c.threads_are_sent_one_command.ensures may.sent at by.exact below here w.send.ensures.ring w.send.ensures.sent)
            | in_default w ↦
                let by : Sent c.args.config.now before entry i action None = subst (λ (o : Option (ℕ × Command)). Sent c.args.config.now before entry i action o) w.in_default.is told in
                rw w.senders-is (SentBelow-silent before entry c.args.senders.now.items i action c.loop-action.senders.items at by.exact below)
          ];
      agrees = λ x held.
          let longer : x ++ take (i + 1) entry.actions ≡ (x ++ take i entry.actions) ++ action ∷ [] =
          ap (λ (xs : List Action). x ++ xs) (take_next entry.actions i action at) ∙ sym (append_assoc x (take i entry.actions) (action ∷ [])) in
          subst (λ (l : List Action). Agrees c.apply.new.self l) (sym longer) (c.apply.ensures.agrees (x ++ take i entry.actions) (c.loop-action.invariant.agrees x held));
      ready = c.apply.ensures.ready;
    }

pub returns-clause-sent : goal.returns-clause-sent
returns-clause-sent c = λ before may.
    let past = c.loop-action-test.false in
    let many = ap (λ (l : List Action). length l) c.as_slice-actions.ensures in
    SentBelow-all before c.args.entry.now c.args.senders.now.items c.loop-action.action-index c.loop-action.senders.items (omega (arith, past, many)) (c.loop-action.invariant.sent before may)

pub returns-clause-agrees : goal.returns-clause-agrees
returns-clause-agrees c = λ x held.
    let past = c.loop-action-test.false in
    let many = ap (λ (l : List Action). length l) c.as_slice-actions.ensures in
    let i = c.loop-action.action-index in
    let whole : take i c.args.entry.now.actions ≡ c.args.entry.now.actions = take_all i c.args.entry.now.actions (omega (arith, past, many)) in
    subst (λ (l : List Action). Agrees c.loop-action.sent (x ++ l)) whole (c.loop-action.invariant.agrees x held)

pub returns-clause-ready : goal.returns-clause-ready
returns-clause-ready c = c.loop-action.invariant.ready
