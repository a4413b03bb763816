use Rattle.std.proofs.Common.{◌≡◌, ◌++◌, ◌∷◌, ◌∙◌, [], List, length, ap, subst, sym}
use Rattle.cal_command.specs.Rings.{SenderView}
use Rattle.cal_policy.proofs.BoardLemmas.Replayed.{actions_push}
use Rattle.cal_policy.specs.History.{actions_of}
use Rattle.cal_policy.specs.State.{Agrees, IsReady}
use Rattle.cal_policy.specs.declared.board.Board.{Board}
use Rattle.cal_policy.specs.declared.history.action.Action.{Action}
use Rattle.cal_run.proofs.Members.{same_of_each}
use Rattle.cal_replay.specs.Passes.{MaySendSo}
use Rattle.cal_replay.proofs.Passed.{looked_so, may_send_so, pages_stay, rings_stay, whole_more}
use Rattle.cal_replay.proofs.replayer.Replayer.pass.Goals as goal

pub send_each-requires : goal.send_each-requires
send_each-requires c =
    let before = c.requires.some.0 in
    let h = c.requires.some.1 in
    let board = c.deref_mut.ensures.value in
    record {
      may = (
        before,
        may_send_so c.args.config.now before c.args.entry.now c.deref_mut.result.now c.args.self.now.observers.items c.look_each.new.observers.items c.args.self.now.senders.items c.look_each.new.senders.items
            c.limits.ensures c.requires.range c.in_ok-look_each.ensures.given h.pages h.rings (c.in_ok-judge.ensures.permitted before h.permitted h.keeps)
            (subst (λ (b : Board). IsReady c.args.config.now b) (sym board) h.sent_ready) (subst (λ (b : Board). Agrees b (actions_of before)) (sym board) h.sent_agrees) h.sent,
      );
    }

pub returns-clause-replayed : goal.returns-clause-replayed
returns-clause-replayed c = λ before h.
    let entry = c.args.entry.now in
    let board = c.deref_mut.ensures.value in
    let given = c.in_ok-look_each.ensures.given in
    let observers = c.args.self.now.observers.items in
    let looked = c.look_each.new.observers.items in
    let senders = c.args.self.now.senders.items in
    let asked = c.look_each.new.senders.items in
    let permitted = c.in_ok-judge.ensures.permitted before h.permitted h.keeps in
    let agrees = subst (λ (b : Board). Agrees b (actions_of before)) (sym board) h.sent_agrees in
    let seen_many : length entry.input.seen ≡ length observers = c.requires.range.looks ∙ sym h.pages in
    let rooms_many : length entry.input.rooms ≡ length senders = c.requires.range.rooms ∙ sym h.rings in
    let may : MaySendSo c.args.config.now before entry c.deref_mut.result.now asked = may_send_so c.args.config.now before entry c.deref_mut.result.now observers looked senders asked
    c.limits.ensures c.requires.range given h.pages h.rings permitted (subst (λ (b : Board). IsReady c.args.config.now b) (sym board) h.sent_ready) agrees h.sent in
    let sends = c.send_each.ensures.sent before may in
    record {
      permitted = permitted;
      whole = whole_more entry observers looked senders asked given seen_many rooms_many before h.whole given.pages;
      keeps = c.in_ok-judge.ensures.keeps before h.permitted h.keeps;
      ready = c.judge.ensures.of;
      sent_ready = c.send_each.ensures.ready;
      sent_agrees = subst (λ (x : List Action). Agrees c.send_each.new.sent x) (sym (actions_push before entry)) (c.send_each.ensures.agrees (actions_of before) agrees);
      pages = given.pages ∙ h.pages;
      rings = sends.rings ∙ given.rings ∙ h.rings;
      looks = looked_so entry observers looked senders asked given seen_many rooms_many before h.looks;
      sent = sends.sent;
    }

pub returns-clause-ends : goal.returns-clause-ends
returns-clause-ends c =
    let before = c.requires.some.0 in
    let h = c.requires.some.1 in
    let entry = c.args.entry.now in
    let board = c.deref_mut.ensures.value in
    let given = c.in_ok-look_each.ensures.given in
    let observers = c.args.self.now.observers.items in
    let looked = c.look_each.new.observers.items in
    let senders = c.args.self.now.senders.items in
    let asked = c.look_each.new.senders.items in
    let seen_many : length entry.input.seen ≡ length observers = c.requires.range.looks ∙ sym h.pages in
    let rooms_many : length entry.input.rooms ≡ length senders = c.requires.range.rooms ∙ sym h.rings in
    let may : MaySendSo c.args.config.now before entry c.deref_mut.result.now asked = may_send_so c.args.config.now before entry c.deref_mut.result.now observers looked senders asked
    c.limits.ensures c.requires.range given h.pages h.rings (c.in_ok-judge.ensures.permitted before h.permitted h.keeps)
    (subst (λ (b : Board). IsReady c.args.config.now b) (sym board) h.sent_ready) (subst (λ (b : Board). Agrees b (actions_of before)) (sym board) h.sent_agrees) h.sent in
    let sends = c.send_each.ensures.sent before may in
    record {
      pages = pages_stay entry observers looked senders asked given seen_many rooms_many;
      rings = same_of_each (λ (s : SenderView). s.ring) asked c.send_each.new.senders.items sends.rings sends.same
          ∙ rings_stay entry observers looked senders asked given seen_many rooms_many;
    }
