use Rattle.cal_sched.proofs.Common.{◌≡◌, ◌+◌, ◌<◌, List, [], ◌∷◌, ◌++◌, length, take, drop, refl, sym, ap, subst, ◌∙◌, arith, length-append, ObserverView, SenderView, Action, PassEntry, Policy, board_in, IsStateAfter, judged_input, IsOpenAt, SettledAreNoNews, HaveFoundSo, HaveFound, HaveSent, IsPassed, AreLast, entry_of, history_of, SchedulerView, IsKept, MaySend}
use Rattle.cal_sched.specs.declared.found_pass.FoundPass.{FoundPass}
use Rattle.cal_sched.proofs.Lists.{written_whole}
use Rattle.cal_sched.proofs.Passed.{may_send, kept_after}
use Rattle.cal_sched.proofs.Past.{history_push, last_push}
use Rattle.cal_sched.proofs.PolicyLemmas.{no_news_by}
use Rattle.cal_sched.proofs.bare_scheduler.BareScheduler.step.Goals as goal
use Rattle.cal_sched.proofs.bare_scheduler.BareScheduler.step.Goals.{After-as_mut_slice-3, After-drop-pass}

-- the scheduler as the step begins
abbrev start : After-as_mut_slice-3 → SchedulerView
start c = record {
  table = c.self.inside.config;
  policy = c.self.inside.book.policy;
  history = history_of c.self.inside.book.policy c.self.inside.config c.self.inside.past;
  observers = c.self.inside.observers.items;
  senders = c.self.inside.senders.items;
}

-- what the pass is made of
abbrev made : After-as_mut_slice-3 → FoundPass
made c = record { clock = c.args.now; bandwidth = c.args.bandwidth; found = c.find_news.new.found }

-- the pass, and the history with it
abbrev entry : After-as_mut_slice-3 → PassEntry
entry c = entry_of (start c).policy (start c).table (start c).history (made c)

abbrev after : After-as_mut_slice-3 → List PassEntry
after c = (start c).history ++ entry c ∷ []

-- what was found and decided, as the commands are to be sent
record Decided (c : After-as_mut_slice-3) : Type 0 where
  kept : IsKept (start c)
  finds : HaveFound (start c).observers c.find_news.new.observers (start c).senders c.find_news.new.senders c.find_news.new.found
  opened : IsOpenAt (start c).table (start c).history c.find_news.new.found c.find_news.new.pass
  acts : c.pass.new.out ≡ (entry c).actions
  agreed : IsStateAfter (board_in c.pass.new.self) (after c)
  rung : take c.self.inside.senders.len (c.find_news.new.senders ++ drop (length c.find_news.new.senders) c.self.inside.senders.items) ≡ c.find_news.new.senders

decided : (c : After-as_mut_slice-3) → Decided c
decided c =
    let s : SchedulerView = start c in
    let kept : IsKept s = c.self.invariant.0 in
    let agrees : IsStateAfter (board_in c.self.inside.book) s.history = c.self.invariant.1 in
    let looked : List ObserverView = c.find_news.new.observers in
    let asked : List SenderView = c.find_news.new.senders in
    let found = c.find_news.new.found in
    let pages : c.as_mut_slice.result.now ≡ s.observers = c.as_mut_slice.ensures.value in
    let rings : c.as_mut_slice-2.result.now ≡ s.senders = c.as_mut_slice-2.ensures.value in
    let finds : HaveFound s.observers looked s.senders asked found = rw (pages, rings) at c.find_news.ensures.found in
    let quiet : SettledAreNoNews s.table s.history = no_news_by c.each_policy_is_permitted.ensures c.permitted_settled_is_no_news.ensures s.policy s.table s.history c.limits.ensures kept.legal in
    let so : HaveFoundSo s.history c.as_mut_slice.result.now = rw pages kept.looks in
    let came : IsOpenAt s.table s.history found c.find_news.new.pass = c.find_news.ensures.taken s.history quiet (c.board.ensures.agrees s.history agrees) so in
    let opened : IsOpenAt s.table s.history found c.deref.result.now = rw c.deref.ensures came in
    let ring_items = c.self.inside.senders in
    let many_rings : length asked ≡ length ring_items.items = finds.rings in
    let next = c.pass.ensures.own s.history found kept.legal agrees opened in
    record {
      kept = kept;
      finds = finds;
      opened = came;
      acts = next.acts;
      agreed = subst (IsStateAfter (board_in c.pass.new.self)) (ap (λ (l : List Action). let e : PassEntry = record { input = judged_input s.table s.history c.args.now c.args.bandwidth found; actions = l } in s.history ++ e ∷ []) next.acts) next.agrees;
      rung = written_whole ring_items.len asked ring_items.items ring_items.ok.0 many_rings;
    }

pub find_news-requires-clause-begun : goal.find_news-requires-clause-begun
find_news-requires-clause-begun c = λ h. rw c.deref_mut-2.ensures.value (c.begin.ensures c.self.inside.config h)

pub send_commands-requires-clause-may : goal.send_commands-requires-clause-may
send_commands-requires-clause-may c =
    let was = decided c in
    let h : Policy → List PassEntry = λ p. history_of p c.self.inside.config c.self.inside.past in
    let P : Policy → Type 0 = λ p. MaySend c.self.inside.config c.pass.new.self (h p ++ entry_of p c.self.inside.config (h p) (made c) ∷ []) c.find_news.new.senders in
    let may : P c.self.inside.book.policy =
    may_send (start c) c.args.now c.args.bandwidth c.find_news.new.observers c.find_news.new.senders c.find_news.new.found c.pass.new.self c.pass.ensures.policy was.kept was.finds was.agreed in
    rw (c.as_mut_slice-3.ensures.value, was.rung) (subst P (sym c.pass.ensures.policy) may)

pub send_commands-requires-clause-made : goal.send_commands-requires-clause-made
send_commands-requires-clause-made c = rw c.pass.ensures.policy (c.as_slice.ensures ∙ (decided c).acts)

-- the pass at the end, and as it began to send
abbrev sending : After-drop-pass → After-as_mut_slice-3
sending c = (goal.at.invariant_of-self c).After-as_mut_slice-3

-- the scheduler as the step ends
abbrev end : After-drop-pass → SchedulerView
end c =
    let looked : List ObserverView = c.find_news.new.observers in
    let asked : List SenderView = c.find_news.new.senders in
    let sent : List SenderView = c.send_commands.new.senders in
    let pages = c.self.inside.observers in
    let rings = c.self.inside.senders in record {
      table = c.self.inside.config;
      policy = c.pass.new.self.policy;
      history = history_of c.pass.new.self.policy c.self.inside.config c.note.new.self;
      observers = take pages.len (looked ++ drop (length looked) pages.items);
      senders = take rings.len (sent ++ drop (length sent) (take rings.len (asked ++ drop (length asked) rings.items)));
    }

-- what was sent; the ends that looked and sent are those that are kept
record Sent (c : After-drop-pass) : Type 0 where
  was : Decided (sending c)
  sends : HaveSent c.find_news.new.senders c.send_commands.new.senders (after (sending c))
  history : history_of c.pass.new.self.policy c.self.inside.config c.note.new.self ≡ after (sending c)
  ends : end c ≡ record { table = c.self.inside.config; policy = c.self.inside.book.policy; history = after (sending c); observers = c.find_news.new.observers; senders = c.send_commands.new.senders }

all_sent : (c : After-drop-pass) → Sent c
all_sent c =
    let was = decided (sending c) in
    let looked : List ObserverView = c.find_news.new.observers in
    let asked : List SenderView = c.find_news.new.senders in
    let sent : List SenderView = c.send_commands.new.senders in
    let pages = c.self.inside.observers in
    let rings = c.self.inside.senders in
    let many_pages : length looked ≡ length pages.items = was.finds.pages in
    let paged : take pages.len (looked ++ drop (length looked) pages.items) ≡ looked = written_whole pages.len looked pages.items pages.ok.0 many_pages in
    let given : c.as_mut_slice-3.result.now ≡ asked = c.as_mut_slice-3.ensures.value ∙ was.rung in
    let by : Policy = c.self.inside.book.policy in
    let same : c.pass.new.self.policy ≡ by = c.pass.ensures.policy in
    let history : history_of c.pass.new.self.policy c.self.inside.config c.note.new.self ≡ after (sending c) =
    ap (λ (p : Policy). history_of p c.self.inside.config c.note.new.self) same
    ∙ ap (history_of by c.self.inside.config) c.note.ensures ∙ history_push by c.self.inside.config c.self.inside.past (made (sending c)) in
    let sends : HaveSent asked sent (after (sending c)) = rw (given, same) at c.send_commands.ensures in
    let many_sent : length sent ≡ length asked = sends.rings in
    let many_rings : length asked ≡ length rings.items = was.finds.rings in
    let rung : take rings.len (sent ++ drop (length sent) asked) ≡ sent = written_whole rings.len sent asked (rings.ok.0 ∙ sym many_rings) many_sent in
    record { was = was; sends = sends; history = history; ends = rw (history, same, paged, was.rung, rung) refl }

kept : (c : After-drop-pass) → IsKept (end c)
kept c =
    let all = all_sent c in
    let s : SchedulerView = start (sending c) in
    let len : c.self.inside.passes ≡ length s.history = c.self.invariant.3 in
    let room = c.if-self-ge-MOST_PASSES.false in
    let few : length s.history < 1048576 = omega (arith, len, room) in
    rw all.ends (kept_after s c.args.now c.args.bandwidth c.find_news.new.observers c.find_news.new.senders c.find_news.new.found c.send_commands.new.senders all.was.kept few all.was.finds all.sends)

pub invariant_of-self : goal.invariant_of-self
invariant_of-self c =
    let all = all_sent c in
    let s : SchedulerView = start (sending c) in
    let counted : c.self.inside.passes + 1 ≡ length (history_of c.pass.new.self.policy c.self.inside.config c.note.new.self) =
    ap (λ n. n + 1) c.self.invariant.3 ∙ sym (length-append s.history (entry (sending c) ∷ [])) ∙ ap length (sym all.history) in
    let by : Policy = c.self.inside.book.policy in
    let last : AreLast by c.self.inside.config c.note.new.self c.find_news.new.pass =
    subst (λ (l : List FoundPass). AreLast by c.self.inside.config l c.find_news.new.pass) (sym c.note.ensures)
    (last_push by c.self.inside.config c.self.inside.past (made (sending c)) c.find_news.new.pass all.was.opened c.find_news.ensures.all) in
    let ever : AreLast c.pass.new.self.policy c.self.inside.config c.note.new.self c.find_news.new.pass =
    subst (λ (p : Policy). AreLast p c.self.inside.config c.note.new.self c.find_news.new.pass) (sym c.pass.ensures.policy) last in
    (kept c, rw all.history all.was.agreed, c.pass.ensures.of, counted, ever)

pub returns-clause-passed : goal.returns-clause-passed
returns-clause-passed c =
    let all = all_sent c in
    let at_start : IsPassed c.args.now c.args.bandwidth (start (sending c)) (end c) = rw all.ends (record {
      found = c.find_news.new.found;
      asked = c.find_news.new.senders;
      finds = all.was.finds;
      history = refl;
      sends = all.sends;
      table = refl;
      policy = refl;
    }) in
    subst (λ (before : SchedulerView). IsPassed c.args.now c.args.bandwidth before (end c)) c.self.view_is at_start

-- the actions are those of the last entry of the history
pub returns-clause-acted : goal.returns-clause-acted
returns-clause-acted c =
    let all = all_sent c in (
      entry (sending c),
      all.history ∙ ap (λ (v : SchedulerView). v.history ++ entry (sending c) ∷ []) c.self.view_is,
      all.was.acts,
    )

pub returns-clause-kept : goal.returns-clause-kept
returns-clause-kept = kept
