use Rattle.cal_kthread.proofs.Common.{◌≡◌, ◌<◌, ◌∙◌, ◌++◌, Bool, subst, sym, ap, length, Option, IfSome, Some, refl, arith, Record, PublisherView, last_published, IsShaped, zero_record, IsJournalOf, Entry, records_of, place_of, core_in_turn, does_work, provided_if, turned_if, turned_on, work_in_turn, worked_if, ThreadView, KernelView, Answers, AreAnswers, arrived, noted, shown, taken, arrival, taking, theft, work, publication, entries_of, IsOneTurn, TurnEntries}
use Rattle.cal_machine.specs.CoreSet.{has}
use Rattle.cal_kthread.specs.contracts.bare_thread.BareThread.{the_view}
use Rattle.cal_kthread.proofs.TurnLemmas.Publishing.{last_snoc}
use Rattle.cal_kthread.proofs.TeamLemmas.Turns.{keeps-page, keeps-ring, on-keeps-place}
use Rattle.cal_kthread.proofs.TurnLemmas.Steps.{turns, agrees}
use Rattle.cal_kthread.proofs.TurnLemmas.Turns.{noted-turn, one-turn}
use Rattle.cal_kthread.proofs.bare_thread.BareThread.turn_on.Goals as goal

pub publish-published-requires-clause-room : goal.publish-published-requires-clause-room
publish-published-requires-clause-room c =
    let before = c.self.inside.thread in
    let same : c.fill_front.new.self.publisher ≡ before.publisher =
    c.fill_front.ensures.apart ∙ (c.work_if-worked.ensures.apart ∙ (c.provide_if-stole.ensures.apart ∙ (c.take-took.ensures.apart.0 ∙ c.in_ok-arrived.ensures.apart.0))) in
    let long : length c.fill_front.new.self.publisher.published ≡ length before.publisher.published = ap (λ (p : PublisherView). length p.published) same in
    let told : length (records_of c.self.inside.past) ≡ length before.publisher.published = ap length c.self.invariant.records in
    let was : length (records_of c.self.inside.past) ≡ length (records_of c.args.self.now.journal) = ap (λ (k : KernelView). length (records_of k.journal)) c.self.view_is in
    let room = c.requires.room in omega arith

-- what the calls of the turn answered
abbrev answers_of : goal.After-note_turn → Answers
answers_of c = record {
  command = c.take-took.ensures.taken.0;
  own = c.provide_if-stole.ensures.provided.0;
  theft = c.provide_if-stole.ensures.provided.1;
  front = c.fill_front.ensures.fronted.0;
}

-- what the turn hands out
abbrev entries : goal.After-note_turn → TurnEntries
entries c = record {
  arrived = c.in_ok-arrived.arrived;
  took = c.take-took.result;
  stole = c.provide_if-stole.result;
  worked = c.work_if-worked.result;
  published = c.publish-published.result;
}

-- what each of the first four steps made of the thread, with the entry for which what it did stands
abbrev Stepped : Type 0
Stepped = ThreadView × Option Entry

abbrev one : goal.After-note_turn → Stepped
one c = (c.arrive.new.self, arrival (entries c))

abbrev two : goal.After-note_turn → Stepped
two c = (c.take-took.new.self, taking (entries c))

abbrev three : goal.After-note_turn → Stepped
three c = (c.provide_if-stole.new.self, theft (entries c))

abbrev four : goal.After-note_turn → Stepped
four c = (c.work_if-worked.new.self, work (entries c))

-- the same of the last
abbrev last : goal.After-note_turn → ThreadView × Entry
last c = (c.publish-published.new.self, publication (entries c))

-- whether the third step is done
abbrev does : goal.After-note_turn → Bool
does c = c.does_work-does.result

-- the same of these answers, by the thread before the turn
abbrev does_so : goal.After-note_turn → Answers → Bool
does_so c answers = does_work (has c.args.works) (core_in_turn c.args.now c.args.request answers c.args.self.now)

two-is : (c : goal.After-note_turn) → two c ≡ taken c.args.now (answers_of c).command (arrived c.args.now c.args.request c.self.inside.thread).0
two-is c = c.take-took.ensures.taken.1 ∙ ap (λ (z : Stepped). taken c.args.now (answers_of c).command z.0) c.in_ok-arrived.ensures.arrived

does-is : (c : goal.After-note_turn) → does c ≡ does_work (has c.args.works) (core_in_turn c.args.now c.args.request (answers_of c) (the_view c.self.inside))
does-is c = c.does_work-does.ensures ∙ ap (λ (z : Stepped). does_work (has c.args.works) z.0.core) (two-is c)

-- what the third step put into the journal
work-is : (c : goal.After-note_turn) → work (entries c) ≡ work_in_turn (has c.args.works) c.args.now c.args.request (answers_of c) (the_view c.self.inside)
work-is c =
    let provides : Bool → Stepped → Stepped = λ b z. provided_if b c.args.now (answers_of c).own (answers_of c).theft z.0 in
    ap (λ (z : Stepped). z.1) c.work_if-worked.ensures.worked
    ∙ ap (λ (z : Stepped). (worked_if (does c) z.0).1) c.provide_if-stole.ensures.provided.3
    ∙ ap (λ (z : Stepped). (worked_if (does c) (provides (does c) z).0).1) (two-is c)
    ∙ ap (λ (b : Bool). (worked_if b (provides b (taken c.args.now (answers_of c).command (arrived c.args.now c.args.request c.self.inside.thread).0)).0).1) (does-is c)

noting : (c : goal.After-note_turn) → c.note_turn.new.past ≡ noted (noted (noted (noted (noted c.self.inside.past (one c).1) (two c).1) (three c).1) (four c).1) (Some (last c).1)
noting c = c.note_turn.ensures

agreeing : (c : goal.After-note_turn) → IsJournalOf c.note_turn.new.past c.publish-published.new.self
agreeing c = agrees (does c) c.args.now c.args.request (answers_of c) (the_view c.self.inside) (one c) (two c) (three c) (four c) c.fill_front.new.self (last c) c.note_turn.new.past
    c.in_ok-arrived.ensures.arrived c.take-took.ensures.taken.1 c.provide_if-stole.ensures.provided.3 c.work_if-worked.ensures.worked c.fill_front.ensures.fronted.1 c.publish-published.ensures.shown (noting c)
    c.self.invariant c.provide_if-stole.ensures.provided.2 c.publish-published.ensures.follows

pub invariant_of-self-2 : goal.invariant_of-self-2
invariant_of-self-2 = agreeing

pub returns-clause-turned : goal.returns-clause-turned
returns-clause-turned c =
    let others : c.arrive.new.self.sources ≡ c.self.inside.thread.sources = c.in_ok-arrived.ensures.apart.1 in
    let same : c.take-took.new.self.sources ≡ c.self.inside.thread.sources = c.take-took.ensures.apart.1 ∙ others in
    let are : AreAnswers (answers_of c) (the_view c.self.inside) = subst (λ vs. IfSome (answers_of c).theft (λ theft. theft.0 < length vs)) same c.provide_if-stole.ensures.provided.2 in (
      answers_of c,
      subst (AreAnswers (answers_of c)) c.self.view_is are,
      turns (does c) c.args.now c.args.request (answers_of c) (the_view c.self.inside) (one c) (two c) (three c) (four c) c.fill_front.new.self (last c) c.note_turn.new.past
          c.in_ok-arrived.ensures.arrived c.take-took.ensures.taken.1 c.provide_if-stole.ensures.provided.3 c.work_if-worked.ensures.worked c.fill_front.ensures.fronted.1 c.publish-published.ensures.shown (noting c)
          ∙ ap (λ (b : Bool). turned_if b c.args.now c.args.request (answers_of c) (the_view c.self.inside)) (does-is c)
          ∙ ap (turned_on (has c.args.works) c.args.now c.args.request (answers_of c)) c.self.view_is,
      work-is c ∙ ap (work_in_turn (has c.args.works) c.args.now c.args.request (answers_of c)) c.self.view_is,
    )

pub returns-clause-place : goal.returns-clause-place
returns-clause-place c = let t = returns-clause-turned c in ap (λ (k : KernelView). place_of k.thread) t.2 ∙ on-keeps-place (has c.args.works) c.args.now c.args.request t.0 c.args.self.now

pub returns-clause-ends : goal.returns-clause-ends
returns-clause-ends c =
    let t = returns-clause-turned c in (
      ap (λ (k : KernelView). k.thread.publisher.page) t.2 ∙ keeps-page (does_so c t.0) c.args.now c.args.request t.0 c.args.self.now,
      ap (λ (k : KernelView). k.thread.taker.ring) t.2 ∙ keeps-ring (does_so c t.0) c.args.now c.args.request t.0 c.args.self.now,
    )

pub returns-clause-number : goal.returns-clause-number
returns-clause-number c = let t = returns-clause-turned c in ap (λ (k : KernelView). k.number) t.2

pub returns-clause-added : goal.returns-clause-added
returns-clause-added c =
    let t = returns-clause-turned c in
    let page = subst (λ (k : KernelView). records_of k.journal ≡ k.thread.publisher.published) c.self.view_is c.self.invariant.records in
    subst (λ (k : KernelView). IsOneTurn c.args.now c.args.request c.args.self.now.journal k.journal) (sym t.2) (one-turn (does_so c t.0) c.args.now c.args.request t.0 c.args.self.now page)

pub returns-clause-journal : goal.returns-clause-journal
returns-clause-journal c = (agreeing c).is_journal

pub returns-clause-page : goal.returns-clause-page
returns-clause-page c = (agreeing c).records

pub returns-clause-ring : goal.returns-clause-ring
returns-clause-ring c = (agreeing c).commands

pub returns-clause-stamped : goal.returns-clause-stamped
returns-clause-stamped c = ap (λ (z : ThreadView × Entry). (last_published z.0.publisher.published).stamp) c.publish-published.ensures.shown
    ∙ ap (λ (r : Record). r.stamp) (last_snoc zero_record c.fill_front.new.self.publisher.published (shown c.args.now c.fill_front.new.self))

pub returns-clause-handed : goal.returns-clause-handed
returns-clause-handed c =
    noting c ∙ noted-turn c.self.inside.past (entries c) refl refl refl refl refl
    ∙ ap (λ (k : KernelView). k.journal ++ entries_of (entries c)) c.self.view_is

-- the record that was handed out
shows-is : (c : goal.After-note_turn) → c.publish-published.result.shown ≡ shown c.args.now c.fill_front.new.self
shows-is c = let published = ap (λ (z : ThreadView × Entry). z.1) c.publish-published.ensures.shown in cc

pub returns-clause-shows : goal.returns-clause-shows
returns-clause-shows c =
    let t = c.fill_front.new.self in
    let last = ap (λ (z : ThreadView × Entry). last_published z.0.publisher.published) c.publish-published.ensures.shown
    ∙ last_snoc zero_record t.publisher.published (shown c.args.now t) in
    shows-is c ∙ sym last

pub returns-clause-shaped : goal.returns-clause-shaped
returns-clause-shaped c = subst IsShaped (sym (shows-is c)) c.publish-published.ensures.follows.1
