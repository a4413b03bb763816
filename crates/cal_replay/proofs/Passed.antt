-- One pass more: what its pages and rings gave, and what may be sent then.
use Rattle.std.proofs.Common.{◌≡◌, ℕ, ◌+◌, ◌<◌, Bool, true, false, ⊎_elim, List, [], ◌∷◌, ◌++◌, length, map, take, Option, Some, None, slice_get, slice_index_or, refl, sym, ap, subst, ◌∙◌, arith}
use Rattle.std.specs.Prelude.{option_map}
use Rattle.std.specs.Option.{unwrap_or}
use Rattle.std.proofs.lemmas.Option.{slice_get_within, unwrap_or-slice_get}
use Rattle.cal_command.specs.Rings.{HasRoom, SenderView}
use Rattle.cal_machine.proofs.Last.{last_or_before}
use Rattle.cal_machine.proofs.Places.{slice_get_at}
use Rattle.cal_machine.specs.Table.{Table, IsTable}
use Rattle.cal_machine.specs.TableTasks.{threads_of_table}
use Rattle.cal_policy.specs.Board.{NamesTable}
use Rattle.cal_policy.specs.History.Found.{looks_at}
use Rattle.cal_policy.specs.History.Looks.{look_of}
use Rattle.cal_policy.specs.declared.history.action.Action.{Action}
use Rattle.cal_policy.specs.declared.history.action.Action.TheVariants.{Free, Unban, Ban, Revoke, Cap, Grant}
use Rattle.cal_policy.specs.declared.history.entry.PassEntry.{PassEntry}
use Rattle.cal_policy.specs.declared.history.input.Input.{Input}
use Rattle.cal_policy.specs.declared.history.look.Seen.{Seen}
use Rattle.cal_run.proofs.Members.{same_of_each}
use Rattle.cal_sched.proofs.Fitting.{looks_at-append}
use Rattle.cal_sched.specs.Passing.{HasAsked}
use Rattle.cal_signal.specs.Ends.{ObserverView}
use Rattle.cal_signal.specs.Looks.{whole_of}
use Rattle.cal_signal.specs.Rounds.{found_by}
use Rattle.cal_signal.specs.declared.look.Look.{Look}
use Rattle.cal_signal.specs.declared.record.Record.{Record}
use Rattle.cal_trace.specs.History.Ranges.{Each, IsActionInRange, IsEntryInRange}
use Rattle.cal_trace.specs.History.Reading.{extent_of}
use Rattle.cal_guard.specs.Permitted.{IsPermittedHistory}
use Rattle.cal_policy.specs.History.{actions_of}
use Rattle.cal_policy.specs.State.{Agrees, IsReady}
use Rattle.cal_policy.specs.declared.board.Board.{Board}
use Rattle.cal_replay.specs.Passes.{AreGiven, AreWhole, HaveFoundSo, HaveSentSo, IsLookGiven, MaySendSo}
use Rattle.cal_replay.specs.Unlike.{is_whole}

-- what a history that a file can hold names, the table has
names_in_range : (table : Table) (action : Action) → IsTable table → IsActionInRange (extent_of table) action → NamesTable table action
names_in_range table (Free core) ok h = h
names_in_range table (Unban core) ok h = h
names_in_range table (Ban core thread started) ok h = h
names_in_range table (Revoke core cause) ok h = h.0
names_in_range table (Cap task cap) ok h = let few = ok.tasks in let low = h.0 in omega (arith, few, low)
names_in_range table (Grant core thread class) ok h = (h.0, h.1)

pub names_of_entry : (table : Table) (entry : PassEntry) → IsTable table → IsEntryInRange (extent_of table) entry → (i : ℕ) (action : Action) → slice_get entry.actions i ≡ Some action → NamesTable table action
names_of_entry table entry ok range i action at = names_in_range table action ok (range.actions.at i action at)

module _ (entry : PassEntry) (observers looked : List ObserverView) (senders asked : List SenderView) (given : AreGiven entry.input observers looked senders asked)
    (seen_many : length entry.input.seen ≡ length observers) (rooms_many : length entry.input.rooms ≡ length senders) where
  -- what one ring gave
  asked_at : (k : ℕ) (is : SenderView) → slice_get asked k ≡ Some is → (was : SenderView) × (told : Bool) × (slice_get senders k ≡ Some was) × (slice_get entry.input.rooms k ≡ Some told) × HasAsked was is told
  asked_at k is at =
      let low : k < length asked = slice_get_within asked k is at in
      let many : length asked ≡ length senders = given.rings in
      let was = slice_get_at senders k (omega (arith, low, many)) in
      let told = slice_get_at entry.input.rooms k (omega (arith, low, many, rooms_many)) in
      (was.0, told.0, was.1, told.1, given.rooms k was.0 is told.0 was.1 at told.1)

  -- what one page gave
  looked_at : (k : ℕ) (is : ObserverView) → slice_get looked k ≡ Some is → (was : ObserverView) × (told : Seen) × (slice_get observers k ≡ Some was) × (slice_get entry.input.seen k ≡ Some told) × IsLookGiven told was is
  looked_at k is at =
      let low : k < length looked = slice_get_within looked k is at in
      let many : length looked ≡ length observers = given.pages in
      let was = slice_get_at observers k (omega (arith, low, many)) in
      let told = slice_get_at entry.input.seen k (omega (arith, low, many, seen_many)) in
      (was.0, told.0, was.1, told.1, given.looks k was.0 is told.0 was.1 at told.1)

  -- a question sends nothing
  pub asked_sent : (x : List Action) → HaveSentSo x senders → HaveSentSo x asked
  asked_sent x sent k is at =
      let it = asked_at k is at in
      it.4.sent ∙ sent k it.0 it.2

  -- room is known where the pass was told of it
  pub asked_room : (k : ℕ) (is : SenderView) → slice_get asked k ≡ Some is → slice_index_or entry.input.rooms k false ≡ true → HasRoom is
  asked_room k is at told =
      let it = asked_at k is at in
      let known : it.1 ≡ true = sym (sym (unwrap_or-slice_get entry.input.rooms k false) ∙ ap (λ (o : Option Bool). unwrap_or o false) it.3) ∙ told in
      it.4.known.0 known

  -- what the observers found is what the passes with this one found
  pub looked_so : (history : List PassEntry) → HaveFoundSo history observers → HaveFoundSo (history ++ entry ∷ []) looked
  looked_so history so k is at =
      let it = looked_at k is at in
      let told : found_by (option_map look_of (slice_get entry.input.seen k)) ≡ whole_of (look_of it.1) = ap (λ (o : Option Seen). found_by (option_map look_of o)) it.3 in
      it.4.0.looks ∙ ap (λ (ls : List (ℕ × Record)). ls ++ whole_of (look_of it.1)) (so k it.0 it.2)
      ∙ ap (λ (ls : List (ℕ × Record)). looks_at history k ++ ls) (sym told) ∙ sym (looks_at-append k history entry)

  -- the pages and the rings are those that they were
  pub pages_stay : map (λ (o : ObserverView). o.page) looked ≡ map (λ (o : ObserverView). o.page) observers
  pages_stay = same_of_each (λ (o : ObserverView). o.page) observers looked given.pages (λ k was is before at.
      let low = slice_get_within observers k was before in
      let told = slice_get_at entry.input.seen k (omega (arith, low, seen_many)) in
      (given.looks k was is told.0 before at told.1).0.page)

  pub rings_stay : map (λ (s : SenderView). s.ring) asked ≡ map (λ (s : SenderView). s.ring) senders
  rings_stay = same_of_each (λ (s : SenderView). s.ring) senders asked given.rings (λ k was is before at.
      let low = slice_get_within senders k was before in
      let told = slice_get_at entry.input.rooms k (omega (arith, low, rooms_many)) in
      (given.rooms k was is told.0 before at told.1).ring)

  -- each look is whole
  pub whole_more : (history : List PassEntry) → AreWhole history → length looked ≡ length observers → AreWhole (history ++ entry ∷ [])
  whole_more history whole many p k other told at seen_at = ⊎_elim
      (λ before. whole p k other told before.1 seen_at)
      (λ last.
      let here : slice_get entry.input.seen k ≡ Some told = subst (λ (e : PassEntry). slice_get e.input.seen k ≡ Some told) (sym last.1) seen_at in
      let low = slice_get_within entry.input.seen k told here in
      let was = slice_get_at observers k (omega (arith, low, seen_many)) in
      let is = slice_get_at looked k (omega (arith, low, seen_many, many)) in
      (given.looks k was.0 is.0 told was.1 is.1 here).1)
      (last_or_before history entry other p at)

-- so the commands of the pass may be sent
pub may_send_so : (table : Table) (before : List PassEntry) (entry : PassEntry) (board : Board) (observers looked : List ObserverView) (senders asked : List SenderView)
    → IsTable table → IsEntryInRange (extent_of table) entry → AreGiven entry.input observers looked senders asked → length observers ≡ threads_of_table table → length senders ≡ threads_of_table table
    → IsPermittedHistory table (before ++ entry ∷ []) → IsReady table board → Agrees board (actions_of before) → HaveSentSo (actions_of before) senders → MaySendSo table before entry board asked
may_send_so table before entry board observers looked senders asked ok range given pages rings permitted ready agrees sent =
    let seen_many : length entry.input.seen ≡ length observers = range.looks ∙ sym pages in
    let rooms_many : length entry.input.rooms ≡ length senders = range.rooms ∙ sym rings in
    record {
      permitted = permitted;
      names = names_of_entry table entry ok range;
      ready = ready;
      agrees = agrees;
      rings = given.rings ∙ rings;
      sent = asked_sent entry observers looked senders asked given seen_many rooms_many (actions_of before) sent;
      room = asked_room entry observers looked senders asked given seen_many rooms_many;
    }
