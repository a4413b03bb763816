-- What the parts of a run come to at their ends.
use Rattle.std.specs.Prelude.{◌≡◌, ℕ, List, length, map, Some, slice_get}
use Rattle.std.specs.List.{AllZip}
use Rattle.atomic_table.specs.Seated.{TableId}
use Rattle.cal_command.specs.Rings.{RingId, SenderView}
use Rattle.cal_signal.specs.Ends.{ObserverView}
use Rattle.cal_signal.specs.Pages.{FitsPage, page_of}
use Rattle.cal_machine.specs.declared.request.Request.{Request}
use Rattle.cal_kthread.specs.End.Account.{IsAccounted, KeepsItsWork}
use Rattle.cal_kthread.specs.End.HandingOut.{HandedOutNothing, RunView, run_of}
use Rattle.cal_kthread.specs.Journal.{IsJournal, commands_of, records_of}
use Rattle.cal_kthread.specs.Team.{place_of_rest}
use Rattle.cal_kthread.specs.End.Rest.{EndView}
use Rattle.cal_kthread.specs.declared.journal.entry.Entry.{Entry}
use Rattle.cal_linear.specs.Runs.{AreFirst, page_at}
use Rattle.cal_linear.specs.Steps.{journal_at}
use Rattle.cal_run.specs.Workers.{Seat, seat_of}
use Rattle.cal_run.specs.declared.workers.worker.Worker.{Worker}

-- what a thread had over its turns, and has at its end
abbrev pub seat_of_end : EndView → Seat
seat_of_end e = record {
  page = e.publisher.page;
  ring = e.taker.ring;
  place = place_of_rest e.rest;
}

-- what it did is a journal, which has what it published on its page and took from its ring
pub record IsWholeRun (run : RunView) : Type 0 where
  pub kept : IsJournal run.journal
  pub page : records_of run.journal ≡ run.publisher.published
  pub ring : commands_of run.journal ≡ run.taker.taken

-- a thread ended: it keeps its seat and its journal, its work is accounted for, and nothing of it
-- was handed out
pub record IsEndOf (worker : Worker) (e : EndView) : Type 0 where
  pub seat : seat_of_end e ≡ seat_of worker.thread
  pub journal : e.journal ≡ worker.thread.journal
  pub whole : IsWholeRun (run_of e)
  pub work : KeepsItsWork e
  pub untouched : HandedOutNothing e

-- so did each thread, in thread order
abbrev pub AreEndsOf : List Worker → List EndView → Type 0
AreEndsOf = AllZip IsEndOf

-- the pages and the rings of these runs, in thread order
abbrev pub pages_of_runs : List RunView → List TableId
pages_of_runs = map (λ run. run.publisher.page)

abbrev pub rings_of_runs : List RunView → List RingId
rings_of_runs = map (λ run. run.taker.ring)

-- these are, in the same order, the other ends of these pages and rings
pub record AreOtherEnds (pages : List TableId) (rings : List RingId)
    (observers watchers : List ObserverView) (senders : List SenderView) : Type 0 where
  pub observed : map (λ (o : ObserverView). o.page) observers ≡ pages
  pub watched : map (λ (o : ObserverView). o.page) watchers ≡ pages
  pub sent : map (λ (s : SenderView). s.ring) senders ≡ rings

-- A thread's page and ring were closed: what either observer found fits what it published, and what
-- it took are the first of the commands that were sent to it.
pub record IsClosed (run : RunView) (observer watcher : ObserverView) (sender : SenderView) :
    Type 0 where
  pub observed : FitsPage (page_of run.publisher.published) observer.looks
  pub watched : FitsPage (page_of run.publisher.published) watcher.looks
  pub taken : AreFirst run.taker.taken sender.sent

-- so were those of each thread
abbrev pub AreClosed : List RunView → List ObserverView → List ObserverView → List SenderView →
    Type 0
AreClosed runs observers watchers senders =
    (k : ℕ) (run : RunView) (observer watcher : ObserverView) (sender : SenderView) →
    slice_get runs k ≡ Some run → slice_get observers k ≡ Some observer →
    slice_get watchers k ≡ Some watcher → slice_get senders k ≡ Some sender →
    IsClosed run observer watcher sender

-- All threads ended and all pages and rings were closed. In thread order these are the journals and
-- what was left. What either observer of a thread found fits the page of its journal; what it took
-- are the first of the commands that were sent to it; and the journals and what was left are the
-- account.
pub record HaveClosed (workers : List Worker) (observers watchers : List ObserverView)
    (senders : List SenderView) (journals : List (List Entry)) (lefts : List (List Request)) :
    Type 0 where
  pub same : journals ≡ map (λ (w : Worker). w.thread.journal) workers
  pub kept : (k : ℕ) (journal : List Entry) → slice_get journals k ≡ Some journal →
      IsJournal journal
  pub observed : (k : ℕ) (observer : ObserverView) → slice_get observers k ≡ Some observer →
      FitsPage (page_at journals k) observer.looks
  pub watched : (k : ℕ) (watcher : ObserverView) → slice_get watchers k ≡ Some watcher →
      FitsPage (page_at journals k) watcher.looks
  pub taken : (k : ℕ) (sender : SenderView) → slice_get senders k ≡ Some sender →
      AreFirst (commands_of (journal_at journals k)) sender.sent
  pub count : length lefts ≡ length workers
  pub account : IsAccounted journals lefts
