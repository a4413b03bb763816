-- A team of kernel threads that was just opened.
use Rattle.std.specs.Prelude.{◌≡◌, ℕ, ◌-◌, ◌<◌, List, [], map, length}
use mathlib.Core.Option.{some}
use lib.ListN.{get_elem?}
use Rattle.cal_command.specs.Rings.{SenderView}
use Rattle.cal_machine.specs.Tasks.{first_thread, task_at}
use Rattle.cal_machine.specs.declared.task.Task.{Task}
use Rattle.cal_signal.specs.Ends.{ObserverView}
use Rattle.cal_kthread.specs.Team.Linking.{IsLinked, StoleNothing, unlinked}
use Rattle.cal_kthread.specs.Places.{Each}
use Rattle.cal_kthread.specs.Turn.Thread.{KernelView, IsFresh}

-- Threads that did nothing yet, and the other ends of their pages and rings.
pub record AreOpened (threads : List KernelView) (observers : List ObserverView)
    (senders : List SenderView) (watchers : List ObserverView) : Type 0 where
  -- they are numbered from 0
  pub numbers : (k : ℕ) (thread : KernelView) → get_elem? threads k ≡ some thread →
      thread.number ≡ k
  -- none did anything
  pub fresh : Each (λ thread. IsFresh (unlinked thread)) threads
  -- and no thief stole anything
  pub thieves : Each StoleNothing threads
  -- the observers are of their pages, in the same order
  pub observed : map (λ (o : ObserverView). o.page) observers
      ≡ map (λ (t : KernelView). t.thread.publisher.page) threads
  -- so are the watchers
  pub watched : map (λ (o : ObserverView). o.page) watchers
      ≡ map (λ (t : KernelView). t.thread.publisher.page) threads
  -- the senders are of their rings, in the same order
  pub rings : map (λ (s : SenderView). s.ring) senders
      ≡ map (λ (t : KernelView). t.thread.taker.ring) threads
  -- no observer has looked
  pub unseen : Each (λ o. (o.loads ≡ []) × (o.looks ≡ [])) observers
  -- no watcher has
  pub unwatched : Each (λ o. (o.loads ≡ []) × (o.looks ≡ [])) watchers
  -- no sender has sent
  pub unsent : Each (λ s. s.sent ≡ []) senders
  -- and each knows of four free places
  pub free : Each (λ s. s.free ≡ 4) senders

-- Each thread of each task has a thief at the queue of each other thread of its task, in the order
-- `k+1, k+2, ..`, wrapping round within the task.
abbrev pub AreLinked : List Task → List KernelView → Type 0
AreLinked tasks threads = (t : ℕ) → t < length tasks →
    IsLinked (first_thread tasks t) (task_at tasks t).limit ((task_at tasks t).limit - 1) threads
