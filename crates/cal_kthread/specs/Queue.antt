-- What a contract sees of the ends of a queue.
pub mod Rule
use Rattle.std.specs.Prelude.{◌≡◌, ℕ, List, []}
use Rattle.std.specs.Global.{Global}
use Rattle.atomic_blocks.specs.Lent.{RowsId}
use Rattle.crossbeam_deque.specs.Handles.{Pass, view, IsPassOf, worker_deque}
use Rattle.crossbeam_deque.specs.Handles.{worker_view, stealer_deque}
use Rattle.crossbeam_deque.specs.declared.handles.Worker.{Worker}
use Rattle.crossbeam_deque.specs.declared.handles.Stealer.{Stealer}
use Rattle.cal_kthread.specs.declared.queue.knowledge.Knowledge.{Knowledge}
use Rattle.cal_kthread.specs.declared.queue.waiting.Waiting.{Waiting}

-- which queue it is: all its ends name the same one
abbrev pub QueueId : Type 0
QueueId = RowsId × Global

-- the own end: its shares, what was pushed, what was taken, and what was handed out at the end,
-- each in order
pub record QueueView : Type 0 where
  pub queue : QueueId
  pub shares : ℕ
  pub pushed : List Waiting
  pub had : List Waiting
  pub handed : List Waiting

-- an end that steals: what it stole, in order
pub record ThiefView : Type 0 where
  pub queue : QueueId
  pub had : List Waiting

-- what a thief's end knows
abbrev pub known : Pass Waiting Knowledge Global → Knowledge
known p = view p

module _ {P : Type 0} where
  abbrev pub queue_view : Worker Waiting Global Knowledge P → QueueView
  queue_view w = record {
    queue = worker_deque w;
    shares = (worker_view w).shares;
    pushed = (worker_view w).pushed;
    had = (worker_view w).had;
    handed = (worker_view w).handed;
  }

  abbrev pub thief_view : Stealer Waiting Global Knowledge P → Pass Waiting Knowledge Global →
      ThiefView
  thief_view s p = record { queue = stealer_deque s; had = (known p).had }

  -- its pass is of its queue, with one share, and has pushed and handed out nothing
  pub record IsThief (s : Stealer Waiting Global Knowledge P)
      (p : Pass Waiting Knowledge Global) : Type 0 where
    pub pass : IsPassOf (stealer_deque s) p
    pub share : (known p).shares ≡ 1
    pub no_push : (known p).pushed ≡ []
    pub none_handed : (known p).handed ≡ []
