-- What a thread does of a turn's work, in thousandths, by what the threads are before a round of
-- turns.
use Rattle.std.specs.Prelude.{◌≡◌, ℕ, ◌+◌, ◌*◌, ◌/◌, ◌<◌, ◌≤◌, ◌==◌, ◌&&◌, not, nat_lt, Bool, true, List}
use Rattle.std.specs.Prelude.{Option, Some, None}
use Rattle.std.specs.Prelude.{if◌then◌else◌, sum_by}
use Rattle.std.specs.List.{list_any}
use Rattle.cal_kthread.specs.Turn.OnCores.{would_bring}
use Rattle.cal_kthread.specs.Turn.Thread.{KernelView}
use Rattle.cal_machine.specs.CoreSet.{has}
use Rattle.cal_machine.specs.Machine.{sibling_of}
use Rattle.cal_machine.specs.declared.machine.TheConstants.{MOST_CORES}
use Rattle.cal_signal.specs.Pages.{last_published}
use Rattle.cal_signal.specs.declared.record.Record.{Record}
use Rattle.cal_paced.specs.declared.plan.Plan.{Plan}
use Rattle.cal_paced.specs.declared.plan.TheConstants.{WHOLE}
use Rattle.cal_paced.specs.declared.shares.Interference.{Interference}
use Rattle.cal_paced.specs.declared.shares.Shares.{Shares}

-- what a thread published last
abbrev pub last_record : KernelView → Record
last_record k = last_published k.thread.publisher.published

-- a record shows a thread at work: it runs on a core, and has begun a request
abbrev pub is_at_work : Record → Bool
is_at_work shows = not (shows.running == 0) && not (shows.started == 0)

-- and on this core
abbrev pub is_at_work_on : ℕ → Record → Bool
is_at_work_on core shows = (shows.running == core + 1) && not (shows.started == 0)

-- a thread is at work on the core's sibling
abbrev pub is_beside_work : List KernelView → ℕ → Bool
is_beside_work threads core =
    list_any (λ k. is_at_work_on (sibling_of core) (last_record k)) threads

-- beside a sibling at work a turn does only so much of its work
abbrev pub beside_share : Plan → List KernelView → ℕ → ℕ
beside_share plan threads core = if is_beside_work threads core then plan.beside else WHOLE

-- the misses that a thread at work would bring in a turn of its work, and those of all threads
abbrev pub brings : KernelView → ℕ
brings k = if is_at_work (last_record k) then would_bring k.thread else 0

abbrev pub all_bring : List KernelView → ℕ
all_bring threads = sum_by brings threads

-- What each thread at work does where memory bears so many misses in a turn: all of its work, but
-- where they would bring more, only that part of it which the memory bears.
abbrev pub memory_part : Option ℕ → ℕ → ℕ
memory_part None misses = WHOLE
memory_part (Some most) misses = if nat_lt most misses then most * WHOLE / misses else WHOLE

abbrev pub memory_share : Plan → List KernelView → KernelView → ℕ
memory_share plan threads k =
    if is_at_work (last_record k) then memory_part plan.memory (all_bring threads) else WHOLE

-- what a thread does of a turn's work on a core: one share of the other, rounded down
abbrev pub share : Plan → List KernelView → KernelView → ℕ → ℕ
share plan threads k core =
    beside_share plan threads core * memory_share plan threads k / WHOLE

-- what the threads before a round mean to its turns: the cores beside which none is at work, of all
-- cores, and the part that the memory bears
pub record IsInterference (plan : Plan) (threads : List KernelView) (i : Interference) :
    Type 0 where
  pub all : (core : ℕ) → has i.all core ≡ nat_lt core MOST_CORES
  pub clear : (core : ℕ) →
      has i.clear core ≡ (nat_lt core MOST_CORES && not (is_beside_work threads core))
  pub memory : i.memory ≡ memory_part plan.memory (all_bring threads)
  pub beside : i.beside ≡ plan.beside

-- the share of a thread on a core, as it is kept
abbrev pub share_on : Shares → ℕ → ℕ
share_on shares core = if has shares.clear core then shares.alone else shares.beside

-- it is that of the definition, on each core
pub record AreShares (plan : Plan) (threads : List KernelView) (k : KernelView)
    (shares : Shares) : Type 0 where
  pub all : (core : ℕ) → has shares.all core ≡ nat_lt core MOST_CORES
  pub clear : (core : ℕ) → has shares.clear core ≡ true → core < MOST_CORES
  pub on : (core : ℕ) → core < MOST_CORES → share_on shares core ≡ share plan threads k core
  pub within : shares.alone ≤ WHOLE
  pub more : shares.beside ≤ shares.alone
