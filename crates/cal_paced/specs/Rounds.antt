-- The rounds of turns of a paced run: what each makes of the threads.
use Rattle.std.specs.Prelude.{◌≡◌, ℕ, ◌+◌, ◌-◌, ◌&&◌, nat_le, nat_lt, Bool, Option, Some, None}
use Rattle.std.specs.Prelude.{is_some, if◌then◌else◌, List, length, map, slice_get, slice_index}
use Rattle.cal_kthread.specs.Turn.OnCores.{core_in_turn, turned_on}
use Rattle.cal_kthread.specs.Turn.Thread.{KernelView}
use Rattle.cal_kthread.specs.Turn.{Answers, AreAnswers}
use Rattle.cal_kthread.specs.declared.turn.current.Current.{Current}
use Rattle.cal_machine.specs.declared.machine.TheConstants.{MOST_CORES}
use Rattle.cal_machine.specs.declared.request.Request.{Request}
use Rattle.cal_run.specs.Workers.GivenTurns.{request_at}
use Rattle.cal_run.specs.Workers.{MadeNoTurn}
use Rattle.cal_trace.specs.declared.arrivals.Arrivals.{Arrivals}
use Rattle.cal_paced.specs.Shares.{share}
use Rattle.cal_paced.specs.declared.plan.Plan.{Plan}
use Rattle.cal_paced.specs.declared.plan.TheConstants.{WHOLE}

-- a thread, and what it has left over of a turn's work, in thousandths
pub record Standing : Type 0 where
  pub thread : KernelView
  pub saved : ℕ

abbrev pub threads_of : List Standing → List KernelView
threads_of = map (λ standing. standing.thread)

-- with its share and what it has left over it comes to a whole turn's work on this core
abbrev pub comes_to_turn : ℕ → (ℕ → ℕ) → ℕ → Bool
comes_to_turn saved shares core = nat_lt core MOST_CORES && nat_le WHOLE (saved + shares core)

-- What it has left over after a turn. Off a core that stays. On a core its share is added; a whole
-- turn's work is done and taken off; and where that leaves it without a request, as it was served
-- or none was found, nothing is left over.
abbrev pub left_of : ℕ → Option Current → ℕ
left_of total current =
    if nat_lt total WHOLE then total else if is_some current then total - WHOLE else 0

abbrev pub left_over : ℕ → (ℕ → ℕ) → Option ℕ → Option Current → ℕ
left_over saved shares None current = saved
left_over saved shares (Some core) current = left_of (saved + shares core) current

-- a turn of a thread with these shares, by the core on which it is
pub record IsTurnBy (now : ℕ) (request : Option Request) (shares : ℕ → ℕ)
    (before after : Standing) : Type 0 where
  pub answers : Answers
  pub are : AreAnswers answers before.thread
  -- on a core where it comes to a whole turn's work it is a turn, else a turn without work
  pub thread : after.thread
      ≡ turned_on (comes_to_turn before.saved shares) now request answers before.thread
  pub saved : after.saved ≡ left_over before.saved shares
      (core_in_turn now request answers before.thread) after.thread.thread.current

-- round j: each thread made its turn j, with shares by what all were before the round
pub record IsRound (plan : Plan) (arrivals : Arrivals) (j : ℕ) (before after : List Standing) :
    Type 0 where
  pub many : length after ≡ length before
  pub each : (k : ℕ) (was is : Standing) → slice_get before k ≡ Some was →
      slice_get after k ≡ Some is →
      IsTurnBy (slice_index arrivals.turns j) (request_at arrivals.requests k j)
      (share plan (threads_of before) was.thread) was is

-- it made no turn yet, and has nothing left over
abbrev pub IsFirst : Standing → Type 0
IsFirst standing = MadeNoTurn standing.thread × (standing.saved ≡ 0)

-- the threads before each of the first n rounds, the first one first, and after the last of them
pub record AreFirstRounds (plan : Plan) (arrivals : Arrivals) (n : ℕ)
    (rounds : List (List Standing)) : Type 0 where
  pub many : length rounds ≡ n + 1
  pub first : (k : ℕ) (threads : List Standing) (standing : Standing) →
      slice_get rounds 0 ≡ Some threads → slice_get threads k ≡ Some standing → IsFirst standing
  pub each : (j : ℕ) (before after : List Standing) → slice_get rounds j ≡ Some before →
      slice_get rounds (j + 1) ≡ Some after → IsRound plan arrivals j before after

-- of all rounds of a run
abbrev pub AreRounds : Plan → Arrivals → List (List Standing) → Type 0
AreRounds plan arrivals rounds = AreFirstRounds plan arrivals (length arrivals.turns) rounds
