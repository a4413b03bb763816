-- Which cores may have been left by their threads.
use Rattle.std.specs.Prelude.{◌≡◌, ℕ, ◌+◌, ◌<◌, false}
use Rattle.cal_machine.specs.declared.core_set.CoreSet.{CoreSet}
use Rattle.cal_machine.specs.CoreSet.{has}
use Rattle.cal_machine.specs.declared.machine.TheConstants.{MOST_CORES}
use Rattle.cal_machine.specs.declared.numbering.TheConstants.{MOST_THREADS}
use Rattle.cal_signal.specs.declared.record.Record.{Record}
use Rattle.cal_policy.specs.declared.board.holders.Holder.{Holder}
use Rattle.cal_policy.specs.declared.board.holders.Holder.TheVariants.{Free, Held, Leaving}

-- nobody has core c, or the kept record of the thread that has it shows the thread on it
abbrev pub IsShownOn : (ℕ → Record) → ℕ → Holder → Type 0
IsShownOn kept c Free = Unit {0}
IsShownOn kept c (Held placement) =
    placement.thread < MOST_THREADS → (kept placement.thread).running ≡ c + 1
IsShownOn kept c (Leaving placement cause) =
    placement.thread < MOST_THREADS → (kept placement.thread).running ≡ c + 1

-- where `holder` says who has each core, and `kept` which record is kept of each thread, every core
-- outside the set is free or shown
pub record Shows (holder : ℕ → Holder) (kept : ℕ → Record) (unshown : CoreSet) : Type 0 where
  pub shown : (c : ℕ) → c < MOST_CORES → has unshown c ≡ false → IsShownOn kept c (holder c)
