-- Signals that can be decided: one look for each thread in each pass, and each look fits what its
-- thread showed before.
use Rattle.std.specs.Prelude.{◌≡◌, ◌≤◌, ℕ, List, length, take, Option, Some, None, slice_get}
use Rattle.cal_signal.specs.declared.look.Look.{Look}
use Rattle.cal_signal.specs.declared.look.Look.TheVariants as look
use Rattle.cal_signal.specs.Looks.{IsBusyPair}
use Rattle.cal_signal.specs.Shown.{IsFitShown}
use Rattle.cal_trace.specs.Rows.SoFar.{SoFar}
use Rattle.cal_trace.specs.Signals.{last_shown}
use Rattle.cal_signal.specs.declared.shown.Shown.{Shown}
use Rattle.cal_policy.specs.declared.judgement.open_input.FoundLook.{FoundLook}
use Rattle.cal_trace.specs.declared.signals.SignalPass.{SignalPass}

-- a thread that showed this last may give this look
abbrev pub IsFitting : Shown → Look → Type 0
IsFitting last (look.Whole number rec) = IsFitShown last (record { number = number; rec = rec })
IsFitting last (look.Busy first second) = IsBusyPair first second

-- each of these looks is one that its thread may give after these passes; the first is thread 0's
abbrev pub AreFitting : List SignalPass → List FoundLook → Type 0
AreFitting before looks =
    (k : ℕ) (seen : FoundLook) → slice_get looks k ≡ Some seen →
    IsFitting (last_shown k before) seen.look

-- a pass after these: one look for each of so many threads, and each fits
pub record IsFittingPass (threads : ℕ) (before : List SignalPass) (pass : SignalPass) : Type 0 where
  pub looks : length pass.looks ≡ threads
  pub fit : AreFitting before pass.looks

-- each pass fits those before it
pub record AreFittingPasses (threads : ℕ) (passes : List SignalPass) : Type 0 where
  pub each : (p : ℕ) (pass : SignalPass) → slice_get passes p ≡ Some pass →
      IsFittingPass threads (take p passes) pass

-- the looks of a pass at hand fit, as far as they were read
abbrev pub IsHand : ℕ → List SignalPass → Option SignalPass → Type 0
IsHand threads before None = Unit {0}
IsHand threads before (Some pass) = (length pass.looks ≤ threads) × AreFitting before pass.looks

-- what was read so far fits
pub record IsFittingSoFar (threads : ℕ) (so_far : SoFar SignalPass) : Type 0 where
  pub before : AreFittingPasses threads so_far.before
  pub at_hand : IsHand threads so_far.before so_far.at_hand
