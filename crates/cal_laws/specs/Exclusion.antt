-- No core and no thread has two masters.
use Rattle.std.specs.Prelude.{◌≡◌, ℕ, ◌+◌, ◌<◌, false, List, [], ◌∷◌, ◌++◌, length, Some}
use Rattle.cal_machine.specs.declared.command.Command.{Command}
use Rattle.cal_machine.specs.declared.command.Command.TheVariants.{Run, Park}
use Rattle.cal_machine.specs.Table.{Table}
use Rattle.cal_policy.specs.declared.history.action.Action.{Action}
use Rattle.cal_policy.specs.declared.board.holders.Placement as placements
use Rattle.cal_policy.specs.declared.board.holders.Holder.{Holder}
use Rattle.cal_policy.specs.declared.board.holders.Holder.TheVariants.{Free, Held, Leaving}
use Rattle.cal_policy.specs.History.{holder_of, commands_to}
use Rattle.cal_policy.specs.Board.Counts.{is_with}
use Rattle.cal_policy.specs.Board.{placement_of}

-- after the actions x a thread holds or leaves at most one core of the machine
abbrev pub HaveOneCore : Table → List Action → Type 0
HaveOneCore table x = (c d : ℕ) (p q : placements.Placement) → c < table.cores → d < table.cores →
    placement_of (holder_of x c) ≡ Some p → placement_of (holder_of x d) ≡ Some q →
    p.thread ≡ q.thread → c ≡ d

-- the thread's last commands are the Run of core c, with the number that it has there, and these
-- after it
pub record WasRun (x : List Action) (c : ℕ) (placement : placements.Placement)
    (after : List Command) : Type 0 where
  pub earlier : List Command
  pub commands : commands_to x placement.thread ≡ earlier ++ Run c ∷ after
  pub number : placement.number ≡ length earlier + 1

-- the holder's number is that of the last Run that was sent to it, a Run of this core; a core that
-- is held was sent no command since, one that is being left one Park
abbrev pub IsByLastRun : List Action → ℕ → Holder → Type 0
IsByLastRun x c Free = Unit {0}
IsByLastRun x c (Held placement) = WasRun x c placement []
IsByLastRun x c (Leaving placement cause) = WasRun x c placement (Park ∷ [])

-- a core that is granted is free, and its thread neither holds nor leaves any core
pub record GoesToIdle (table : Table) (x : List Action) (core thread : ℕ) : Type 0 where
  pub low : core < table.cores
  pub free : holder_of x core ≡ Free
  pub on_none : (c : ℕ) → c < table.cores → is_with thread (holder_of x c) ≡ false
