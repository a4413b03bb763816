-- A thread that is gone, where somebody else chooses the actions: what its page must show is kept
-- after every permitted history, and with it the thread's core may be freed.
use Rattle.std.specs.Prelude.{◌≡◌, ℕ, ◌<◌, true, List, [], ◌∷◌, Some, slice_get}
use Rattle.cal_machine.specs.Table.{Table}
use Rattle.cal_policy.specs.declared.board.holders.Placement as placements
use Rattle.cal_policy.specs.declared.history.action.Action.TheVariants.{Free}
use Rattle.cal_policy.specs.declared.history.entry.PassEntry.{PassEntry}
use Rattle.cal_policy.specs.declared.history.input.Input.{Input}
use Rattle.cal_policy.specs.declared.history.look.Seen.TheVariants.{Whole}
use Rattle.cal_policy.specs.Board.{placement_of}
use Rattle.cal_policy.specs.History.{actions_of, holder_of}
use Rattle.cal_policy.specs.Judgement.Gone.{shown_when_gone, can_be_gone, IsKeptOfGone}
use Rattle.cal_policy.specs.Setting.{setting}
use Rattle.cal_guard.specs.Permitted.{ArePermitted, IsPermittedHistory}

-- the look at the page of a thread that is gone is taken as it is, and kept
abbrev pub PermittedGoneIsKept : Type 0
PermittedGoneIsKept = (table : Table) (history : List PassEntry) (k : ℕ) →
    IsPermittedHistory table history → can_be_gone history k ≡ true → IsKeptOfGone table history k

-- on an input with it a pass that frees a core which the thread holds or leaves, and does nothing
-- else, is permitted
abbrev pub GoneMayBeFreed : Type 0
GoneMayBeFreed = (table : Table) (history : List PassEntry) (k : ℕ) (input : Input) →
    IsPermittedHistory table history → slice_get input.seen k ≡ Some (Whole
    (shown_when_gone history k).number (shown_when_gone history k).rec) →
    (c : ℕ) (p : placements.Placement) → c < table.cores →
    placement_of (holder_of (actions_of history) c) ≡ Some p → p.thread ≡ k →
    ArePermitted (setting table history input) (Free c ∷ [])
