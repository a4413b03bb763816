-- How looks are judged, and which inputs a pass may be given. Doranjei's own rules.
use Rattle.std.specs.Prelude.{◌≡◌, ℕ, ◌-◌, ◌==◌, ◌&&◌, Bool, false, not, nat_le}
use Rattle.std.specs.Prelude.{nat_lt, List, length, Some, slice_get, if◌then◌else◌}
use Rattle.cal_signal.specs.declared.record.Record.{Record}
use Rattle.cal_signal.specs.declared.look.Look.{Look}
use Rattle.cal_signal.specs.declared.look.Look.TheVariants as found
use Rattle.cal_signal.specs.declared.shown.Shown.{Shown}
use Rattle.cal_signal.specs.Shown.{IsFitShown}
use Rattle.cal_signal.specs.Looks.{IsBusyPair}
use Rattle.cal_machine.specs.Table.{Table}
use Rattle.cal_machine.specs.TableTasks.{threads_of_table}
use Rattle.cal_policy.specs.declared.history.action.Action.{Action}
use Rattle.cal_policy.specs.declared.history.input.Input.{Input}
use Rattle.cal_policy.specs.declared.history.entry.PassEntry.{PassEntry}
use Rattle.cal_policy.specs.declared.history.look.Seen.{Seen}
use Rattle.cal_policy.specs.declared.history.look.Seen.TheVariants.{Whole, Busy, Ahead, Foreign}
use Rattle.cal_policy.specs.declared.board.holders.Holder.{Holder}
use Rattle.cal_policy.specs.declared.board.holders.Holder.TheVariants as holders
use Rattle.cal_policy.specs.History.{actions_of, looks_of, sent_to, holder_of}
use Rattle.cal_policy.specs.History.Looks.{last_shown, look_of}

-- the core is held or being left by thread k, with a Run that the record acknowledges
abbrev pub is_acknowledged_by : ℕ → Record → Holder → Bool
is_acknowledged_by k rec holders.Free = false
is_acknowledged_by k rec (holders.Held placement) =
    (placement.thread == k) && nat_le placement.number rec.taken
is_acknowledged_by k rec (holders.Leaving placement cause) =
    (placement.thread == k) && nat_le placement.number rec.taken

-- after the actions x the record shows thread k on a core, and that is no core of the machine that
-- the thread has by a Run that it acknowledges
abbrev pub is_foreign : ℕ → List Action → ℕ → Record → Bool
is_foreign cores x k rec = not (rec.running == 0)
    && not (nat_le rec.running cores && is_acknowledged_by k rec (holder_of x (rec.running - 1)))

-- the judgement of a look at thread k after the actions x
abbrev pub judged : ℕ → List Action → ℕ → Look → Seen
judged cores x k (found.Busy first second) = Busy first second
judged cores x k (found.Whole number rec) =
    if nat_lt (sent_to x k) rec.taken then Ahead number rec
    else if is_foreign cores x k rec then Foreign number rec else Whole number rec

-- a look that carries no record has a busy pair; one that carries a record, one that may be shown
-- after the last
abbrev pub IsFitLook : Shown → Seen → Type 0
IsFitLook last (Busy first second) = IsBusyPair first second
IsFitLook last (Whole number rec) = IsFitShown last (record { number = number; rec = rec })
IsFitLook last (Ahead number rec) = IsFitShown last (record { number = number; rec = rec })
IsFitLook last (Foreign number rec) = IsFitShown last (record { number = number; rec = rec })

-- one look and one answer on room for each thread, and each look fits what was shown of its thread
-- before
pub record AreFitLooks (table : Table) (before : List PassEntry) (input : Input) : Type 0 where
  pub looks : length input.seen ≡ threads_of_table table
  pub rooms : length input.rooms ≡ threads_of_table table
  pub fit : (k : ℕ) (seen : Seen) → slice_get input.seen k ≡ Some seen →
      IsFitLook (last_shown (looks_of before) k) seen

-- an input that a pass may be given after this history: its looks fit, and each says what is judged
-- of it
pub record IsInput (table : Table) (history : List PassEntry) (input : Input) : Type 0 where
  pub looks : AreFitLooks table history input
  pub as_judged : (k : ℕ) (seen : Seen) → slice_get input.seen k ≡ Some seen →
      seen ≡ judged table.cores (actions_of history) k (look_of seen)
