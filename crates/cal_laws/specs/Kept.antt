-- What the kept records say is true.
use Rattle.std.specs.Prelude.{◌≡◌, ◌≢◌, ℕ, ◌-◌, ◌≤◌, List, take, Some, slice_get}
use Rattle.cal_machine.specs.Table.{Table}
use Rattle.cal_signal.specs.declared.record.Record.{Record}
use Rattle.cal_policy.specs.declared.history.action.Action.{Action}
use Rattle.cal_policy.specs.declared.history.entry.PassEntry.{PassEntry}
use Rattle.cal_policy.specs.declared.history.look.Seen.TheVariants.{Whole}
use Rattle.cal_policy.specs.declared.board.holders.Placement as placements
use Rattle.cal_policy.specs.History.{actions_of, holder_of, sent_to}
use Rattle.cal_policy.specs.Board.{placement_of}
use Rattle.cal_laws.specs.Point.{Point, actions_at}

-- after the actions x thread k holds or leaves the core that the record shows it on, by a Run that
-- the record acknowledges
pub record IsOnItsCore (table : Table) (x : List Action) (k : ℕ) (rec : Record) : Type 0 where
  pub low : rec.running ≤ table.cores
  pub place : placements.Placement
  pub there : placement_of (holder_of x (rec.running - 1)) ≡ Some place
  pub thread : place.thread ≡ k
  pub acknowledged : place.number ≤ rec.taken

-- a look of pass number `pass` let the record of thread k be kept, and as the pass began the thread
-- was on the core that it shows
pub record WasKeptOnCore (table : Table) (history : List PassEntry) (k : ℕ) (rec : Record)
    (pass : ℕ) : Type 0 where
  pub entry : PassEntry
  pub is_pass : slice_get history pass ≡ Some entry
  pub number : ℕ
  pub whole : slice_get entry.input.seen k ≡ Some (Whole number rec)
  pub on_core : IsOnItsCore table (actions_of (take pass history)) k rec

-- the record acknowledges no more than was sent; where it shows its thread on a core, it was kept
-- in this pass or an earlier one, with the thread on that core
pub record IsTrueRecord (here : Point) (k : ℕ) (rec : Record) : Type 0 where
  pub sent : rec.taken ≤ sent_to (actions_at here) k
  pub shown : rec.running ≢ 0 →
      (pass : ℕ) × (pass ≤ here.pass) × WasKeptOnCore here.table here.history k rec pass
