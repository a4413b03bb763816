-- A thread that is gone: what its page must show for its core to be freed.
use Rattle.std.specs.Prelude.{◌≡◌, ℕ, ◌+◌, ◌-◌, ◌<◌, ◌^◌, ◌&&◌, Bool, true, None, Some, List}
use Rattle.std.specs.Prelude.{nat_le, nat_lt, slice_get}
use Rattle.std.specs.List.{Contains}
use Rattle.cal_machine.specs.Table.{Table, IsTable}
use Rattle.cal_signal.specs.declared.record.Record.{Record}
use Rattle.cal_signal.specs.declared.shown.Shown.{Shown}
use Rattle.cal_signal.specs.declared.look.Look.TheVariants as found
use Rattle.cal_signal.specs.Records.{zero_record}
use Rattle.cal_policy.specs.declared.board.holders.Placement as placements
use Rattle.cal_policy.specs.declared.history.action.Action.TheVariants.{Free}
use Rattle.cal_policy.specs.declared.history.entry.PassEntry.{PassEntry}
use Rattle.cal_policy.specs.declared.history.input.Input.{Input}
use Rattle.cal_policy.specs.declared.history.look.Seen.TheVariants.{Whole}
use Rattle.cal_policy.specs.Board.{placement_of}
use Rattle.cal_policy.specs.History.{actions_of, looks_of, holder_of, sent_to}
use Rattle.cal_policy.specs.History.Looks.{last_shown}
use Rattle.cal_policy.specs.Judgement.Judging.{judged}
use Rattle.cal_policy.specs.Judgement.OneByOne.{fault_of}
use Rattle.cal_policy.specs.Pass.{IsLegal}
use Rattle.cal_policy.specs.Policies.{pass_by, IsLegalBy}
use Rattle.cal_policy.specs.declared.policy.Policy.{Policy}
use Rattle.cal_policy.specs.Setting.{setting}

-- it took all that was sent, is on no core and has no request; the words that never fall stay
abbrev pub gone_record : Record → ℕ → Record
gone_record last sent =
    record zero_record { taken = sent; misses = last.misses; stamp = last.stamp }

-- that of thread k after this history, at the place after the last one that it showed
abbrev pub shown_when_gone : List PassEntry → ℕ → Shown
shown_when_gone history k = record {
  number = (last_shown (looks_of history) k).number + 1;
  rec = gone_record (last_shown (looks_of history) k).rec (sent_to (actions_of history) k);
}

-- a page can show it: the thread has not shown more commands taken than were sent, and no number is
-- at its end
abbrev pub can_be_gone : List PassEntry → ℕ → Bool
can_be_gone history k =
    nat_le (last_shown (looks_of history) k).rec.taken (sent_to (actions_of history) k)
    && nat_lt (sent_to (actions_of history) k) (2 ^ 64)
    && nat_lt (last_shown (looks_of history) k).number (2 ^ 64 - 1)

-- the look at such a page is taken as it is, and kept
pub record IsKeptOfGone (table : Table) (history : List PassEntry) (k : ℕ) : Type 0 where
  pub taken : fault_of table.cores history k (found.Whole (shown_when_gone history k).number
      (shown_when_gone history k).rec) ≡ None
  pub kept : judged table.cores (actions_of history) k (found.Whole
      (shown_when_gone history k).number (shown_when_gone history k).rec)
      ≡ Whole (shown_when_gone history k).number (shown_when_gone history k).rec

abbrev pub GoneIsKept : Type 0
GoneIsKept = (table : Table) (history : List PassEntry) (k : ℕ) → IsLegal table history →
    can_be_gone history k ≡ true → IsKeptOfGone table history k

-- a pass of any policy that keeps it frees every core that the thread holds or leaves
abbrev pub GoneFreesItsCores : Type 0
GoneFreesItsCores = (policy : Policy) (table : Table) (history : List PassEntry) (k : ℕ)
    (input : Input) → IsTable table → IsLegalBy policy table history →
    slice_get input.seen k ≡ Some (Whole
    (shown_when_gone history k).number (shown_when_gone history k).rec) →
    (c : ℕ) (p : placements.Placement) → c < table.cores →
    placement_of (holder_of (actions_of history) c) ≡ Some p → p.thread ≡ k →
    Contains (pass_by policy (setting table history input)) (Free c)
