-- What a pass that did nothing says of earlier clocks.
use Rattle.std.specs.Prelude.{◌≡◌, ℕ, ◌≤◌, List, [], ◌∷◌, ◌++◌}
use Rattle.cal_machine.specs.Table.{Table}
use Rattle.cal_policy.specs.declared.history.entry.PassEntry.{PassEntry}
use Rattle.cal_policy.specs.declared.history.input.Input.{Input}
use Rattle.cal_policy.specs.declared.policy.Policy.{Policy}
use Rattle.cal_policy.specs.Policies.{pass_by, IsLegalBy}
use Rattle.cal_policy.specs.Setting.{setting}
use Rattle.cal_idle.specs.Idle.{IsIdle}

-- the same input at this clock
abbrev pub at_clock : ℕ → Input → Input
at_clock now input = record {
  now = now;
  bandwidth = input.bandwidth;
  seen = input.seen;
  rooms = input.rooms;
}

-- the same entry at this clock
abbrev pub entry_at : ℕ → PassEntry → PassEntry
entry_at now entry = record { input = at_clock now entry.input; actions = entry.actions }

-- where the policy does nothing, it does nothing at an earlier clock: with the same looks, the same
-- figure and the same rooms
abbrev pub DoesNothingEarlier : Policy → Type 0
DoesNothingEarlier policy = (table : Table) (before : List PassEntry) (input : Input) (now : ℕ) →
    now ≤ input.now → pass_by policy (setting table before input) ≡ [] →
    pass_by policy (setting table before (at_clock now input)) ≡ []

-- so before an idle pass of a legal history it may be put in once more, at an earlier clock
abbrev pub IdlePassesMayComeEarlier : Policy → Type 0
IdlePassesMayComeEarlier policy = (table : Table) (before : List PassEntry) (entry : PassEntry)
    (now : ℕ) (after : List PassEntry) → IsIdle before entry → now ≤ entry.input.now →
    IsLegalBy policy table (before ++ entry ∷ after) →
    IsLegalBy policy table (before ++ entry_at now entry ∷ entry ∷ after)
