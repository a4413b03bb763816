-- What is so after each pass of a history, until the next one.
use Rattle.std.specs.Prelude.{◌≡◌, ℕ, ◌+◌, ◌-◌, ◌≤◌, ◌&&◌, Bool, true, false, not, List}
use Rattle.std.specs.Prelude.{Option, Some, None, slice_get, take}
use Rattle.cal_machine.specs.Table.{Table}
use Rattle.cal_policy.specs.Board.Counts.{is_free, is_held}
use Rattle.cal_policy.specs.History.Looks.{kept_by}
use Rattle.cal_policy.specs.History.{holder_of, is_banned}
use Rattle.cal_policy.specs.Pass.Choice.{count_below, greatest_below}
use Rattle.cal_policy.specs.Pass.Grants.{is_congested, record_delay}
use Rattle.cal_policy.specs.Setting.{setting_of}
use Rattle.cal_machine.specs.TableTasks.{limit_of, thread_of}
use Rattle.cal_policy.specs.declared.board.holders.Holder.{Holder}
use Rattle.cal_policy.specs.declared.board.holders.Holder.TheVariants as holders
use Rattle.cal_policy.specs.declared.history.action.Action.{Action}
use Rattle.cal_policy.specs.declared.history.entry.PassEntry.{PassEntry}
use Rattle.cal_policy.specs.declared.history.look.Seen.{Seen}
use Rattle.cal_measure.specs.declared.states.CoreState.{CoreState}
use Rattle.cal_measure.specs.declared.states.StateCounts.{StateCounts}
use Rattle.cal_measure.specs.declared.states.CoreState.TheVariants as states

-- the clock of pass p, 0 where there is none
abbrev pub clock_in : Option PassEntry → ℕ
clock_in None = 0
clock_in (Some entry) = entry.input.now

abbrev pub clock_at : List PassEntry → ℕ → ℕ
clock_at history p = clock_in (slice_get history p)

-- how long what is so after pass p lasts: from its clock to the next pass's, and 0 where that is
-- not later, and after the last pass
abbrev pub lasts_at : List PassEntry → ℕ → ℕ
lasts_at history p = clock_at history (p + 1) - clock_at history p

-- the core is being left
abbrev pub is_leaving : Holder → Bool
is_leaving holders.Free = false
is_leaving (holders.Held placement) = false
is_leaving (holders.Leaving placement cause) = true

-- a core with this holder, banned or not, is in this state
abbrev pub is_in_state : CoreState → Holder → Bool → Bool
is_in_state states.Held holder banned = is_held holder
is_in_state states.Leaving holder banned = is_leaving holder
is_in_state states.Banned holder banned = is_free holder && banned
is_in_state states.Free holder banned = is_free holder && not banned

-- how many of the first n cores are in this state after these actions
abbrev pub count_in_first : ℕ → List Action → CoreState → ℕ
count_in_first n x state = count_below (λ c. is_in_state state (holder_of x c) (is_banned x c)) n

-- how many cores are in this state after these actions
abbrev pub count_in_state : Table → List Action → CoreState → ℕ
count_in_state table = count_in_first table.cores

-- so many of the first n cores are in each state after these actions
pub record AreStateCounts (x : List Action) (n : ℕ) (counts : StateCounts) : Type 0 where
  pub held : counts.held ≡ count_in_first n x states.Held
  pub leaving : counts.leaving ≡ count_in_first n x states.Leaving
  pub banned : counts.banned ≡ count_in_first n x states.Banned
  pub free : counts.free ≡ count_in_first n x states.Free

-- no more than so many cores are in each state
pub record AreAtMost (most : ℕ) (counts : StateCounts) : Type 0 where
  pub held : counts.held ≤ most
  pub leaving : counts.leaving ≤ most
  pub banned : counts.banned ≤ most
  pub free : counts.free ≤ most

-- the delay of task t by this clock, after these looks
abbrev pub delay_after : Table → List (List Seen) → ℕ → ℕ → ℕ
delay_after table looks now t =
    greatest_below (λ j. record_delay now (kept_by looks (thread_of table t j))) (limit_of table t)

-- pass p found task t congested
abbrev pub found_congested : Table → List PassEntry → ℕ → Option PassEntry → Bool
found_congested table before t None = false
found_congested table before t (Some entry) = is_congested (setting_of table before entry) t

abbrev pub is_congested_at : Table → List PassEntry → ℕ → ℕ → Bool
is_congested_at table history t p =
    found_congested table (take p history) t (slice_get history p)
