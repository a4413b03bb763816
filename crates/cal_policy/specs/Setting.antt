-- What a pass goes by, and the state in which each of its actions is judged.
use Rattle.std.specs.Prelude.{ℕ, zero, suc, ◌+◌, Bool, false, not, List, [], ◌∷◌, ◌++◌}
use Rattle.std.specs.Prelude.{slice_index_or}
use Rattle.cal_signal.specs.declared.record.Record.{Record}
use Rattle.cal_machine.specs.Table.{Table}
use Rattle.cal_machine.specs.TableTasks.{threads_of_table}
use Rattle.cal_machine.specs.ThreadSet.{has_thread}
use Rattle.cal_machine.specs.declared.thread_set.ThreadSet.{ThreadSet}
use Rattle.cal_policy.specs.declared.history.action.Action.{Action}
use Rattle.cal_policy.specs.declared.history.input.Input.{Input}
use Rattle.cal_policy.specs.declared.history.look.Seen.{Seen}
use Rattle.cal_policy.specs.declared.pass.terms.Terms.{Terms}
use Rattle.cal_policy.specs.declared.history.entry.PassEntry.{PassEntry}
use Rattle.cal_policy.specs.declared.board.holders.Holder.{Holder}
use Rattle.cal_policy.specs.declared.board.holders.Holder.TheVariants.{Free, Held, Leaving}
use Rattle.cal_policy.specs.History.{actions_of, looks_of}
use Rattle.cal_policy.specs.History.Looks.{kept_by}

-- what a pass goes by: the task table, the passes before it, and its input
pub record Setting : Type 0 where
  pub table : Table
  pub history : List PassEntry
  pub input : Input

-- a setting of these
abbrev pub setting : Table → List PassEntry → Input → Setting
setting table history input = record { table = table; history = history; input = input }

-- the setting of an entry after these passes
abbrev pub setting_of : Table → List PassEntry → PassEntry → Setting
setting_of table before entry = record { table = table; history = before; input = entry.input }

-- a pass that has begun: the passes before it, and its own looks
pub record Begun : Type 0 where
  pub history : List PassEntry
  pub seen : List Seen

-- for thread k and those after it, n in all, whether its ring has room, where these are full
abbrev pub rooms_from : ThreadSet → ℕ → ℕ → List Bool
rooms_from full k zero = []
rooms_from full k (suc n) = not (has_thread full k) ∷ rooms_from full (k + 1) n

-- the setting of a pass that has begun, on these terms
abbrev pub setting_at : Table → Terms → Begun → Setting
setting_at table terms begun = record {
  table = table;
  history = begun.history;
  input = record {
    now = terms.now;
    bandwidth = terms.bandwidth;
    seen = begun.seen;
    rooms = rooms_from terms.full 0 (threads_of_table table);
  };
}

-- all actions so far: those of the passes before, then those already made in this pass
abbrev pub so_far : Setting → List Action → List Action
so_far s acts = actions_of s.history ++ acts

-- the kept record of thread k in this pass, its own looks included
abbrev pub kept_now : Setting → ℕ → Record
kept_now s k = kept_by (looks_of s.history ++ s.input.seen ∷ []) k

-- the record of thread k that was kept after the pass before; the zero record in the first pass
abbrev pub kept_before : Setting → ℕ → Record
kept_before s k = kept_by (looks_of s.history) k

-- the ring of thread k has room
abbrev pub has_room : Setting → ℕ → Bool
has_room s k = slice_index_or s.input.rooms k false

-- the core is held by a thread whose ring has room, so that it can be revoked
abbrev pub is_held_with_room : Setting → Holder → Bool
is_held_with_room s Free = false
is_held_with_room s (Held placement) = has_room s placement.thread
is_held_with_room s (Leaving placement cause) = false
