-- In which order the passes and the turns of a lockstep run see one another: each pass sees all turns of
-- the rounds before its own, and each turn takes the next command that was sent by then.
use Rattle.std.specs.Prelude.{◌≡◌, ℕ, ◌+◌, ◌<◌, ◌&&◌, Bool, false, min, nat_lt, List, take, Some, slice_get}
use Rattle.std.specs.Prelude.{slice_index_or}
use Rattle.cal_machine.specs.Table.{Table}
use Rattle.cal_machine.specs.TableTasks.{threads_of_table}
use Rattle.cal_signal.specs.declared.record.Record.{Record}
use Rattle.cal_signal.specs.declared.look.Look.TheVariants as found
use Rattle.cal_command.specs.declared.rule.TheConstants.{MOST_COMMANDS}
use Rattle.cal_policy.specs.declared.history.entry.PassEntry.{PassEntry}
use Rattle.cal_policy.specs.declared.history.look.Seen.{Seen}
use Rattle.cal_policy.specs.History.{actions_of, sent_to}
use Rattle.cal_policy.specs.History.Looks.{look_of}
use Rattle.cal_kthread.specs.declared.journal.entry.Entry.{Entry}
use Rattle.cal_linear.specs.Runs.{IsPublication}

-- how many commands the first p passes sent to thread k
abbrev pub sent_before : List PassEntry → ℕ → ℕ → ℕ
sent_before history p k = sent_to (actions_of (take p history)) k

-- a ring has room after so many commands sent and taken: one of its four places is free
abbrev pub has_place : (sent taken : ℕ) → Bool
has_place sent taken = nat_lt sent (taken + 4) && nat_lt sent MOST_COMMANDS

-- what a pass has of thread k, which made so many turns and was sent so many commands before it: its
-- look carried the thread's last record, and its answer on room is the ring's. (A thread publishes one
-- record a turn; place 0 of its page has the zero record.)
pub record SeesLast (journals : List (List Entry)) (k turns sent : ℕ) (entry : PassEntry) : Type 0 where
  pub rec : Record
  pub last : IsPublication journals k turns rec
  pub seen : Seen
  pub has : slice_get entry.input.seen k ≡ Some seen
  pub look : look_of seen ≡ found.Whole turns rec
  pub room : slice_index_or entry.input.rooms k false ≡ has_place sent rec.taken

-- what turn j of thread k takes, which was sent so many commands before it: the next command, if one of
-- them is left, and no second
pub record TakesNext (journals : List (List Entry)) (k j sent : ℕ) : Type 0 where
  pub before : Record
  pub after : Record
  pub is_before : IsPublication journals k j before
  pub is_after : IsPublication journals k (j + 1) after
  pub takes : after.taken ≡ min (before.taken + 1) sent

-- In round r pass r comes before turn r of each thread, and after all turns of the rounds before. So it
-- is of a run with so many turns, which has this history and these journals.
pub record IsInStep (table : Table) (turns : ℕ) (history : List PassEntry)
    (journals : List (List Entry)) : Type 0 where
  pub each_pass : (p k : ℕ) (entry : PassEntry) → slice_get history p ≡ Some entry →
      k < threads_of_table table →
      SeesLast journals k (min p turns) (sent_before history p k) entry
  pub each_turn : (j k : ℕ) → j < turns → k < threads_of_table table →
      TakesNext journals k j (sent_before history (j + 1) k)
