-- The report of a history.
pub mod Summary
pub mod Words
use Rattle.std.specs.Prelude.{◌≡◌, ◌-◌, ℕ, zero, suc, List, [], ◌∷◌, ◌++◌, length, codes, decimal}
use Rattle.std.specs.List.{concat, flat_map}
use Rattle.cal_machine.specs.Table.{Table}
use Rattle.cal_machine.specs.Tasks.{task_at}
use Rattle.cal_machine.specs.declared.task.Kind.{Kind}
use Rattle.cal_machine.specs.declared.task.Kind.TheVariants.{LatencyCritical, BestEffort}
use Rattle.cal_policy.specs.Board.Counts.{held_by, booked_by, cap_of}
use Rattle.cal_policy.specs.History.{actions_of}
use Rattle.cal_policy.specs.declared.history.action.Action.{Action}
use Rattle.cal_policy.specs.declared.history.entry.PassEntry.{PassEntry}
use Rattle.cal_trace.specs.declared.report.Report.{Report}
use Rattle.cal_trace.specs.Report.Words.{action_text, kept_lines}
use Rattle.cal_trace.specs.Rows.Text.{numbered}

-- the line of an action
abbrev pub action_line : Action → List ℕ
action_line action = concat (codes "  " ∷ action_text action ∷ codes "\n" ∷ [])

-- the line that begins a pass
abbrev pub pass_line : ℕ → PassEntry → List ℕ
pass_line pass entry =
    concat (codes "pass " ∷ decimal pass ∷ codes " now " ∷ decimal entry.input.now ∷
    codes " bandwidth " ∷ decimal entry.input.bandwidth ∷ codes "\n" ∷ [])

-- the lines of a pass
abbrev pub pass_text : ℕ → PassEntry → List ℕ
pass_text pass entry =
    pass_line pass entry ++ (kept_lines entry.input.seen ++ flat_map action_line entry.actions)

-- the lines of the passes
abbrev pub passes_text : List PassEntry → List ℕ
passes_text history = concat (numbered pass_text 0 history)

-- what task t holds, leaves and may have after these actions, by its kind
abbrev pub kind_text : Kind → Table → List Action → ℕ → List ℕ
kind_text LatencyCritical table x t =
    concat (codes " lc held " ∷ decimal (held_by table x t) ∷ codes " leaving " ∷
    decimal (booked_by table x t - held_by table x t) ∷ codes "\n" ∷ [])
kind_text BestEffort table x t =
    concat (codes " be held " ∷ decimal (held_by table x t) ∷ codes " leaving " ∷
    decimal (booked_by table x t - held_by table x t) ∷ codes " cap " ∷
    decimal (cap_of table x t) ∷ codes "\n" ∷ [])

-- the line of task t after these actions: the cores that it leaves are those that it has booked and
-- does not hold
abbrev pub task_line : Table → List Action → ℕ → List ℕ
task_line table x t =
    concat (codes "task " ∷ decimal t ∷ []) ++ kind_text (task_at table.tasks t).kind table x t

-- the lines of the tasks below n
abbrev pub task_lines : Table → List Action → ℕ → List ℕ
task_lines table x zero = []
task_lines table x (suc n) = task_lines table x n ++ task_line table x n

abbrev pub end_line : ℕ → List ℕ
end_line passes = concat (codes "end " ∷ decimal passes ∷ codes " passes\n" ∷ [])

-- the report of a history
abbrev pub report_text : Table → List PassEntry → List ℕ
report_text table history =
    passes_text history ++ (end_line (length history)
    ++ task_lines table (actions_of history) (length table.tasks))

-- what is kept of a history that was written: how many passes it has
pub record IsReportOf (history : List PassEntry) (report : Report) : Type 0 where
  pub passes : report.passes ≡ length history
