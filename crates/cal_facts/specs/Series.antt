-- What each pass of a history found of each task and left it with: the rows of the word `series`.
use Rattle.std.specs.Prelude.{◌≡◌, ◌-◌, ◌++◌, ℕ, zero, suc, List, [], ◌∷◌, codes, decimal, length}
use Rattle.std.specs.Prelude.{Option, Some, None, if◌then◌else◌}
use Rattle.std.specs.List.{concat, flat_map}
use Rattle.cal_machine.specs.Table.{Table}
use Rattle.cal_machine.specs.TableTasks.{is_latency_critical, limit_of}
use Rattle.cal_paced.specs.declared.plan.Plan.{Plan}
use Rattle.cal_policy.specs.Board.Counts.{booked_by, cap_of, held_by}
use Rattle.cal_policy.specs.History.Lists.{each_of}
use Rattle.cal_policy.specs.History.{actions_of}
use Rattle.cal_policy.specs.Pass.Grants.{is_congested, task_delay}
use Rattle.cal_policy.specs.Setting.{setting_of}
use Rattle.cal_policy.specs.declared.history.entry.PassEntry.{PassEntry}
use Rattle.cal_policy.specs.declared.policy.Policy.{Policy}
use Rattle.cal_run.specs.declared.outcome.Outcome.{Outcome}
use Rattle.cal_tables.specs.Planned.{IsRunGiven}
use Rattle.cal_trace.specs.declared.arrivals.Arrivals.{Arrivals}
use Rattle.cal_facts.specs.Cells.{cell, truth_number}
use Rattle.cal_facts.specs.declared.series.point.Point.{Point}

-- the cap of task t after these passes, where it is a best-effort one
abbrev pub cap_if_any : Table → List PassEntry → ℕ → Option ℕ
cap_if_any table history t =
    if is_latency_critical table t then None else Some (cap_of table (actions_of history) t)

-- what a pass found of task t, and left it with, after these passes: its delay, by the looks of
-- the pass too, and the cores that it has after the pass's actions
abbrev pub point_of : Table → List PassEntry → PassEntry → ℕ → Point
point_of table before entry t = record {
  pass = length before;
  clock = entry.input.now;
  bandwidth = entry.input.bandwidth;
  task = t;
  delay = task_delay (setting_of table before entry) t;
  congested = is_congested (setting_of table before entry) t;
  held = held_by table (actions_of (before ++ entry ∷ [])) t;
  booked = booked_by table (actions_of (before ++ entry ∷ [])) t;
  cap = cap_if_any table (before ++ entry ∷ []) t;
  limit = limit_of table t;
}

-- of the tasks below n
abbrev pub points_below : Table → List PassEntry → PassEntry → ℕ → List Point
points_below table before entry zero = []
points_below table before entry (suc n) =
    points_below table before entry n ++ point_of table before entry n ∷ []

-- of each task
abbrev pub points_of : Table → List PassEntry → PassEntry → List Point
points_of table before entry = points_below table before entry (length table.tasks)

-- of each pass of a history
abbrev pub series_of : Table → List PassEntry → List Point
series_of table history = each_of (points_of table) history

-- the cells of a pass
abbrev pub pass_text : Table → Point → List ℕ
pass_text table p =
    concat (decimal p.pass ∷ codes "," ∷ decimal p.clock ∷ codes "," ∷ decimal p.bandwidth ∷
    codes "," ∷ decimal table.bandwidth_limit ∷ [])

-- the cells of a task's delay
abbrev pub delay_text : Point → List ℕ
delay_text p =
    concat (codes "," ∷ decimal p.task ∷ codes "," ∷ decimal p.delay ∷ codes "," ∷
    decimal (truth_number p.congested) ∷ [])

-- the cells of its cores
abbrev pub cores_text : Point → List ℕ
cores_text p =
    concat (codes "," ∷ decimal p.held ∷ codes "," ∷ decimal (p.booked - p.held) ∷ codes "," ∷
    decimal p.booked ∷ codes "," ∷ cell p.cap ∷ codes "," ∷ decimal p.limit ∷ codes "\n" ∷ [])

-- the row of a point
abbrev pub point_line : Table → Point → List ℕ
point_line table p = pass_text table p ++ delay_text p ++ cores_text p

abbrev pub series_columns : List ℕ
series_columns =
    codes "pass,clock [ticks],bandwidth,bandwidth limit,task,delay [ticks],congested,"
    ++ codes "held [cores],leaving [cores],booked [cores],cap [cores],limit [cores]\n"

-- the text of these points
abbrev pub text_of_series : Table → List Point → List ℕ
text_of_series table points = series_columns ++ flat_map (point_line table) points

-- the text of the series of a history
abbrev pub series_text : Table → List PassEntry → List ℕ
series_text table history = text_of_series table (series_of table history)

-- a run on these arrivals, by the plan or in lockstep, came to some outcome, and this is the series of
-- its history
pub record IsSeriesOfRun (plan : Option Plan) (policy : Policy) (table : Table)
    (arrivals : Arrivals) (points : List Point) : Type 0 where
  pub given : Arrivals
  pub outcome : Outcome
  pub run : IsRunGiven plan policy table arrivals given outcome
  pub are : points ≡ series_of table outcome.history
