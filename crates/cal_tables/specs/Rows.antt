-- Which number stands in which row.
use Rattle.std.specs.Prelude.{ℕ, ◌-◌, ◌^◌, ◌==◌, ◌||◌, min, nat_lt, Bool, true, false}
use Rattle.std.specs.Prelude.{Option, Some, None, if◌then◌else◌}
use Rattle.cal_measure.specs.Shares.{thousandths_of}
use Rattle.cal_measure.specs.declared.cores.MachineCores.{MachineCores}
use Rattle.cal_measure.specs.declared.cores.TaskCores.{TaskCores}
use Rattle.cal_measure.specs.declared.requests.TaskRequests.{TaskRequests}
use Rattle.cal_measure.specs.declared.spread.Spread.{Spread}
use Rattle.cal_measure.specs.declared.spread.Time.{Time}
use Rattle.cal_measure.specs.declared.spread.Time.TheVariants.{Known, More}
use Rattle.cal_tables.specs.declared.core_rows.CoreLine.{CoreLine}
use Rattle.cal_tables.specs.declared.core_rows.CoreLine.TheVariants as cores
use Rattle.cal_tables.specs.declared.core_rows.MachineLine.{MachineLine}
use Rattle.cal_tables.specs.declared.core_rows.MachineLine.TheVariants as machine
use Rattle.cal_tables.specs.declared.figures.Figure.{Figure}
use Rattle.cal_tables.specs.declared.figures.Rank.{Rank}
use Rattle.cal_tables.specs.declared.figures.Rank.TheVariants as ranks
use Rattle.cal_tables.specs.declared.writing.Line.{Line}
use Rattle.cal_tables.specs.declared.writing.Line.TheVariants as lines

-- a number that is exact
abbrev pub exact : ℕ → Figure
exact n = record { number = n; is_bound = false; few = None }

-- a figure of a number that ends at the greatest: that stands for itself and for all above it, and is
-- a bound
abbrev pub ended : Figure → Figure
ended figure = record {
  number = figure.number;
  is_bound = figure.is_bound || figure.number == 2 ^ 64 - 1;
  few = figure.few;
}

-- a number up to the greatest
abbrev pub up_to_greatest : ℕ → Figure
up_to_greatest n = ended (exact (min n (2 ^ 64 - 1)))

-- some thousandths, up to the greatest number
abbrev pub share_in : Option ℕ → Option Figure
share_in None = None
share_in (Some n) = Some (up_to_greatest n)

-- a part of a whole
abbrev pub share_of : ℕ → ℕ → Option Figure
share_of part whole = share_in (thousandths_of part whole)

-- one of some times
abbrev pub time_in : Spread → Rank → Option Time
time_in times ranks.Least = times.least
time_in times ranks.Median = times.median
time_in times ranks.Ninety = times.ninety
time_in times ranks.NinetyNine = times.ninety_nine
time_in times ranks.MostOfThousand = times.most_of_thousand
time_in times ranks.Greatest = times.greatest

-- so many times, where there are fewer than these
abbrev pub if_below : ℕ → ℕ → Option ℕ
if_below needed count = if nat_lt count needed then Some count else None

-- so many times, where that is too few for a rank
abbrev pub few_for : Rank → ℕ → Option ℕ
few_for ranks.Least count = None
few_for ranks.Median count = None
few_for ranks.Ninety count = None
few_for ranks.NinetyNine count = if_below 100 count
few_for ranks.MostOfThousand count = if_below 1000 count
few_for ranks.Greatest count = None

-- a time, as a figure: of a pending request it is a bound
abbrev pub figure_in : Option ℕ → Option Time → Option Figure
figure_in few None = None
figure_in few (Some (Known ticks)) = Some (record { number = ticks; is_bound = false; few = few })
figure_in few (Some (More ticks)) = Some (record { number = ticks; is_bound = true; few = few })

-- the time at a rank, as a figure
abbrev pub ranked_figure : Spread → Rank → Option Figure
ranked_figure times rank = figure_in (few_for rank times.count) (time_in times rank)

-- a slowdown at a rank, as a figure: the greatest number is a bound
abbrev pub ended_figure : Option Figure → Option Figure
ended_figure None = None
ended_figure (Some figure) = Some (ended figure)

-- a mean, which is a bound where some are pending, too
abbrev pub bound_if : Bool → Option Figure → Option Figure
bound_if pending None = None
bound_if pending (Some figure) = Some (record {
  number = figure.number;
  is_bound = pending || figure.is_bound;
  few = figure.few;
})

-- how long the oldest pending request has waited
abbrev pub oldest_in : Option Time → Option Figure
oldest_in None = None
oldest_in (Some (Known ticks)) = Some (exact ticks)
oldest_in (Some (More ticks)) = Some (exact ticks)

-- what a row says of a task with these numbers of requests, which had so much core time, in a run
-- whose turns last so long
abbrev pub figure_of : TaskRequests → ℕ → ℕ → Line → Option Figure
figure_of requests had turns lines.Given = Some (exact requests.given)
figure_of requests had turns lines.Served = Some (exact requests.served)
figure_of requests had turns lines.Left = Some (exact requests.left)
figure_of requests had turns lines.ServedInATick = share_of requests.served turns
figure_of requests had turns (lines.Response rank) = ranked_figure requests.response rank
figure_of requests had turns lines.MeanResponse =
    bound_if (nat_lt 0 requests.so_far.count) (share_of requests.together requests.response.count)
figure_of requests had turns (lines.Wait rank) = ranked_figure requests.wait rank
figure_of requests had turns (lines.Service rank) = ranked_figure requests.service rank
figure_of requests had turns (lines.Slowdown rank) =
    ended_figure (ranked_figure requests.slowdown rank)
figure_of requests had turns lines.OldestPending = oldest_in requests.so_far.greatest
figure_of requests had turns lines.Thefts = Some (exact requests.work.thefts)
figure_of requests had turns lines.Suspensions = Some (exact requests.work.suspensions)
figure_of requests had turns lines.Worked = share_of requests.work.worked had

-- what a row says of a task with these numbers of cores, in a run that lasted so long
abbrev pub core_figure_of : TaskCores → ℕ → CoreLine → Option Figure
core_figure_of of_task lasted cores.GrantsBeside = Some (exact of_task.actions.grants_beside)
core_figure_of of_task lasted cores.GrantsAgain = Some (exact of_task.actions.grants_again)
core_figure_of of_task lasted cores.GrantsOther = Some (exact of_task.actions.grants_other)
core_figure_of of_task lasted cores.LostToBans = Some (exact of_task.actions.lost_to_bans)
core_figure_of of_task lasted cores.LostToBandwidth = Some (exact of_task.actions.lost_to_bandwidth)
core_figure_of of_task lasted cores.LostToTasks = Some (exact of_task.actions.lost_to_tasks)
core_figure_of of_task lasted cores.TakenFromOthers = Some (exact of_task.actions.taken_from_others)
core_figure_of of_task lasted cores.Cuts = Some (exact of_task.actions.cuts)
core_figure_of of_task lasted cores.Raises = Some (exact of_task.actions.raises)
core_figure_of of_task lasted cores.Bans = Some (exact of_task.actions.bans)
core_figure_of of_task lasted cores.Most = Some (exact of_task.most)
core_figure_of of_task lasted cores.Mean = share_of of_task.held lasted
core_figure_of of_task lasted cores.MeanLeaving = share_of of_task.leaving lasted
core_figure_of of_task lasted cores.Congested = share_of of_task.congested lasted

-- what a row says of a machine with these numbers and so much core time in all, in a run whose
-- turns last so long
abbrev pub machine_figure_of : MachineCores → ℕ → ℕ → MachineLine → Option Figure
machine_figure_of numbers whole turns machine.Held = share_of numbers.held whole
machine_figure_of numbers whole turns machine.Leaving = share_of numbers.leaving whole
machine_figure_of numbers whole turns machine.Banned = share_of numbers.banned whole
machine_figure_of numbers whole turns machine.Free = share_of numbers.free whole
machine_figure_of numbers whole turns machine.OverLimit =
    share_of numbers.over_limit numbers.lasted
machine_figure_of numbers whole turns machine.ClockOfPasses =
    Some (up_to_greatest numbers.lasted)
machine_figure_of numbers whole turns machine.ClockOfRequests = Some (exact turns)
