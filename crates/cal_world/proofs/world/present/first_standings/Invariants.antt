use Rattle.cal_world.proofs.Common.{◌≤◌, ◌-◌, [], length, StandingsAreOf}
use Rattle.cal_world.proofs.world.present.first_standings.Given as goal

abbrev pub invariant-loop-standings : goal.invariant-loop-standings
invariant-loop-standings l = record {
  few : length l.standings.items ≤ l.threads;
  each : StandingsAreOf l.standings.items [];
}

abbrev pub decreases-loop-standings : goal.decreases-loop-standings
decreases-loop-standings l = l.threads - length l.standings.items
