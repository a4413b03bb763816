use Rattle.cal_world.proofs.Common.{◌≡◌, take, IsLegalListBy}
use Rattle.cal_world.proofs.world.replay.run_events_by.Given as goal

abbrev pub invariant-loop-at : goal.invariant-loop-at
invariant-loop-at l = record {
  table : l.world.table ≡ l.config;
  policy : l.world.policy ≡ l.fn.policy;
  so_far : l.world.events ≡ take l.at l.events;
  legal : IsLegalListBy l.fn.policy l.config (take l.at l.events);
}
