use Rattle.cal_world.proofs.Common.{take, history_in, KeepsBans}
use Rattle.cal_world.proofs.ScheduleLemmas.Safety.{of_legal}
use Rattle.cal_world.proofs.schedules.bans_in_events_are_kept.Goals as goal

pub returns-clause-safe : goal.returns-clause-safe
returns-clause-safe c = λ table events ok is n le. record {
  held = c.banned_are_empty_after_passes.ensures table (history_in (take n events)) (c.histories_are_permitted.ensures table events ok is n le);
  granted = λ here inside core thread class next.
      c.no_banned_is_granted.ensures here (c.points_are_permitted.ensures table events ok is n le here inside) core thread class next;
}

pub returns-clause-legal : goal.returns-clause-legal
returns-clause-legal c = of_legal KeepsBans c.legal_lists_are_safe.ensures (returns-clause-safe c)
