use Rattle.cal_world.proofs.ScheduleLemmas.Journalled.{journals}
use Rattle.cal_world.specs.Schedules.{AreJournals}
use Rattle.cal_world.proofs.ScheduleLemmas.Safety.{of_legal}
use Rattle.cal_world.proofs.schedules.threads_keep_journals.Goals as goal

pub returns-clause-safe : goal.returns-clause-safe
returns-clause-safe c = journals c.permitted_is_safe.ensures c.action_is_one_more.ensures c.look_is_one_more.ensures

pub returns-clause-legal : goal.returns-clause-legal
returns-clause-legal c = of_legal AreJournals c.legal_lists_are_safe.ensures (returns-clause-safe c)
