use Rattle.cal_measure.proofs.Common.{◌≡◌, ◌<◌, ◌++◌, ◌∷◌, [], List, length, IsStateAfter, PassEntry, EachTask, IsTimeOf, until_next}
use Rattle.cal_policy.specs.declared.history.entry.TheConstants.{MOST_PASSES}
use Rattle.cal_measure.proofs.EachTaskLemmas.{AreUpTo}
use Rattle.cal_measure.proofs.walk.each_task.time_each.Given as goal

abbrev pub invariant-loop-task : goal.invariant-loop-task
invariant-loop-task l = (h : List PassEntry) (entry : PassEntry) → length h < MOST_PASSES → IsStateAfter l.board (h ++ entry ∷ []) → l.timing.clock ≡ entry.input.now →
    l.timing.lasts ≡ until_next h entry → EachTask (IsTimeOf l.config h) l.initial.times →
    AreUpTo (IsTimeOf l.config h) (IsTimeOf l.config (h ++ entry ∷ [])) l.task l.times
