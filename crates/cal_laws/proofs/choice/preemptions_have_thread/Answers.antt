use Rattle.cal_laws.proofs.Common.{Revoke, IsPreempted, setting_at, made_at, actions_at}
use Rattle.cal_policy.specs.declared.history.action.Cause.TheVariants.{Preempt}
use Rattle.cal_laws.proofs.ChoiceLemmas.Chosen.{longest, has_thread}
use Rattle.cal_laws.proofs.choice.preemptions_have_thread.Goals as goal

pub returns : goal.returns
returns c = λ here p core t e.
    let taken : IsPreempted (setting_at here) (made_at here) core t =
    (c.legal_is_sound.ensures here.table here.history p.table p.legal here.pass here.entry p.entry here.made (Revoke core (Preempt t)) e).made in
    has_thread (setting_at here) (actions_at here) t taken.thread
    (longest c.chosen_has_waited_longest.ensures (setting_at here) (actions_at here) t taken.thread taken.chosen.longest)
