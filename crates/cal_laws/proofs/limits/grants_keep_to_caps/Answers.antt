use Rattle.cal_laws.proofs.Common.{ℕ, sym, subst, Grant, setting_at, actions_at, made_at, MayBookMore}
use Rattle.cal_laws.proofs.PointLemmas.EachAction.{sound_at}
use Rattle.cal_laws.proofs.ChoiceLemmas.Granted.{grant_facts, books}
use Rattle.cal_laws.proofs.limits.grants_keep_to_caps.Goals as goal

pub returns : goal.returns
returns c = λ here is core thread class e.
    let sound = sound_at c.legal_is_sound.ensures here is (Grant core thread class) e in
    let facts = grant_facts c.threads_are_of_their_task.ensures c.chosen_has_waited_longest.ensures (setting_at here) (made_at here) core thread class sound.made in
    let P : ℕ → Type 0 = λ t. MayBookMore here.table (actions_at here) t in
    subst P (sym facts.owner) (books (setting_at here) (actions_at here) sound.made.task sound.made.chosen.room)
