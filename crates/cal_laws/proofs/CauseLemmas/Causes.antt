-- Each revocation is for what its cause says.
use Rattle.cal_laws.proofs.Common.{ℕ, List, IsTable, Action, Revoke, Cause, Setting, ChosenIsOfLeastClass, VictimHasMostMisses, ActionIsOneMore, IsMade, HasCause}
use Rattle.cal_policy.specs.declared.history.action.Cause.TheVariants as causes
use Rattle.cal_laws.proofs.BanLemmas.BanDue.{ban_cause}
use Rattle.cal_laws.proofs.CauseLemmas.Losing.{bandwidth_cause}
use Rattle.cal_laws.proofs.CauseLemmas.Preempting.{task_cause}

pub made_for_cause : ChosenIsOfLeastClass → VictimHasMostMisses → ActionIsOneMore → (s : Setting) (acts : List Action) (core : ℕ) (cause : Cause) → IsTable s.table →
    IsMade s acts (Revoke core cause) → HasCause s acts core cause
made_for_cause least misses more s acts core (causes.Ban by) ok m = ban_cause more s acts core by m
made_for_cause least misses more s acts core causes.Bandwidth ok m = bandwidth_cause misses more s acts core ok m
made_for_cause least misses more s acts core (causes.Preempt task) ok m = task_cause least s acts core task m
