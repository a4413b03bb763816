-- The cells of what a core is in.
use Rattle.std.specs.Prelude.{ℕ, List, [], ◌∷◌, codes, decimal}
use Rattle.std.specs.List.{concat}
use Rattle.cal_policy.specs.declared.history.action.Cause.{Cause}
use Rattle.cal_policy.specs.declared.history.action.Cause.TheVariants as causes
use Rattle.cal_facts.specs.declared.spans.stretch.State.{State}
use Rattle.cal_facts.specs.declared.spans.stretch.State.TheVariants.{Held, Leaving, Banned}

-- the cells of a cause: its word, the core that it names, the task that it names
abbrev pub cause_cells : Cause → List ℕ
cause_cells (causes.Ban by) = concat (codes "ban," ∷ decimal by ∷ codes "," ∷ [])
cause_cells causes.Bandwidth = codes "bandwidth,,"
cause_cells (causes.Preempt task) = concat (codes "preempt,," ∷ decimal task ∷ [])

-- the cells of a state: the class of the grant, the state's word, those of its cause, and when the
-- request was begun for which the core is banned
abbrev pub state_cells : State → List ℕ
state_cells (Held class) = concat (decimal class ∷ codes ",held,,,," ∷ [])
state_cells (Leaving class cause) =
    concat (decimal class ∷ codes ",leaving," ∷ cause_cells cause ∷ codes "," ∷ [])
state_cells (Banned started) = concat (codes ",banned,,,," ∷ decimal started ∷ [])
