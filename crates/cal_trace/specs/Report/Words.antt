-- Actions and looks in words.
use Rattle.std.specs.Prelude.{ℕ, List, [], ◌∷◌, ◌++◌, codes, decimal}
use Rattle.std.specs.List.{concat}
use Rattle.cal_policy.specs.declared.history.look.Seen.{Seen}
use Rattle.cal_policy.specs.declared.history.look.Seen.TheVariants as seen
use Rattle.cal_policy.specs.declared.history.action.Action.{Action}
use Rattle.cal_policy.specs.declared.history.action.Action.TheVariants.{Free, Unban, Ban, Revoke}
use Rattle.cal_policy.specs.declared.history.action.Action.TheVariants.{Cap, Grant}
use Rattle.cal_policy.specs.declared.history.action.Cause.{Cause}
use Rattle.cal_policy.specs.declared.history.action.Cause.TheVariants as causes
use Rattle.cal_trace.specs.Rows.Text.{numbered}

-- the line of a look that was not kept, and why; a whole one has none
abbrev pub kept_line : ℕ → Seen → List ℕ
kept_line thread (seen.Whole number rec) = []
kept_line thread (seen.Busy first second) =
    concat (codes "  kept " ∷ decimal thread ∷ codes " busy\n" ∷ [])
kept_line thread (seen.Ahead number rec) =
    concat (codes "  kept " ∷ decimal thread ∷ codes " ahead\n" ∷ [])
kept_line thread (seen.Foreign number rec) =
    concat (codes "  kept " ∷ decimal thread ∷ codes " foreign\n" ∷ [])

-- the lines of the looks that were not kept, in thread order
abbrev pub kept_lines : List Seen → List ℕ
kept_lines looks = concat (numbered kept_line 0 looks)

-- why a core is revoked
abbrev pub cause_text : Cause → List ℕ
cause_text (causes.Ban by) = codes "for ban by core " ++ decimal by
cause_text causes.Bandwidth = codes "for bandwidth"
cause_text (causes.Preempt task) = codes "for task " ++ decimal task

-- an action
abbrev pub action_text : Action → List ℕ
action_text (Free core) = codes "free core " ++ decimal core
action_text (Unban core) = codes "unban core " ++ decimal core
action_text (Ban core thread started) =
    codes "ban core " ++ (decimal core ++ (codes " for thread " ++ (decimal thread
    ++ (codes " started " ++ decimal started))))
action_text (Revoke core cause) =
    (codes "revoke core " ++ (decimal core ++ codes " ")) ++ cause_text cause
action_text (Cap task cap) =
    codes "cap task " ++ (decimal task ++ (codes " at " ++ decimal cap))
action_text (Grant core thread class) =
    codes "grant core " ++ (decimal core ++ (codes " to thread " ++ (decimal thread
    ++ (codes " class " ++ decimal class))))
