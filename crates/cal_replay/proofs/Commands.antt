-- What an action sends, and to whom.
use Rattle.std.proofs.Common.{◌≡◌, ℕ, ◌+◌, ◌<◌, Bool, true, false, cond, eqb, List, [], ◌∷◌, Option, Some, None, refl, sym, ap, subst, ◌∙◌, arith}
use Rattle.std.proofs.lemmas.Bool.{eqb-true, eq-eqb}
use Rattle.std.specs.Prelude.{IfSome}
use Rattle.cal_machine.specs.declared.command.Command.{Command}
use Rattle.cal_machine.specs.declared.command.Command.TheVariants.{Run, Park}
use Rattle.cal_machine.specs.Table.{Table}
use Rattle.cal_policy.specs.declared.history.action.Action.{Action}
use Rattle.cal_policy.specs.declared.history.action.Action.TheVariants.{Free, Unban, Ban, Revoke, Cap, Grant}
use Rattle.cal_policy.specs.Board.{NamesTable}
use Rattle.cal_policy.specs.Book.{RunsOnTable}
use Rattle.cal_policy.specs.History.{addressed_to, command_to, last_thread, sends}

-- one command reaches thread k as another does: it is the same
same_command : (b : Bool) (c d : Command) → c ∷ [] ≡ cond b (d ∷ []) [] → c ≡ d
same_command true c d e = cc
same_command false c d e = absurd (cc)

reached : (k thread : ℕ) (c d : Command) → command_to k (Some k) c ≡ command_to k (Some thread) d → c ≡ d
reached k thread c d e = same_command (eqb thread k) c d (ap (λ b. cond b (c ∷ []) []) (sym (eq-eqb k k refl)) ∙ e)

unreached : (k : ℕ) (c : Command) → command_to k (Some k) c ≡ [] → ⊥
unreached k c e = let no : c ∷ [] ≡ [] = ap (λ b. cond b (c ∷ []) []) (sym (eq-eqb k k refl)) ∙ e in absurd (cc)

parked : (table : Table) (k : ℕ) (c : Command) (granted : Option ℕ) → command_to k (Some k) c ≡ command_to k granted Park → RunsOnTable table c
parked table k c None e = absurd (unreached k c e)
parked table k c (Some thread) e = subst (RunsOnTable table) (sym (reached k thread c Park e)) tt

-- a Run that an action sends is of a core of the table
pub run_on_table : (table : Table) (x : List Action) (sent : ℕ × Command) (action : Action) → NamesTable table action → addressed_to sent.0 (Some sent) ≡ sends sent.0 x action → RunsOnTable table sent.1
run_on_table table x sent (Free core) names e = absurd (unreached sent.0 sent.1 e)
run_on_table table x sent (Unban core) names e = absurd (unreached sent.0 sent.1 e)
run_on_table table x sent (Ban core thread started) names e = absurd (unreached sent.0 sent.1 e)
run_on_table table x sent (Cap task cap) names e = absurd (unreached sent.0 sent.1 e)
run_on_table table x sent (Grant core thread class) names e = subst (RunsOnTable table) (sym (reached sent.0 thread sent.1 (Run core) e)) names.0
run_on_table table x sent (Revoke core cause) names e = parked table sent.0 sent.1 (last_thread x core) e
