use Rattle.cal_tables.proofs.Common.{◌≡◌, ◌∙◌, ◌<◌, ◌≤◌, ◌++◌, ◌∷◌, [], List, slice_get, get_or, length, length-append, take, ap, subst, sym, arith, get_or_from_slice_get, Table, IsWalkOf, IsLegalBy, PassEntry, figures_of}
use Rattle.std.specs.List.{All}
use Rattle.cal_measure.proofs.OneMore.{slice_here}
use Rattle.cal_policy.specs.Board.{NamesTable}
use Rattle.cal_policy.specs.History.{actions_of}
use Rattle.cal_laws.specs.Point.{Point}
use Rattle.cal_policy.specs.State.{IsReady, IsStateAfter}
use Rattle.cal_policy.specs.declared.history.action.Action.{Action}
use Rattle.cal_policy.specs.declared.history.entry.TheConstants.{MOST_PASSES}
use Rattle.cal_policy.proofs.BoardLemmas.StateKept.{names_of_fitting}
use Rattle.cal_run.specs.Parts.{SchedulerSeat}
use Rattle.cal_trace.specs.declared.arrivals.GivenPass.{GivenPass}
use Rattle.cal_tables.proofs.collecting.OpenNumbers.pass.Goals as goal

-- the state is of the table
pub pass-requires-clause-ready : goal.pass-requires-clause-ready
pass-requires-clause-ready c =
    let table : c.step_given.new.scheduler.table ≡ c.args.self.now.config = ap (λ (s : SchedulerSeat). s.table) c.step_given.ensures.seat ∙ sym c.requires.table in
    subst (λ (t : Table). IsReady t c.board-after.result.now) table c.board-after.ensures.ready

pub pass-requires-clause-names : goal.pass-requires-clause-names
pass-requires-clause-names c =
    let h = c.args.scheduler.now.history in
    let t = c.args.self.now.config in
    let acted = c.step_given.ensures.acted in
    let e = acted.0 in
    let table : c.step_given.new.scheduler.table ≡ t = ap (λ (s : SchedulerSeat). s.table) c.step_given.ensures.seat ∙ sym c.requires.table in
    let P : Table → Type 0 = λ t. IsLegalBy c.step_given.new.scheduler.policy t c.step_given.new.scheduler.history in
    let Q : List PassEntry → Type 0 = λ l. IsLegalBy c.step_given.new.scheduler.policy t l in
    let after = c.step_given.new.scheduler in
    let legal : IsLegalBy after.policy t (h ++ e ∷ []) = subst Q acted.1 (subst P table c.step_given.ensures.kept.legal) in
    let permitted = c.each_policy_is_permitted.ensures after.policy t (h ++ e ∷ []) c.limits.ensures legal in
    let orderly = c.permitted_is_orderly.ensures t (h ++ e ∷ []) permitted in
    let fits = orderly.entries (length h) e (slice_here h e) in
    subst (λ (l : List Action). All (NamesTable t) l) (sym (c.as_slice-actions.ensures ∙ acted.3))
    (names_of_fitting t (actions_of (take (length h) (h ++ e ∷ []))) e.actions c.limits.ensures fits.actions)

pub pass-requires-clause-few : goal.pass-requires-clause-few
pass-requires-clause-few c =
    let h = c.args.scheduler.now.history in
    let t = c.args.self.now.config in
    let acted = c.step_given.ensures.acted in
    let e = acted.0 in
    let table : c.step_given.new.scheduler.table ≡ t = ap (λ (s : SchedulerSeat). s.table) c.step_given.ensures.seat ∙ sym c.requires.table in
    let P : Table → Type 0 = λ t. IsLegalBy c.step_given.new.scheduler.policy t c.step_given.new.scheduler.history in
    let Q : List PassEntry → Type 0 = λ l. IsLegalBy c.step_given.new.scheduler.policy t l in
    let after = c.step_given.new.scheduler in
    let legal : IsLegalBy after.policy t (h ++ e ∷ []) = subst Q acted.1 (subst P table c.step_given.ensures.kept.legal) in
    let permitted = c.each_policy_is_permitted.ensures after.policy t (h ++ e ∷ []) c.limits.ensures legal in
    let here : Point = record { table = t; history = h ++ e ∷ []; pass = length h; entry = e; made = 0 } in
    let few = c.passes_are_short.ensures here (record { permitted = permitted; entry = slice_here h e; made = omega arith }) in
    let same = ap (λ (l : List Action). length l) (c.as_slice-actions.ensures ∙ acted.3) in
    omega (arith, same, few)

pub returns-clause-entered : goal.returns-clause-entered
returns-clause-entered c = let acted = c.step_given.ensures.acted in (acted.0, acted.1)

pub returns-clause-walk : goal.returns-clause-walk
returns-clause-walk c = λ was.
    let h = c.args.scheduler.now.history in
    let now = c.step_given.new.scheduler.history in
    let acted = c.step_given.ensures.acted in
    let e = acted.0 in
    let entered : now ≡ h ++ e ∷ [] = acted.1 in
    let size : length now ≡ length (h ++ e ∷ []) = ap (λ (l : List PassEntry). length l) entered in
    let more = length-append h (e ∷ []) in
    let most : length now ≤ MOST_PASSES = c.step_given.ensures.kept.few in
    let few : length h < MOST_PASSES = omega (arith, size, more, most) in
    let state : IsStateAfter c.board-after.result.now (h ++ e ∷ []) = subst (λ (l : List PassEntry). IsStateAfter c.board-after.result.now l) entered c.board-after.ensures.agrees in
    let all = c.as_slice.result.now in
    let given : GivenPass = get_or all c.args.p (record { now = 0; bandwidth = 0 }) in
    let is : given ≡ figures_of e = get_or_from_slice_get all c.args.p (figures_of e) _ (ap (λ (l : List GivenPass). slice_get l c.args.p) c.as_slice.ensures ∙ acted.2) in
    subst (λ (l : List PassEntry). IsWalkOf c.args.self.now.config l c.pass.new.self) (sym entered)
    (c.pass.ensures.walk h e few state (ap (λ (g : GivenPass). g.now) is) (ap (λ (g : GivenPass). g.bandwidth) is) (c.as_slice-actions.ensures ∙ acted.3) was)
