use Rattle.caladan_c.proofs.Common.{rules, ◌≡◌, List, map, refl, sym, ap, subst, ◌∙◌, threads_of_table, Action, PassEntry, IsInput, taken_looks, found_of, IsStateAfter, board_in, IsPermittedHistory, GuardView, WentThrough, WasStopped, input_of_each, AreSaid, IsTakenAt, told_of}
use Rattle.caladan_c.proofs.Guarding.{went_through, was_stopped}
use Rattle.caladan_c.proofs.table_guard.TableGuard.pass_each.Goals as goal

pub returns-clause-through : goal.returns-clause-through
returns-clause-through c =
    let g : GuardView = record { table = c.self.inside.config; guard = c.self.inside.guard } in
    let view : g ≡ c.args.self.now = c.self.view_is in
    let looks = c.args.given.looks.now in
    let now = c.args.given.now in
    let bandwidth = c.args.given.bandwidth in
    let chosen : List Action = c.as_slice-chosen.result.now in
    let items : chosen ≡ c.read_actions.new.actions.items = search rules in
    let told : map told_of chosen ≡ c.args.told.now = ap (λ (xs : List Action). map told_of xs) items ∙ c.in_ok-read_actions.ensures.actions in
    let new : GuardView = record { table = g.table; guard = c.pass.new.self } in
    let whole : (h : List PassEntry) → IsPermittedHistory g.table h → IsStateAfter (board_in g.guard) h → WentThrough g h (input_of_each g.table h now bandwidth looks) c.args.told.now new = λ h permitted state.
    let quiet = c.permitted_settled_is_no_news.ensures g.table h permitted in
    let came : IsTakenAt g.table h looks c.take_each.new.came = c.take_each.ensures.taken h quiet (c.board.ensures.agrees h state) in
    let taken = taken_looks g.table.cores h (map found_of looks) in
    let all = sym came.count ∙ c.take_each.ensures.count ∙ c.requires.count ∙ sym (ap (λ (o : GuardView). threads_of_table o.table) view) in
    let is : IsInput g.table h (input_of_each g.table h now bandwidth looks) = c.open_pass_fits.ensures g.table h now bandwidth taken c.take_each.new.came came all in
    let used : IsTakenAt g.table h looks c.deref.result.now = rw c.deref.ensures came in
    went_through g h (input_of_each g.table h now bandwidth looks) (input_of_each g.table h now bandwidth looks) chosen c.args.told.now c.pass.new.self told refl is
    ((c.in_default.ensures.exact h taken permitted state used).0 refl)
    (c.in_default.ensures.keeps refl h taken permitted state used) (c.in_default.ensures.permitted refl h taken permitted state used) in
    subst (λ (old : GuardView). (h : List PassEntry) → IsPermittedHistory old.table h → IsStateAfter (board_in old.guard) h → WentThrough old h (input_of_each old.table h now bandwidth looks) c.args.told.now new) view whole

pub returns-in-Err-clause-stopped : goal.returns-in-Err-clause-stopped
returns-in-Err-clause-stopped c =
    let g : GuardView = record { table = c.self.inside.config; guard = c.self.inside.guard } in
    let view : g ≡ c.args.self.now = c.self.view_is in
    let looks = c.args.given.looks.now in
    let now = c.args.given.now in
    let bandwidth = c.args.given.bandwidth in
    let chosen : List Action = c.as_slice-chosen.result.now in
    let items : chosen ≡ c.read_actions.new.actions.items = search rules in
    let told : map told_of chosen ≡ c.args.told.now = ap (λ (xs : List Action). map told_of xs) items ∙ c.in_ok-read_actions.ensures.actions in
    let whole : (h : List PassEntry) → IsPermittedHistory g.table h → IsStateAfter (board_in g.guard) h → WasStopped g h (input_of_each g.table h now bandwidth looks) c.args.told.now c.in-Err.refused = λ h permitted state.
    let quiet = c.permitted_settled_is_no_news.ensures g.table h permitted in
    let came : IsTakenAt g.table h looks c.take_each.new.came = c.take_each.ensures.taken h quiet (c.board.ensures.agrees h state) in
    let taken = taken_looks g.table.cores h (map found_of looks) in
    let all = sym came.count ∙ c.take_each.ensures.count ∙ c.requires.count ∙ sym (ap (λ (o : GuardView). threads_of_table o.table) view) in
    let is : IsInput g.table h (input_of_each g.table h now bandwidth looks) = c.open_pass_fits.ensures g.table h now bandwidth taken c.take_each.new.came came all in
    let used : IsTakenAt g.table h looks c.deref.result.now = rw c.deref.ensures came in
    was_stopped g h (input_of_each g.table h now bandwidth looks) (input_of_each g.table h now bandwidth looks) chosen c.args.told.now c.in-Err.refused told refl is
    (c.in-Err.ensures.first h taken permitted state used) in
    subst (λ (old : GuardView). (h : List PassEntry) → IsPermittedHistory old.table h → IsStateAfter (board_in old.guard) h → WasStopped old h (input_of_each old.table h now bandwidth looks) c.args.told.now c.in-Err.refused) view whole

pub returns-clause-judged : goal.returns-clause-judged
returns-clause-judged c =
    let g : GuardView = record { table = c.self.inside.config; guard = c.self.inside.guard } in
    let view : g ≡ c.args.self.now = c.self.view_is in
    let whole : (h : List PassEntry) → IsPermittedHistory g.table h → IsStateAfter (board_in g.guard) h → AreSaid g.table.cores h c.args.given.looks.now c.take_each.new.judged = λ h permitted state.
    c.take_each.ensures.said h (c.permitted_settled_is_no_news.ensures g.table h permitted) (c.board.ensures.agrees h state) in
    subst (λ (old : GuardView). (h : List PassEntry) → IsPermittedHistory old.table h → IsStateAfter (board_in old.guard) h → AreSaid old.table.cores h c.args.given.looks.now c.take_each.new.judged) view whole

pub returns-in-Err-clause-judged : goal.returns-in-Err-clause-judged
returns-in-Err-clause-judged c =
    let g : GuardView = record { table = c.self.inside.config; guard = c.self.inside.guard } in
    let view : g ≡ c.args.self.now = c.self.view_is in
    let whole : (h : List PassEntry) → IsPermittedHistory g.table h → IsStateAfter (board_in g.guard) h → AreSaid g.table.cores h c.args.given.looks.now c.take_each.new.judged = λ h permitted state.
    c.take_each.ensures.said h (c.permitted_settled_is_no_news.ensures g.table h permitted) (c.board.ensures.agrees h state) in
    subst (λ (old : GuardView). (h : List PassEntry) → IsPermittedHistory old.table h → IsStateAfter (board_in old.guard) h → AreSaid old.table.cores h c.args.given.looks.now c.take_each.new.judged) view whole
