use Rattle.caladan_c.proofs.Common.{◌≡◌, List, map, sym, ap, subst, ◌∙◌, threads_of_table, PassEntry, IsInput, taken_looks, found_of, input_of_each, AreSaid, IsTakenAt, IsLegalBy, IsStateAfter, MadePass, Standing}
use Rattle.cal_policy.specs.Book.{board_in}
use Rattle.caladan_c.proofs.Passed.{passed_after}
use Rattle.caladan_c.proofs.scheduler.Scheduler.pass_each.Goals as goal

pub returns-clause-passed : goal.returns-clause-passed
returns-clause-passed c =
    let s : Standing = record { table = c.self.inside.config; book = c.self.inside.book; made = c.self.inside.made } in
    let new : Standing = record { table = s.table; book = c.pass.new.self; made = c.pass.new.out } in
    let view : s ≡ c.args.self.now = c.self.view_is in
    let looks = c.args.given.looks.now in
    let now = c.args.given.now in
    let bandwidth = c.args.given.bandwidth in
    let whole : (h : List PassEntry) → IsLegalBy s.book.policy s.table h → IsStateAfter (board_in s.book) h → MadePass s h (input_of_each s.table h now bandwidth looks) new = λ h legal state.
    let taken = taken_looks s.table.cores h (map found_of looks) in
    let quiet = c.permitted_settled_is_no_news.ensures s.table h (c.each_policy_is_permitted.ensures s.book.policy s.table h c.limits.ensures legal) in
    let came : IsTakenAt s.table h looks c.take_each.new.came = c.take_each.ensures.taken h quiet (c.board.ensures.agrees h state) in
    let all = sym came.count ∙ c.take_each.ensures.count ∙ c.requires.count ∙ sym (ap (λ (o : Standing). threads_of_table o.table) view) in
    let is : IsInput s.table h (input_of_each s.table h now bandwidth looks) = c.open_pass_fits.ensures s.table h now bandwidth taken c.take_each.new.came came all in
    let used : IsTakenAt s.table h looks c.deref.result.now = rw c.deref.ensures came in
    passed_after s h (input_of_each s.table h now bandwidth looks) c.pass.new.out c.pass.new.self
    c.each_policy_is_permitted.ensures c.passes_are_short.ensures c.limits.ensures legal is
    (c.pass.ensures.own h taken legal state used) c.pass.ensures.policy in
    subst (λ (old : Standing). (h : List PassEntry) → IsLegalBy old.book.policy old.table h → IsStateAfter (board_in old.book) h → MadePass old h (input_of_each old.table h now bandwidth looks) new) view whole

pub returns-clause-said : goal.returns-clause-said
returns-clause-said c =
    let s : Standing = record { table = c.self.inside.config; book = c.self.inside.book; made = c.self.inside.made } in
    let view : s ≡ c.args.self.now = c.self.view_is in
    let whole : (h : List PassEntry) → IsLegalBy s.book.policy s.table h → IsStateAfter (board_in s.book) h → AreSaid s.table.cores h c.args.given.looks.now c.take_each.new.judged = λ h legal state.
    c.take_each.ensures.said h (c.permitted_settled_is_no_news.ensures s.table h (c.each_policy_is_permitted.ensures s.book.policy s.table h c.limits.ensures legal)) (c.board.ensures.agrees h state) in
    subst (λ (old : Standing). (h : List PassEntry) → IsLegalBy old.book.policy old.table h → IsStateAfter (board_in old.book) h → AreSaid old.table.cores h c.args.given.looks.now c.take_each.new.judged) view whole
