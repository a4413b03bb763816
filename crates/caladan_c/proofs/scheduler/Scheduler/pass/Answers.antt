use Rattle.caladan_c.proofs.Common.{◌≡◌, List, map, sym, ap, subst, ◌∙◌, threads_of_table, PassEntry, IsInput, IsOpenAt, found_of, input_of_found, IsLegalBy, IsStateAfter, MadePass, AreJudgements, Standing, length-map}
use Rattle.cal_policy.specs.Book.{board_in}
use Rattle.caladan_c.proofs.Passed.{passed_after}
use Rattle.caladan_c.proofs.Walked.{told_as_judged}
use Rattle.caladan_c.proofs.scheduler.Scheduler.pass.Goals as goal

pub returns-clause-passed : goal.returns-clause-passed
returns-clause-passed c =
    let s : Standing = record { table = c.self.inside.config; book = c.self.inside.book; made = c.self.inside.made } in
    let new : Standing = record { table = s.table; book = c.pass.new.self; made = c.pass.new.out } in
    let view : s ≡ c.args.self.now = c.self.view_is in
    let looks = c.args.given.looks.now in
    let now = c.args.given.now in
    let bandwidth = c.args.given.bandwidth in
    let whole : (h : List PassEntry) → IsLegalBy s.book.policy s.table h → IsStateAfter (board_in s.book) h → MadePass s h (input_of_found s.table h now bandwidth looks) new = λ h legal state.
    let quiet = c.permitted_settled_is_no_news.ensures s.table h (c.each_policy_is_permitted.ensures s.book.policy s.table h c.limits.ensures legal) in
    let came : IsOpenAt s.table h (map found_of looks) c.take_looks.new.came = c.in_ok-take_looks.ensures.taken h quiet (c.board.ensures.agrees h state) in
    let all = length-map looks found_of ∙ c.requires.count ∙ sym (ap (λ (o : Standing). threads_of_table o.table) view) in
    let is : IsInput s.table h (input_of_found s.table h now bandwidth looks) = c.open_pass_fits.ensures s.table h now bandwidth (map found_of looks) c.take_looks.new.came came all in
    let used : IsOpenAt s.table h (map found_of looks) c.deref.result.now = rw c.deref.ensures came in
    passed_after s h (input_of_found s.table h now bandwidth looks) c.pass.new.out c.pass.new.self
    c.each_policy_is_permitted.ensures c.passes_are_short.ensures c.limits.ensures legal is
    (c.pass.ensures.own h (map found_of looks) legal state used) c.pass.ensures.policy in
    subst (λ (old : Standing). (h : List PassEntry) → IsLegalBy old.book.policy old.table h → IsStateAfter (board_in old.book) h → MadePass old h (input_of_found old.table h now bandwidth looks) new) view whole

pub returns-in_err-take_looks-clause-unfit : goal.returns-in_err-take_looks-clause-unfit
returns-in_err-take_looks-clause-unfit c = λ _.
    let s : Standing = record { table = c.self.inside.config; book = c.self.inside.book; made = c.self.inside.made } in
    let view : s ≡ c.args.self.now = c.self.view_is in
    let looks = c.args.given.looks.now in
    let now = c.args.given.now in
    let bandwidth = c.args.given.bandwidth in
    let whole : (h : List PassEntry) → IsLegalBy s.book.policy s.table h → IsStateAfter (board_in s.book) h → IsInput s.table h (input_of_found s.table h now bandwidth looks) → ⊥ = λ h legal state.
    c.in_err-take_looks.ensures.unfit h now bandwidth (c.board.ensures.agrees h state) in
    subst (λ (old : Standing). (h : List PassEntry) → IsLegalBy old.book.policy old.table h → IsStateAfter (board_in old.book) h → IsInput old.table h (input_of_found old.table h now bandwidth looks) → ⊥) view whole

pub returns-clause-judged : goal.returns-clause-judged
returns-clause-judged c =
    let s : Standing = record { table = c.self.inside.config; book = c.self.inside.book; made = c.self.inside.made } in
    let view : s ≡ c.args.self.now = c.self.view_is in
    let looks = c.args.given.looks.now in
    let now = c.args.given.now in
    let bandwidth = c.args.given.bandwidth in
    let whole : (h : List PassEntry) → IsLegalBy s.book.policy s.table h → IsStateAfter (board_in s.book) h → AreJudgements (input_of_found s.table h now bandwidth looks).seen c.tell_looks.new.out = λ h legal state.
    let quiet = c.permitted_settled_is_no_news.ensures s.table h (c.each_policy_is_permitted.ensures s.book.policy s.table h c.limits.ensures legal) in
    let came : IsOpenAt s.table h (map found_of looks) c.take_looks.new.came = c.in_ok-take_looks.ensures.taken h quiet (c.board.ensures.agrees h state) in
    told_as_judged s.table h (map found_of looks) c.take_looks.new.came c.tell_looks.new.out came (rw c.deref-2.ensures at c.tell_looks.ensures) in
    subst (λ (old : Standing). (h : List PassEntry) → IsLegalBy old.book.policy old.table h → IsStateAfter (board_in old.book) h → AreJudgements (input_of_found old.table h now bandwidth looks).seen c.tell_looks.new.out) view whole
