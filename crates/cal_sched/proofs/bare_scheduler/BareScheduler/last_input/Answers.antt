-- The looks are those of the last pass, and the book keeps the state that it left.
use Rattle.cal_sched.proofs.Common.{◌≡◌, ◌++◌, ◌∷◌, [], ℕ, List, sym, ap, subst, ◌∙◌, threads_of_table, PassEntry, board_in, judged_input, IsOpenAt, IsStateAfter, entry_of, history_of, SchedulerView}
use Rattle.cal_policy.specs.declared.history.input.Input.{Input}
use Rattle.cal_sched.proofs.Past.{history_push, last_made}
use Rattle.cal_sched.proofs.bare_scheduler.BareScheduler.last_input.Goals as goal

pub input-requires-clause-all : goal.input-requires-clause-all
input-requires-clause-all c =
    let s = c.self.inside in
    let is = c.requires.made in
    let whole : history_of s.book.policy s.config s.past ≡ is.0 ++ is.1 ∷ [] = ap (λ (v : SchedulerView). v.history) c.self.view_is ∙ is.2 in
    let last = last_made s.book.policy s.config s.past is.0 is.1 whole in
    let count : s.looks.value.count ≡ threads_of_table s.config = (c.self.invariant.4 last.front last.made last.whole).1 in
    rw c.deref.ensures count

pub returns : goal.returns
returns c = λ before entry is clock figure.
    let s = c.self.inside in
    let whole : history_of s.book.policy s.config s.past ≡ before ++ entry ∷ [] = ap (λ (v : SchedulerView). v.history) c.self.view_is ∙ is in
    let last = last_made s.book.policy s.config s.past before entry whole in
    let h : List PassEntry = history_of s.book.policy s.config last.front in
    let made : PassEntry = entry_of s.book.policy s.config h last.made in
    let opened : IsOpenAt s.config h last.made.found s.looks.value = (c.self.invariant.4 last.front last.made last.whole).0 in
    let pushed : history_of s.book.policy s.config s.past ≡ h ++ made ∷ [] = ap (history_of s.book.policy s.config) last.whole ∙ history_push s.book.policy s.config last.front last.made in
    let after : IsStateAfter (board_in s.book) (h ++ made ∷ []) = subst (IsStateAfter (board_in s.book)) pushed c.self.invariant.1 in
    let input : ℕ → ℕ → Input = λ n b. judged_input s.config h n b last.made.found in
    let at_clock : last.made.clock ≡ c.args.now = sym (ap (λ (e : PassEntry). e.input.now) last.entry_is) ∙ clock in
    let at_figure : last.made.bandwidth ≡ c.args.bandwidth = sym (ap (λ (e : PassEntry). e.input.bandwidth) last.entry_is) ∙ figure in
    let same : input last.made.clock last.made.bandwidth ≡ input c.args.now c.args.bandwidth = ap (λ n. input n last.made.bandwidth) at_clock ∙ ap (λ b. input c.args.now b) at_figure in
    let with : Input → List PassEntry = λ i. let e : PassEntry = record { input = i; actions = made.actions } in h ++ e ∷ [] in
    let stands : IsStateAfter c.board.result.now (with (input c.args.now c.args.bandwidth)) =
    c.board.ensures.agrees (with (input c.args.now c.args.bandwidth)) (subst (λ (i : Input). IsStateAfter (board_in s.book) (with i)) same after) in
    let came : IsOpenAt s.config h last.made.found c.deref.result.now = rw c.deref.ensures opened in
    c.input.ensures h last.made.found made.actions came stands ∙ sym same ∙ sym (ap (λ (e : PassEntry). e.input) last.entry_is)
