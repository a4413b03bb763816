-- The choice among the free cores that are not banned comes first, and where no core may be revoked, or no task may
-- lose one, none of the others counts.
use Rattle.cal_policy.proofs.Common.{◌≡◌, ℕ, List, Option, refl, ap, sym, ◌∙◌, option_or, Action, Begun, so_far, Candidate, CoreClass, Board, best_below, comes_before, class_among, IsOfTable, Stands, setting_in, choice_of}
use Rattle.cal_policy.specs.declared.pass.Pass.{Pass}
use Rattle.cal_policy.proofs.BoardLemmas.TwoSets.{choice_joins, idle_choice, none_taken}
use Rattle.cal_policy.proofs.PassLemmas.Preempting.{none_preempted}
use Rattle.cal_policy.proofs.pass.Pass.choose_core.Goals as goal

joined : (pass : Pass) (b : Board) (h : Begun) (acts : List Action) (task : ℕ) (free : Option (Candidate CoreClass)) →
    IsOfTable pass.config.now b → Stands b (setting_in pass h) acts →
    free ≡ best_below comes_before (class_among b.open_cores.idle (setting_in pass h) acts task) pass.config.now.cores →
    choice_of (setting_in pass h) acts task
    ≡ option_or free (best_below comes_before (class_among b.sets.taken (setting_in pass h) acts task) pass.config.now.cores)
joined pass b h acts task free p st e =
    let taken = best_below comes_before (class_among b.sets.taken (setting_in pass h) acts task) pass.config.now.cores in
    choice_joins b (setting_in pass h) acts task pass.config.now.cores p.accepted.machine.most st p.ready.sets
    ∙ ap (λ o. option_or o taken)
    (sym (e ∙ idle_choice b (setting_in pass h) acts task pass.config.now.cores p.accepted.machine.most st p.ready.sets p.ready.opens))

pub returns-in-Some-clause-choice : goal.returns-in-Some-clause-choice
returns-in-Some-clause-choice c = λ h acts s.
    sym (joined c.args.self.now c.args.board.now h acts c.args.task _ c.requires.at_hand s (c.in-Some.ensures.choice h acts s))

pub returns-then-not-may_preempt_any-clause-choice : goal.returns-then-not-may_preempt_any-clause-choice
returns-then-not-may_preempt_any-clause-choice c = λ h acts s.
    let p = c.requires.at_hand in
    sym (joined c.args.self.now c.args.board.now h acts c.args.task _ p s (c.in_default.ensures.choice h acts s)
    ∙ none_taken c.args.board.now (setting_in c.args.self.now h) acts c.args.task _ p.accepted.machine.most s p.ready.sets
    (sym (c.if-not-may_preempt_any.ensures h acts s.agrees)))

pub returns-then-not-some_may_be_preempted-clause-choice : goal.returns-then-not-some_may_be_preempted-clause-choice
returns-then-not-some_may_be_preempted-clause-choice c = λ h acts s.
    let p = c.requires.at_hand in
    let at = setting_in c.args.self.now h in
    sym (joined c.args.self.now c.args.board.now h acts c.args.task _ p s (c.in_default.ensures.choice h acts s)
    ∙ none_preempted c.args.board.now at acts c.args.task p.accepted.machine.most s p.ready (c.if-not-some_may_be_preempted.ensures.none refl (so_far at acts) s.agrees))

pub returns-clause-choice : goal.returns-clause-choice
returns-clause-choice c = λ h acts s.
    c.choose_among.ensures.choice h acts s
    ∙ sym (joined c.args.self.now c.args.board.now h acts c.args.task _ c.requires.at_hand s (c.in_default.ensures.choice h acts s))
