-- Each act gives what is due to the task, until none is.
use Rattle.cal_policy.proofs.Common.{◌≡◌, ◌≤◌, ◌++◌, [], Some, length, refl, sym, ap, ◌∙◌, arith, append-nil, act_in_place, setting_in}
use Rattle.std.specs.Prelude.{option_to_list}
use Rattle.cal_policy.proofs.AssuredLemmas.Acts.{idle_after, full_after}
use Rattle.cal_policy.proofs.PassLemmas.PartSoFar.{Reached_one}
use Rattle.cal_policy.proofs.pass.Pass.take_turn.Goals as goal

pub loop-init : goal.loop-init
loop-init c = record {
  acts = λ h st. (sym (append-nil c.args.out.now), st);
  ready = c.requires.of_table.ready;
}

-- a full list has no room for more, and all have room
pub returns-then-is_full-clause-acts : goal.returns-then-is_full-clause-acts
returns-then-is_full-clause-acts c = λ h fits st.
    let s = setting_in c.args.self.now h in
    let out = c.args.out.now in
    let r = c.loop.invariant.acts h st in
    let low : c.loop.counter ≤ s.table.cores = omega arith in
    (r.0 ∙ ap (λ l. out ++ l) (full_after s out (Some c.args.task) c.loop.counter s.table.cores 338 low fits (let full = c.if-is_full.ensures.full refl in let at = ap length r.0 in omega (arith, full, at))), r.1)

-- where nothing is due nothing more is
pub returns-in_default-clause-acts : goal.returns-in_default-clause-acts
returns-in_default-clause-acts c = λ h fits st.
    let s = setting_in c.args.self.now h in
    let out = c.args.out.now in
    let r = c.loop.invariant.acts h st in
    let low : c.loop.counter ≤ s.table.cores = omega arith in
    let none : act_in_place s c.loop.out (Some c.args.task) ≡ [] =
    sym (ap option_to_list (sym c.in_default.is) ∙ c.act_due.ensures.due h c.loop.out r.1 c.as_slice.ensures) in
    (r.0 ∙ ap (λ l. out ++ l) (idle_after s out (Some c.args.task) c.loop.counter s.table.cores low (ap (λ l. act_in_place s l (Some c.args.task)) (sym r.0) ∙ none)), r.1)

pub loop-preserved : goal.loop-preserved
loop-preserved c = record {
  acts = λ h st.
      let s = setting_in c.args.self.now h in
      Reached_one (λ made act. act_in_place s made (Some c.args.task)) s c.args.out.now c.loop.out c.make.new.out c.loop.board c.make.new.board c.loop.counter (c.loop.invariant.acts h st)
      (λ now. (
        c.make.ensures.out ∙ ap (λ l. c.loop.out ++ l) (ap option_to_list (sym c.in-Some.is) ∙ c.act_due.ensures.due h c.loop.out now c.as_slice.ensures),
        c.make.ensures.stands s now,
      ));
  ready = c.make.ensures.ready;
}
