use Rattle.cal_policy.proofs.Common.{sym, ◌∙◌, both_ways}
use Rattle.cal_policy.proofs.PolicyLemmas.{pass_input, pass_actions, pass_from}
use Rattle.cal_policy.proofs.auditor.is_next.Goals as goal

pub returns-then-not-fits-clause-exact : goal.returns-then-not-fits-clause-exact
returns-then-not-fits-clause-exact c = λ h legal agrees. (
  λ bad. absurd (cc),
  λ pass. absurd (both_ways c.fits.result c.if-not-fits.true ((c.fits.ensures.fits h agrees).1 (pass_input c.args.book.now.policy c.args.config.now h c.args.entry.now pass))),
)

pub returns-clause-exact : goal.returns-clause-exact
returns-clause-exact c = λ h legal agrees.
    let input = (c.fits.ensures.fits h agrees).0 c.if-not-fits.false in
    let next = c.step.ensures.own h legal agrees input in (
      λ so. pass_from c.args.book.now.policy c.args.config.now h c.args.entry.now input (sym c.as_slice.ensures ∙ c.same_actions.ensures.0 so ∙ c.as_slice-2.ensures ∙ next.acts),
      λ pass. c.same_actions.ensures.1 (c.as_slice.ensures ∙ pass_actions c.args.book.now.policy c.args.config.now h c.args.entry.now pass ∙ sym next.acts ∙ sym c.as_slice-2.ensures),
    )
