use Rattle.std.proofs.Common.{sym, ◌∙◌}
use Rattle.caladan_c.proofs.OneByOne.{first_one}
use Rattle.caladan_c.proofs.input.first_unfit.Goals as goal

pub returns-then-is_misfit-clause-first : goal.returns-then-is_misfit-clause-first
returns-then-is_misfit-clause-first c = λ h after.
    first_one h c.args.looks.now c.loop-k.k _ c.loop-k-test.true (sym (c.is_misfit.ensures h after) ∙ c.if-is_misfit.true) (c.loop-k.invariant h after)
