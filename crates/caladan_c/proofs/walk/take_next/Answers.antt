use Rattle.caladan_c.proofs.Common.{◌∷◌, [], ◌++◌, subst, FoundLook, IsOpenAt}
use Rattle.caladan_c.proofs.walk.take_next.Goals as goal

pub returns-then-pass_over-clause-taken : goal.returns-then-pass_over-clause-taken
returns-then-pass_over-clause-taken c = λ h looks quiet agrees is.
    let At : FoundLook → Type 0 = λ one. IsOpenAt c.args.config.now h (looks ++ one ∷ []) c.pass_over.new.self in
    subst At c.found_look.ensures (c.pass_over.ensures.taken c.if-pass_over.true c.args.config.now h looks quiet agrees is)
