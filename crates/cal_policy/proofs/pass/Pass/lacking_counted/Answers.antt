use Rattle.cal_policy.proofs.Common.{◌≡◌, ℕ, subst, Option, IfSome, lacking, setting_in, so_far}
use Rattle.cal_policy.proofs.pass.Pass.lacking_counted.Goals as goal

pub returns-in-Some-clause-lacking : goal.returns-in-Some-clause-lacking
returns-in-Some-clause-lacking c = λ h acts st known.
    let s = setting_in c.args.self.now h in
    let P : Option ℕ → Type 0 = λ o. IfSome o (λ n. n ≡ lacking s (so_far s acts)) in
    subst P c.in-Some.is known

pub returns-clause-lacking : goal.returns-clause-lacking
returns-clause-lacking c = λ h acts st known. c.lacking-lacking.ensures h acts st
