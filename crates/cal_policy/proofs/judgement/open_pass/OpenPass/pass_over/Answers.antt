use Rattle.cal_policy.proofs.Common.{◌≡◌, ℕ, ◌+◌, ◌<◌, length, true, subst, refl, arith, rules, IsAgain}
use Rattle.cal_policy.proofs.JudgementLemmas.OpenPass.{one_look_more, again_adds}
use Rattle.cal_policy.proofs.judgement.open_pass.OpenPass.pass_over.Goals as goal

pub returns-clause-taken : goal.returns-clause-taken
returns-clause-taken c = λ yes table h looks quiet agrees is.
    let found = c.args.found in
    let old = c.args.self.now in
    let low : length looks < 128 = omega (arith, c.requires.next, is.count) in
    let room : found.room ≡ true = search rules in
    let said : c.is_again.result ≡ true = search rules in
    let P : ℕ → Type 0 = λ k. IsAgain c.args.board.now.keeping k found.look in
    let again : P (length looks) = subst P is.count (c.is_again.ensures said) in
    one_look_more table h looks found old (record old { count = old.count + 1 }) is
    (again_adds table h looks found c.args.board.now old (record old { count = old.count + 1 }) quiet agrees is low room again refl)
