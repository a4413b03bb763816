use Rattle.caladan_c.proofs.Common.{◌≡◌, ◌<◌, map, None, refl, sym, ap, subst, ◌∙◌, arith, List, FoundLook, fault_of, taken_looks, IsOpenAt, found_of, look_of_found}
use Rattle.cal_policy.proofs.JudgementLemmas.OpenPass.{again_is_taken}
use Rattle.cal_signal.specs.declared.look.Look.{Look}
use Rattle.caladan_c.proofs.Walked.{taken_grows}
use Rattle.caladan_c.proofs.walk.take_by_itself.Goals as goal

pub returns-then-pass_over-clause-taken : goal.returns-then-pass_over-clause-taken
returns-then-pass_over-clause-taken c = λ h looks quiet agrees count is.
    let table = c.args.config.now in
    let one = c.args.one.now in
    let k = c.args.came.now.count in
    let low : k < 128 = omega (arith, c.requires.next, c.limits.ensures.threads) in
    let look_is : c.found_look.result.look ≡ look_of_found one = ap (λ (g : FoundLook). g.look) c.found_look.ensures in
    let room_is : c.found_look.result.room ≡ (found_of one).room = ap (λ (g : FoundLook). g.room) c.found_look.ensures in
    let none : None ≡ fault_of table.cores h k (look_of_found one) =
    sym (ap (λ (l : Look). fault_of table.cores h k l) (sym look_is)
    ∙ again_is_taken table h c.args.board.now k c.found_look.result.look quiet agrees low (c.pass_over.ensures.again c.if-pass_over.true)) in
    let At : List FoundLook → Type 0 = λ xs. IsOpenAt table h xs c.pass_over.new.self in
    subst At (taken_grows table h looks one k c.found_look.result None count none look_is room_is)
    (c.pass_over.ensures.taken c.if-pass_over.true table h (taken_looks table.cores h (map found_of looks)) quiet agrees is)

pub returns-then-pass_over-clause-said : goal.returns-then-pass_over-clause-said
returns-then-pass_over-clause-said c = λ h quiet agrees.
    let table = c.args.config.now in
    let one = c.args.one.now in
    let k = c.args.came.now.count in
    let low : k < 128 = omega (arith, c.requires.next, c.limits.ensures.threads) in
    let look_is : c.found_look.result.look ≡ look_of_found one = ap (λ (g : FoundLook). g.look) c.found_look.ensures in
    let again = c.pass_over.ensures.again c.if-pass_over.true in
    let none : fault_of table.cores h k (look_of_found one) ≡ None =
    ap (λ (l : Look). fault_of table.cores h k l) (sym look_is)
    ∙ again_is_taken table h c.args.board.now k c.found_look.result.look quiet agrees low again in
    rw (none, ← look_is, again.as_shown) refl
