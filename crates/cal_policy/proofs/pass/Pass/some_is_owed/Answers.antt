-- None of the open cores that were gone over is owed to a task.
use Rattle.cal_policy.proofs.Common.{◌≡◌, ℕ, Bool, true, false, Option, Some, None, refl, sym, ◌∙◌, arith, ⊎_elim, cases_lt, is_some}
use Rattle.cal_policy.proofs.pass.Pass.some_is_owed.Goals as goal

is_none : (o : Option ℕ) → is_some o ≡ false → o ≡ None
is_none None e = refl
is_none (Some t) e = cc

neither : {o : Option ℕ} (b : Bool) → b ≡ false → b ≡ true → o ≡ None
neither true e f = cc
neither false e f = cc

pub loop-core-preserved : goal.loop-core-preserved
loop-core-preserved c =
    let core = c.in-Some.core in
    let next = c.in-Some.ensures.next in record {
      none = λ k lt there. ⊎_elim
          (λ low. c.loop-core.invariant.none k low there)
          (λ from. ⊎_elim
          (λ to. neither _ (c.in-Some.ensures.between k from to) there)
          (λ past. let same : k ≡ core = omega (arith, past, lt) in rw same (is_none _ (sym c.is_owed.ensures ∙ c.if-is_owed.false)))
          (cases_lt k core))
          (cases_lt k c.loop-core.first);
      first = omega (arith, next.1);
    }

pub returns : goal.returns
returns c = λ no k lt there. ⊎_elim
    (λ low. c.loop-core.invariant.none k low there)
    (λ from. neither _ (c.in_default.ensures.none k from lt) there)
    (cases_lt k c.loop-core.first)
