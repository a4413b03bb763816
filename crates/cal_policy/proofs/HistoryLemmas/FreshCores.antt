-- The cores granted in a pass, after one more action.
use Rattle.cal_policy.proofs.Common.{◌≡◌, ℕ, Bool, true, false, cond, List, [], ◌∷◌, ◌++◌, refl, ap, sym, ◌∙◌, eqb, ◌||◌, arith, nat_tests, is_some, CoreSet, has, Action, Grant, last_thread, HasGranted}
use Rattle.cal_policy.proofs.ListLemmas.OneMore.{some_if}
use Rattle.cal_policy.proofs.HistoryLemmas.OneMore.{last_thread_push}

-- an action that grants nothing
pub Fresh_same : (set : CoreSet) (acts : List Action) (a : Action) → ((c : ℕ) → last_thread (acts ++ a ∷ []) c ≡ last_thread acts c) → HasGranted set acts → HasGranted set (acts ++ a ∷ [])
Fresh_same set acts a e s = record { fresh = λ c lt. s.fresh c lt ∙ sym (ap is_some (e c)) }

pub or_cond : (b r : Bool) → (b || r) ≡ cond b true r
or_cond true r = refl
or_cond false r = refl

pub eqb_swap : (b c : ℕ) → eqb b c ≡ eqb c b
eqb_swap b c = grind (arith, nat_tests)

pub Fresh_grant : (set set2 : CoreSet) (acts : List Action) (core thread class : ℕ) → ((c : ℕ) → has set2 c ≡ (eqb c core || has set c)) →
    HasGranted set acts → HasGranted set2 (acts ++ Grant core thread class ∷ [])
Fresh_grant set set2 acts core thread class e s = record {
  fresh = λ c lt. e c ∙ ap (λ b. b || has set c) (eqb_swap c core) ∙ or_cond (eqb core c) (has set c) ∙ ap (cond (eqb core c) true) (s.fresh c lt)
      ∙ sym (ap is_some (last_thread_push acts (Grant core thread class) c) ∙ some_if (eqb core c) thread (last_thread acts c));
}
