-- What a call was given, and what is so of its error.
use Rattle.cal_guard.proofs.Common.{◌≡◌, ◌==◌, List, [], ◌∷◌, length, true, Result, Ok, Err, refl, arith, eqb-true, IfErr, Action}

-- what follows from what is so of an error is so of it
pub if_err : {X Y : Type 0} (r : Result X Y) (P Q : Y → Type 0) → ((why : Y) → P why → Q why) → IfErr r P → IfErr r Q
if_err (Ok x) P Q f is = tt
if_err (Err why) P Q f is = f why is

-- a list of no length has no action
pub none_chosen : (chosen : List Action) → (length chosen == 0) ≡ true → chosen ≡ []
none_chosen [] e = refl
none_chosen (a ∷ more) e = let z : length (a ∷ more) ≡ 0 = eqb-true (length (a ∷ more)) 0 e in absurd (omega (arith, z))
