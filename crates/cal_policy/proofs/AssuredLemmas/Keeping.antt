-- Which cores are kept, by the tests that are made in turn; and a choice after another.
use Rattle.cal_policy.proofs.Common.{◌≡◌, Bool, true, false, cond, ◌&&◌, Option, Some, None, refl, option_or}

pub second_fails : (a b : Bool) → b ≡ false → false ≡ (a && b)
second_fails true b e = cc
second_fails false b e = refl

pub middle_fails : (a b r : Bool) → b ≡ false → false ≡ ((a && b) && r)
middle_fails true true r e = cc
middle_fails true false r e = refl
middle_fails false b r e = refl

-- a core that is owed to nobody is kept from nobody
pub kept_none : (short : Bool) → false ≡ cond short false false
kept_none true = refl
kept_none false = refl

-- the first choice, where there is one, else the next
pub chosen_here : {X : Type 0} (x : X) (first next : Option X) → Some x ≡ first → Some x ≡ option_or first next
chosen_here x None next e = cc
chosen_here x (Some y) next e = e

pub chosen_beyond : {X : Type 0} (first next : Option X) → None ≡ first → next ≡ option_or first next
chosen_beyond None next e = refl
chosen_beyond (Some y) next e = cc
