-- The first of two answers.
use Rattle.std.proofs.Common.{◌≡◌, Option, Some, None, refl, sym, subst}
use Rattle.std.specs.Option.{option_or}
use Rattle.std.specs.Prelude.{IfSome}

or_is : {X : Type 0} (P : X → Type 0) (a b : Option X) → IfSome a P → IfSome b P → IfSome (option_or a b) P
or_is P None b pa pb = pb
or_is P (Some x) b pa pb = pa

-- what is so of both is so of the first
pub or_so : {X : Type 0} (P : X → Type 0) (a b r : Option X) → r ≡ option_or a b → IfSome a P → IfSome b P → IfSome r P
or_so P a b r e pa pb = subst (λ o. IfSome o P) (sym e) (or_is P a b pa pb)

-- what is so of whatever there is
pub if_some : {X : Type 0} (P : X → Type 0) (o : Option X) → ((x : X) → o ≡ Some x → P x) → IfSome o P
if_some P None f = tt
if_some P (Some x) f = f x refl
