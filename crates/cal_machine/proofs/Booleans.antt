-- What tests and options that came out say of their parts.
use Rattle.std.proofs.Common.{◌≡◌, Bool, true, false, cond, Option, Some, None, refl}
use Rattle.std.specs.Option.{unwrap_or}

pub some_then : {Y : Type 0} (b : Bool) (o : Option Y) (y : Y) →
    cond b o None ≡ Some y → (b ≡ true) × (o ≡ Some y)
some_then true o y e = (refl, e)
some_then false o y e = cc

pub some_else : {Y : Type 0} (b : Bool) (o : Option Y) (y : Y) →
    cond b None o ≡ Some y → (b ≡ false) × (o ≡ Some y)
some_else true o y e = cc
some_else false o y e = (refl, e)

pub unwrap_if : {Y : Type 0} (b : Bool) (y d : Y) →
    unwrap_or (cond b (Some y) None) d ≡ cond b y d
unwrap_if true y d = refl
unwrap_if false y d = refl
