-- What a branch gives once its tests are known.
use Rattle.std.proofs.Common.{◌≡◌, Bool, true, false, ◌&&◌, cond, refl}

pub when_true : {X : Type 0} (b : Bool) (x y : X) → true ≡ b → x ≡ cond b x y
when_true true x y e = refl
when_true false x y e = cc

pub when_false : {X : Type 0} (b : Bool) (x y : X) → false ≡ b → y ≡ cond b x y
when_false true x y e = cc
when_false false x y e = refl

pub when_both : {X : Type 0} (a b : Bool) (x y : X) → true ≡ a → true ≡ b → x ≡ cond (a && b) x y
when_both true b x y e f = when_true b x y f
when_both false b x y e f = cc

pub when_not_first : {X : Type 0} (a b : Bool) (x y : X) → false ≡ a → y ≡ cond (a && b) x y
when_not_first true b x y e = cc
when_not_first false b x y e = refl

pub when_not_second : {X : Type 0} (a b : Bool) (x y : X) → false ≡ b → y ≡ cond (a && b) x y
when_not_second true b x y e = when_false b x y e
when_not_second false b x y e = refl

-- the first and the last of four tests hold, or not
pub outer_hold : (a b c d : Bool) → true ≡ a && d → b && c ≡ a && b && c && d
outer_hold true true true true e = refl
outer_hold true true false true e = refl
outer_hold true false c true e = refl
outer_hold true b c false e = cc
outer_hold false b c d e = cc

pub outer_fail : (a b c d : Bool) → false ≡ a && d → false ≡ a && b && c && d
outer_fail true b c true e = cc
outer_fail true true true false e = refl
outer_fail true true false false e = refl
outer_fail true false c false e = refl
outer_fail false b c d e = refl
