-- Tests that hold together hold each.
use Rattle.std.proofs.Common.{◌≡◌, ◌&&◌, Bool, true, false, refl}

pub and_three : (a b c : Bool) → (a && b && c) ≡ true → (a ≡ true) × (b ≡ true) × (c ≡ true)
and_three true true true h = (refl, refl, refl)
and_three true true false h = cc
and_three true false c h = cc
and_three false b c h = cc

pub and_four : (a b c d : Bool) → (a && b && c && d) ≡ true → (a ≡ true) × (b ≡ true) × (c ≡ true) × (d ≡ true)
and_four true true true true h = (refl, refl, refl, refl)
and_four true true true false h = cc
and_four true true false d h = cc
and_four true false c d h = cc
and_four false b c d h = cc
