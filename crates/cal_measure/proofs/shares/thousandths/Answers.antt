use Rattle.cal_measure.proofs.Common.{◌≡◌, ◌∙◌, ◌<◌, ◌+◌, ◌*◌, ◌/◌, ◌%◌, ℕ, Some, min, option_map, ap, refl, sym, arith, clocked}
use Rattle.std.proofs.Math.Nat.{mod-lt, mul-add-div_right}
use Rattle.std.proofs.lemmas.Nat.{div-add-mod'}
use Rattle.cal_measure.specs.Shares.{thousandths_of}
use Rattle.cal_measure.proofs.shares.thousandths.Goals as goal

-- the thousandths of a part are those of the whole ones in it, and those of the rest
by_rest : (part whole : ℕ) → 0 < whole →
    (2000 * part + whole) / (2 * whole) ≡ 1000 * (part / whole) + (2000 * (part % whole) + whole) / (2 * whole)
by_rest part whole some =
    let q = part / whole in
    let r = part % whole in
    let parts : q * whole + r ≡ part = div-add-mod' part whole in
    let spread : (1000 * q) * (2 * whole) ≡ 2000 * (q * whole) = omega arith in
    let same : 2000 * part + whole ≡ (1000 * q) * (2 * whole) + (2000 * r + whole) = omega (arith, parts, spread) in
    ap (λ n. n / (2 * whole)) same ∙ mul-add-div_right (omega (arith, some)) (1000 * q) (2000 * r + whole)

-- a whole that is some has thousandths
whole_is_some : (part whole : ℕ) → 0 < whole → thousandths_of part whole ≡ Some ((2000 * part + whole) / (2 * whole))
whole_is_some part whole some = grind (arith, some)

pub returns : goal.returns
returns c = λ small.
    let part = c.args.part in
    let whole = c.args.whole in
    let some : 0 < whole = let zero = c.if-whole-eq0.false in omega (arith, zero) in
    let rest : part % whole < whole = mod-lt part some in
    let twice : c.saturating_mul-2.result ≡ 2 * whole = let a = c.saturating_mul-2.ensures in omega (arith, a, small) in
    let times : c.saturating_mul.result ≡ 2000 * (part % whole) = let a = c.saturating_mul.ensures in omega (arith, a, rest, small) in
    let upper : c.saturating_add.result ≡ 2000 * (part % whole) + whole = let a = c.saturating_add.ensures in omega (arith, a, times, rest, small) in
    let below : c.saturating_add.result / c.saturating_mul-2.result ≡ (2000 * (part % whole) + whole) / (2 * whole) = rw (upper, twice) refl in
    let least : c.min.result ≡ min ((2000 * part + whole) / (2 * whole)) 18446744073709551615 =
    let a = c.saturating_mul-3.ensures in let b = c.saturating_add-all.ensures in let d = c.min.ensures in let e = by_rest part whole some in
    omega (arith, a, b, d, e, below) in
    ap (λ n. Some n) least ∙ sym (ap (option_map clocked) (whole_is_some part whole some))
