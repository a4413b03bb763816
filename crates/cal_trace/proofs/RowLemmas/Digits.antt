-- Reading digits one after the other.
use Rattle.cal_trace.proofs.Common.{◌≡◌, ◌<◌, ◌≤◌, ◌+◌, ◌*◌, ◌^◌, ℕ, suc, List, length, drop, get_or, Some, None, refl, ap, ◌∙◌, arith, pow-suc, drop_all, drop_more, digits_of, with_digit}
use Rattle.std.proofs.Math.Nat.{pow-le-pow_right}

pub no_digit : (n : ℕ) (field : List ℕ) (i : ℕ) → i < length field → with_digit n (get_or field i 0) ≡ None → digits_of n (drop i field) ≡ None
unfolding digits_of
no_digit n field i lt h = rw (drop_more field i 0 lt, h) refl

pub one_digit : (n m : ℕ) (field : List ℕ) (i : ℕ) → i < length field → with_digit n (get_or field i 0) ≡ Some m
    → digits_of n (drop i field) ≡ digits_of m (drop (i + 1) field)
unfolding digits_of
one_digit n m field i lt h = rw (drop_more field i 0 lt, h) refl

pub all_digits : (n : ℕ) (field : List ℕ) (i : ℕ) → length field ≤ i → digits_of n (drop i field) ≡ Some n
unfolding digits_of
all_digits n field i le = rw (drop_all i field le) refl

-- a number of so many digits has room for one more, and is one of one digit more with it
pub tens_fit : (n i : ℕ) → i ≤ 18 → n < 10 ^ i → n < 1844674407370955161
tens_fit n i few h = let most : 10 ^ i ≤ 10 ^ 18 = pow-le-pow_right (omega arith) few in omega (arith, most, h)

pub tens_more : (n m i : ℕ) → n < 10 ^ i → m < n * 10 + 10 → m < 10 ^ (i + 1)
tens_more n m i h grown =
    let next : i + 1 ≡ suc i = omega arith in
    let wider : 10 ^ (i + 1) ≡ 10 ^ i * 10 = ap (λ k. 10 ^ k) next ∙ pow-suc 10 i in
    omega (arith, wider, h, grown)
