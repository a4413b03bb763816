-- The bits of a set of cores.
use Rattle.std.proofs.Common.{◌≡◌, ◌+◌, ◌<◌, ◌≤◌, ◌-◌, ◌*◌, ◌/◌, ◌%◌, ◌^◌, ◌==◌, ◌&&◌, ◌||◌, ℕ, zero, suc, true, false, not, if◌then◌else◌, count_ones, ◌⊎◌, inl, inr, refl, sym, ◌∙◌, arith}
use Rattle.std.specs.Int.{bit_at, bit_not, w128, leading_zeros, trailing_zeros}
use Rattle.std.specs.Int.Count.{ones}
use Rattle.std.specs.Int.RustNames.{bit_and, bit_or}
use Rattle.std.proofs.lemmas.Bool.{cases_eq, cases_lt, eq-eqb, ne_eqb}
use Rattle.std.proofs.lemmas.Nat.{leading_top, shr-shr, shr_le, and_le_l, le-div, div_below, mod_below, pow_pos, mod-pow-add, ones_cat}
use Rattle.std.proofs.Math.Nat.{pow-suc, mul-div_left, mul-mod_left, mod-one}
use Rattle.std.proofs.lemmas.Nat.Bits.{bit_at-zero, shr_and_one, bit_at_set_same, bit_at_set_other, bit_at_clear_same, bit_at_clear_other, bit_at-trailing_zeros, bit_at_above, bit_at-lt}

pub none_in_zero : (c : ℕ) → (bit_at 0 c == 1) ≡ false
none_in_zero c = rw (bit_at-zero c) refl

pub tested : (n k : ℕ) → (bit_and (n / 2 ^ k) 1 == 1) ≡ (bit_at n k == 1)
tested n k = rw (shr_and_one n k) refl

pub inserted : (n k c : ℕ) → k < 128 → (bit_at (bit_or n (1 * 2 ^ k % 2 ^ 128)) c == 1) ≡ (c == k || (bit_at n c == 1))
inserted n k c lt = go (cases_eq c k)
  where
    go : (c ≡ k) ⊎ (c ≡ k → ⊥) → (bit_at (bit_or n (1 * 2 ^ k % 2 ^ 128)) c == 1) ≡ (c == k || (bit_at n c == 1))
    go (inl e) = rw (e, bit_at_set_same w128 n k lt, eq-eqb k k refl) refl
    go (inr ne) = rw (ne_eqb c k ne, bit_at_set_other w128 n k lt c ne) refl

-- a number from 2 ^ j on and below the next power has the bit j
top_bit : (n j : ℕ) → 2 ^ j ≤ n → n < 2 ^ suc j → bit_at n j ≡ 1
top_bit n j least most =
    let one : n / 2 ^ j ≡ 1 = omega (arith, le-div 1 n (2 ^ j) (pow_pos j) (omega (arith, least)), div_below n (2 ^ j) 2 (pow_pos j) (omega (arith, most, pow-suc 2 j))) in
    rw one refl

pub removed : (n k c : ℕ) → n < 2 ^ 128 → k < 128 → (bit_at (bit_and n (bit_not w128 (1 * 2 ^ k % 2 ^ 128))) c == 1) ≡ (not (c == k) && (bit_at n c == 1))
removed n k c fits lt = go (cases_eq c k)
  where
    apart : (c ≡ k → ⊥) → (c < 128) ⊎ (128 ≤ c) → bit_at (bit_and n (bit_not w128 (1 * 2 ^ k % 2 ^ 128))) c ≡ bit_at n c
    apart ne (inl within) = bit_at_clear_other w128 n k lt c within ne
    apart ne (inr above) = bit_at_above (bit_and n (bit_not w128 (1 * 2 ^ k % 2 ^ 128))) 128 c (omega (arith, and_le_l n (bit_not w128 (1 * 2 ^ k % 2 ^ 128)), fits)) above ∙ sym (bit_at_above n 128 c fits above)

    go : (c ≡ k) ⊎ (c ≡ k → ⊥) → (bit_at (bit_and n (bit_not w128 (1 * 2 ^ k % 2 ^ 128))) c == 1) ≡ (not (c == k) && (bit_at n c == 1))
    go (inl e) = rw (e, bit_at_clear_same w128 n k lt, eq-eqb k k refl) refl
    go (inr ne) = rw (ne_eqb c k ne, apart ne (cases_lt c 128)) refl

-- the place of the lowest 1
pub lowest : (n : ℕ) → 0 < n → n < 2 ^ 128 → (trailing_zeros w128 n < 128) × ((bit_at n (trailing_zeros w128 n) == 1) ≡ true) × ((c : ℕ) → c < trailing_zeros w128 n → (bit_at n c == 1) ≡ false)
lowest n some fits =
    let found = bit_at-trailing_zeros w128 n some fits in
    (found.0, rw (found.1) refl, λ c below. rw (found.2 c below) refl)

-- the place of the highest 1
pub highest : (n : ℕ) → 0 < n → n < 2 ^ 128 → (127 - leading_zeros w128 n < 128) × ((bit_at n (127 - leading_zeros w128 n) == 1) ≡ true) × ((c : ℕ) → 127 - leading_zeros w128 n < c → (bit_at n c == 1) ≡ false)
highest n some fits =
    let found = leading_top 128 n some fits in
    let place : 127 - leading_zeros w128 n ≡ found.0 = omega (arith, found.1) in
    rw place (omega (arith, found.1), rw (top_bit n (found.0) (found.2) (found.3)) refl, λ c above. rw (bit_at_above n (suc (found.0)) c (found.3) (omega (arith, above))) refl)

-- the bits from k on
shifted : (n k c : ℕ) → k ≤ c → bit_at n c ≡ bit_at (n / 2 ^ k) (c - k)
shifted n k c from =
    let whole : k + (c - k) ≡ c = omega (arith, from) in
    rw (shr-shr n k (c - k), whole) refl

pub none_from : (n k c : ℕ) → n / 2 ^ k ≡ 0 → k ≤ c → (bit_at n c == 1) ≡ false
none_from n k c none from = rw (shifted n k c from, none, bit_at-zero (c - k)) refl

-- no bit from 128 on
pub none_beyond : (n c : ℕ) → n < 2 ^ 128 → 128 ≤ c → (bit_at n c == 1) ≡ false
none_beyond n c fits beyond = rw (bit_at_above n 128 c fits beyond) refl

-- the place of the lowest 1 from k on
pub lowest_from : (n k : ℕ) → 0 < n / 2 ^ k → n < 2 ^ 128 → let place = k + trailing_zeros w128 (n / 2 ^ k) in
    (place < 128) × ((bit_at n place == 1) ≡ true) × ((c : ℕ) → k ≤ c → c < place → (bit_at n c == 1) ≡ false)
lowest_from n k some fits =
    let rest = n / 2 ^ k in
    let found = bit_at-trailing_zeros w128 rest some (omega (arith, shr_le n k, fits)) in
    let place = k + trailing_zeros w128 rest in
    let back : place - k ≡ trailing_zeros w128 rest = omega arith in
    let one : bit_at n place ≡ 1 = shifted n k place (omega arith) ∙ rw back (found.1) in
    (below place one (cases_lt place 128), rw one refl, λ c from before. rw (shifted n k c from, found.2 (c - k) (omega (arith, from, before))) refl)
  where
    below : (place : ℕ) → bit_at n place ≡ 1 → (place < 128) ⊎ (128 ≤ place) → place < 128
    below place one (inl lt) = lt
    below place one (inr beyond) = omega (arith, bit_at_above n 128 place fits beyond, one)

-- the 1s of one bit
ones_of_bit : (b : ℕ) → b < 2 → count_ones b ≡ (if b == 1 then 1 else 0)
unfolding ones
ones_of_bit zero lt = refl
ones_of_bit (suc zero) lt = refl
ones_of_bit (suc (suc b)) lt = omega (arith, lt)

-- one bit more
pub ones_one_more : (n k : ℕ) → count_ones (n % 2 ^ suc k) ≡ count_ones (n % 2 ^ k) + (if bit_at n k == 1 then 1 else 0)
ones_one_more n k =
    let low = n % 2 ^ k in
    let next : suc k ≡ 1 + k = omega arith in
    let split : n % 2 ^ suc k ≡ bit_at n k * 2 ^ k + low = rw next (mod-pow-add n 1 k) in
    let cat : count_ones (bit_at n k * 2 ^ k + low) ≡ count_ones (bit_at n k) + count_ones low = ones_cat k (bit_at n k) low (mod_below n (2 ^ k) (pow_pos k)) in
    let one : count_ones (bit_at n k) ≡ (if bit_at n k == 1 then 1 else 0) = ones_of_bit (bit_at n k) (bit_at-lt n k) in
    rw (split, cat, one) (omega arith)

-- the 1s of what a shift leaves that drops the bits from k on
pub ones_shifted : (n k s w : ℕ) → k + s ≡ w → count_ones (n * 2 ^ s % 2 ^ w) ≡ count_ones (n % 2 ^ k)
ones_shifted n k s w whole =
    let none : n * 2 ^ s % 2 ^ s ≡ 0 = mul-mod_left n (2 ^ s) in
    let back : n * 2 ^ s / 2 ^ s ≡ n = mul-div_left n (pow_pos s) in
    let split : n * 2 ^ s % 2 ^ (k + s) ≡ (n % 2 ^ k) * 2 ^ s + 0 = mod-pow-add (n * 2 ^ s) k s ∙ rw (none, back) refl in
    let cat : count_ones ((n % 2 ^ k) * 2 ^ s + 0) ≡ count_ones (n % 2 ^ k) + count_ones 0 = ones_cat s (n % 2 ^ k) 0 (pow_pos s) in
    let zero_has : count_ones 0 ≡ 0 = ones_of_bit 0 (omega arith) in
    rw (sym whole, split, cat, zero_has) (omega arith)

-- among no bits there is none
pub ones_of_none : (n : ℕ) → count_ones (n % 2 ^ 0) ≡ 0
ones_of_none n = rw (mod-one n) (ones_of_bit 0 (omega arith))
