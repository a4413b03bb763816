-- Decimal text: what it spells, and that no byte of it is a mark of the rows.
use Rattle.cal_trace.proofs.Common.{◌≡◌, ◌<◌, ◌≤◌, ◌+◌, ◌-◌, ◌*◌, ◌/◌, ◌%◌, ◌^◌, ◌||◌, ◌∙◌, ℕ, List, [], ◌∷◌, ◌++◌, Option, Some, None, Bool, true, false, decimal, option_and_then, refl, sym, ap, arith, list_any, ne_eqb, lt-ltb, nat_tests, with_digit, digits_of, spelled_number}
use Rattle.std.specs.Char.{is_ascii_digit}
use Rattle.std.proofs.lemmas.Fmt.{decimal_by_steps}
use Rattle.csv.specs.Writing.{default_writer, needs_byte}

-- a field that is read as it stands: no byte of it calls for quotes, and its first is no mark
pub record IsPlain (field : List ℕ) : Type 0 where
  pub front : ℕ
  pub more : List ℕ
  pub is : field ≡ front ∷ more
  pub above : 44 < front
  pub unmarked : list_any (needs_byte default_writer) field ≡ false

unmarked_digit : (b : ℕ) → 48 ≤ b → needs_byte default_writer b ≡ false
unmarked_digit b le = rw (ne_eqb b 44 (λ e. omega arith), ne_eqb b 34 (λ e. omega arith), ne_eqb b 13 (λ e. omega arith), ne_eqb b 10 (λ e. omega arith)) refl

both : (a b c : Bool) → (b ≡ false → c ≡ false) → (a || b) ≡ false → (a || c) ≡ false
both true b c f h = cc
both false b c f h = f h

-- one more byte
unmarked_more : (bytes : List ℕ) (b : ℕ) → list_any (needs_byte default_writer) bytes ≡ false → needs_byte default_writer b ≡ false
    → list_any (needs_byte default_writer) (bytes ++ b ∷ []) ≡ false
unmarked_more [] b h e = rw e refl
unmarked_more (a ∷ bytes) b h e = both (needs_byte default_writer a) _ _ (λ g. unmarked_more bytes b g e) h

through : (o : Option ℕ) (f g : ℕ → Option ℕ) (m : ℕ) (r : Option ℕ) → ((k : ℕ) → f k ≡ Some m → g k ≡ r) → option_and_then f o ≡ Some m → option_and_then g o ≡ r
through None f g m r h e = cc
through (Some k) f g m r h e = h k e

just : (o : Option ℕ) → option_and_then (λ k. Some k) o ≡ o
just None = refl
just (Some k) = refl

-- one more digit
digits_more : (n m b : ℕ) (bytes : List ℕ) → digits_of n bytes ≡ Some m → digits_of n (bytes ++ b ∷ []) ≡ with_digit m b
unfolding digits_of
digits_more n m b [] h = let e : n ≡ m = cc in rw e (just (with_digit m b))
digits_more n m b (a ∷ bytes) h =
    through (with_digit n a) (λ k. digits_of k bytes) (λ k. digits_of k (bytes ++ b ∷ [])) m (with_digit m b) (λ k e. digits_more k m b bytes e) h

last_digit : (m d n : ℕ) → d < 10 → m * 10 + d ≡ n → n < 2 ^ 64 → with_digit m (48 + d) ≡ Some n
last_digit m d n lt is fits =
    let v : m * 10 + (48 + d - 48) ≡ n = omega arith in
    let t : is_ascii_digit (48 + d) ≡ true = grind (arith, nat_tests) in
    rw (t, v, lt-ltb n (2 ^ 64) fits) refl

-- a number of more digits than one has no zero in front
long_number : (a : ℕ) (bytes : List ℕ) (b : ℕ) → 48 < a → spelled_number (a ∷ (bytes ++ b ∷ [])) ≡ digits_of 0 (a ∷ (bytes ++ b ∷ []))
long_number a [] b lt = rw (ne_eqb a 48 (λ e. omega arith)) refl
long_number a (c ∷ bytes) b lt = rw (ne_eqb a 48 (λ e. omega arith)) refl

-- the text of a number
pub record IsSpelled (n : ℕ) (field : List ℕ) : Type 0 where
  pub plain : IsPlain field
  pub no_zero : 0 < n → 48 < plain.front
  pub digits : digits_of 0 field ≡ Some n
  pub number : spelled_number field ≡ Some n

one_digit : (n : ℕ) → n < 10 → n < 2 ^ 64 → IsSpelled n ((48 + n) ∷ [])
unfolding digits_of
one_digit n lt fits =
    let d = last_digit 0 n n lt (omega arith) fits in
    record {
      plain = record { front = 48 + n; more = []; is = refl; above = omega arith; unmarked = rw (unmarked_digit (48 + n) (omega arith)) refl };
      no_zero = λ h. omega arith;
      digits = rw d refl;
      number = rw d refl;
    }

more_digits : (n : ℕ) (field : List ℕ) → 10 ≤ n → n < 2 ^ 64 → IsSpelled (n / 10) field → IsSpelled n (field ++ (48 + n % 10) ∷ [])
more_digits n field le fits s =
    let b = 48 + n % 10 in
    let p = s.plain in
    let low : n % 10 < 10 = omega arith in
    let whole : n / 10 * 10 + n % 10 ≡ n = omega arith in
    let digits = digits_more 0 (n / 10) b field s.digits ∙ last_digit (n / 10) (n % 10) n low whole fits in
    let no_zero : 48 < p.front = s.no_zero (omega arith) in
    let is : field ++ b ∷ [] ≡ p.front ∷ (p.more ++ b ∷ []) = ap (λ (f : List ℕ). f ++ b ∷ []) p.is in
    record {
      plain = record { front = p.front; more = p.more ++ b ∷ []; is = is; above = p.above; unmarked = unmarked_more field b p.unmarked (unmarked_digit b (omega arith)) };
      no_zero = λ h. no_zero;
      digits = digits;
      number = ap spelled_number is ∙ long_number p.front p.more b no_zero ∙ ap (digits_of 0) (sym is) ∙ digits;
    }

-- the text of a number below 2 ^ 64 spells it
pub spelled : (n : ℕ) → n < 2 ^ 64 → IsSpelled n (decimal n)
spelled n fits = decimal_by_steps (λ m field. m < 2 ^ 64 → IsSpelled m field) (λ m lt h. one_digit m lt h)
    (λ m field le more h. more_digits m field le h (more (omega arith))) n fits fits
