-- The passes before the turns of a run, one turn after the other.
use Rattle.cal_paced.proofs.Common.{◌≡◌, ℕ, zero, suc, ◌+◌, ◌*◌, ◌<◌, ◌≤◌, ⊎_elim, List, [], ◌∷◌, ◌++◌, length, Some, length-append, refl, sym, ap, subst, ◌∙◌, arith, slice_index, slice_get, mul-le-mul_left, mul-suc, cases_lt, slice_get_within, GivenPass, HaveFigures, passes_before, StandEvenly, clock_before, pass_clock, pass_of}
use Rattle.cal_machine.proofs.Places.{slice_get_seam}

-- a place of a list that another one follows
get-first : {X : Type 0} (xs ys : List X) (i : ℕ) (x : X) → slice_get xs i ≡ Some x → slice_get (xs ++ ys) i ≡ Some x
get-first [] ys i x at = absurd (cc)
get-first (z ∷ xs) ys zero x at = at
get-first (z ∷ xs) ys (suc i) x at = get-first xs ys i x at

get-second : {X : Type 0} (xs ys : List X) (i : ℕ) → slice_get (xs ++ ys) (length xs + i) ≡ slice_get ys i
get-second [] ys i = let none : 0 + i ≡ i = omega arith in ap (λ (n : ℕ). slice_get ys n) none
get-second (z ∷ xs) ys i = let more : suc (length xs) + i ≡ suc (length xs + i) = omega arith in ap (λ (n : ℕ). slice_get (z ∷ (xs ++ ys)) n) more ∙ get-second xs ys i

-- the passes before one turn
pub length-before : (pace before turn bandwidth n : ℕ) → length (passes_before pace before turn bandwidth n) ≡ n
length-before pace before turn bandwidth zero = refl
length-before pace before turn bandwidth (suc n) =
    let last : GivenPass = record { now = pass_clock pace before turn n; bandwidth = bandwidth } in
    let more = length-append (passes_before pace before turn bandwidth n) (last ∷ []) in
    let first = length-before pace before turn bandwidth n in
    omega (arith, more, first)

at-before : (pace before turn bandwidth n i : ℕ) → i < n
    → slice_get (passes_before pace before turn bandwidth n) i ≡ Some (record { now = pass_clock pace before turn i; bandwidth = bandwidth })
at-before pace before turn bandwidth zero i low = absurd (omega (arith, low))
at-before pace before turn bandwidth (suc n) i low =
    let first = passes_before pace before turn bandwidth n in
    let pass : ℕ → GivenPass = λ k. record { now = pass_clock pace before turn k; bandwidth = bandwidth } in
    ⊎_elim
    (λ less. get-first first (pass n ∷ []) i (pass i) (at-before pace before turn bandwidth n i less))
    (λ (more : n ≤ i).
    let here : i ≡ n = omega (arith, low, more) in
    let count : length first ≡ n = length-before pace before turn bandwidth n in
    let P : ℕ → Type 0 = λ k. slice_get (first ++ pass n ∷ []) k ≡ Some (pass n) in
    let Q : ℕ → Type 0 = λ k. slice_get (first ++ pass n ∷ []) k ≡ Some (pass k) in
    subst Q (sym here) (subst P count (slice_get_seam first (pass n) [])))
    (cases_lt i n)

-- and those before the first n turns
abbrev pub passes_upto : ℕ → List ℕ → List ℕ → ℕ → List GivenPass
passes_upto pace turns figures zero = []
passes_upto pace turns figures (suc n) = passes_upto pace turns figures n
    ++ passes_before pace (clock_before turns n) (slice_index turns n) (slice_index figures n) pace

pub length-upto : (pace : ℕ) (turns figures : List ℕ) (n : ℕ) → length (passes_upto pace turns figures n) ≡ pace * n
length-upto pace turns figures zero = omega arith
length-upto pace turns figures (suc n) =
    let last = passes_before pace (clock_before turns n) (slice_index turns n) (slice_index figures n) pace in
    let more = length-append (passes_upto pace turns figures n) last in
    let first = length-upto pace turns figures n in
    let own = length-before pace (clock_before turns n) (slice_index turns n) (slice_index figures n) pace in
    let product = mul-suc pace n in
    omega (arith, more, first, own, product)

-- the pass i before turn j
at-upto : (pace : ℕ) (turns figures : List ℕ) (n j i : ℕ) → j < n → i < pace
    → slice_get (passes_upto pace turns figures n) (pass_of pace j i) ≡ Some (record { now = pass_clock pace (clock_before turns j) (slice_index turns j) i; bandwidth = slice_index figures j })
at-upto pace turns figures zero j i low within = absurd (omega (arith, low))
at-upto pace turns figures (suc n) j i low within =
    let first = passes_upto pace turns figures n in
    let own : ℕ → List GivenPass = λ k. passes_before pace (clock_before turns k) (slice_index turns k) (slice_index figures k) pace in
    let pass : ℕ → GivenPass = λ k. record { now = pass_clock pace (clock_before turns k) (slice_index turns k) i; bandwidth = slice_index figures k } in
    ⊎_elim
    (λ less. get-first first (own n) (pass_of pace j i) (pass j) (at-upto pace turns figures n j i less within))
    (λ (more : n ≤ j).
    let here : n ≡ j = omega (arith, low, more) in
    let count : length first ≡ pace * n = length-upto pace turns figures n in
    let P : ℕ → Type 0 = λ k. slice_get (first ++ own n) (k + i) ≡ Some (pass n) in
    let Q : ℕ → Type 0 = λ k. slice_get (first ++ own n) (pass_of pace k i) ≡ Some (pass k) in
    subst Q here (subst P count (get-second first (own n) i ∙ at-before pace (clock_before turns n) (slice_index turns n) (slice_index figures n) pace i within)))
    (cases_lt j n)

-- a pass of as many turns is before one of them
pub before-some : (pace n j i : ℕ) → pace * j + i < pace * n → j < n
before-some pace n j i low = ⊎_elim (λ less. less)
    (λ (more : n ≤ j).
    let gap : pace * n ≤ pace * j = mul-le-mul_left pace more in
    absurd (omega (arith, low, gap)))
    (cases_lt j n)

pub evenly : (pace : ℕ) (turns figures : List ℕ) → StandEvenly pace turns (passes_upto pace turns figures (length turns))
evenly pace turns figures = record {
  many = length-upto pace turns figures (length turns);
  each = λ j i pass low within at.
      let same = sym (at-upto pace turns figures (length turns) j i low within) ∙ at in
      let clock : pass_clock pace (clock_before turns j) (slice_index turns j) i ≡ pass.now = cc in sym clock;
}

pub with-figures : (pace : ℕ) (turns figures : List ℕ) → HaveFigures pace (slice_index figures) (passes_upto pace turns figures (length turns))
with-figures pace turns figures j i pass within at =
    let all = passes_upto pace turns figures (length turns) in
    let low = slice_get_within all (pass_of pace j i) pass at in
    let count = length-upto pace turns figures (length turns) in
    let before : j < length turns = before-some pace (length turns) j i (omega (arith, low, count)) in
    let same = sym (at-upto pace turns figures (length turns) j i before within) ∙ at in
    let figure : slice_index figures j ≡ pass.bandwidth = cc in sym figure

-- the passes before one turn more
pub upto-more : (pace : ℕ) (turns figures : List ℕ) (j before turn figure : ℕ) (items more : List GivenPass) → items ≡ passes_upto pace turns figures j
    → before ≡ clock_before turns j → turn ≡ slice_index turns j → figure ≡ slice_index figures j → more ≡ items ++ passes_before pace before turn figure pace
    → more ≡ passes_upto pace turns figures (j + 1)
upto-more pace turns figures j before turn figure items more was clock at own is =
    let next : suc j ≡ j + 1 = omega arith in
    is ∙ (λ i. was i ++ passes_before pace (clock i) (at i) (own i) pace) ∙ ap (passes_upto pace turns figures) next

pub clock-next : (turns : List ℕ) (j : ℕ) → slice_index turns j ≡ clock_before turns (j + 1)
clock-next turns j = let next : suc j ≡ j + 1 = omega arith in ap (clock_before turns) next
