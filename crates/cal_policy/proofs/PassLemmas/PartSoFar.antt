-- Where a part of a pass has come.
use Rattle.cal_policy.proofs.Common.{◌≡◌, ℕ, ◌+◌, ◌<◌, ◌≤◌, zero, suc, List, [], ◌++◌, ap, sym, ◌∙◌, refl, append_assoc, add-one, arith, ⊎_elim, cases_lt, append-nil, Action, Board, in_turn, Setting, Stands}

pub in_turn_more : {X : Type 0} (f : List X → ℕ → List X) (before : List X) (n : ℕ) →
    in_turn f before (n + 1) ≡ in_turn f before n ++ f (before ++ in_turn f before n) n
in_turn_more f before n = rw (add-one n) refl

-- what a part appended up to n, and a board that stands there
abbrev pub Reached : (List Action → ℕ → List Action) → Setting → List Action → List Action → Board → ℕ → Type 0
Reached f s out now b n = (now ≡ out ++ in_turn f out n) × Stands b s now

-- the next place gave these actions
pub Reached_step : (f : List Action → ℕ → List Action) (s : Setting) (out now now2 : List Action) (b b2 : Board) (n : ℕ) (acts : List Action) →
    Reached f s out now b n → acts ≡ f now n → now2 ≡ now ++ acts →
    (Stands b s now → Stands b2 s now2) → Reached f s out now2 b2 (n + 1)
Reached_step f s out now now2 b b2 n acts r g e st = (
  e ∙ ap (λ l. l ++ acts) r.0 ∙ append_assoc out (in_turn f out n) acts
      ∙ ap (λ l. out ++ l) (sym (in_turn_more f out n ∙ ap (λ l. in_turn f out n ++ l) (ap (λ l. f l n) (sym r.0) ∙ sym g))),
  st r.1,
)

-- places that give nothing add nothing
in_turn_skip : (f : List Action → ℕ → List Action) (out now : List Action) (m n : ℕ) → m ≤ n → now ≡ out ++ in_turn f out m →
    ((k : ℕ) → m ≤ k → k < n → f now k ≡ []) → in_turn f out m ≡ in_turn f out n
in_turn_skip f out now m zero le e none = let same : m ≡ 0 = omega (arith, le) in rw same refl
in_turn_skip f out now m (suc n) le e none = ⊎_elim
    (λ l. let before = in_turn_skip f out now m n (omega (arith, l)) e (λ k a b. none k a (omega (arith, b))) in
    before ∙ sym (append-nil (in_turn f out n))
    ∙ ap (λ l. in_turn f out n ++ l) (sym (ap (λ l. f l n) (sym (e ∙ ap (λ l. out ++ l) before)) ∙ none n (omega (arith, l)) (omega arith))))
    (λ g. let same : m ≡ suc n = omega (arith, g, le) in rw same refl)
    (cases_lt m (suc n))

pub Reached_skip : (f : List Action → ℕ → List Action) (s : Setting) (out now : List Action) (b : Board) (m n : ℕ) → m ≤ n →
    ((k : ℕ) → m ≤ k → k < n → f now k ≡ []) → Reached f s out now b m → Reached f s out now b n
Reached_skip f s out now b m n le none r = (r.0 ∙ ap (λ l. out ++ l) (in_turn_skip f out now m n le r.0 none), r.1)

-- the next place appended what is due there
pub Reached_one : (f : List Action → ℕ → List Action) (s : Setting) (out now now2 : List Action) (b b2 : Board) (n : ℕ) →
    Reached f s out now b n → (Stands b s now → (now2 ≡ now ++ f now n) × Stands b2 s now2) → Reached f s out now2 b2 (n + 1)
Reached_one f s out now now2 b b2 n r g = let made = g r.1 in Reached_step f s out now now2 b b2 n (f now n) r refl made.0 (λ st. made.1)
