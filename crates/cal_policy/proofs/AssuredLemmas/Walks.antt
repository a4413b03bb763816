-- Lists of actions that are made in turn.
use Rattle.cal_policy.proofs.Common.{◌≡◌, ℕ, ◌<◌, ◌≤◌, suc, zero, List, [], ◌∷◌, ◌++◌, length, Some, refl, sym, ap, ◌∙◌, arith, append_assoc, ⊎_elim, append-nil, cases_lt, in_turn, EachAfter}
use Rattle.std.specs.List.{slice_get}
use Rattle.cal_policy.proofs.ListLemmas.EachAfter.{each_append}

-- each that is made in turn, where each turn's are after those of the turns before
pub each_turn : {X : Type 0} (P : List X → X → Type 0) (f : List X → ℕ → List X) (before : List X) (n : ℕ) →
    ((k : ℕ) → k < n → EachAfter P (before ++ in_turn f before k) (f (before ++ in_turn f before k) k)) → EachAfter P before (in_turn f before n)
each_turn P f before zero e = tt
each_turn P f before (suc n) e =
    each_append P before (in_turn f before n) (f (before ++ in_turn f before n) n) (each_turn P f before n (λ k lt. e k (omega (arith, lt)))) (e n (omega arith))

-- what follows from what is so of each is so of each
pub each_so : {X : Type 0} {P Q : List X → X → Type 0} → ((now : List X) (x : X) → P now x → Q now x) → (before xs : List X) → EachAfter P before xs → EachAfter Q before xs
each_so f before [] e = tt
each_so f before (x ∷ xs) e = (f before x e.0, each_so f (before ++ x ∷ []) xs e.1)

-- what is so of each in a list is so of one inside it
pub each_inside : {X : Type 0} (P : List X → X → Type 0) (before acts rest : List X) (x : X) → EachAfter P before (acts ++ x ∷ rest) → P (before ++ acts) x
each_inside P before [] rest x e = rw append-nil e.0
each_inside P before (y ∷ acts) rest x e = rw (← append_assoc before (y ∷ []) acts) (each_inside P (before ++ y ∷ []) acts rest x e.1)

-- what was made in the first turns comes first
pub first_turns : {X : Type 0} (f : List X → ℕ → List X) (before : List X) (m n : ℕ) → m ≤ n → (more : List X) × (in_turn f before n ≡ in_turn f before m ++ more)
first_turns f before m zero le = let same : m ≡ 0 = omega (arith, le) in ([], rw (same) refl)
first_turns f before m (suc n) le = ⊎_elim
    (λ (low : m < suc n).
    let so = first_turns f before m n (omega (arith, low)) in
    let last = f (before ++ in_turn f before n) n in
    (so.0 ++ last, ap (λ l. l ++ last) so.1 ∙ append_assoc (in_turn f before m) so.0 last))
    (λ (high : suc n ≤ m). let same : m ≡ suc n = omega (arith, le, high) in ([], sym (append-nil (in_turn f before (suc n))) ∙ ap (λ k. in_turn f before k ++ []) (sym same)))
    (cases_lt m (suc n))

-- what leads from one action to the next leads through a list of them
pub each_leads : {X : Type 0} (D P : List X → X → Type 0) (Q : List X → Type 0) → ((now : List X) (x : X) → D now x → Q now → P now x × Q (now ++ x ∷ [])) →
    (before xs : List X) → EachAfter D before xs → Q before → EachAfter P before xs × Q (before ++ xs)
each_leads D P Q step before [] e q = (tt, rw append-nil q)
each_leads D P Q step before (x ∷ xs) e q =
    let one = step before x e.0 q in
    let rest = each_leads D P Q step (before ++ x ∷ []) xs e.1 one.1 in
    ((one.0, rest.0), rw (append_assoc before (x ∷ []) xs) at rest.1)

-- and from turn to turn through all turns
pub turns_lead : {X : Type 0} (P : List X → X → Type 0) (Q : List X → Type 0) (f : List X → ℕ → List X) (n : ℕ) → ((now : List X) (k : ℕ) → k < n → Q now → EachAfter P now (f now k) × Q (now ++ f now k)) →
    (before : List X) → Q before → EachAfter P before (in_turn f before n) × Q (before ++ in_turn f before n)
turns_lead P Q f zero step before q = (tt, rw append-nil q)
turns_lead P Q f (suc n) step before q =
    let first = turns_lead P Q f n (λ now k lt. step now k (omega (arith, lt))) before q in
    let now = before ++ in_turn f before n in
    let last = step now n (omega arith) first.1 in
    (each_append P before (in_turn f before n) (f now n) first.0 last.0, rw (append_assoc before (in_turn f before n) (f now n)) at last.1)

-- what each turn keeps all turns keep
pub turns_keep : {X : Type 0} (Q : List X → Type 0) (f : List X → ℕ → List X) (n : ℕ) → ((now : List X) (k : ℕ) → Q now → Q (now ++ f now k)) →
    (before : List X) → Q before → Q (before ++ in_turn f before n)
turns_keep Q f zero step before q = rw append-nil q
turns_keep Q f (suc n) step before q =
    let now = before ++ in_turn f before n in
    rw (append_assoc before (in_turn f before n) (f now n)) at (step now n (turns_keep Q f n step before q))

-- what comes after others has their number for its place
pub place_after : {X : Type 0} (acts rest : List X) (x : X) → slice_get (acts ++ x ∷ rest) (length acts) ≡ Some x
place_after [] rest x = refl
place_after (y ∷ acts) rest x = place_after acts rest x
