-- At pace 1 a paced run is a run on its file.
use Rattle.cal_paced.proofs.Common.{◌≡◌, ℕ, ◌*◌, ◌/◌, ◌<◌, zero, suc, Bool, true, false, List, [], ◌∷◌, length, map, Some, refl, sym, ap, subst, ◌∙◌, arith, if◌then◌else◌, slice_index, slice_get, slice_get_within, IsRunBy, Arrivals, GivenPass, pass_of, is_at_work, is_beside_work, last_record, WHOLE}
use Rattle.cal_paced.specs.Laws.{AtPaceOneIsRun, NeutralSharesAreWhole}

-- lists that have the same at each place are the same
same_passes : (xs ys : List GivenPass) → length xs ≡ length ys →
    ((k : ℕ) (x y : GivenPass) → slice_get xs k ≡ Some x → slice_get ys k ≡ Some y → x ≡ y) → xs ≡ ys
same_passes [] [] same each = refl
same_passes [] (y ∷ ys) same each = absurd (omega (arith, same))
same_passes (x ∷ xs) [] same each = absurd (omega (arith, same))
same_passes (x ∷ xs) (y ∷ ys) same each =
    ap (λ (z : GivenPass). z ∷ xs) (each zero x y refl refl)
    ∙ ap (λ (zs : List GivenPass). y ∷ zs) (same_passes xs ys (omega (arith, same)) (λ k a b. each (suc k) a b))

-- the figure at a place is that of the pass there
figure_at : (passes : List GivenPass) (j : ℕ) (pass : GivenPass) → slice_get passes j ≡ Some pass →
    slice_index (map (λ (p : GivenPass). p.bandwidth) passes) j ≡ pass.bandwidth
figure_at [] j pass at = absurd (cc)
figure_at (p ∷ passes) zero pass at = let same : p ≡ pass = cc in ap (λ (q : GivenPass). q.bandwidth) same
figure_at (p ∷ passes) (suc j) pass at = figure_at passes j pass at

-- pass j is the only one before turn j
only : (passes : List GivenPass) (j : ℕ) (pass : GivenPass) → slice_get passes j ≡ Some pass → slice_get passes (pass_of 1 j 0) ≡ Some pass
only passes j pass at =
    let here : j ≡ pass_of 1 j 0 = omega arith in
    let P : ℕ → Type 0 = λ n. slice_get passes n ≡ Some pass in
    subst P here at

pub at-pace-one : AtPaceOneIsRun
at-pace-one policy table arrivals outcome stand run =
    let given : Arrivals = run.0 in
    let paced = run.1.paced in
    let many : length given.passes ≡ length arrivals.passes = paced.clocks.many ∙ sym stand.many in
    let passes : given.passes ≡ arrivals.passes = same_passes given.passes arrivals.passes many (λ k x y at there.
    let low = slice_get_within arrivals.passes k y there in
    let all = stand.many in
    let within : k < length arrivals.turns = omega (arith, low, all) in
    let first : 0 < 1 = omega arith in
    let clock : x.now ≡ y.now = paced.clocks.each k 0 x within first (only given.passes k x at) ∙ sym (stand.each k 0 y within first (only arrivals.passes k y there)) in
    let figure : x.bandwidth ≡ y.bandwidth = run.1.figures k 0 x first (only given.passes k x at) ∙ figure_at arrivals.passes k y there in
    λ i. record { now = clock i; bandwidth = figure i }) in
    let same : given ≡ arrivals = λ i. record { passes = passes i; turns = paced.turns i; requests = paced.requests i } in
    let P : Arrivals → Type 0 = λ a. IsRunBy policy table a outcome in
    subst P same run.1.run

either : (b : Bool) → (if b then WHOLE else WHOLE) ≡ WHOLE
either true = refl
either false = refl

pub neutral-shares : NeutralSharesAreWhole
neutral-shares threads k core =
    let beside = either (is_beside_work threads core) in
    let memory = either (is_at_work (last_record k)) in λ i. beside i * memory i / WHOLE
