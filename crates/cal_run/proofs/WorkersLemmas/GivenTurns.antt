-- What is given to a thread, turn by turn.
use Rattle.cal_run.proofs.Common.{◌≡◌, ℕ, ◌+◌, zero, suc, List, [], ◌∷◌, Some, ap, ◌∙◌, arith, slice_get, Arrival, request_at, turns_from}

-- the clock of a turn, and the request that comes before it
pub given_at : (requests : List Arrival) (k i j now : ℕ) (clocks : List ℕ) → slice_get clocks j ≡ Some now →
    slice_get (turns_from requests k i clocks) j ≡ Some (now, request_at requests k (i + j))
given_at requests k i j now [] e = absurd (cc)
given_at requests k i zero now (clock ∷ clocks) e =
    let same : clock ≡ now = cc in
    let here : i ≡ i + 0 = omega arith in
    ap (λ (n : ℕ). Some (n, request_at requests k i)) same ∙ ap (λ (n : ℕ). Some (now, request_at requests k n)) here
given_at requests k i (suc j) now (clock ∷ clocks) e =
    let there : (i + 1) + j ≡ i + suc j = omega arith in
    given_at requests k (i + 1) j now clocks e ∙ ap (λ (n : ℕ). Some (now, request_at requests k n)) there
