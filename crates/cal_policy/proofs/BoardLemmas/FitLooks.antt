-- Looks that fit those before fit what is kept of them.
use Rattle.cal_policy.proofs.Common.{◌≡◌, ℕ, ◌<◌, ◌≤◌, List, length, get_or, sym, subst, arith, slice_get_within, slice_get-get_or, Shown, Seen, IsFitLook, KeepingAgrees, FitShown, FitAfter, shown_in}
use Rattle.cal_policy.specs.declared.board.records.Keeping.{Keeping}

pub fit_shown : (r : Keeping) (looks : List (List Seen)) (seen : List Seen) → KeepingAgrees r looks → length seen ≤ 128 → FitAfter looks seen → FitShown r seen
fit_shown r looks seen s few after = λ k look here.
    let lt : k < 128 = omega (arith, slice_get_within seen k look here, few) in
    let Fits : Shown → Type 0 = λ shown. IsFitLook shown look in
    subst Fits (sym (s.shown k lt)) (after k look here)

-- so does the one at thread k, as long as what was shown of it is as it was
pub fit_here : (cur old : Keeping) (seen : List Seen) (k : ℕ) (d : Seen) → FitShown old seen → shown_in cur k ≡ shown_in old k → k < length seen →
    IsFitLook (shown_in cur k) (get_or seen k d)
fit_here cur old seen k d all same lt =
    let Fits : Shown → Type 0 = λ shown. IsFitLook shown (get_or seen k d) in
    subst Fits (sym same) (all k (get_or seen k d) (slice_get-get_or seen k d lt))
