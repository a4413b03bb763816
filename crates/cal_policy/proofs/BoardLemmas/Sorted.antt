-- The sets of cores, when a holder changes.
use Rattle.cal_policy.proofs.Common.{◌≡◌, ◌≢◌, ℕ, ◌<◌, ◌⊎◌, inl, inr, Option, Some, None, cases_eq, IfSome, Holder, Holding, holder_in, holder_at, Sorts, IsSorted}
use Rattle.cal_policy.specs.declared.board.core_sets.CoreSets.{CoreSets}

-- the sets are kept up with the one holder that changes, if one does
sorted_one : (h h2 : Holding) (core : ℕ) (old new : CoreSets) → ((c : ℕ) → Some core ≢ Some c → holder_in h2 c ≡ holder_in h c) →
    Sorts (holder_in h) old → IsSorted core (holder_in h2 core) new →
    ((c : ℕ) (a : Holder) → Some core ≢ Some c → IsSorted c a old → IsSorted c a new) → (c : ℕ) → c < 128 → (c ≡ core) ⊎ (c ≢ core) →
    IsSorted c (holder_in h2 c) new
sorted_one h h2 core old new e s at others c lt (inl same) = rw same at
sorted_one h h2 core old new e s at others c lt (inr off) =
    let other : Some core ≢ Some c = λ same. let eq : c ≡ core = cc in off eq in rw (e c other) (others c (holder_in h c) other (s c lt))

pub Sorts_moved : (h h2 : Holding) (o : Option ℕ) (old new : CoreSets) → ((c : ℕ) → o ≢ Some c → holder_in h2 c ≡ holder_in h c) →
    Sorts (holder_in h) old → IfSome o (λ c. IsSorted c (holder_at h2 o) new) →
    ((c : ℕ) (a : Holder) → o ≢ Some c → IsSorted c a old → IsSorted c a new) → Sorts (holder_in h2) new
Sorts_moved h h2 None old new e s at others = λ c lt. let other : None ≢ Some c = λ same. cc in rw (e c other) (others c (holder_in h c) other (s c lt))
Sorts_moved h h2 (Some core) old new e s at others = λ c lt. sorted_one h h2 core old new e s at others c lt (cases_eq c core)
