-- What is held of each thread, one of which made a turn.
use Rattle.cal_run.proofs.Common.{◌≡◌, ℕ, zero, suc, List, [], ◌∷◌, Some, get_or, subst, AllZip, slice_get, set}

-- what is held at a thread's place is of its journal
pub held_at : {X Y : Type 0} (R : X → Y → Type 0) (xs : List X) (ys : List Y) (k : ℕ) (x : X) (d : Y) → AllZip R xs ys → slice_get xs k ≡ Some x → R x (get_or ys k d)
held_at R [] ys k x d all at = absurd (cc)
held_at R (a ∷ xs) [] k x d all at = absurd all
held_at {X} {Y} R (a ∷ xs) (b ∷ ys) zero x d all at = let same : a ≡ x = cc in subst (λ (l : X). R l b) same all.0
held_at R (a ∷ xs) (b ∷ ys) (suc k) x d all at = held_at R xs ys k x d all.1 at

-- and after its turn
pub held_after : {X Y : Type 0} (R : X → Y → Type 0) (xs : List X) (ys : List Y) (k : ℕ) (x : X) (y : Y) → AllZip R xs ys → R x y → AllZip R (set xs k x) (set ys k y)
held_after R [] [] k x y all its = tt
held_after R [] (b ∷ ys) k x y all its = absurd all
held_after R (a ∷ xs) [] k x y all its = absurd all
held_after R (a ∷ xs) (b ∷ ys) zero x y all its = (its, all.1)
held_after R (a ∷ xs) (b ∷ ys) (suc k) x y all its = (all.0, held_after R xs ys k x y all.1 its)
