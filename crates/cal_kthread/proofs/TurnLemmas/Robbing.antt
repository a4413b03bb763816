-- One of the others is robbed.
use Rattle.cal_kthread.proofs.Common.{◌≡◌, ℕ, zero, suc, ◌<◌, List, [], ◌∷◌, ◌++◌, length, get_or, set, ap, refl, arith, Source, Waiting, robbed, number_at}

-- the thread that was robbed, with what it was robbed of
abbrev pub loser : Source → Waiting → Source
loser v w = record v { thief = record v.thief { had = v.thief.had ++ w ∷ [] } }

-- to write the thread that was robbed to its place makes the list of those robbed
pub robbed-is : (vs : List Source) (place : ℕ) (v : Source) (w : Waiting) → place < length vs → v ≡ get_or vs place v → set vs place (loser v w) ≡ robbed vs place w
robbed-is [] place v w within at = absurd (omega arith)
robbed-is (x ∷ xs) zero v w within at = ap (λ z. loser z w ∷ xs) at
robbed-is (x ∷ xs) (suc place) v w within at = ap (λ z. x ∷ z) (robbed-is xs place v w (omega arith) at)

-- a robbery leaves each thread its place and its number
pub length-robbed : (vs : List Source) (place : ℕ) (w : Waiting) → length (robbed vs place w) ≡ length vs
length-robbed [] place w = refl
length-robbed (x ∷ xs) zero w = refl
length-robbed (x ∷ xs) (suc place) w = ap suc (length-robbed xs place w)

pub number-robbed : (vs : List Source) (place : ℕ) (v : Source) (w : Waiting) → place < length vs → v ≡ get_or (robbed vs place w) place v → v.number ≡ number_at vs place
number-robbed [] place v w within at = absurd (omega arith)
number-robbed (x ∷ xs) zero v w within at = ap (λ (z : Source). z.number) at
number-robbed (x ∷ xs) (suc place) v w within at = number-robbed xs place v w (omega arith) at
