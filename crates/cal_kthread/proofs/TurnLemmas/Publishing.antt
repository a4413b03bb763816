-- The record of a turn is never refused.
use Rattle.cal_kthread.proofs.Common.{◌≡◌, ℕ, ◌<◌, ◌≤◌, Option, Some, None, IfSome, List, [], ◌∷◌, ◌++◌, refl, arith, Record, Chain, IsPage, last_published, last_from, page_of, IsShaped, MayFollow, zero_record, running_word, ThreadView, IsThread, shown}
use Rattle.cal_machine.specs.declared.machine.TheConstants.{MOST_CORES}

running_bound : (core : Option ℕ) → IfSome core (λ c. c < MOST_CORES) → running_word core ≤ MOST_CORES
running_bound None within = omega arith
running_bound (Some c) within = omega arith

-- the record of a thread may follow those that it published
pub follows : (now : ℕ) (t : ThreadView) (count : ℕ) → IsThread count t.taker.taken t.core t.misses t.publisher.published → (last_published t.publisher.published).stamp ≤ now → MayFollow (last_published t.publisher.published) (shown now t)
follows now t count is later = let n = is.taken in let a = is.shown_taken in let b = is.shown_misses in let r = running_bound t.core is.number in
    ((omega arith, b, later), (r, is.limit))

-- the last record is the one that was published last
pub last_snoc : (x : Record) (xs : List Record) (y : Record) → last_from x (xs ++ y ∷ []) ≡ y
last_snoc x [] y = refl
last_snoc x (z ∷ zs) y = last_snoc z zs y

-- and it is shaped
last-of-chain : (x : Record) (xs : List Record) → IsShaped x → Chain MayFollow x xs → IsShaped (last_from x xs)
last-of-chain x [] shaped chain = shaped
last-of-chain x (y ∷ ys) shaped chain = last-of-chain y ys chain.0.1 chain.1

pub last-shaped : (published : List Record) → IsPage (page_of published) → IsShaped (last_published published)
last-shaped published page = last-of-chain zero_record published (omega arith, omega arith) page.1
