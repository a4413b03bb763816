-- Where a request stands when its team's account is taken: with the thread that served it, or with
-- one that had it left.
use Rattle.std.specs.Prelude.{◌≡◌, ℕ, ◌⊎◌, List, Some}
use Rattle.std.specs.List.{slice_get}
use Rattle.cal_machine.specs.declared.request.Request.{Request}
use Rattle.cal_kthread.specs.declared.journal.entry.Entry.{Entry}
use Rattle.cal_kthread.specs.declared.journal.entry.Entry.TheVariants.{Served}
use Rattle.cal_kthread.specs.End.Account.{IsAccounted, names_of, times}
use Rattle.cal_kthread.specs.Journal.{arrivals_of}
use Rattle.cal_kthread.specs.Queue.Rule.{weigh}

-- how many requests with this id arrived, over all journals
abbrev pub arrived_times : ℕ → List (List Entry) → ℕ
arrived_times id journals = weigh (λ journal. times id (names_of (arrivals_of journal))) journals

-- the i-th entry of thread k says that it served the request with this id
abbrev pub ServedAt : List (List Entry) → ℕ → ℕ → ℕ → Type 0
ServedAt journals id k i = (journal : List Entry) × (slice_get journals k ≡ Some journal)
    × (slice_get journal i ≡ Some (Served id))

-- the i-th request that thread k had left has this id
abbrev pub LeftAt : List (List Request) → ℕ → ℕ → ℕ → Type 0
LeftAt lefts id k i = (left : List Request) × (request : Request) × (slice_get lefts k ≡ Some left)
    × (slice_get left i ≡ Some request) × (request.id ≡ id)

-- at no place of any thread, and at one of one thread alone
abbrev pub Nowhere : (ℕ → ℕ → Type 0) → Type 0
Nowhere At = (k i : ℕ) → At k i → ⊥

abbrev pub Once : (ℕ → ℕ → Type 0) → Type 0
Once At = (k : ℕ) × (i : ℕ) × At k i × ((m n : ℕ) → At m n → (m ≡ k) × (n ≡ i))

-- it was served once and is left nowhere, or it was served nowhere and is left once
abbrev pub StandsInOnePlace : List (List Entry) → List (List Request) → ℕ → Type 0
StandsInOnePlace journals lefts id = (Once (ServedAt journals id) × Nowhere (LeftAt lefts id))
    ⊎ (Nowhere (ServedAt journals id) × Once (LeftAt lefts id))

-- The law of one place: an id that arrived once is in exactly one place.
abbrev pub OnceIsInOnePlace : Type 0
OnceIsInOnePlace = (journals : List (List Entry)) (lefts : List (List Request)) (id : ℕ) →
    IsAccounted journals lefts
    → arrived_times id journals ≡ 1 → StandsInOnePlace journals lefts id

-- The law of no place: an id that did not arrive is nowhere.
abbrev pub NeverIsNowhere : Type 0
NeverIsNowhere = (journals : List (List Entry)) (lefts : List (List Request)) (id : ℕ) →
    IsAccounted journals lefts
    → arrived_times id journals ≡ 0 → Nowhere (ServedAt journals id) × Nowhere (LeftAt lefts id)
