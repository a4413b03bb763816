-- What all short tasks lack that wait, summed over those that were asked.
use Rattle.cal_policy.proofs.Common.{◌≡◌, ℕ, ◌+◌, ◌-◌, ◌<◌, ◌≤◌, suc, zero, Bool, true, false, not, cond, eqb, ◌&&◌, nat_lt, nat_le, max, List, length, refl, sym, ap, ◌∙◌, arith, ⊎_elim, cases_lt, nat_tests, IsTable, next_le, first_thread, has_thread, guaranteed_of, is_latency_critical, Action, Board, KeepsSets, Stands, booked_by, lacks, lacks_waiting, lacking, some_waits_short, waits, waits_short, count_below, sum_below, Setting, so_far}
use Rattle.cal_policy.proofs.AssuredLemmas.Waiting.{calm_task}
use Rattle.cal_policy.proofs.PassLemmas.NothingDue.{threads_between}

-- numbers that add nothing
pub sum_skip : (f : ℕ → ℕ) (m n : ℕ) → m ≤ n → ((k : ℕ) → m ≤ k → k < n → f k ≡ 0) → sum_below f m ≡ sum_below f n
sum_skip f m zero le e = let same : m ≡ 0 = omega (arith, le) in rw same refl
sum_skip f m (suc n) le e = ⊎_elim
    (λ l. let before = sum_skip f m n (omega (arith, l)) (λ k a b. e k a (omega (arith, b))) in
    let here = e n (omega (arith, l)) (omega arith) in
    omega (arith, before, here))
    (λ g. let same : m ≡ suc n = omega (arith, g, le) in rw same refl)
    (cases_lt m (suc n))

-- a sum over more numbers is no less
pub sum_grows : (f : ℕ → ℕ) (m n : ℕ) → m ≤ n → sum_below f m ≤ sum_below f n
sum_grows f m zero le = let same : m ≡ 0 = omega (arith, le) in rw same (omega arith)
sum_grows f m (suc n) le = ⊎_elim
    (λ l. let before = sum_grows f m n (omega (arith, l)) in omega (arith, before))
    (λ g. let same : m ≡ suc n = omega (arith, g, le) in rw same (omega arith))
    (cases_lt m (suc n))

-- a task that does not wait adds nothing
pub lacks_none : (s : Setting) (x : List Action) (t : ℕ) → waits s x t ≡ false → lacks_waiting s x t ≡ 0
lacks_none s x t e = ap (λ b. cond b (lacks s.table x t) 0) e

-- some number passes where the sum is not 0, if each passes where it adds something
one_more : (c m k : ℕ) (b : Bool) → not (eqb c 0) ≡ nat_lt 0 m → b ≡ nat_lt 0 k → not (eqb (c + cond b 1 0) 0) ≡ nat_lt 0 (m + k)
one_more c m k true e g = grind (arith, nat_tests, e, g)
one_more c m k false e g = grind (arith, nat_tests, e, g)

some_sum : (p : ℕ → Bool) (f : ℕ → ℕ) → ((t : ℕ) → p t ≡ nat_lt 0 (f t)) → (n : ℕ) → not (eqb (count_below p n) 0) ≡ nat_lt 0 (sum_below f n)
some_sum p f e zero = grind (arith, nat_tests)
some_sum p f e (suc n) = one_more (count_below p n) (sum_below f n) (f n) (p n) (some_sum p f e n) (e n)

beyond : (b g : ℕ) → nat_lt b g ≡ nat_lt 0 (g - b)
beyond b g = grind (arith, nat_tests)

nothing : false ≡ nat_lt 0 0
nothing = grind (arith, nat_tests)

by_lack : (q : Bool) (m : ℕ) → q ≡ nat_lt 0 m → q ≡ nat_lt 0 (cond q m 0)
by_lack true m e = e
by_lack false m e = nothing

-- a short task lacks something, and only such a one
each_lacks : (critical w : Bool) (b g : ℕ) → ((critical && nat_lt b g) && w) ≡ nat_lt 0 (cond w (cond (critical && nat_lt b g) (g - b) 0) 0)
each_lacks true true b g = and_one (nat_lt b g) ∙ by_lack (nat_lt b g) (g - b) (beyond b g)
  where
    and_one : (q : Bool) → (q && true) ≡ q
    and_one true = refl
    and_one false = refl
each_lacks true false b g = none (nat_lt b g) ∙ nothing
  where
    none : (q : Bool) → (q && false) ≡ false
    none true = refl
    none false = refl
each_lacks false true b g = nothing
each_lacks false false b g = nothing

-- some short task waits where something is lacking, and only there
pub some_lacking : (s : Setting) (x : List Action) → some_waits_short s x ≡ nat_lt 0 (lacking s x)
some_lacking s x = some_sum (waits_short s x) (lacks_waiting s x)
    (λ t. each_lacks (is_latency_critical s.table t) (waits s x t) (booked_by s.table x t) (guaranteed_of s.table t))
    (length s.table.tasks)

-- what was counted tells whether so many are lacking as are open, if it was not ended before that
both_told : (there all : ℕ) → nat_le (max there 1) all ≡ (nat_lt 0 all && nat_le there all)
both_told zero all = grind (arith, nat_tests)
both_told (suc there) all = grind (arith, nat_tests)

pub lacked_told : (there all counted enough : ℕ) → enough ≡ max there 1 → counted ≤ all → (counted < enough → counted ≡ all) →
    nat_le enough counted ≡ (nat_lt 0 all && nat_le there all)
lacked_told there all counted enough e few whole = ⊎_elim
    (λ less. ap (nat_le enough) (whole less) ∙ ap (λ n. nat_le n all) e ∙ both_told there all)
    (λ more. at_least enough counted all more few ∙ ap (λ n. nat_le n all) e ∙ both_told there all)
    (cases_lt counted enough)
  where
    at_least : (enough counted all : ℕ) → enough ≤ counted → counted ≤ all → nat_le enough counted ≡ nat_le enough all
    at_least enough counted all more few = grind (arith, nat_tests, more, few)

-- where fewer are open than are lacking, some are lacking
pub wanted_told : (there all : ℕ) → nat_lt there all ≡ (nat_lt 0 all && nat_lt there all)
wanted_told there zero = grind (arith, nat_tests)
wanted_told there (suc all) = grind (arith, nat_tests)

-- where nothing is lacking none is wanted
pub none_wanted : (there all : ℕ) → all ≡ 0 → false ≡ (nat_lt 0 all && nat_lt there all)
none_wanted there all e = let none : nat_lt 0 all ≡ false = ap (nat_lt 0) e ∙ sym nothing in sym (ap (λ b. b && nat_lt there all) none)

-- so the tasks between two that were asked add nothing, where no thread of theirs waits
pub lacks_between : (b : Board) (s : Setting) (acts : List Action) → Stands b s acts → KeepsSets b.keeping → IsTable s.table → (reached t : ℕ) → reached ≤ t → t ≤ length s.table.tasks →
    ((j : ℕ) → first_thread s.table.tasks reached ≤ j → j < first_thread s.table.tasks t → has_thread b.keeping.waiting j ≡ false) →
    sum_below (lacks_waiting s (so_far s acts)) reached ≡ sum_below (lacks_waiting s (so_far s acts)) t
lacks_between b s acts st sets table reached t le most none =
    sum_skip (lacks_waiting s (so_far s acts)) reached t le (λ u from to.
    let it = threads_between s.table.tasks reached u t from to most in
    lacks_none s (so_far s acts) u (calm_task b s acts st sets u (omega (arith, next_le s.table.tasks u (omega (arith, to, most)), table.threads))
    (λ j y z. none j (omega (arith, it.0, y)) (omega (arith, z, it.1)))))
