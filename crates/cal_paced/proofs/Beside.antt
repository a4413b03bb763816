-- The cores beside which a thread is at work, and the misses that all bring, thread by thread.
use Rattle.cal_paced.proofs.Common.{◌≡◌, ℕ, ◌+◌, ◌-◌, ◌%◌, ◌<◌, Bool, true, false, not, ◌&&◌, ◌||◌, if◌then◌else◌, List, length, take, get_or, refl, sym, ap, ◌∙◌, arith, ◌==◌, nat_lt, nat_tests, sum_by_more, KernelView, MOST_CORES, all_bring, brings, is_at_work_on, is_beside_work, last_record}
use Rattle.std.proofs.lemmas.List.Folds.{list_any_more}
use Rattle.cal_machine.specs.Machine.{sibling_of}

-- a core is the sibling of another exactly where that is the sibling of it
siblings-by : (r core : ℕ) (a b : Bool) → (r % 2 == 0) ≡ a → (core % 2 == 0) ≡ b → (core == (if a then r + 1 else r - 1)) ≡ (r == (if b then core + 1 else core - 1))
siblings-by r core true true ra cb = grind (arith, nat_tests)
siblings-by r core true false ra cb = grind (arith, nat_tests)
siblings-by r core false true ra cb = grind (arith, nat_tests)
siblings-by r core false false ra cb = grind (arith, nat_tests)

siblings : (r core : ℕ) → (core == sibling_of r) ≡ (r == sibling_of core)
siblings r core = siblings-by r core (r % 2 == 0) (core % 2 == 0) refl refl

-- the sibling of a core of a machine is one
within-by : (core : ℕ) (b : Bool) → (core % 2 == 0) ≡ b → core < MOST_CORES → (if b then core + 1 else core - 1) < MOST_CORES
within-by core true is low = grind (arith, nat_tests)
within-by core false is low = omega arith

sibling-within : (core : ℕ) → core < MOST_CORES → sibling_of core < MOST_CORES
sibling-within core low = within-by core (core % 2 == 0) refl low

-- a record that shows no thread at work, or a core that no machine has, is beside no core
off-core : (running started s : ℕ) → s < MOST_CORES → (not (running == 0) && not (started == 0)) ≡ false → ((running == s + 1) && not (started == 0)) ≡ false
off-core running started s low off = grind (arith, nat_tests)

beyond : (running started s : ℕ) → s < MOST_CORES → MOST_CORES < running → ((running == s + 1) && not (started == 0)) ≡ false
beyond running started s low high = grind (arith, nat_tests)

-- and one that shows a thread at work is beside the sibling of its core
on-core : (running started s : ℕ) → (not (running == 0) && not (started == 0)) ≡ true → ((running == s + 1) && not (started == 0)) ≡ (running - 1 == s)
on-core running started s on = grind (arith, nat_tests)

stays : (b q : Bool) → q ≡ false → b ≡ (b && not q)
stays true false is = refl
stays false false is = refl
stays b true is = absurd (cc)

swapped : (b q : Bool) → (not q && b) ≡ (b && not q)
swapped true true = refl
swapped true false = refl
swapped false true = refl
swapped false false = refl

pub none-beside : (b : Bool) (running started core : ℕ) → core < MOST_CORES → (not (running == 0) && not (started == 0)) ≡ false → b ≡ (b && not ((running == sibling_of core + 1) && not (started == 0)))
none-beside b running started core low off = stays b _ (off-core running started (sibling_of core) (sibling-within core low) off)

pub none-beyond : (b : Bool) (running started core : ℕ) → core < MOST_CORES → MOST_CORES < running → b ≡ (b && not ((running == sibling_of core + 1) && not (started == 0)))
none-beyond b running started core low high = stays b _ (beyond running started (sibling_of core) (sibling-within core low) high)

pub taken-away : (b : Bool) (running started core : ℕ) → (not (running == 0) && not (started == 0)) ≡ true
    → (not (core == sibling_of (running - 1)) && b) ≡ (b && not ((running == sibling_of core + 1) && not (started == 0)))
taken-away b running started core on =
    let same : (core == sibling_of (running - 1)) ≡ ((running == sibling_of core + 1) && not (started == 0)) =
    siblings (running - 1) core ∙ sym (on-core running started (sibling_of core) on) in
    ap (λ (q : Bool). not q && b) same ∙ swapped b _

-- one thread more
clear-of : (low b q was is : Bool) → was ≡ (low && not b) → (low ≡ true → is ≡ (was && not q)) → (was ≡ false → is ≡ false) → is ≡ (low && not (b || q))
clear-of true true q was is e more off = let f = more refl in grind (arith, nat_tests)
clear-of true false q was is e more off = let f = more refl in grind (arith, nat_tests)
clear-of false b q was is e more off = off e

pub beside-more : (threads : List KernelView) (i : ℕ) (t : KernelView) (before after : ℕ → Bool) → i < length threads → get_or threads i t ≡ t
    → ((core : ℕ) → before core ≡ (nat_lt core MOST_CORES && not (is_beside_work (take i threads) core)))
    → ((core : ℕ) → core < MOST_CORES → after core ≡ (before core && not (is_at_work_on (sibling_of core) (last_record t))))
    → ((core : ℕ) → before core ≡ false → after core ≡ false)
    → (core : ℕ) → after core ≡ (nat_lt core MOST_CORES && not (is_beside_work (take (i + 1) threads) core))
beside-more threads i t before after low at was taken off core =
    let p : KernelView → Bool = λ k. is_at_work_on (sibling_of core) (last_record k) in
    let more : is_beside_work (take (i + 1) threads) core ≡ (is_beside_work (take i threads) core || p t) =
    list_any_more p threads i t low ∙ ap (λ (k : KernelView). is_beside_work (take i threads) core || p k) at in
    clear-of (nat_lt core MOST_CORES) (is_beside_work (take i threads) core) (p t) (before core) (after core) (was core)
    (λ is. taken core (grind (arith, nat_tests))) (off core)
    ∙ ap (λ (b : Bool). nat_lt core MOST_CORES && not b) (sym more)

pub bring-more : (threads : List KernelView) (i : ℕ) (t : KernelView) → i < length threads → get_or threads i t ≡ t
    → all_bring (take (i + 1) threads) ≡ all_bring (take i threads) + brings t
bring-more threads i t low at = sum_by_more brings threads i t low ∙ ap (λ (k : KernelView). all_bring (take i threads) + brings k) at

pub and-true : (b : Bool) → (b && true) ≡ b
and-true true = refl
and-true false = refl
