-- What the bandwidth part looks for, one place more.
use Rattle.cal_policy.proofs.Common.{◌≡◌, ℕ, ◌+◌, ◌-◌, ◌<◌, ◌≤◌, length, suc, zero, Bool, true, false, cond, List, [], ◌∷◌, Option, Some, None, refl, ap, subst, eqb, ◌∙◌, arith, add-one, IfSome, lt-ltb, le-ltb, eqb-true, Table, Board, is_held_for, holder_in, HoldsCore, Action, is_latency_critical, sum_below, highest_below, lowest_below, first_or, Setting, is_number, is_capped, core_to_lose, task_misses, victim_rank, victim_of, cut_of, rise_of, bandwidth_after}

pub sum_more : (f : ℕ → ℕ) (n sum next : ℕ) → sum ≡ sum_below f n → next ≡ f n → sum + next ≡ sum_below f (n + 1)
sum_more f n sum next e g = rw (add-one n, e, g) refl

pub highest_more : (p : ℕ → Bool) (n : ℕ) → highest_below p (n + 1) ≡ cond (p n) (Some n) (highest_below p n)
highest_more p n = rw (add-one n) refl

pub lowest_more : (p : ℕ → Bool) (n : ℕ) → lowest_below p (n + 1) ≡ first_or (lowest_below p n) (p n) n
lowest_more p n = rw (add-one n) refl

-- none so far, and the next neither
pub lowest_none : (p : ℕ → Bool) (n : ℕ) → lowest_below p n ≡ None → p n ≡ false → lowest_below p (n + 1) ≡ None
lowest_none p n e g = lowest_more p n ∙ rw (e, g) refl

-- the first one stays the lowest
lowest_stays : (p : ℕ → Bool) (k n more : ℕ) → lowest_below p n ≡ Some k → lowest_below p (n + more) ≡ Some k
lowest_stays p k n zero e = let z : n + 0 ≡ n = omega arith in rw z e
lowest_stays p k n (suc more) e =
    let z : n + suc more ≡ n + more + 1 = omega arith in
    rw z (lowest_more p (n + more) ∙ ap (λ o. first_or o (p (n + more)) (n + more)) (lowest_stays p k n more e))

pub lowest_found : (p : ℕ → Bool) (k n : ℕ) → k < n → lowest_below p k ≡ None → p k ≡ true → lowest_below p n ≡ Some k
lowest_found p k n lt e g =
    let more = n - (k + 1) in
    let z : n ≡ k + 1 + more = omega arith in
    rw z (lowest_stays p k (k + 1) more (lowest_more p k ∙ rw (e, g) refl))

-- a rise tells whether the task is capped
pub rise_made : (s : Setting) (x : List Action) (b : Bool) (t : ℕ) (a : Action) → a ∷ [] ≡ rise_of s x (cond b (Some t) None) → b ≡ true
rise_made s x true t a e = refl
rise_made s x false t a e = cc

pub rise_missing : (s : Setting) (x : List Action) (b : Bool) (t : ℕ) → [] ≡ rise_of s x (cond b (Some t) None) → b ≡ false
rise_missing s x true t e = cc
rise_missing s x false t e = refl

cond_if_some : (P : ℕ → Type 0) (b : Bool) (n : ℕ) (o : Option ℕ) → (b ≡ true → P n) → IfSome o P → IfSome (cond b (Some n) o) P
cond_if_some P true n o p h = p refl
cond_if_some P false n o p h = h

-- the next core, where the task can lose it, else the one so far
pub held_more : (table : Table) (b : Board) (t core : ℕ) (task o : Option ℕ) → core < table.cores →
    IfSome task (λ k. is_held_for table k (holder_in b.holding core) ≡ true) → HoldsCore table b t o → HoldsCore table b t (cond (is_number t task) (Some core) o)
held_more table b t core None o lt e h = h
held_more table b t core (Some k) o lt e h =
    cond_if_some (λ c. (c < table.cores) × (is_held_for table t (holder_in b.holding c) ≡ true)) (eqb k t) core o
    (λ yes. (lt, subst (λ i. is_held_for table i (holder_in b.holding core) ≡ true) (eqb-true k t yes) e)) h

-- over the limit, and not over it
pub over_limit : (s : Setting) (x : List Action) → s.table.bandwidth_limit < s.input.bandwidth → bandwidth_after s x ≡ cut_of s x (victim_of s x)
over_limit s x lt = rw (lt-ltb s.table.bandwidth_limit s.input.bandwidth lt) refl

pub not_over_limit : (s : Setting) (x : List Action) → s.input.bandwidth ≤ s.table.bandwidth_limit →
    bandwidth_after s x ≡ rise_of s x (lowest_below (is_capped s x) (length s.table.tasks))
not_over_limit s x le = rw (le-ltb s.table.bandwidth_limit s.input.bandwidth le) refl

-- a best-effort task with a core that it can lose is ranked by its misses
pub ranked : (s : Setting) (x : List Action) (t core misses : ℕ) → is_latency_critical s.table t ≡ false → Some core ≡ core_to_lose s x t →
    misses ≡ task_misses s t → Some misses ≡ victim_rank s x t
ranked s x t core misses e f g = rw (e, ← f, g) refl
