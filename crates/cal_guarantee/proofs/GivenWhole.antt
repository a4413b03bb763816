-- A guarantee is given, whole: the passes together.
use Rattle.cal_guarantee.proofs.Common.{◌≡◌, ℕ, ◌+◌, ◌-◌, ◌<◌, ◌≤◌, ◌⊎◌, Bool, true, false, ◌&&◌, List, [], Some, slice_get, refl, ap, sym, ◌∙◌, subst, arith, inl, inr, ⊎_elim, zero, suc, cases_lt, cases_Bool, and_parts, and_from, eq-eqb, Table, Action, PassEntry, holder_of, so_far, frees, count_below, leaves_for, coming, is_task, owed_to, pass_of, sum_by-append, WaitsFromTo, grants_to, granted_to, granted_before, needs_at, NeedsFromTo, GuaranteesAreGivenWhole, owed_cores}
use Rattle.cal_guarantee.proofs.Sums.{one_if}
use Rattle.cal_guarantee.proofs.Freed.{was_left}
use Rattle.cal_guarantee.proofs.Calm.{IsCalm, NoneLeaves}
use Rattle.cal_guarantee.proofs.PassTurns.{with_turn}
use Rattle.cal_guarantee.proofs.Histories.{acts_to, setting_in, after_pass, entry_at}
use Rattle.cal_guarantee.proofs.OwedWhole.{owed_granted}
use Rattle.cal_guarantee.proofs.Served.{turn_part}
use Rattle.cal_guarantee.proofs.CalmWhole.{coming_or_calm, calm_whole, none_left_whole}
use Rattle.cal_guarantee.proofs.Windows.{left_task, left_leaving, freed_owed, in_range, steady_in, left_past, freed_last, calm_last}

-- where each that passes the first test passes one of two others
one_of_two : (a b c : Bool) → (a ≡ true → (b ≡ true) ⊎ (c ≡ true)) → one_if a ≤ one_if b + one_if c
one_of_two false b c e = omega arith
one_of_two true b c e = ⊎_elim (λ (is : b ≡ true). let one = ap one_if is in omega (arith, one)) (λ (is : c ≡ true). let one = ap one_if is in omega (arith, one)) (e refl)

count_of_two : (p q r : ℕ → Bool) (n : ℕ) → ((c : ℕ) → c < n → p c ≡ true → (q c ≡ true) ⊎ (r c ≡ true)) → count_below p n ≤ count_below q n + count_below r n
count_of_two p q r zero e = omega arith
count_of_two p q r (suc n) e =
    omega (arith, count_of_two p q r n (λ c lt is. e c (omega (arith, lt)) is), one_of_two (p n) (q n) (r n) (e n (omega arith)))

-- core c is being left for task t where each of the passes p + 1 to p + 1 + n begins
abbrev left_since : List PassEntry → ℕ → ℕ → ℕ → ℕ → Bool
left_since history t p zero c = leaves_for t (holder_of (acts_to history (p + 1)) c)
left_since history t p (suc n) c = left_since history t p n c && leaves_for t (holder_of (acts_to history (p + 1 + suc n)) c)

left_each : (history : List PassEntry) (t p n c : ℕ) → left_since history t p n c ≡ true → (k : ℕ) → k ≤ n → leaves_for t (holder_of (acts_to history (p + 1 + k)) c) ≡ true
left_each history t p zero c is k le =
    let none : 0 ≡ k = omega (arith, le) in
    let first : p + 1 ≡ p + 1 + 0 = omega arith in
    let P : ℕ → Type 0 = λ q. leaves_for t (holder_of (acts_to history q) c) ≡ true in
    let Q : ℕ → Type 0 = λ j. leaves_for t (holder_of (acts_to history (p + 1 + j)) c) ≡ true in
    subst Q none (subst P first is)
left_each history t p (suc n) c is k le =
    let both = and_parts (left_since history t p n c) (leaves_for t (holder_of (acts_to history (p + 1 + suc n)) c)) is in ⊎_elim
    (λ (l : k < suc n). left_each history t p n c both.0 k (omega (arith, l)))
    (λ (g : suc n ≤ k). let top : suc n ≡ k = omega (arith, g, le) in
    let Q : ℕ → Type 0 = λ j. leaves_for t (holder_of (acts_to history (p + 1 + j)) c) ≡ true in subst Q top both.1)
    (cases_lt k (suc n))

module _ (table : Table) (history : List PassEntry) (t d p : ℕ) (w : WaitsFromTo table history t d p) where
  -- what a pass grants
  pub granted_more : (q : ℕ) (entry : PassEntry) → slice_get history q ≡ Some entry →
      granted_before table history t (q + 1) ≡ granted_before table history t q + granted_to table t (pass_of (setting_in table history q entry))
  granted_more q entry e =
      ap (granted_to table t) (after_pass table history q entry w.legal e) ∙ sum_by-append (grants_to table t) (acts_to history q) (pass_of (setting_in table history q entry))

  -- no fewer are granted before a later pass
  pub granted_on : (q k : ℕ) → q + k ≤ p + d + 1 → granted_before table history t q ≤ granted_before table history t (q + k)
  granted_on q zero to = let same : q ≡ q + 0 = omega arith in let P : ℕ → Type 0 = λ j. granted_before table history t q ≤ granted_before table history t j in subst P same (omega arith)
  granted_on q (suc k) to =
      let found = entry_at history (q + k) (in_range table history t d p w (q + k) (omega (arith, to))) in
      let before = granted_on q k (omega (arith, to)) in
      let more = granted_more (q + k) found.0 found.1 in
      let same : q + k + 1 ≡ q + suc k = omega arith in
      let P : ℕ → Type 0 = λ j. granted_before table history t q ≤ granted_before table history t j in
      subst P same (omega (arith, before, more))

module _ (table : Table) (history : List PassEntry) (t d n p : ℕ) (w : NeedsFromTo table history t d n p) where
  -- where fewer than n are granted in them
  module _ (less : granted_before table history t (p + d + 1) < granted_before table history t p + n) where
    -- each pass grants fewer than the task needs
    few_in : (q : ℕ) (entry : PassEntry) → p ≤ q → q ≤ p + d → slice_get history q ≡ Some entry →
        granted_to table t (with_turn (setting_in table history q entry) t) < needs_at (setting_in table history q entry) t
    few_in q entry from to e =
        let all = granted_on table history t d p w.waits (q + 1) (p + d - q) (omega (arith, to)) in
        let same : q + 1 + (p + d - q) ≡ p + d + 1 = omega (arith, to) in
        let P : ℕ → Type 0 = λ j. granted_before table history t (q + 1) ≤ granted_before table history t j in
        let most = subst P same all in
        omega (arith, most, less, granted_more table history t d p w.waits q entry e, w.needs q entry from to e, turn_part (setting_in table history q entry) t w.waits.accepted w.waits.own)

    -- what is owed to it is granted to it
    freed_granted : (q : ℕ) (entry : PassEntry) → p ≤ q → q ≤ p + d → slice_get history q ≡ Some entry →
        owed_cores (setting_in table history q entry) t (so_far (setting_in table history q entry) (frees (setting_in table history q entry) []))
        + granted_before table history t q ≤ granted_before table history t (q + 1)
    freed_granted q entry from to e =
        let s = setting_in table history q entry in
        let owed = owed_granted s t w.waits.accepted w.waits.own (steady_in table history t d p w.waits q to) (w.waits.waiting q entry from to e) (few_in q entry from to e) in
        omega (arith, owed, turn_part (setting_in table history q entry) t w.waits.accepted w.waits.own, granted_more table history t d p w.waits q entry e)

    -- a core that was left for the task is owed to it once it is freed
    owed_once : (q c : ℕ) (entry : PassEntry) → c < table.cores → leaves_for t (holder_of (acts_to history q) c) ≡ true → was_left (setting_in table history q entry) c ≡ true →
        is_task t (owed_to (so_far (setting_in table history q entry) (frees (setting_in table history q entry) [])) c) ≡ true
    owed_once q c entry low left is =
        ap (is_task t) (freed_owed (setting_in table history q entry) c low is ∙ left_task t (holder_of (acts_to history q) c) left) ∙ eq-eqb t t refl

    -- the cores that were coming after pass p are left still, or granted
    come_to : (k : ℕ) → k < d →
        count_below (left_since history t p 0) table.cores + granted_before table history t (p + 1) ≤ count_below (left_since history t p k) table.cores + granted_before table history t (p + 1 + k)
    come_to zero lt =
        let same : p + 1 ≡ p + 1 + 0 = omega arith in
        let P : ℕ → Type 0 = λ j. count_below (left_since history t p 0) table.cores + granted_before table history t (p + 1) ≤ count_below (left_since history t p 0) table.cores + granted_before table history t j in
        subst P same (omega arith)
    come_to (suc k) lt =
        let q = p + 1 + k in
        let to : q ≤ p + d = omega (arith, lt) in
        let found = entry_at history q (in_range table history t d p w.waits q to) in
        let s = setting_in table history q found.0 in
        let before = come_to k (omega (arith, lt)) in
        let granted = freed_granted q found.0 (omega arith) to found.1 in
        let next : q + 1 ≡ p + 1 + suc k = omega arith in
        let fewer = count_of_two (left_since history t p k) (left_since history t p (suc k)) (λ c. is_task t (owed_to (so_far s (frees s [])) c)) table.cores
        (λ c low is.
        let left = left_each history t p k c is k (omega arith) in ⊎_elim
        (λ (freed : was_left s c ≡ true). inr (owed_once q c found.0 low left freed))
        (λ (stays : was_left s c ≡ false).
        let P : ℕ → Type 0 = λ j. leaves_for t (holder_of (acts_to history j) c) ≡ true in
        inl (and_from (left_since history t p k c) (leaves_for t (holder_of (acts_to history (p + 1 + suc k)) c)) is
        (subst P next (left_past table history t d p w.waits q c found.0 to found.1 stays left))))
        (cases_Bool (was_left s c))) in
        let P : ℕ → Type 0 = λ j. granted_before table history t (q + 1) ≡ granted_before table history t j in
        omega (arith, before, granted, fewer, subst P next refl)

    -- all of them are granted by the last
    all_come : count_below (left_since history t p 0) table.cores + granted_before table history t (p + 1) ≤ granted_before table history t (p + d + 1)
    all_come =
        let some = w.waits.some in
        let k = d - 1 in
        let before = come_to k (omega (arith, some)) in
        let last : p + 1 + k ≡ p + d = omega (arith, some) in
        let found = entry_at history (p + d) (in_range table history t d p w.waits (p + d) (omega arith)) in
        let s = setting_in table history (p + d) found.0 in
        let granted = freed_granted (p + d) found.0 (omega arith) (omega arith) found.1 in
        let fewer = count_of_two (left_since history t p k) (λ c. false) (λ c. is_task t (owed_to (so_far s (frees s [])) c)) table.cores
        (λ c low is.
        let P : ℕ → Type 0 = λ j. leaves_for t (holder_of (acts_to history j) c) ≡ true in
        let left : leaves_for t (holder_of (acts_to history (p + d)) c) ≡ true = subst P last (left_each history t p k c is k (omega arith)) in
        inr (owed_once (p + d) c found.0 low left (freed_last table history t d p w.waits c found.0 low found.1
        (λ q from to.
        let at : p + 1 + (q - (p + 1)) ≡ q = omega (arith, from) in
        left_leaving t (holder_of (acts_to history q) c) (subst P at (left_each history t p k c is (q - (p + 1)) (omega (arith, from, to, some)))))))) in
        let none = none_pass table.cores in
        let G : ℕ → Type 0 = λ j. granted_before table history t j ≡ granted_before table history t (p + d) in
        let here : granted_before table history t (p + 1 + k) ≡ granted_before table history t (p + d) = subst G (sym last) refl in
        omega (arith, before, granted, fewer, none, here)
      where
        none_pass : (m : ℕ) → count_below (λ c. false) m ≡ 0
        none_pass zero = refl
        none_pass (suc m) = omega (arith, none_pass m)

    -- a pass that begins calm ends calm
    quiet_after : (q : ℕ) → p < q → q < p + d → IsCalm table (acts_to history q) → IsCalm table (acts_to history (q + 1)) × NoneLeaves (acts_to history q) (acts_to history (q + 1))
    quiet_after q from to calm =
        let found = entry_at history q (in_range table history t d p w.waits q (omega (arith, to))) in
        let s = setting_in table history q found.0 in
        let le : q ≤ p + d = omega (arith, to) in
        let one = calm_whole s t w.waits.accepted w.waits.own (steady_in table history t d p w.waits q le) (w.waits.waiting q found.0 (omega (arith, from)) le found.1)
        (few_in q found.0 (omega (arith, from)) le found.1) calm in
        let P : List Action → Type 0 = λ x. IsCalm table x × NoneLeaves (acts_to history q) x in
        subst P (sym (after_pass table history q found.0 w.waits.legal found.1)) one

    never_calm : IsCalm table (acts_to history (p + 1)) → ⊥
    never_calm calm =
        let found = entry_at history (p + d) (in_range table history t d p w.waits (p + d) (omega arith)) in
        let s = setting_in table history (p + d) found.0 in
        let last = calm_last table history t d p w.waits quiet_after calm found.0 found.1 in
        none_left_whole s t w.waits.accepted w.waits.own (steady_in table history t d p w.waits (p + d) (omega arith)) (w.waits.waiting (p + d) found.0 (omega arith) (omega arith) found.1)
        (few_in (p + d) found.0 (omega arith) (omega arith) found.1) last.0 last.1

    contradiction : ⊥
    contradiction =
        let found = entry_at history p (in_range table history t d p w.waits p (omega arith)) in
        let s = setting_in table history p found.0 in
        let after = after_pass table history p found.0 w.waits.legal found.1 in ⊎_elim
        (λ enough.
        let C : List Action → Type 0 = λ x. coming s x t ≡ coming s (so_far s (pass_of s)) t in
        let there : count_below (left_since history t p 0) table.cores ≡ coming s (so_far s (pass_of s)) t = subst C (sym after) refl in
        let first = w.needs p found.0 (omega arith) (omega arith) found.1 in
        omega (arith, enough, there, first, turn_part s t w.waits.accepted w.waits.own, granted_more table history t d p w.waits p found.0 found.1, all_come, less))
        (λ calm. never_calm (let C : List Action → Type 0 = λ x. IsCalm table x in subst C (sym after) calm))
        (coming_or_calm s t w.waits.accepted w.waits.own (steady_in table history t d p w.waits p (omega arith)) (w.waits.waiting p found.0 (omega arith) (omega arith) found.1)
        (few_in p found.0 (omega arith) (omega arith) found.1) (w.waits.rooms found.0 found.1))

-- a task that needs n cores so is granted n
pub whole_given : GuaranteesAreGivenWhole
whole_given table history t d n p w = ⊎_elim
    (λ less. absurd (contradiction table history t d n p w less))
    (λ enough. enough)
    (cases_lt (granted_before table history t (p + d + 1)) (granted_before table history t p + n))
