-- For each number of passes that threads take to leave, the run is legal, and in it a task waits to the last,
-- and is granted all that it needs there.
use Rattle.cal_guarantee.proofs.Common.{◌≡◌, ◌⊎◌, ℕ, ◌+◌, ◌-◌, ◌<◌, ◌≤◌, true, false, List, [], ◌∷◌, ◌++◌, length, take, Some, slice_get, inl, inr, ⊎_elim, refl, ap, sym, ◌∙◌, subst, arith, zero, suc, task_of, Action, Revoke, Grant, PassEntry, actions_of, holder_of, setting_of, so_far, is_leaving, WasLongRevoked, IsFreedIn, AsksOfPass, bounded_of, IsLegal, waits_short, NeedsFromTo, granted_before, granted_to, needs_at}
use Rattle.std.specs.Prelude.{replicate}
use Rattle.cal_policy.specs.declared.history.action.Cause.TheVariants as causes
use Rattle.cal_policy.specs.declared.policy.Policy.TheVariants.{Assured}
use Rattle.cal_assured.specs.Guarantee.{WaitsThrough}
use Rattle.cal_idle.specs.Idle.{LeaveTheSame}
use Rattle.cal_idle.proofs.AssuredPass.{by_what_is_left, waits_there_same, needs_there_same}
use Rattle.cal_idle.proofs.Going.{change_by}
use Rattle.cal_idle.proofs.Leaving.{idle_leave_the_same, same_chain, same_itself}
use Rattle.cal_guarantee.specs.Example.{two_tasks, third_pass, first_pass, second_pass, waiting_pass, last_pass, run_of, TheBoundIsReached, TheWholeBoundIsReached, TheBoundIsExact}
use Rattle.cal_guarantee.proofs.Given.{waits_from_to}
use Rattle.cal_guarantee.proofs.RunPasses.{three_passes, two_passes, shortest_legal, waiting_is_pass, waiting_is_idle, accepted, rooms_of, third_waits, third_needs, waiting_waits, waiting_needs, last_waits, last_needs}

-- ---- the run, after its first three passes ----

abbrev rest : ℕ → List PassEntry
rest n = replicate n waiting_pass ++ last_pass ∷ []

-- a pass of it is the last, or one of those before it
in_rest : (n j : ℕ) (entry : PassEntry) → slice_get (rest n) j ≡ Some entry → ((waiting_pass ≡ entry) × (j < n)) ⊎ ((last_pass ≡ entry) × (j ≡ n))
in_rest zero zero entry e = inr (cc, refl)
in_rest zero (suc j) entry e = cc
in_rest (suc n) zero entry e = inl (cc, omega arith)
in_rest (suc n) (suc j) entry e = ⊎_elim
    (λ wait. let lt = wait.1 in inl (wait.0, omega (arith, lt)))
    (λ end. let same = end.1 in inr (end.0, omega (arith, same)))
    (in_rest n j entry e)

taken : (n j : ℕ) → j ≤ n → take j (rest n) ≡ replicate j waiting_pass
taken n zero le = refl
taken zero (suc j) le = absurd (omega (arith, le))
taken (suc n) (suc j) le = ap (λ l. waiting_pass ∷ l) (taken n j (omega (arith, le)))

rest_length : (n : ℕ) → length (rest n) ≡ n + 1
rest_length zero = refl
rest_length (suc n) = let more = rest_length n in omega (arith, more)

-- the passes before leave what the first three leave
waits_leave : (n : ℕ) → LeaveTheSame (first_pass ∷ second_pass ∷ third_pass ∷ replicate n waiting_pass) three_passes
waits_leave zero = same_itself three_passes
waits_leave (suc n) = same_chain (first_pass ∷ second_pass ∷ third_pass ∷ waiting_pass ∷ replicate n waiting_pass) (first_pass ∷ second_pass ∷ third_pass ∷ replicate n waiting_pass) three_passes
    (idle_leave_the_same three_passes waiting_pass (replicate n waiting_pass) waiting_is_idle) (waits_leave n)

before_leaves : (n j : ℕ) → j ≤ n → LeaveTheSame (first_pass ∷ second_pass ∷ third_pass ∷ take j (rest n)) three_passes
before_leaves n j le = subst (λ (l : List PassEntry). LeaveTheSame (first_pass ∷ second_pass ∷ third_pass ∷ l) three_passes) (sym (taken n j le)) (waits_leave j)

-- one waiting pass more is put in
legal_with : (n : ℕ) → IsLegal two_tasks (first_pass ∷ second_pass ∷ third_pass ∷ rest n)
legal_with zero = shortest_legal
legal_with (suc n) = (change_by Assured by_what_is_left two_tasks three_passes waiting_pass (rest n) waiting_is_idle).1 (waiting_is_pass, legal_with n)

-- ---- what is asked of each pass ----

-- after passes that leave what the first three leave, the second task waits, and needs as many cores, as after these
waits_after : (before : List PassEntry) (entry : PassEntry) → LeaveTheSame before three_passes →
    waits_short (setting_of two_tasks three_passes entry) (so_far (setting_of two_tasks three_passes entry) (bounded_of (setting_of two_tasks three_passes entry))) 1 ≡ true →
    waits_short (setting_of two_tasks before entry) (so_far (setting_of two_tasks before entry) (bounded_of (setting_of two_tasks before entry))) 1 ≡ true
waits_after before entry same waits = waits_there_same (record { table = two_tasks; input = entry.input; one = before; other = three_passes; same = same }) 1 ∙ waits

needs_after : (before : List PassEntry) (entry : PassEntry) → LeaveTheSame before three_passes → needs_at (setting_of two_tasks three_passes entry) 1 ≡ 2 → needs_at (setting_of two_tasks before entry) 1 ≡ 2
needs_after before entry same needs = needs_there_same (record { table = two_tasks; input = entry.input; one = before; other = three_passes; same = same }) 1 ∙ needs

-- no core was revoked d passes before a pass that comes before the last
none_left : (d q c : ℕ) → 2 ≤ q → q < 2 + d → c < 2 → WasLongRevoked (run_of d) d q c → ⊥
none_left d q zero from to lt w =
    let early = w.early in
    let left : is_leaving (holder_of (actions_of two_passes) 0) ≡ true = w.left 2 (omega (arith, early, to)) from in
    let none : is_leaving (holder_of (actions_of two_passes) 0) ≡ false = refl in
    let clash : true ≡ false = sym left ∙ none in cc
none_left d q (suc zero) from to lt w =
    let early = w.early in
    let left : is_leaving (holder_of (actions_of two_passes) 1) ≡ true = w.left 2 (omega (arith, early, to)) from in
    let none : is_leaving (holder_of (actions_of two_passes) 1) ≡ false = refl in
    let clash : true ≡ false = sym left ∙ none in cc
none_left d q (suc (suc c)) from to lt w = absurd (omega (arith, lt))

-- the last frees both
both_freed : (c : ℕ) → c < 2 → IsFreedIn last_pass c
both_freed zero lt = record { place = 0; freed = refl }
both_freed (suc zero) lt = record { place = 1; freed = refl }
both_freed (suc (suc c)) lt = absurd (omega (arith, lt))

asks_third : (d : ℕ) → 1 ≤ d → AsksOfPass two_tasks (run_of d) 1 d 2 third_pass
asks_third d some = record { waiting = third_waits; rooms = rooms_of; left = λ c lt w. absurd (none_left d 2 c (omega arith) (omega (arith, some)) lt w) }

asks_waiting : (d j : ℕ) → j < d - 1 → AsksOfPass two_tasks (run_of d) 1 d (suc (suc (suc j))) waiting_pass
asks_waiting d j lt = record {
  waiting = waits_after (first_pass ∷ second_pass ∷ third_pass ∷ take j (rest (d - 1))) waiting_pass (before_leaves (d - 1) j (omega (arith, lt))) waiting_waits;
  rooms = rooms_of;
  left = λ c low w. absurd (none_left d (suc (suc (suc j))) c (omega arith) (omega (arith, lt)) low w);
}

asks_last : (d j : ℕ) → j ≡ d - 1 → AsksOfPass two_tasks (run_of d) 1 d (suc (suc (suc j))) last_pass
asks_last d j same = record {
  waiting = waits_after (first_pass ∷ second_pass ∷ third_pass ∷ take j (rest (d - 1))) last_pass (before_leaves (d - 1) j (omega (arith, same))) last_waits;
  rooms = rooms_of;
  left = λ c low w. both_freed c low;
}

asks_by : (d : ℕ) → 1 ≤ d → (q : ℕ) (entry : PassEntry) → 2 ≤ q → slice_get (run_of d) q ≡ Some entry → AsksOfPass two_tasks (run_of d) 1 d q entry
asks_by d some zero entry from e = absurd (omega (arith, from))
asks_by d some (suc zero) entry from e = absurd (omega (arith, from))
asks_by d some (suc (suc zero)) entry from e =
    let same : third_pass ≡ entry = cc in
    subst (λ (one : PassEntry). AsksOfPass two_tasks (run_of d) 1 d 2 one) same (asks_third d some)
asks_by d some (suc (suc (suc j))) entry from e = ⊎_elim
    (λ wait. subst (λ (one : PassEntry). AsksOfPass two_tasks (run_of d) 1 d (suc (suc (suc j))) one) wait.0 (asks_waiting d j wait.1))
    (λ end. subst (λ (one : PassEntry). AsksOfPass two_tasks (run_of d) 1 d (suc (suc (suc j))) one) end.0 (asks_last d j end.1))
    (in_rest (d - 1) j entry e)

-- ---- who is granted cores ----

-- neither the third pass nor a waiting one grants a core
third_grants_none : (place core thread class : ℕ) → slice_get third_pass.actions place ≡ Some (Grant core thread class) → ⊥
third_grants_none zero core thread class e = let clash : Revoke 0 (causes.Preempt 1) ≡ Grant core thread class = cc in cc
third_grants_none (suc zero) core thread class e = let clash : Revoke 1 (causes.Preempt 1) ≡ Grant core thread class = cc in cc
third_grants_none (suc (suc place)) core thread class e = cc

waiting_grants_none : (place core thread class : ℕ) → slice_get waiting_pass.actions place ≡ Some (Grant core thread class) → ⊥
waiting_grants_none place core thread class e = cc

late_by : (d : ℕ) (q : ℕ) (entry : PassEntry) → 2 ≤ q → q < 2 + d → slice_get (run_of d) q ≡ Some entry →
    (place core thread class : ℕ) → slice_get entry.actions place ≡ Some (Grant core thread class) → ⊥
late_by d zero entry from to e place core thread class f = absurd (omega (arith, from))
late_by d (suc zero) entry from to e place core thread class f = absurd (omega (arith, from))
late_by d (suc (suc zero)) entry from to e place core thread class f =
    let same : third_pass ≡ entry = cc in
    third_grants_none place core thread class (ap (λ (one : PassEntry). slice_get one.actions place) same ∙ f)
late_by d (suc (suc (suc j))) entry from to e place core thread class f = ⊎_elim
    (λ wait. waiting_grants_none place core thread class (ap (λ (one : PassEntry). slice_get one.actions place) wait.0 ∙ f))
    (λ end. let same = end.1 in absurd (omega (arith, same, to)))
    (in_rest (d - 1) j entry e)

-- so none goes to the second task
none_by_three : granted_to two_tasks 1 (actions_of three_passes) ≡ 0
unfolding task_of
none_by_three = refl

none_granted : (before : List PassEntry) → LeaveTheSame before three_passes → granted_to two_tasks 1 (actions_of before) ≡ 0
none_granted before same = ap (λ (x : List Action). granted_to two_tasks 1 x) same.done ∙ none_by_three

none_by : (d j : ℕ) → j ≤ d - 1 → granted_before two_tasks (run_of d) 1 (suc (suc (suc j))) ≡ 0
none_by d j le = none_granted (first_pass ∷ second_pass ∷ third_pass ∷ take j (rest (d - 1))) (before_leaves (d - 1) j le)

none_first : (d : ℕ) → granted_before two_tasks (run_of d) 1 2 ≡ 0
unfolding task_of
none_first d = refl

none_before : (d q : ℕ) → 2 < q → q ≤ 2 + d → granted_before two_tasks (run_of d) 1 q ≡ 0
none_before d zero from to = absurd (omega (arith, from))
none_before d (suc zero) from to = absurd (omega (arith, from))
none_before d (suc (suc zero)) from to = absurd (omega (arith, from))
none_before d (suc (suc (suc j))) from to = none_by d j (omega (arith, to))

-- ---- the laws ----

waits_through : (d : ℕ) → 1 ≤ d → WaitsThrough two_tasks (run_of d) 1 d 2
waits_through d some = record {
  accepted = accepted;
  legal = legal_with (d - 1);
  own = omega arith;
  some = some;
  passes = let long = rest_length (d - 1) in omega (arith, long, some);
  each = λ q entry from to e. asks_by d some q entry from e;
}

pub bound_reached : TheBoundIsReached
bound_reached d some = record {
  waits = waits_through d some;
  late = λ q entry from to e place core thread class f own. late_by d q entry from to e place core thread class f;
}

-- it needs both cores in each of these passes
record NeedsTwo (before : List PassEntry) (entry : PassEntry) : Type 0 where
  two : needs_at (setting_of two_tasks before entry) 1 ≡ 2

needs_in_rest : (n j : ℕ) (entry : PassEntry) → j ≤ n → slice_get (rest n) j ≡ Some entry → NeedsTwo (first_pass ∷ second_pass ∷ third_pass ∷ take j (rest n)) entry
needs_in_rest n j entry le e =
    let before : List PassEntry = first_pass ∷ second_pass ∷ third_pass ∷ take j (rest n) in
    let leaves : LeaveTheSame before three_passes = before_leaves n j le in ⊎_elim
    (λ wait. subst (λ (one : PassEntry). NeedsTwo before one) wait.0 (record { two = needs_after before waiting_pass leaves waiting_needs }))
    (λ end. subst (λ (one : PassEntry). NeedsTwo before one) end.0 (record { two = needs_after before last_pass leaves last_needs }))
    (in_rest n j entry e)

needs_by : (d q : ℕ) (entry : PassEntry) → 2 ≤ q → q ≤ 2 + d → slice_get (run_of d) q ≡ Some entry → NeedsTwo (take q (run_of d)) entry
needs_by d zero entry from to e = absurd (omega (arith, from))
needs_by d (suc zero) entry from to e = absurd (omega (arith, from))
needs_by d (suc (suc zero)) entry from to e =
    let same : third_pass ≡ entry = cc in
    subst (λ (one : PassEntry). NeedsTwo two_passes one) same (record { two = third_needs })
needs_by d (suc (suc (suc j))) entry from to e = needs_in_rest (d - 1) j entry (omega (arith, to)) e

needs_all : (d n : ℕ) → 1 ≤ d → n ≤ 2 → NeedsFromTo two_tasks (run_of d) 1 d n 2
needs_all d n some most = record {
  waits = waits_from_to two_tasks (run_of d) 1 d 2 (waits_through d some);
  needs = λ q entry from to e. let two = (needs_by d q entry from to e).two in let none = none_first d in omega (arith, two, none, most);
}

pub whole_bound_reached : TheWholeBoundIsReached
whole_bound_reached d some = record { needs = needs_all d 2 some (omega arith); late = none_before d (2 + d) (omega (arith, some)) (omega arith) ∙ sym (none_first d) }

-- were a core given within fewer passes, it would be before the last
pub bound_exact : TheBoundIsExact
bound_exact d n e some one most less within =
    let given = within two_tasks (run_of d) 1 2 (needs_all d n some most) in
    let none = none_before d (2 + e + 1) (omega arith) (omega (arith, less)) in
    let first = none_first d in
    omega (arith, given, none, first, one)
