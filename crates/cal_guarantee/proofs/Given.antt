-- A guarantee is given: a task that waits through the passes needs a core in each of them.
use Rattle.cal_guarantee.proofs.Common.{◌≡◌, ℕ, ◌+◌, ◌-◌, ◌<◌, ◌≤◌, Bool, true, false, ◌&&◌, cond, eqb, ltb, List, [], ◌∷◌, Option, Some, None, slice_get, refl, ap, ◌∙◌, subst, arith, ⊎_elim, zero, suc, cases_lt, and_parts, eqb-true, ltb-true, is_some, Table, owner_of, thread_of, limit_of, Action, Free, Unban, Ban, Revoke, Cap, Grant, PassEntry, Candidate, Setting, so_far, thread_choice, thread_rank, may_book, best_ranked, pressing, surplus, waits, waits_short, spare, needs, bounded_of, pass_of, IsGiven, GuaranteesAreGiven, sum_by-cons, WaitsFromTo, FirstAndLastAreEnough, grants_to, granted_to, granted_before, NeedsFromTo}
use Rattle.cal_assured.specs.Guarantee.{WaitsThrough}
use Rattle.cal_guarantee.proofs.Sums.{count_some}
use Rattle.cal_guarantee.proofs.Counts.{lacks_short, short_parts}
use Rattle.cal_guarantee.proofs.Own.{waits_parts}
use Rattle.cal_guarantee.proofs.Histories.{setting_in, entry_at}
use Rattle.cal_guarantee.proofs.Windows.{in_range}
use Rattle.cal_guarantee.proofs.GivenWhole.{granted_more, granted_on, whole_given}

-- a short task that waits needs a core
spare_some : (s : Setting) (x : List Action) (t : ℕ) (o : Option (Candidate ℕ)) → thread_choice s x t ≡ o → is_some o ≡ true → 0 < spare s x t
spare_some s x t None e is = cc
spare_some s x t (Some thread) e is =
    let ranked = best_ranked (λ rank best. ltb best rank) (λ j. thread_rank s x (thread_of s.table t j)) (limit_of s.table t) thread e in
    let one = count_some (λ j. is_some (thread_rank s x (thread_of s.table t j))) (limit_of s.table t) thread.number ranked.0 (ap is_some ranked.1) in
    omega (arith, one)

pub needs_some : (s : Setting) (x : List Action) (t : ℕ) → waits_short s x t ≡ true → 0 < needs s x t
needs_some s x t e =
    let both = waits_parts s x t e in
    let parts = and_parts (ltb (surplus s x t) (pressing s x t) && may_book s x t) (is_some (thread_choice s x t)) both.1 in
    let press = ltb-true (surplus s x t) (pressing s x t) (and_parts (ltb (surplus s x t) (pressing s x t)) (may_book s x t) parts.0).0 in
    let some = lacks_short s.table x t both.0 in
    let less = (short_parts s.table x t both.0).1 in
    let there = spare_some s x t (thread_choice s x t) refl parts.1 in
    omega (arith, press, some, less, there)

-- where actions grant it some, one of them grants it one
record Grants (table : Table) (t : ℕ) (acts : List Action) : Type 0 where
  place : ℕ
  core : ℕ
  thread : ℕ
  class : ℕ
  granted : slice_get acts place ≡ Some (Grant core thread class)
  task : owner_of table thread ≡ t

later : (table : Table) (t : ℕ) (a : Action) (acts : List Action) → Grants table t acts → Grants table t (a ∷ acts)
later table t a acts g = record { place = suc g.place; core = g.core; thread = g.thread; class = g.class; granted = g.granted; task = g.task }

by_owner : (table : Table) (t core thread class : ℕ) (acts : List Action) (b : Bool) → eqb (owner_of table thread) t ≡ b → (grants_to table t (Grant core thread class) ≡ 0 → Grants table t acts) →
    Grants table t (Grant core thread class ∷ acts)
by_owner table t core thread class acts true is rest = record {
  place = 0;
  core = core;
  thread = thread;
  class = class;
  granted = refl;
  task = eqb-true (owner_of table thread) t is;
}
by_owner table t core thread class acts false is rest = later table t (Grant core thread class) acts (rest (ap (λ b. cond b 1 0) is))

by_first : (table : Table) (t : ℕ) (a : Action) (acts : List Action) → (grants_to table t a ≡ 0 → Grants table t acts) → Grants table t (a ∷ acts)
by_first table t (Free core) acts rest = later table t (Free core) acts (rest refl)
by_first table t (Unban core) acts rest = later table t (Unban core) acts (rest refl)
by_first table t (Ban core thread started) acts rest = later table t (Ban core thread started) acts (rest refl)
by_first table t (Revoke core cause) acts rest = later table t (Revoke core cause) acts (rest refl)
by_first table t (Cap task limit) acts rest = later table t (Cap task limit) acts (rest refl)
by_first table t (Grant core thread class) acts rest = by_owner table t core thread class acts (eqb (owner_of table thread) t) refl rest

some_grants : (table : Table) (t : ℕ) (acts : List Action) → 0 < granted_to table t acts → Grants table t acts
some_grants table t [] some = absurd (omega (arith, some))
some_grants table t (a ∷ acts) some =
    let split = sum_by-cons (grants_to table t) a acts in
    by_first table t a acts (λ none. some_grants table t acts (omega (arith, some, split, none)))

module _ (table : Table) (history : List PassEntry) (t d p : ℕ) (w : WaitsFromTo table history t d p) where
  -- it needs one in each pass
  needs_one : NeedsFromTo table history t d 1 p
  needs_one = record {
    waits = w;
    needs = λ q entry from to e.
        let s = setting_in table history q entry in
        let some = needs_some s (so_far s (bounded_of s)) t (w.waiting q entry from to e) in
        let back : p + (q - p) ≡ q = omega (arith, from) in
        let P : ℕ → Type 0 = λ j. granted_before table history t p ≤ granted_before table history t j in
        let before = subst P back (granted_on table history t d p w p (q - p) (omega (arith, from, to))) in
        omega (arith, some, before);
  }

  -- and is granted it in one of them
  given_in : (k : ℕ) → k ≤ d + 1 → granted_before table history t p + 1 ≤ granted_before table history t (p + k) → IsGiven table history t d p
  given_in zero le more =
      let same : p + 0 ≡ p = omega arith in
      let P : ℕ → Type 0 = λ j. granted_before table history t p + 1 ≤ granted_before table history t j in
      let clash = subst P same more in absurd (omega (arith, clash))
  given_in (suc k) le more =
      let q = p + k in
      let to : q ≤ p + d = omega (arith, le) in
      let found = entry_at history q (in_range table history t d p w q to) in
      let s = setting_in table history q found.0 in
      let next : p + suc k ≡ q + 1 = omega arith in
      let P : ℕ → Type 0 = λ j. granted_before table history t p + 1 ≤ granted_before table history t j in
      let upto = subst P next more in
      let split = granted_more table history t d p w q found.0 found.1 in ⊎_elim
      (λ (early : granted_before table history t p < granted_before table history t q). given_in k (omega (arith, le)) (omega (arith, early)))
      (λ (none : granted_before table history t q ≤ granted_before table history t p).
      let here = some_grants table t (pass_of s) (omega (arith, upto, split, none)) in
      record {
        pass = q;
        first = omega arith;
        last = to;
        entry = found.0;
        is_pass = found.1;
        place = here.place;
        core = here.core;
        thread = here.thread;
        class = here.class;
        granted = ap (λ xs. slice_get xs here.place) (w.legal.passes q found.0 found.1).actions ∙ here.granted;
        task = here.task;
      })
      (cases_lt (granted_before table history t p) (granted_before table history t q))

-- a task that waits so is granted a core
pub enough_given : FirstAndLastAreEnough
enough_given table history t d p w =
    let whole = whole_given table history t d 1 p (needs_one table history t d p w) in
    let same : p + d + 1 ≡ p + (d + 1) = omega arith in
    let P : ℕ → Type 0 = λ j. granted_before table history t p + 1 ≤ granted_before table history t j in
    given_in table history t d p w (d + 1) (omega arith) (subst P same whole)

-- and so is one that waits as is asked of every pass
pub waits_from_to : (table : Table) (history : List PassEntry) (t d p : ℕ) → WaitsThrough table history t d p → WaitsFromTo table history t d p
waits_from_to table history t d p w = record {
  accepted = w.accepted;
  legal = w.legal;
  own = w.own;
  some = w.some;
  passes = w.passes;
  waiting = λ q entry from to e. (w.each q entry from to e).waiting;
  rooms = λ entry e. (w.each p entry (omega arith) (omega arith) e).rooms;
  left = λ entry e. (w.each (p + d) entry (omega arith) (omega arith) e).left;
}

pub given_to_waiting : GuaranteesAreGiven
given_to_waiting table history t d p w = enough_given table history t d p (waits_from_to table history t d p w)
