-- The whole looks of a legal pass fit where the list has come.
use Rattle.cal_linear.proofs.Common.{◌≡◌, ℕ, ◌+◌, ◌≤◌, suc, Bool, true, false, eqb, ltb, cond, List, [], ◌∷◌, ◌++◌, Option, Some, None, refl, sym, ap, subst, ◌∙◌, arith, slice_get, unwrap_or, option_and_then, nat_tests, eqb-true, map-append, Table, Record, Seen, Whole, Busy, Ahead, Foreign, PassEntry, actions_of, looks_of, sent_to, Entry, IsPublication}
use Rattle.cal_signal.specs.declared.shown.Shown.{Shown}
use Rattle.cal_policy.specs.declared.history.input.Input.{Input}
use Rattle.cal_policy.specs.History.Looks.{last_shown, shown_by, shown_at}
use Rattle.cal_policy.specs.Judgement.Judging.{is_foreign, IsInput, IsFitLook}
use Rattle.cal_policy.proofs.HistoryLemmas.OneMore.{shown_push}
use Rattle.cal_linear.proofs.Places.{place_after, with_look, with_looks, look_leaves}
use Rattle.cal_linear.proofs.Looking.{FitsLook, AllFit}

-- the places read last are not above those shown last
abbrev pub AreShown : (ℕ → ℕ) → List PassEntry → Type 0
AreShown places passes = (j : ℕ) → places j ≤ (last_shown (looks_of passes) j).number

-- a look is judged whole only where its commands were sent
judged_sent : (number : ℕ) (rec : Record) (ahead foreign : Bool) → Whole number rec ≡ cond ahead (Ahead number rec) (cond foreign (Foreign number rec) (Whole number rec)) → ahead ≡ false
judged_sent number rec false foreign e = refl
judged_sent number rec true foreign e = absurd (cc)

pub whole_is_sent : (table : Table) (passes : List PassEntry) (input : Input) (k number : ℕ) (rec : Record) → IsInput table passes input → slice_get input.seen k ≡ Some (Whole number rec) →
    rec.taken ≤ sent_to (actions_of passes) k
whole_is_sent table passes input k number rec is e =
    let x = actions_of passes in
    let no : ltb (sent_to x k) rec.taken ≡ false = judged_sent number rec (ltb (sent_to x k) rec.taken) (is_foreign table.cores x k rec) (is.as_judged k (Whole number rec) e) in
    grind (arith, nat_tests, no)

fits_one : (table : Table) (journals : List (List Entry)) (places : ℕ → ℕ) (passes : List PassEntry) (input : Input) (k : ℕ) (seen : Seen) → IsInput table passes input → AreShown places passes →
    ((number : ℕ) (rec : Record) → slice_get input.seen k ≡ Some (Whole number rec) → IsPublication journals k number rec) → slice_get input.seen k ≡ Some seen → FitsLook journals passes (places k) k seen
fits_one table journals places passes input k (Whole number rec) is shown there e =
    let after = (is.looks.fit k (Whole number rec) e).1.not_below in
    let was = shown k in
    (omega (arith, after, was), there number rec e, whole_is_sent table passes input k number rec is e)
fits_one table journals places passes input k (Busy first second) is shown there e = tt
fits_one table journals places passes input k (Ahead number rec) is shown there e = tt
fits_one table journals places passes input k (Foreign number rec) is shown there e = tt

-- so they fit one after another
all_fit : (journals : List (List Entry)) (places : ℕ → ℕ) (passes : List PassEntry) (k : ℕ) (rest : List Seen) →
    ((i j : ℕ) (seen : Seen) → j ≡ k + i → slice_get rest i ≡ Some seen → FitsLook journals passes (places j) j seen) → AllFit journals passes places k rest
all_fit journals places passes k [] fit = tt
all_fit journals places passes k (s ∷ rest) fit = (
  fit 0 k s (omega arith) refl,
  all_fit journals (with_look places k s) passes (k + 1) rest
      (λ i j seen at e.
      let other : eqb k j ≡ false = grind (arith, nat_tests) in
      let P : ℕ → Type 0 = λ from. FitsLook journals passes from j seen in
      subst P (sym (look_leaves places k s j other)) (fit (suc i) j seen (omega (arith, at)) e)),
)

pub pass_fits : (table : Table) (journals : List (List Entry)) (places : ℕ → ℕ) (passes : List PassEntry) (input : Input) → IsInput table passes input → AreShown places passes →
    ((k number : ℕ) (rec : Record) → slice_get input.seen k ≡ Some (Whole number rec) → IsPublication journals k number rec) → AllFit journals passes places 0 input.seen
pass_fits table journals places passes input is shown there =
    all_fit journals places passes 0 input.seen
    (λ i j seen at e. let same : i ≡ j = omega (arith, at) in fits_one table journals places passes input j seen is shown (there j) (sym (ap (slice_get input.seen) same) ∙ e))

-- what was shown last never falls
shown_stays : (last : Shown) (seen : Seen) → IsFitLook last seen → last.number ≤ (unwrap_or (shown_by seen) last).number
shown_stays last (Whole number rec) fit = fit.1.not_below
shown_stays last (Busy first second) fit = omega arith
shown_stays last (Ahead number rec) fit = fit.1.not_below
shown_stays last (Foreign number rec) fit = fit.1.not_below

shown_at_stays : (last : Shown) (o : Option Seen) → ((seen : Seen) → o ≡ Some seen → IsFitLook last seen) → last.number ≤ (unwrap_or (option_and_then shown_by o) last).number
shown_at_stays last None fit = omega arith
shown_at_stays last (Some seen) fit = shown_stays last seen (fit seen refl)

-- places stay below any bound that is not below those that are read
after_below : (place bound : ℕ) (seen : Seen) → place ≤ bound → ((number : ℕ) (rec : Record) → seen ≡ Whole number rec → number ≤ bound) → place_after place seen ≤ bound
after_below place bound (Whole number rec) le read = let most = read number rec refl in omega (arith, le, most)
after_below place bound (Busy first second) le read = le
after_below place bound (Ahead number rec) le read = le
after_below place bound (Foreign number rec) le read = le

look_below : (places bound : ℕ → ℕ) (k : ℕ) (seen : Seen) (j : ℕ) → places j ≤ bound j → ((number : ℕ) (rec : Record) → seen ≡ Whole number rec → number ≤ bound k) → (b : Bool) → eqb k j ≡ b →
    with_look places k seen j ≤ bound j
look_below places bound k seen j le read false e = let same = look_leaves places k seen j e in omega (arith, same, le)
look_below places bound k seen j le read true e =
    let same : with_look places k seen j ≡ place_after (places j) seen = ap (λ (b : Bool). cond b (place_after (places j) seen) (places j)) e in
    let at : bound k ≡ bound j = ap bound (eqb-true k j e) in
    let most = after_below (places j) (bound j) seen le (λ number rec is. let low = read number rec is in omega (arith, low, at)) in
    omega (arith, same, most)

looks_below : (places bound : ℕ → ℕ) (k : ℕ) (rest : List Seen) → ((j : ℕ) → places j ≤ bound j) →
    ((i j number : ℕ) (rec : Record) → j ≡ k + i → slice_get rest i ≡ Some (Whole number rec) → number ≤ bound j) → (j : ℕ) → with_looks places k rest j ≤ bound j
looks_below places bound k [] le read j = le j
looks_below places bound k (s ∷ rest) le read j =
    looks_below (with_look places k s) bound (k + 1) rest
    (λ i. look_below places bound k s i (le i) (λ number rec e. read 0 k number rec (omega arith) (ap Some e)) (eqb k i) refl)
    (λ i m number rec at e. read (suc i) m number rec (omega (arith, at)) e) j

pub shown_after : (table : Table) (places : ℕ → ℕ) (passes : List PassEntry) (entry : PassEntry) → IsInput table passes entry.input → AreShown places passes →
    AreShown (with_looks places 0 entry.input.seen) (passes ++ entry ∷ [])
shown_after table places passes entry is shown j =
    let seen : List Seen = entry.input.seen in
    let bound : ℕ → ℕ = λ i. (unwrap_or (shown_at seen i) (last_shown (looks_of passes) i)).number in
    let all : looks_of (passes ++ entry ∷ []) ≡ looks_of passes ++ seen ∷ [] = map-append (λ (p : PassEntry). p.input.seen) passes (entry ∷ []) in
    let same : (last_shown (looks_of (passes ++ entry ∷ [])) j).number ≡ bound j =
    ap (λ (l : List (List Seen)). (last_shown l j).number) all ∙ ap (λ (s : Shown). s.number) (shown_push (looks_of passes) seen j) in
    let most : with_looks places 0 seen j ≤ bound j = looks_below places bound 0 seen
    (λ i. let up = shown_at_stays (last_shown (looks_of passes) i) (slice_get seen i) (λ s e. is.looks.fit i s e) in let was = shown i in let le : places i ≤ bound i = omega (arith, up, was) in le)
    (λ i m number rec at e.
    let here : slice_get seen m ≡ Some (Whole number rec) = (let eq : i ≡ m = omega (arith, at) in sym (ap (slice_get seen) eq) ∙ e) in
    let eq : bound m ≡ number = ap (λ (o : Option Seen). (unwrap_or (option_and_then shown_by o) (last_shown (looks_of passes) m)).number) here in
    omega (arith, eq)) j in
    omega (arith, same, most)
