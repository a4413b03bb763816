-- The Watches, after all else.
use Rattle.cal_linear.proofs.Common.{◌≡◌, ℕ, ◌+◌, ◌-◌, ◌<◌, ◌≤◌, zero, suc, Bool, true, false, eqb, cond, List, [], ◌∷◌, ◌++◌, length, Some, None, refl, sym, ap, subst, ◌∙◌, append_assoc, append-nil, arith, ⊎_elim, slice_get, filter_map, option_to_list, nat_tests, cases_lt, Table, Policy, Record, last_from, FitsFrom, PassEntry, threads_of_table, Entry, records_of, filter_map-push, Event, Watch, history_in, watches_in, steps_of, journal_at, whole_looks_from, whole_looks_of, watch_events, linear, passes_and_rests, AreOfOneRunBy, AreWatched, page_at, IsLinearisedBy, others-change-nothing}
use mathlib.Core.Option.{some}
use lib.ListN.{get_elem?}
use Rattle.cal_signal.specs.declared.look.Look.{Look}
use Rattle.cal_signal.specs.declared.look.Look.TheVariants as found
use Rattle.cal_signal.specs.Rounds.{found_at, found_by}
use Rattle.cal_linear.proofs.Along.{journal_along, published_along, place_at, watch_floor_along}
use Rattle.cal_linear.proofs.LegalAlong.{IsLegalAlong}
use Rattle.cal_linear.proofs.Lists.{last_from_push}
use Rattle.cal_linear.proofs.OneMore.{history_push, journal_push, watches_push, legal_push}
use Rattle.cal_linear.proofs.Passing.{all_on}
use Rattle.cal_linear.proofs.Bridge.{agrees, legal_there}

-- the place that was watched last of each thread, after one more Watch
abbrev pub with_watch : (ℕ → ℕ) → ℕ × ℕ → ℕ → ℕ
with_watch floors watch j = cond (eqb watch.0 j) watch.1 (floors j)

-- Watches that may come one after another
abbrev pub AllMayCome : Table → List (List Entry) → (ℕ → ℕ) → List (ℕ × ℕ) → Type 0
AllMayCome table journals floors [] = Unit {0}
AllMayCome table journals floors (watch ∷ watches) =
    (watch.0 < threads_of_table table) × (floors watch.0 ≤ watch.1) × (watch.1 ≤ length (records_of (journal_at journals watch.0))) × AllMayCome table journals (with_watch floors watch) watches

-- all is listed, and these Watches
pub record HasWatched (policy : Policy) (table : Table) (history : List PassEntry) (journals : List (List Entry)) (floors : ℕ → ℕ) (watches : List (ℕ × ℕ)) (es : List Event) : Type 0 where
  pub legal : IsLegalAlong policy table es
  pub decided : history_in es ≡ history
  pub done : (j : ℕ) → journal_along es j ≡ steps_of (journal_at journals j)
  pub watched : watches_in es ≡ watches
  pub floors_are : (j : ℕ) → watch_floor_along es j ≡ floors j

floor_after : (places : List ℕ) (old new : ℕ) (b : Bool) → last_from 0 places ≡ old → last_from 0 (places ++ option_to_list (cond b (Some new) None)) ≡ cond b new old
floor_after places old new false e = ap (last_from 0) (append-nil places) ∙ e
floor_after places old new true e = last_from_push 0 places new

watch_floor_push : (es : List Event) (k place j : ℕ) → watch_floor_along (es ++ Watch k place ∷ []) j ≡ last_from 0 (filter_map (place_at j) (watches_in es) ++ option_to_list (place_at j (k, place)))
watch_floor_push es k place j = ap (λ (l : List (ℕ × ℕ)). last_from 0 (filter_map (place_at j) l)) (watches_push es (Watch k place)) ∙ ap (last_from 0) (filter_map-push (place_at j) (watches_in es) (k, place))

watch_on : (policy : Policy) (table : Table) (history : List PassEntry) (journals : List (List Entry)) (floors : ℕ → ℕ) (watches : List (ℕ × ℕ)) (es : List Event) (k place : ℕ) → HasWatched policy table history journals floors watches es →
    k < threads_of_table table → floors k ≤ place → place ≤ length (records_of (journal_at journals k)) →
    HasWatched policy table history journals (with_watch floors (k, place)) (watches ++ (k, place) ∷ []) (es ++ Watch k place ∷ [])
watch_on policy table history journals floors watches es k place has low above within =
    let e : Event = Watch k place in
    let floor = has.floors_are k in
    let count : length (published_along es k) ≡ length (records_of (journal_at journals k)) = ap (λ (l : List Record). length l) (ap records_of (has.done k) ∙ (others-change-nothing (journal_at journals k)).1) in
    record {
      legal = legal_push policy table es e has.legal (low, omega (arith, floor, above), omega (arith, count, within));
      decided = history_push es e ∙ append-nil (history_in es) ∙ has.decided;
      done = λ j. journal_push j es e ∙ append-nil (journal_along es j) ∙ has.done j;
      watched = watches_push es e ∙ ap (λ (l : List (ℕ × ℕ)). l ++ (k, place) ∷ []) has.watched;
      floors_are = λ j. watch_floor_push es k place j ∙ floor_after (filter_map (place_at j) (watches_in es)) (floors j) place (eqb k j) (has.floors_are j);
    }

-- some Watches were listed, whatever the floors are now
pub record HasListed (policy : Policy) (table : Table) (history : List PassEntry) (journals : List (List Entry)) (watches : List (ℕ × ℕ)) (es : List Event) : Type 0 where
  pub legal : IsLegalAlong policy table es
  pub decided : history_in es ≡ history
  pub done : (j : ℕ) → journal_along es j ≡ steps_of (journal_at journals j)
  pub watched : watches_in es ≡ watches

pub watches_on : (policy : Policy) (table : Table) (history : List PassEntry) (journals : List (List Entry)) (floors : ℕ → ℕ) (watches more : List (ℕ × ℕ)) (es : List Event) → HasWatched policy table history journals floors watches es →
    AllMayCome table journals floors more → HasListed policy table history journals (watches ++ more) (es ++ watch_events more)
watches_on policy table history journals floors watches [] es has come =
    let P : List Event → Type 0 = λ new. HasListed policy table history journals (watches ++ []) new in
    subst P (sym (append-nil es)) (record { legal = has.legal; decided = has.decided; done = has.done; watched = has.watched ∙ sym (append-nil watches) })
watches_on policy table history journals floors watches (watch ∷ more) es has come =
    let e : Event = Watch watch.0 watch.1 in
    let next = watch_on policy table history journals floors watches es watch.0 watch.1 has come.0 come.1 come.2 in
    let all = watches_on policy table history journals (with_watch floors watch) (watches ++ watch ∷ []) more (es ++ e ∷ []) next come.3 in
    let P : List Event → Type 0 = λ new. HasListed policy table history journals (watches ++ watch ∷ more) new in
    let Q : List (ℕ × ℕ) → Type 0 = λ l. HasListed policy table history journals l ((es ++ e ∷ []) ++ watch_events more) in
    subst P (append_assoc es (e ∷ []) (watch_events more)) (subst Q (append_assoc watches (watch ∷ []) more) all)

-- looks that fit their pages, as Watches that may come one after another
get_within : {X : Type 0} (xs : List X) (i : ℕ) (x : X) → get_elem? xs i ≡ some x → i < length xs
get_within [] i x e = absurd (cc)
get_within (y ∷ xs) zero x e = omega arith
get_within (y ∷ xs) (suc i) x e = let lt = get_within xs i x e in omega (arith, lt)

-- what is still to be found of each thread fits its page
abbrev pub FitsAll : List (List Entry) → (ℕ → ℕ) → (ℕ → List (ℕ × Record)) → Type 0
FitsAll journals floors found = (j : ℕ) → FitsFrom (page_at journals j) (floors j) (found j)

-- a floor that does not change keeps what fits
fits_same : (page : List Record) (old new : ℕ) (looks : List (ℕ × Record)) → new ≡ old → FitsFrom page old looks → FitsFrom page new looks
fits_same page old new looks e fits = let P : ℕ → Type 0 = λ n. FitsFrom page n looks in subst P (sym e) fits

-- the looks of one round, from thread k on, and then the other rounds
round_may_come : (table : Table) (journals : List (List Entry)) (floors : ℕ → ℕ) (k : ℕ) (looks : List Look) (rounds : List (List Look)) → k + length looks ≡ threads_of_table table →
    ((i j : ℕ) → j ≡ k + i → FitsFrom (page_at journals j) (floors j) (found_by (slice_get looks i) ++ found_at rounds j)) →
    ((j : ℕ) → j < k → FitsFrom (page_at journals j) (floors j) (found_at rounds j)) →
    ((floors : ℕ → ℕ) → FitsAll journals floors (found_at rounds) → AllMayCome table journals floors (whole_looks_of rounds)) →
    AllMayCome table journals floors (whole_looks_from k looks ++ whole_looks_of rounds)
round_may_come table journals floors k [] rounds count ahead behind then = then floors (λ j. ⊎_elim (λ lt. behind j lt) (λ le. ahead (j - k) j (omega (arith, le))) (cases_lt j k))
round_may_come table journals floors k (found.Busy first second ∷ looks) rounds count ahead behind then =
    round_may_come table journals floors (k + 1) looks rounds (omega (arith, count)) (λ i j e. ahead (suc i) j (omega (arith, e)))
    (λ j lt. ⊎_elim (λ less. behind j less) (λ le. ahead 0 j (omega (arith, lt, le))) (cases_lt j k)) then
round_may_come table journals floors k (found.Whole number rec ∷ looks) rounds count ahead behind then =
    let here = ahead 0 k (omega arith) in
    let within = get_within (page_at journals k) number rec here.1 in
    let next : ℕ → ℕ = with_watch floors (k, number) in
    let own : next k ≡ number = ap (λ (b : Bool). cond b number (floors k)) (let same : eqb k k ≡ true = grind (arith, nat_tests) in same) in
    let other : (j : ℕ) → eqb k j ≡ false → next j ≡ floors j = λ j e. ap (λ (b : Bool). cond b number (floors j)) e in (
      omega (arith, count),
      here.0,
      omega (arith, within),
      round_may_come table journals next (k + 1) looks rounds (omega (arith, count))
          (λ i j e. fits_same (page_at journals j) (floors j) (next j) (found_by (slice_get looks i) ++ found_at rounds j) (other j (let ne : eqb k j ≡ false = grind (arith, nat_tests) in ne)) (ahead (suc i) j (omega (arith, e))))
          (λ j lt. ⊎_elim
          (λ less. fits_same (page_at journals j) (floors j) (next j) (found_at rounds j) (other j (let ne : eqb k j ≡ false = grind (arith, nat_tests) in ne)) (behind j less))
          (λ le. let P : ℕ → Type 0 = λ i. FitsFrom (page_at journals i) (next i) (found_at rounds i) in let at : k ≡ j = omega (arith, lt, le) in
          subst P at (fits_same (page_at journals k) number (next k) (found_at rounds k) own here.2))
          (cases_lt j k)) then,
    )

pub rounds_may_come : (table : Table) (journals : List (List Entry)) (rounds : List (List Look)) → ((r : ℕ) (round : List Look) → slice_get rounds r ≡ Some round → length round ≡ threads_of_table table) →
    (floors : ℕ → ℕ) → FitsAll journals floors (found_at rounds) → AllMayCome table journals floors (whole_looks_of rounds)
rounds_may_come table journals [] sizes floors fits = tt
rounds_may_come table journals (round ∷ rounds) sizes floors fits =
    round_may_come table journals floors 0 round rounds (let size = sizes 0 round refl in omega (arith, size))
    (λ i j e. let same : j ≡ i = omega (arith, e) in
    let P : ℕ → Type 0 = λ n. FitsFrom (page_at journals j) (floors j) (found_by (slice_get round n) ++ found_at rounds j) in subst P same (fits j))
    (λ j lt. absurd (omega (arith, lt)))
    (λ floors fits. rounds_may_come table journals rounds (λ r round e. sizes (suc r) round e) floors fits)

-- all of a run's events, as they are told here
all_listed : (policy : Policy) (table : Table) (history : List PassEntry) (journals : List (List Entry)) (watched : List (List Look)) → AreOfOneRunBy policy table history journals → AreWatched table journals watched →
    HasListed policy table history journals (whole_looks_of watched) (linear history journals watched)
all_listed policy table history journals watched run seen =
    let all = all_on policy table history journals run in
    let none : (j : ℕ) → watch_floor_along (passes_and_rests history journals) j ≡ 0 = λ j. ap (λ (l : List (ℕ × ℕ)). last_from 0 (filter_map (place_at j) l)) all.unwatched in
    watches_on policy table history journals (λ j. 0) [] (whole_looks_of watched) (passes_and_rests history journals)
    (record { legal = all.legal; decided = all.decided; done = all.done; watched = all.unwatched; floors_are = none }) (rounds_may_come table journals watched seen.rounds (λ j. 0) seen.fit)

-- and as the world tells them
pub linear_on : (policy : Policy) (table : Table) (history : List PassEntry) (journals : List (List Entry)) (watched : List (List Look)) → AreOfOneRunBy policy table history journals → AreWatched table journals watched →
    IsLinearisedBy policy table history journals watched (linear history journals watched)
linear_on policy table history journals watched run seen =
    let listed = all_listed policy table history journals watched run seen in
    let same = agrees policy table (linear history journals watched) listed.legal in
    record {
      legal = legal_there policy table (linear history journals watched) listed.legal;
      decided = listed.decided;
      done = λ k. same.journals k ∙ listed.done k;
      watches = listed.watched;
    }
