-- The order, as it is listed step by step.
use Rattle.cal_linear.proofs.Common.{option_and_then, each_of, PassEntry, place_found, furthest, further, after_looks, ◌≡◌, ◌≢◌, ℕ, ◌+◌, ◌-◌, ◌<◌, ◌≤◌, zero, suc, Bool, true, false, eqb, List, [], ◌∷◌, ◌++◌, length, get_or, take, drop, refl, sym, ap, subst, ◌∙◌, append_assoc, arith, length-append, length-drop, max, set, replicate, get_or-set_other, get_or-set_same, Option, Some, None, take_more, filter_map-append, Entry, Record, Seen, Whole, Event, Read, Watch, Decide, up_to, past, still_after, event_of, events_of, between, journal_at, look_events, whole_looks_from, whole_looks_of, watch_events, looks_from, pass_events, no_front, front_at, places_in, IsFront, AreFronts, get_or_same, each_of_push, nat_tests, eqb-true}
use Rattle.std.proofs.Common.{slice_get}
use mathlib.Core.Path.{fun_ext}
use Rattle.std.proofs.Math.Seq.{take-length}
use Rattle.cal_signal.specs.declared.look.Look.{Look}
use Rattle.cal_linear.proofs.Places.{furthest_more}
use Rattle.cal_linear.specs.declared.front.Front.{Front}
use Rattle.cal_linear.proofs.Cuts.{cut_more}

-- what is left of a list, with its first
pub drop_next : {X : Type 0} (xs : List X) (i : ℕ) (d : X) → i < length xs → drop i xs ≡ get_or xs i d ∷ drop (i + 1) xs
drop_next [] i d lt = absurd (omega (arith, lt))
drop_next (x ∷ xs) zero d lt = refl
drop_next (x ∷ xs) (suc i) d lt = drop_next xs i d (omega (arith, lt)) ∙ ap (λ n. get_or xs i d ∷ drop n (x ∷ xs)) (let e : suc (i + 1) ≡ suc i + 1 = omega arith in e)

-- one more entry's events
pub events_more : (k : ℕ) (xs : List Entry) (i : ℕ) (d : Entry) (begun es more : List Event) → i < length xs → es ≡ begun ++ events_of k (take i xs) → more ≡ es ++ events_of k (get_or xs i d ∷ []) →
    more ≡ begun ++ events_of k (take (i + 1) xs)
events_more k xs i d begun es more lt was next =
    next ∙ ap (λ l. l ++ events_of k (get_or xs i d ∷ [])) was ∙ append_assoc begun (events_of k (take i xs)) (events_of k (get_or xs i d ∷ []))
    ∙ ap (λ l. begun ++ l) (sym (filter_map-append (event_of k) (take i xs) (get_or xs i d ∷ [])) ∙ ap (events_of k) (sym (take_more xs i d lt)))

-- one more entry of a front
pub cut_next : (xs : List Entry) (i left count : ℕ) (d : Entry) → i < length xs → (left ≡ 0 → ⊥) → take i xs ++ up_to left (drop i xs) ≡ up_to count xs →
    take (i + 1) xs ++ up_to (still_after (get_or xs i d) (left - 1)) (drop (i + 1) xs) ≡ up_to count xs
cut_next xs i zero count d lt some was = absurd (some refl)
cut_next xs i (suc left) count d lt some was =
    let x : Entry = get_or xs i d in
    let one : suc left - 1 ≡ left = omega arith in
    ap (λ l. l ++ up_to (still_after x (suc left - 1)) (drop (i + 1) xs)) (take_more xs i d lt) ∙ append_assoc (take i xs) (x ∷ []) (up_to (still_after x (suc left - 1)) (drop (i + 1) xs))
    ∙ ap (λ n. take i xs ++ x ∷ up_to (still_after x n) (drop (i + 1) xs)) one ∙ ap (λ l. take i xs ++ up_to (suc left) l) (sym (drop_next xs i d lt)) ∙ was

pub past_drop : (n : ℕ) (xs : List Entry) → past n xs ≡ drop (length (up_to n xs)) xs
past_drop zero xs = refl
past_drop (suc n) [] = refl
past_drop (suc n) (x ∷ xs) = past_drop (still_after x n) xs

pub rest_of : {X : Type 0} (xs : List X) (n : ℕ) → take (length xs - n) (drop n xs) ≡ drop n xs
rest_of xs n = ap (λ k. take k (drop n xs)) (sym (length-drop n xs)) ∙ take-length (drop n xs)

-- a front that goes on from a place to a further one
pub reach : (xs rest : List Entry) (from to entries count more : ℕ) → rest ≡ drop entries xs → entries ≡ length (up_to from xs) → more ≡ to - from → count ≡ length (up_to more rest) →
    entries + count ≡ length (up_to (max from to) xs)
reach xs rest from to entries count more there at gap e =
    let further : max from to ≡ from + (to - from) = omega arith in
    let left : rest ≡ past from xs = there ∙ ap (λ n. drop n xs) at ∙ sym (past_drop from xs) in
    let all = ap (λ (l : List Entry). length l) (cut_more from (to - from) (max from to) xs further) in
    let both = length-append (up_to from xs) (up_to (to - from) (past from xs)) in
    let part : count ≡ length (up_to (to - from) (past from xs)) = e ∙ ap (λ n. length (up_to n rest)) gap ∙ ap (λ l. length (up_to (to - from) l)) left in
    omega (arith, at, all, both, part)

pub reached : (xs rest : List Entry) (from to entries count more place : ℕ) → place ≡ max from to → rest ≡ drop entries xs → entries ≡ length (up_to from xs) → entries ≤ length xs → more ≡ to - from → count ≡ length (up_to more rest) →
    count ≤ length rest → IsFront xs (record { place = place; entries = length xs - (length rest - count) })
reached xs rest from to entries count more place far there at within gap e few =
    let size : length rest ≡ length xs - entries = ap (λ (l : List Entry). length l) there ∙ length-drop entries xs in
    let all = reach xs rest from to entries count more there at gap e in
    let same : length (up_to place xs) ≡ length (up_to (max from to) xs) = ap (λ n. length (up_to n xs)) far in
    record { count = omega (arith, size, all, within, few, same); within = omega arith }

-- the part of the journal that a Read calls for, and the Read
pub read_part : (k : ℕ) (xs rest : List Entry) (from to entries more : ℕ) (rec : Record) (seen : Seen) (begun es new : List Event) → rest ≡ drop entries xs → entries ≡ length (up_to from xs) → more ≡ to - from →
    seen ≡ Whole to rec → es ≡ begun ++ events_of k (up_to more rest) → new ≡ es ++ Read k to ∷ [] → new ≡ begun ++ look_events k xs from seen
read_part k xs rest from to entries more rec seen begun es new there at gap is was next =
    let left : rest ≡ past from xs = there ∙ ap (λ n. drop n xs) at ∙ sym (past_drop from xs) in
    let part : events_of k (up_to more rest) ≡ events_of k (between from to xs) = ap (λ n. events_of k (up_to n rest)) gap ∙ ap (λ l. events_of k (up_to (to - from) l)) left in
    next ∙ ap (λ l. l ++ Read k to ∷ []) was ∙ append_assoc begun (events_of k (up_to more rest)) (Read k to ∷ [])
    ∙ ap (λ l. begun ++ (l ++ Read k to ∷ [])) part ∙ ap (λ s. begun ++ look_events k xs from s) (sym is)

-- one look more of a pass: its own thread's place is what it makes of it, the others' stay
take_none : {X : Type 0} (xs : List X) (k : ℕ) → slice_get (take k xs) k ≡ None
take_none xs zero = refl
take_none [] (suc k) = refl
take_none (x ∷ xs) (suc k) = take_none xs k

place_first : (begun : ℕ → ℕ) (looks : List Seen) (k : ℕ) → after_looks begun (take k looks) k ≡ begun k
place_first begun looks k = ap (λ (o : Option Seen). further (begun k) (option_and_then place_found o)) (take_none looks k)

take_here : {X : Type 0} (xs : List X) (k : ℕ) (d : X) → k < length xs → slice_get (take (suc k) xs) k ≡ Some (get_or xs k d)
take_here [] k d lt = absurd (omega (arith, lt))
take_here (x ∷ xs) zero d lt = refl
take_here (x ∷ xs) (suc k) d lt = take_here xs k d (omega (arith, lt))

take_other : {X : Type 0} (xs : List X) (k j : ℕ) → (k ≡ j → ⊥) → slice_get (take (suc k) xs) j ≡ slice_get (take k xs) j
take_other [] zero j ne = refl
take_other [] (suc k) j ne = refl
take_other (x ∷ xs) zero zero ne = absurd (ne refl)
take_other (x ∷ xs) zero (suc j) ne = refl
take_other (x ∷ xs) (suc k) zero ne = refl
take_other (x ∷ xs) (suc k) (suc j) ne = take_other xs k j (λ e. ne (ap suc e))

pub places_set : (begun : ℕ → ℕ) (fronts : List Front) (k : ℕ) (now : Front) (looks : List Seen) (d : Seen) → k < length fronts → k < length looks → now.place ≡ further (places_in fronts k) (place_found (get_or looks k d)) →
    places_in fronts ≡ after_looks begun (take k looks) → places_in (set fronts k now) ≡ after_looks begun (take (k + 1) looks)
places_set begun fronts k now looks d lt low e was = fun_ext (λ j. one j (eqb k j) refl) ∙ ap (λ n. after_looks begun (take n looks)) (let next : suc k ≡ k + 1 = omega arith in next)
  where
    one : (j : ℕ) (b : Bool) → eqb k j ≡ b → places_in (set fronts k now) j ≡ after_looks begun (take (suc k) looks) j
    one j false ne =
        let other : j ≢ k = grind (arith, nat_tests) in
        let apart : k ≡ j → ⊥ = λ same. other (sym same) in
        ap (λ (l : Front). l.place) (get_or-set_other fronts k j now no_front other) ∙ ap (λ (f : ℕ → ℕ). f j) was
        ∙ ap (λ (o : Option Seen). further (begun j) (option_and_then place_found o)) (sym (take_other looks k j apart))
    one j true is =
        let P : ℕ → Type 0 = λ i. places_in (set fronts k now) i ≡ after_looks begun (take (suc k) looks) i in
        subst P (eqb-true k j is)
        (ap (λ (l : Front). l.place) (get_or-set_same fronts k now no_front lt) ∙ e
        ∙ ap (λ n. further n (place_found (get_or looks k d))) (ap (λ (f : ℕ → ℕ). f k) was ∙ place_first begun looks k)
        ∙ ap (λ (o : Option Seen). further (begun k) (option_and_then place_found o)) (sym (take_here looks k d low)))

pub fronts_set : (journals : List (List Entry)) (listed : List Front) (k : ℕ) (now : Front) → AreFronts journals listed → k < length listed → IsFront (journal_at journals k) now → AreFronts journals (set listed k now)
fronts_set journals listed k now are lt is j = one (eqb k j) refl
  where
    one : (b : Bool) → eqb k j ≡ b → IsFront (journal_at journals j) (front_at (set listed k now) j)
    one false ne = let other : j ≢ k = grind (arith, nat_tests) in let P : Front → Type 0 = λ l. IsFront (journal_at journals j) l in subst P (sym (get_or-set_other listed k j now no_front other)) (are j)
    one true same =
        let P : ℕ → Type 0 = λ i. IsFront (journal_at journals i) (front_at (set listed k now) i) in
        let Q : Front → Type 0 = λ l. IsFront (journal_at journals k) l in
        subst P (eqb-true k j same) (subst Q (sym (get_or-set_same listed k now no_front lt)) is)

-- the default of a place that is there does not matter
pub get_default : {X : Type 0} (xs : List X) (k : ℕ) (d e : X) → k < length xs → get_or xs k d ≡ get_or xs k e
get_default [] k d e lt = absurd (omega (arith, lt))
get_default (x ∷ xs) zero d e lt = refl
get_default (x ∷ xs) (suc k) d e lt = get_default xs k d e (omega (arith, lt))

-- one look of a pass
pub record LookStep (journals : List (List Entry)) (begun : ℕ → ℕ) (fronts : List Front) (k : ℕ) (looks : List Seen) (new all : List Event) : Type 0 where
  pub appended : new ++ looks_from journals begun (k + 1) (drop (k + 1) looks) ≡ all
  pub places : places_in fronts ≡ after_looks begun (take (k + 1) looks)
  pub are : AreFronts journals fronts

pub look_step : (journals : List (List Entry)) (begun : ℕ → ℕ) (fronts : List Front) (k : ℕ) (looks : List Seen) (d : Seen) (journal : List Entry) (now : Front) (es new all : List Event) →
    k < length looks → k < length fronts → journal ≡ journal_at journals k → new ≡ es ++ look_events k journal (places_in fronts k) (get_or looks k d) → now.place ≡ further (places_in fronts k) (place_found (get_or looks k d)) →
    IsFront journal now → es ++ looks_from journals begun k (drop k looks) ≡ all → places_in fronts ≡ after_looks begun (take k looks) → AreFronts journals fronts →
    LookStep journals begun (set fronts k now) k looks new all
look_step journals begun fronts k looks d journal now es new all low lt own next place is was places are =
    let seen : Seen = get_or looks k d in
    let rest : List Event = looks_from journals begun (k + 1) (drop (k + 1) looks) in
    let split : drop k looks ≡ seen ∷ drop (k + 1) looks = drop_next looks k d low in
    let from : places_in fronts k ≡ begun k = ap (λ (f : ℕ → ℕ). f k) places ∙ place_first begun looks k in
    let P : List Entry → Type 0 = λ l. IsFront l now in
    record {
      appended = ap (λ l. l ++ rest) (next ∙ ap (λ l. es ++ look_events k l (places_in fronts k) seen) own ∙ ap (λ n. es ++ look_events k (journal_at journals k) n seen) from)
          ∙ append_assoc es (look_events k (journal_at journals k) (begun k) seen) rest ∙ ap (λ l. es ++ looks_from journals begun k l) (sym split) ∙ was;
      places = places_set begun fronts k now looks d lt low place places;
      are = fronts_set journals fronts k now are lt (subst P own is);
    }

-- one pass
pub record PassStep (journals : List (List Entry)) (fronts : List Front) (passes : List PassEntry) (begun new : List Event) : Type 0 where
  pub appended : new ≡ begun ++ each_of (pass_events journals) passes
  pub places : places_in fronts ≡ furthest passes

pub pass_step : (journals : List (List Entry)) (fronts now : List Front) (history : List PassEntry) (i : ℕ) (d entry : PassEntry) (begun es mid new : List Event) → i < length history → entry ≡ get_or history i d →
    es ≡ begun ++ each_of (pass_events journals) (take i history) → places_in fronts ≡ furthest (take i history) → mid ≡ es ++ looks_from journals (places_in fronts) 0 entry.input.seen →
    places_in now ≡ after_looks (places_in fronts) entry.input.seen → new ≡ mid ++ Decide entry ∷ [] → PassStep journals now (take (i + 1) history) begun new
pass_step journals fronts now history i d entry begun es mid new lt is was places looked after decided =
    let f : List PassEntry → PassEntry → List Event = pass_events journals in
    let passes : List PassEntry = take i history in
    let looks : List Event = looks_from journals (furthest passes) 0 entry.input.seen in
    let last : List Event = Decide entry ∷ [] in
    let longer : take (i + 1) history ≡ passes ++ entry ∷ [] = take_more history i d lt ∙ ap (λ e. passes ++ e ∷ []) (sym is) in
    record {
      appended = decided ∙ ap (λ l. l ++ last) (looked ∙ ap (λ (g : ℕ → ℕ). es ++ looks_from journals g 0 entry.input.seen) places) ∙ append_assoc es looks last
          ∙ ap (λ l. l ++ (looks ++ last)) was ∙ append_assoc begun (each_of f passes) (looks ++ last)
          ∙ ap (λ l. begun ++ l) (sym (each_of_push f passes entry) ∙ ap (each_of f) (sym longer));
      places = after ∙ ap (λ (g : ℕ → ℕ). after_looks g entry.input.seen) places ∙ furthest_more passes entry ∙ ap furthest (sym longer);
    }

-- what is past a place is what is left behind its entries
pub past_is_rest : (xs : List Entry) (place entries : ℕ) → entries ≡ length (up_to place xs) → take (length xs - entries) (drop entries xs) ≡ past place xs
past_is_rest xs place entries at = rest_of xs entries ∙ ap (λ n. drop n xs) at ∙ sym (past_drop place xs)

watch_events-append : (xs ys : List (ℕ × ℕ)) → watch_events (xs ++ ys) ≡ watch_events xs ++ watch_events ys
watch_events-append [] ys = refl
watch_events-append (x ∷ xs) ys = ap (λ l. Watch x.0 x.1 ∷ l) (watch_events-append xs ys)

-- one round more
pub round_next : (watched : List (List Look)) (i : ℕ) (d round : List Look) (es new all : List Event) → i < length watched → round ≡ get_or watched i d → new ≡ es ++ watch_events (whole_looks_from 0 round) →
    es ++ watch_events (whole_looks_of (drop i watched)) ≡ all → new ++ watch_events (whole_looks_of (drop (i + 1) watched)) ≡ all
round_next watched i d round es new all lt is next was =
    let rest : List (List Look) = drop (i + 1) watched in
    let split : drop i watched ≡ round ∷ rest = drop_next watched i d lt ∙ ap (λ r. r ∷ rest) (sym is) in
    ap (λ l. l ++ watch_events (whole_looks_of rest)) next ∙ append_assoc es (watch_events (whole_looks_from 0 round)) (watch_events (whole_looks_of rest))
    ∙ ap (λ l. es ++ l) (sym (watch_events-append (whole_looks_from 0 round) (whole_looks_of rest))) ∙ ap (λ l. es ++ watch_events (whole_looks_of l)) (sym split) ∙ was

-- at first nothing is listed
pub places_none : (n : ℕ) → places_in (replicate n no_front) ≡ furthest []
places_none n = fun_ext (λ k. ap (λ (l : Front). l.place) (get_or_same n k no_front))
