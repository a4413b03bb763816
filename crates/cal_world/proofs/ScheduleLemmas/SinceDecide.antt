-- The looks since the last Decide, one event more: they stand in thread order.
use Rattle.cal_world.proofs.Common.{◌≡◌, ℕ, ◌+◌, ◌≤◌, zero, suc, Bool, true, false, cond, eqb, List, [], ◌∷◌, ◌++◌, length, length-append, drop, Option, Some, None, refl, sym, ap, ◌∙◌, arith, subst, ⊎_elim, slice_get, filter_map, unwrap_or, option_or, append-nil, drop-append-le, filter_map-append, nat_tests, slice_get_within, drop_of_length-le, Table, Seen, Whole, Busy, Ahead, Foreign, PassEntry, last_of_push, unwrap_or_or, Event, Take, Yield, Publish, Read, Skip, Decide, Watch, decided_at, since_decide, record_at, look_made, looks_since, place_read, read_floor, KeepsNone, IsInTurn, slice_get_parts}
use Rattle.cal_policy.specs.History.Lists.{last_after, last_of}

-- the last Decide is within the list
within_one : (before : List Event) (event : Event) → unwrap_or (decided_at before event) 0 ≤ length before + 1
within_one before (Decide entry) = omega arith
within_one before (Take thread) = omega arith
within_one before (Yield thread) = omega arith
within_one before (Publish thread rec) = omega arith
within_one before (Read thread number) = omega arith
within_one before (Skip thread seen) = omega arith
within_one before (Watch thread number) = omega arith

or_within : (o p : Option ℕ) (n : ℕ) → unwrap_or o 0 ≤ n → unwrap_or p 0 ≤ n → unwrap_or (option_or o p) 0 ≤ n
or_within None p n e f = f
or_within (Some m) p n e f = e

decided_within : (before events : List Event) → unwrap_or (last_after decided_at before events) 0 ≤ length before + length events
decided_within before [] = omega arith
decided_within before (event ∷ events) =
    let rest = decided_within (before ++ event ∷ []) events in
    let one = within_one before event in
    or_within (last_after decided_at (before ++ event ∷ []) events) (decided_at before event) (length before + length (event ∷ events))
    (omega (arith, length-append before (event ∷ []))) (omega arith)

-- an event that is no Decide stands among those since the last one
pub since_more : (before : List Event) (event : Event) → decided_at before event ≡ None → since_decide (before ++ event ∷ []) ≡ since_decide before ++ event ∷ []
since_more before event e =
    let last : last_of decided_at (before ++ event ∷ []) ≡ last_of decided_at before =
    last_of_push decided_at before event ∙ ap (λ o. option_or o (last_of decided_at before)) e in
    ap (λ o. drop (unwrap_or o 0) (before ++ event ∷ [])) last
    ∙ drop-append-le (unwrap_or (last_of decided_at before) 0) before (event ∷ []) (let low = decided_within [] before in omega arith)

-- after a Decide there is none
pub since_none : (before : List Event) (entry : PassEntry) → since_decide (before ++ Decide entry ∷ []) ≡ []
since_none before entry =
    ap (λ o. drop (unwrap_or o 0) (before ++ Decide entry ∷ [])) (last_of_push decided_at before (Decide entry))
    ∙ drop_of_length-le (before ++ Decide entry ∷ []) (omega (arith, length-append before (Decide entry ∷ [])))

-- what a look at thread k shows is what the page of k has at the floor
abbrev pub IsLookAt : List Event → ℕ → ℕ → Seen → Type 0
IsLookAt all k floor (Whole number rec) = (number ≡ floor) × (rec ≡ record_at all k number)
IsLookAt all k floor _ = Unit {0}

-- the looks since the last Decide are at the threads in order, whichever events `all` tell the
-- pages
pub record LooksInOrder (events : List Event) : Type 0 where
  pub at : (all : List Event) (k : ℕ) (seen : Seen) → slice_get (filter_map (look_made all) (since_decide events)) k ≡ Some seen → IsLookAt all k (read_floor events k) seen

-- the floors, one event more
pub floor_more : (before : List Event) (event : Event) (k : ℕ) → read_floor (before ++ event ∷ []) k ≡ unwrap_or (place_read k before event) (read_floor before k)
floor_more before event k = ap (λ o. unwrap_or o 0) (last_of_push (place_read k) before event) ∙ unwrap_or_or (place_read k before event) (last_of (place_read k) before) 0

pub floor_same : (before : List Event) (event : Event) (k : ℕ) → place_read k before event ≡ None → read_floor (before ++ event ∷ []) k ≡ read_floor before k
floor_same before event k e = floor_more before event k ∙ ap (λ o. unwrap_or o (read_floor before k)) e

-- after a Read of another thread the floor is as it was
pub floor_other : (before : List Event) (thread number k : ℕ) → (thread ≡ k → ⊥) → read_floor (before ++ Read thread number ∷ []) k ≡ read_floor before k
floor_other before thread number k off =
    let no : eqb thread k ≡ false = grind (arith, nat_tests) in floor_same before (Read thread number) k (ap (λ (b : Bool). cond b (Some number) None) no)

pub floor_here : (before : List Event) (thread number : ℕ) → read_floor (before ++ Read thread number ∷ []) thread ≡ number
floor_here before thread number =
    let yes : eqb thread thread ≡ true = grind (arith, nat_tests) in
    floor_more before (Read thread number) thread ∙ ap (λ (b : Bool). unwrap_or (cond b (Some number) None) (read_floor before thread)) yes

-- as many events are looks, whatever the pages
one_length : (all other : List Event) (event : Event) (xs ys : List Seen) → length xs ≡ length ys →
    length (filter_map (look_made all) (event ∷ []) ++ xs) ≡ length (filter_map (look_made other) (event ∷ []) ++ ys)
one_length all other (Read thread number) xs ys e = omega arith
one_length all other (Skip thread seen) xs ys e = omega arith
one_length all other (Take thread) xs ys e = e
one_length all other (Yield thread) xs ys e = e
one_length all other (Publish thread rec) xs ys e = e
one_length all other (Decide entry) xs ys e = e
one_length all other (Watch thread number) xs ys e = e

pub looks_length : (all other : List Event) (events : List Event) → length (filter_map (look_made all) events) ≡ length (filter_map (look_made other) events)
looks_length all other [] = refl
looks_length all other (event ∷ events) =
    let rest = looks_length all other events in
    ap length (filter_map-append (look_made all) (event ∷ []) events)
    ∙ one_length all other event (filter_map (look_made all) events) (filter_map (look_made other) events) rest
    ∙ ap length (sym (filter_map-append (look_made other) (event ∷ []) events))

-- the looks, one event more
pub looks_same : (before : List Event) (event : Event) → decided_at before event ≡ None → ((all : List Event) → look_made all event ≡ None) → (all : List Event) →
    filter_map (look_made all) (since_decide (before ++ event ∷ [])) ≡ filter_map (look_made all) (since_decide before)
looks_same before event e none all = ap (filter_map (look_made all)) (since_more before event e) ∙ filter_map-append (look_made all) (since_decide before) (event ∷ [])
    ∙ ap (λ o. filter_map (look_made all) (since_decide before) ++ filter_map (λ (u : Event). o) (event ∷ [])) (none all) ∙ append-nil (filter_map (look_made all) (since_decide before))

pub looks_more : (before : List Event) (event : Event) → decided_at before event ≡ None → (all : List Event) (look : Seen) → look_made all event ≡ Some look →
    filter_map (look_made all) (since_decide (before ++ event ∷ [])) ≡ filter_map (look_made all) (since_decide before) ++ look ∷ []
looks_more before event e all look made = ap (filter_map (look_made all)) (since_more before event e) ∙ filter_map-append (look_made all) (since_decide before) (event ∷ [])
    ∙ ap (λ o. filter_map (look_made all) (since_decide before) ++ filter_map (λ (u : Event). o) (event ∷ [])) made

-- no look
no_look : (before : List Event) (event : Event) → decided_at before event ≡ None → ((k : ℕ) → place_read k before event ≡ None) → ((all : List Event) → look_made all event ≡ None) → LooksInOrder before →
    LooksInOrder (before ++ event ∷ [])
no_look before event e unread none was = record {
  at = λ all k seen is. let P : ℕ → Type 0 = λ floor. IsLookAt all k floor seen in
      subst P (sym (floor_same before event k (unread k))) (was.at all k seen (sym (ap (λ xs. slice_get xs k) (looks_same before event e none all)) ∙ is));
}

-- a look in its turn
one_look : (before : List Event) (event : Event) (look : List Event → Seen) → decided_at before event ≡ None → ((all : List Event) → look_made all event ≡ Some (look all)) →
    ((k : ℕ) → (k ≡ length (looks_since before) → ⊥) → read_floor (before ++ event ∷ []) k ≡ read_floor before k) →
    ((all : List Event) → IsLookAt all (length (looks_since before)) (read_floor (before ++ event ∷ []) (length (looks_since before))) (look all)) → LooksInOrder before →
    LooksInOrder (before ++ event ∷ [])
one_look before event look e made floor here was = record {
  at = λ all k seen is. ⊎_elim
      (λ old. earlier all k seen old)
      (λ new. last all k new.0 seen new.1 new.2)
      (slice_get_parts (filter_map (look_made all) (since_decide before)) (look all ∷ []) k seen (sym (ap (λ xs. slice_get xs k) (looks_more before event e all (look all) (made all))) ∙ is));
}
  where
    earlier : (all : List Event) (k : ℕ) (seen : Seen) → slice_get (filter_map (look_made all) (since_decide before)) k ≡ Some seen → IsLookAt all k (read_floor (before ++ event ∷ []) k) seen
    earlier all k seen old =
        let low = slice_get_within (filter_map (look_made all) (since_decide before)) k seen old in
        let off : k ≡ length (looks_since before) → ⊥ = λ same. (let n = looks_length all before (since_decide before) in omega arith) in
        let P : ℕ → Type 0 = λ floor. IsLookAt all k floor seen in subst P (sym (floor k off)) (was.at all k seen old)

    last : (all : List Event) (k j : ℕ) (seen : Seen) → k ≡ length (filter_map (look_made all) (since_decide before)) + j → slice_get (look all ∷ []) j ≡ Some seen →
        IsLookAt all k (read_floor (before ++ event ∷ []) k) seen
    last all k zero seen e is =
        let place : length (looks_since before) ≡ k = (let n = looks_length all before (since_decide before) in omega arith) in
        let shown : look all ≡ seen = cc in
        let P : ℕ → Type 0 = λ k. IsLookAt all k (read_floor (before ++ event ∷ []) k) seen in
        let Q : Seen → Type 0 = λ s. IsLookAt all (length (looks_since before)) (read_floor (before ++ event ∷ []) (length (looks_since before))) s in
        subst P place (subst Q shown (here all))
    last all k (suc j) seen e is = let no : None ≡ Some seen = is in cc

keeps_none : (all : List Event) (k floor : ℕ) (seen : Seen) → KeepsNone seen → IsLookAt all k floor seen
keeps_none all k floor (Whole number rec) none = absurd none
keeps_none all k floor (Busy first second) none = tt
keeps_none all k floor (Ahead number rec) none = tt
keeps_none all k floor (Foreign number rec) none = tt

pub no_looks : LooksInOrder []
no_looks = record { at = λ all k seen is. let no : None ≡ Some seen = is in cc }

read_here : (before : List Event) (thread number : ℕ) (all : List Event) (k : ℕ) → thread ≡ k →
    IsLookAt all k (read_floor (before ++ Read thread number ∷ []) k) (Whole number (record_at all thread number))
read_here before thread number all k same =
    let P : ℕ → Type 0 = λ k. IsLookAt all k (read_floor (before ++ Read thread number ∷ []) k) (Whole number (record_at all thread number)) in
    subst P same (sym (floor_here before thread number), refl)

pub looks_after : (table : Table) (before : List Event) (event : Event) → IsInTurn table before event → LooksInOrder before → LooksInOrder (before ++ event ∷ [])
looks_after table before (Take thread) turn was = no_look before (Take thread) refl (λ k. refl) (λ all. refl) was
looks_after table before (Yield thread) turn was = no_look before (Yield thread) refl (λ k. refl) (λ all. refl) was
looks_after table before (Publish thread rec) turn was = no_look before (Publish thread rec) refl (λ k. refl) (λ all. refl) was
looks_after table before (Watch thread number) turn was = no_look before (Watch thread number) refl (λ k. refl) (λ all. refl) was
looks_after table before (Read thread number) turn was =
    one_look before (Read thread number) (λ all. Whole number (record_at all thread number)) refl (λ all. refl)
    (λ k off. floor_other before thread number k (λ same. off (sym same ∙ turn)))
    (λ all. read_here before thread number all (length (looks_since before)) turn) was
looks_after table before (Skip thread seen) turn was = one_look before (Skip thread seen) (λ all. seen) refl (λ all. refl)
    (λ k off. floor_same before (Skip thread seen) k refl)
    (λ all. keeps_none all (length (looks_since before)) (read_floor (before ++ Skip thread seen ∷ []) (length (looks_since before))) seen turn.1) was
looks_after table before (Decide entry) turn was = record {
  at = λ all k seen is. let no : None ≡ Some seen = sym (ap (λ es. slice_get (filter_map (look_made all) es) k) (since_none before entry)) ∙ is in cc;
}
