-- The span that a core is in says of it what its holder does.
use Rattle.cal_measure.proofs.Common.{◌≡◌, ◌<◌, ◌+◌, ◌∙◌, ◌&&◌, ℕ, zero, suc, true, List, [], ◌∷◌, ◌++◌, length, map, take, get_or, Option, Some, None, IsTrue, option_map, ltb, inl, inr, refl, sym, ap, subst, arith, append_assoc, ⊎_elim, Contains, option_or, unwrap_or, and_parts, eqb_tells, append-nil, take_more, slice_get_cases, get_or_from_slice_get, some_same, Table, Holder, Action, Free, Unban, Ban, Revoke, Cap, Grant, Cause, PassEntry, placement_of, is_held, actions_of, holder_of, holder_made, last_placement, placement_made, left_by, holder_push, last_placement_push, Move, made_in, moves_of, span_at, spans_of, Span}
use Rattle.std.proofs.lemmas.Grind.{flat_map-append}
use Rattle.std.proofs.lemmas.List.{take_all}
use Rattle.cal_policy.specs.declared.board.holders.Holder.TheVariants as holders
use Rattle.cal_policy.specs.declared.board.holders.Placement as placements
use Rattle.cal_policy.specs.Judgement.Orderly.{fits_state, names_table, FitInTurn, IsOrderly}
use Rattle.cal_measure.specs.Spans.Laws.{Shows, IsStayOf}
use Rattle.cal_measure.proofs.SpanLemmas.StaysKept.{revoked, stay_made, stay_push, moves-more}
use Rattle.cal_measure.proofs.SpanLemmas.Showing.{stay-open, of-some, stays-shown, shown-stays}

-- a core that is held is held by its last grant
abbrev IsByLast : Holder → Option placements.Placement → Type 0
IsByLast holders.Free last = Unit {0}
IsByLast (holders.Held placement) last = last ≡ Some placement
IsByLast (holders.Leaving placement cause) last = Unit {0}

-- holder, last grant and span of a core belong together
record Agree (holder : Holder) (last : Option placements.Placement) (stay : Option Span) : Type 0 where
  by_last : IsByLast holder last
  is_stay : IsStayOf holder stay

-- so it is of core c after these actions
abbrev AgreeAfter : ℕ → List Action → List Move → Type 0
AgreeAfter c x moves = Agree (holder_of x c) (last_placement x c) (span_at moves c)

-- a core that is held, and is revoked, is being left for the cause
left_for : (holder : Holder) (last : Option placements.Placement) (stay : Option Span) (p : ℕ) (cause : Cause) → is_held holder ≡ true → Agree holder last stay
    → Agree (left_by last cause) last (option_map (revoked p cause) stay)
left_for holders.Free last stay p cause held h = cc
left_for (holders.Leaving placement old) last stay p cause held h = cc
left_for (holders.Held placement) last stay p cause held h =
    let there : option_map (revoked p cause) stay ≡ Some (revoked p cause h.is_stay.span) = ap (option_map (revoked p cause)) h.is_stay.there in
    subst (λ (o : Option placements.Placement). Agree (left_by o cause) o (option_map (revoked p cause) stay)) (sym h.by_last) (record {
      by_last = tt;
      is_stay = record { span = revoked p cause h.is_stay.span; there = there; thread = h.is_stay.thread; since = p; left = refl };
    })

fits_held : (table : Table) (x : List Action) (core : ℕ) (cause : Cause) → fits_state table x (Revoke core cause) ≡ true → is_held (holder_of x core) ≡ true
fits_held table x core cause fits = (and_parts (ltb core table.cores && names_table table cause) (is_held (holder_of x core)) fits).1

-- what one more action makes of the three
agree_made : (table : Table) (x : List Action) (moves : List Move) (p c : ℕ) (a : Action) → fits_state table x a ≡ true → AgreeAfter c x moves
    → Agree (unwrap_or (holder_made c x a) (holder_of x c)) (option_or (placement_made c x a) (last_placement x c)) (stay_made c p a (span_at moves c))
agree_made table x moves p c (Grant core thread class) fits h =
    elim (eqb_tells core c) [
      | inl same ↦ rw same.0 (record { by_last = refl; is_stay = record { span = _; there = refl; thread = refl; not_left = refl } })
      | inr other ↦ rw other.0 h
    ]
agree_made table x moves p c (Revoke core cause) fits h =
    elim (eqb_tells core c) [
      | inl same ↦
          let held : is_held (holder_of x c) ≡ true = subst (λ (k : ℕ). is_held (holder_of x k) ≡ true) same.1 (fits_held table x core cause fits) in
          let of_core : last_placement x core ≡ last_placement x c = ap (last_placement x) same.1 in
          rw (same.0, of_core) (left_for (holder_of x c) (last_placement x c) (span_at moves c) p cause held h)
      | inr other ↦ rw other.0 h
    ]
agree_made table x moves p c (Free core) fits h =
    elim (eqb_tells core c) [ inl same ↦ rw same.0 (record { by_last = tt; is_stay = refl }) | inr other ↦ rw other.0 h ]
agree_made table x moves p c (Unban core) fits h = h
agree_made table x moves p c (Ban core thread started) fits h = h
agree_made table x moves p c (Cap task cap) fits h = h

agree_push : (table : Table) (x : List Action) (moves : List Move) (p c : ℕ) (a : Action) → fits_state table x a ≡ true → AgreeAfter c x moves
    → AgreeAfter c (x ++ a ∷ []) (moves ++ made_in p a ∷ [])
agree_push table x moves p c a fits h =
    subst (λ (holder : Holder). Agree holder (last_placement (x ++ a ∷ []) c) (span_at (moves ++ made_in p a ∷ []) c)) (sym (holder_push x a c))
    (subst (λ (last : Option placements.Placement). Agree (unwrap_or (holder_made c x a) (holder_of x c)) last (span_at (moves ++ made_in p a ∷ []) c)) (sym (last_placement_push x a c))
    (subst (λ (stay : Option Span). Agree (unwrap_or (holder_made c x a) (holder_of x c)) (option_or (placement_made c x a) (last_placement x c)) stay) (sym (stay_push moves p a c))
    (agree_made table x moves p c a fits h)))

-- the rest of the actions fit in turn after the first
fit-first : (table : Table) (x : List Action) (a : Action) (rest : List Action) → FitInTurn table x (a ∷ rest) → fits_state table x a ≡ true
fit-first table x a rest fit = subst (λ (y : List Action). fits_state table y a ≡ true) (append-nil x) (fit 0 a refl)

fit-rest : (table : Table) (x : List Action) (a : Action) (rest : List Action) → FitInTurn table x (a ∷ rest) → FitInTurn table (x ++ a ∷ []) rest
fit-rest table x a rest fit = λ i action e.
    subst (λ (y : List Action). IsTrue (fits_state table y action)) (sym (append_assoc x (a ∷ []) (take i rest))) (fit (suc i) action e)

-- the actions of a pass, one after the other
agree_pass : (table : Table) (x : List Action) (moves : List Move) (p c : ℕ) (actions : List Action) → FitInTurn table x actions → AgreeAfter c x moves
    → AgreeAfter c (x ++ actions) (moves ++ map (made_in p) actions)
agree_pass table x moves p c [] fit h = rw (append-nil x, append-nil moves) h
agree_pass table x moves p c (a ∷ rest) fit h =
    let next = agree_push table x moves p c a (fit-first table x a rest fit) h in
    let whole = agree_pass table (x ++ a ∷ []) (moves ++ made_in p a ∷ []) p c rest (fit-rest table x a rest fit) next in
    subst (λ (y : List Action). AgreeAfter c y (moves ++ made_in p a ∷ map (made_in p) rest)) (append_assoc x (a ∷ []) rest)
    (subst (λ (ms : List Move). AgreeAfter c ((x ++ a ∷ []) ++ rest) ms) (append_assoc moves (made_in p a ∷ []) (map (made_in p) rest)) whole)

-- one pass more
actions-more : (history : List PassEntry) (p : ℕ) (entry : PassEntry) → get_or history p entry ≡ entry → p < length history
    → actions_of (take (suc p) history) ≡ actions_of (take p history) ++ entry.actions
actions-more history p entry same lt =
    let one : suc p ≡ p + 1 = omega arith in
    ap (λ n. actions_of (take n history)) one ∙ ap actions_of (take_more history p entry lt ∙ ap (λ x. take p history ++ x ∷ []) same)
    ∙ flat_map-append (λ (e : PassEntry). e.actions) (take p history) (entry ∷ []) ∙ ap (λ xs. actions_of (take p history) ++ xs) (append-nil entry.actions)

moves-next : (history : List PassEntry) (p : ℕ) (entry : PassEntry) → get_or history p entry ≡ entry → p < length history
    → moves_of (take (suc p) history) ≡ moves_of (take p history) ++ map (made_in p) entry.actions
moves-next history p entry same lt =
    let one : suc p ≡ p + 1 = omega arith in
    let zero_p : 0 + p ≡ p = omega arith in
    ap (λ n. moves_of (take n history)) one ∙ moves-more 0 history p entry lt
    ∙ ap (λ (k : ℕ). moves_of (take p history) ++ map (made_in k) (get_or history p entry).actions) zero_p
    ∙ ap (λ (e : PassEntry). moves_of (take p history) ++ map (made_in p) e.actions) same

-- the passes, one after the other
agree_after : (table : Table) (history : List PassEntry) (n c : ℕ) → IsOrderly table history → AgreeAfter c (actions_of (take n history)) (moves_of (take n history))
agree_after table history zero c orderly = record { by_last = tt; is_stay = refl }
agree_after table history (suc n) c orderly =
    let before = agree_after table history n c orderly in
    ⊎_elim
    (λ found. let entry = found.0 in
    let same : get_or history n entry ≡ entry = get_or_from_slice_get history n entry entry found.2 in
    let whole = agree_pass table (actions_of (take n history)) (moves_of (take n history)) n c entry.actions (orderly.entries n entry found.2).actions before in
    subst (λ (x : List Action). AgreeAfter c x (moves_of (take (suc n) history))) (sym (actions-more history n entry same found.1))
    (subst (λ (moves : List Move). AgreeAfter c (actions_of (take n history) ++ entry.actions) moves) (sym (moves-next history n entry same found.1)) whole))
    (λ past. let over = past.0 in
    let more : take (suc n) history ≡ take n history = take_all (suc n) history (omega arith) ∙ sym (take_all n history (omega arith)) in
    subst (λ (h : List PassEntry). AgreeAfter c (actions_of h) (moves_of h)) (sym more) before)
    (slice_get_cases history n).1

pub stays-holders : (table : Table) (history : List PassEntry) (n c : ℕ) → IsOrderly table history
    → IsStayOf (holder_of (actions_of (take n history)) c) (span_at (moves_of (take n history)) c)
stays-holders table history n c orderly = (agree_after table history n c orderly).is_stay

-- the stay of a core that somebody holds or leaves is that thread's
of-placement : (holder : Holder) (stay : Option Span) (placement : placements.Placement) → IsStayOf holder stay → placement_of holder ≡ Some placement
    → (span : Span) × (stay ≡ Some span) × (span.thread ≡ placement.thread)
of-placement holders.Free stay placement h e = cc
of-placement (holders.Held other) stay placement h e = (h.span, h.there, h.thread ∙ ap (λ (q : placements.Placement). q.thread) (some_same other placement e))
of-placement (holders.Leaving other cause) stay placement h e = (h.span, h.there, h.thread ∙ ap (λ (q : placements.Placement). q.thread) (some_same other placement e))

-- a core that is in a span is held or left by that thread
of-stay : (holder : Holder) (stay : Option Span) (span : Span) → IsStayOf holder stay → stay ≡ Some span
    → (placement : placements.Placement) × (placement_of holder ≡ Some placement) × (span.thread ≡ placement.thread)
of-stay holders.Free stay span h e = let no : None ≡ Some span = sym h ∙ e in cc
of-stay (holders.Held placement) stay span h e = (placement, refl, ap (λ (s : Span). s.thread) (some_same span h.span (sym e ∙ h.there)) ∙ h.thread)
of-stay (holders.Leaving placement cause) stay span h e = (placement, refl, ap (λ (s : Span). s.thread) (some_same span h.span (sym e ∙ h.there)) ∙ h.thread)

pub holders-shown : (cores : ℕ) (table : Table) (history : List PassEntry) (n c : ℕ) (placement : placements.Placement) → IsOrderly table history → c < cores
    → placement_of (holder_of (actions_of (take n history)) c) ≡ Some placement
    → (span : Span) × Contains (spans_of cores history) span × (span.core ≡ c) × (span.thread ≡ placement.thread) × Shows span n
holders-shown cores table history n c placement orderly lt e =
    let moves = moves_of (take n history) in
    let stay = of-placement (holder_of (actions_of (take n history)) c) (span_at moves c) placement (stays-holders table history n c orderly) e in
    let core = (of-some (λ s. (s.core ≡ c) × (s.to ≡ None)) (span_at moves c) stay.0 stay.1 (stay-open moves c)).0 in
    let found = stays-shown cores history n c stay.0 lt stay.1 in
    (found.0, found.1, found.2.core ∙ core, found.2.thread ∙ stay.2, found.3)

pub shown-holders : (cores : ℕ) (table : Table) (history : List PassEntry) (n : ℕ) (span : Span) → IsOrderly table history → Contains (spans_of cores history) span
    → Shows span n → (placement : placements.Placement) × (placement_of (holder_of (actions_of (take n history)) span.core) ≡ Some placement)
    × (span.thread ≡ placement.thread)
shown-holders cores table history n span orderly has shows =
    let stay = shown-stays cores history n span has shows in
    let held = of-stay (holder_of (actions_of (take n history)) span.core) (span_at (moves_of (take n history)) span.core) stay.0 (stays-holders table history n span.core orderly) stay.1 in
    (held.0, held.1, stay.2.thread ∙ held.2)
