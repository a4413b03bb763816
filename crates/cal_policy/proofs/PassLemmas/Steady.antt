-- What holds at a point holds after one more action that is made there.
use Rattle.cal_policy.proofs.Common.{◌≡◌, ℕ, ◌<◌, ◌≤◌, ◌⊎◌, Bool, true, false, cond, eqb, List, [], ◌∷◌, ◌++◌, Option, Some, None, refl, sym, ap, ◌∙◌, arith, inl, inr, subst, zero, suc, cases_eq, nat_tests, Table, owner_of, threads_of_table, limit_of, Action, Free, Unban, Ban, Revoke, Cap, Grant, Cause, Holder, holder_of, last_placement, placed, left_by, is_held, is_booked_for, booked_by, placement_of, count_below, IsSteady, unwrap_if}
use Rattle.cal_policy.specs.declared.board.holders.Placement as placements
use Rattle.cal_policy.specs.declared.board.holders.Holder.TheVariants as holders
use Rattle.cal_policy.proofs.ListLemmas.Counted.{count_le, count_le_one}
use Rattle.cal_policy.proofs.HistoryLemmas.OneMore.{holder_push, last_placement_push}
use Rattle.cal_policy.proofs.ListLemmas.OneMore.{or_if}

-- a placement is one of a task's
abbrev pub is_place_of : Table → ℕ → Option placements.Placement → Bool
is_place_of table t None = false
is_place_of table t (Some p) = eqb (owner_of table p.thread) t

booked_place : (table : Table) (t : ℕ) (h : Holder) → is_booked_for table t h ≡ is_place_of table t (placement_of h)
booked_place table t holders.Free = refl
booked_place table t (holders.Held p) = refl
booked_place table t (holders.Leaving p cause) = refl

place_some : (table : Table) (t : ℕ) (o : Option placements.Placement) → is_place_of table t o ≡ true → (p : placements.Placement) × (o ≡ Some p)
place_some table t None e = cc
place_some table t (Some p) e = (p, refl)

-- no core is with another thread than before, and none was granted
pub record Shrinks (x y : List Action) : Type 0 where
  pub places : (c : ℕ) (p : placements.Placement) → placement_of (holder_of y c) ≡ Some p → placement_of (holder_of x c) ≡ Some p
  pub granted : (c : ℕ) → last_placement y c ≡ last_placement x c

booked_shrinks : (table : Table) (t : ℕ) (h k : Holder) → ((p : placements.Placement) → placement_of k ≡ Some p → placement_of h ≡ Some p) →
    is_booked_for table t k ≡ true → is_booked_for table t h ≡ true
booked_shrinks table t h k e b =
    let there = place_some table t (placement_of k) (sym (booked_place table t k) ∙ b) in
    booked_place table t h ∙ ap (is_place_of table t) (e there.0 there.1 ∙ sym there.1) ∙ sym (booked_place table t k) ∙ b

pub Steady_shrinks : (table : Table) (x y : List Action) → Shrinks x y → IsSteady table x → IsSteady table y
Steady_shrinks table x y e s = record {
  threads = λ c p is. s.threads c p (e.places c p is);
  granted = λ c p is. e.granted c ∙ s.granted c p (e.places c p is);
  limits = λ t lt. omega (
    arith,
    s.limits t lt,
    count_le (λ c. is_booked_for table t (holder_of x c)) (λ c. is_booked_for table t (holder_of y c)) table.cores
        (λ c low. booked_shrinks table t (holder_of x c) (holder_of y c) (e.places c)),
  );
}

-- an action that names no holder
pub Shrinks_same : (x : List Action) (a : Action) → ((c : ℕ) → holder_of (x ++ a ∷ []) c ≡ holder_of x c) → ((c : ℕ) → last_placement (x ++ a ∷ []) c ≡ last_placement x c) → Shrinks x (x ++ a ∷ [])
Shrinks_same x a e f = record { places = λ c p is. rw (e c) at is; granted = f }

pub Shrinks_ban : (x : List Action) (core thread started : ℕ) → Shrinks x (x ++ Ban core thread started ∷ [])
Shrinks_ban x core thread started = Shrinks_same x (Ban core thread started) (λ c. holder_push x (Ban core thread started) c) (λ c. last_placement_push x (Ban core thread started) c)

pub Shrinks_unban : (x : List Action) (core : ℕ) → Shrinks x (x ++ Unban core ∷ [])
Shrinks_unban x core = Shrinks_same x (Unban core) (λ c. holder_push x (Unban core) c) (λ c. last_placement_push x (Unban core) c)

pub Shrinks_cap : (x : List Action) (task cap : ℕ) → Shrinks x (x ++ Cap task cap ∷ [])
Shrinks_cap x task cap = Shrinks_same x (Cap task cap) (λ c. holder_push x (Cap task cap) c) (λ c. last_placement_push x (Cap task cap) c)

pub free_place : (b : Bool) (h : Holder) (p : placements.Placement) → placement_of (cond b holders.Free h) ≡ Some p → placement_of h ≡ Some p
free_place true h p e = cc
free_place false h p e = e

pub Shrinks_free : (x : List Action) (core : ℕ) → Shrinks x (x ++ Free core ∷ [])
Shrinks_free x core = record {
  places = λ c p is. free_place (eqb core c) (holder_of x c) p (sym (ap placement_of (holder_push x (Free core) c ∙ unwrap_if (eqb core c) holders.Free (holder_of x c))) ∙ is);
  granted = λ c. last_placement_push x (Free core) c;
}

held_place : (h : Holder) → is_held h ≡ true → (p : placements.Placement) × (placement_of h ≡ Some p)
held_place holders.Free e = cc
held_place (holders.Held p) e = (p, refl)
held_place (holders.Leaving p cause) e = cc

-- what is left of a held core is its own placement
left_place : (x : List Action) (core : ℕ) (cause : Cause) → is_held (holder_of x core) ≡ true → ((p : placements.Placement) → placement_of (holder_of x core) ≡ Some p → last_placement x core ≡ Some p) →
    placement_of (left_by (last_placement x core) cause) ≡ placement_of (holder_of x core)
left_place x core cause held granted =
    let there = held_place (holder_of x core) held in
    ap (λ o. placement_of (left_by o cause)) (granted there.0 there.1) ∙ sym there.1

revoke_place : (x : List Action) (core c : ℕ) (cause : Cause) → placement_of (left_by (last_placement x core) cause) ≡ placement_of (holder_of x core) →
    (p : placements.Placement) → placement_of (cond (eqb core c) (left_by (last_placement x core) cause) (holder_of x c)) ≡ Some p → placement_of (holder_of x c) ≡ Some p
revoke_place x core c cause e p is = choose (eqb core c) refl is
  where
    same : eqb core c ≡ true → core ≡ c
    same t = grind (arith, nat_tests)

    choose : (b : Bool) → eqb core c ≡ b → placement_of (cond b (left_by (last_placement x core) cause) (holder_of x c)) ≡ Some p → placement_of (holder_of x c) ≡ Some p
    choose true t i = ap (λ n. placement_of (holder_of x n)) (sym (same t)) ∙ sym e ∙ i
    choose false t i = i

pub Shrinks_revoke : (table : Table) (x : List Action) (core : ℕ) (cause : Cause) → IsSteady table x → is_held (holder_of x core) ≡ true → Shrinks x (x ++ Revoke core cause ∷ [])
Shrinks_revoke table x core cause s held = record {
  places = λ c p is. revoke_place x core c cause (left_place x core cause held (s.granted core)) p
      (sym (ap placement_of (holder_push x (Revoke core cause) c ∙ unwrap_if (eqb core c) (left_by (last_placement x core) cause) (holder_of x c))) ∙ is);
  granted = λ c. last_placement_push x (Revoke core cause) c;
}

-- the holder after a grant
pub granted_holder : (x : List Action) (core thread class c : ℕ) → holder_of (x ++ Grant core thread class ∷ []) c ≡ cond (eqb core c) (holders.Held (placed x thread)) (holder_of x c)
granted_holder x core thread class c = holder_push x (Grant core thread class) c ∙ unwrap_if (eqb core c) (holders.Held (placed x thread)) (holder_of x c)

granted_last : (x : List Action) (core thread class c : ℕ) → last_placement (x ++ Grant core thread class ∷ []) c ≡ cond (eqb core c) (Some (placed x thread)) (last_placement x c)
granted_last x core thread class c = last_placement_push x (Grant core thread class) c ∙ or_if (eqb core c) (placed x thread) (last_placement x c)

grant_threads : (K : ℕ) (b : Bool) (q : placements.Placement) (h : Holder) (p : placements.Placement) → q.thread < K → (placement_of h ≡ Some p → p.thread < K) →
    placement_of (cond b (holders.Held q) h) ≡ Some p → p.thread < K
grant_threads K true q h p lt e is = let same : q ≡ p = cc in let P : placements.Placement → Type 0 = λ r. r.thread < K in subst P same lt
grant_threads K false q h p lt e is = e is

grant_last : (b : Bool) (q : placements.Placement) (h : Holder) (o : Option placements.Placement) (p : placements.Placement) → (placement_of h ≡ Some p → o ≡ Some p) →
    placement_of (cond b (holders.Held q) h) ≡ Some p → cond b (Some q) o ≡ Some p
grant_last true q h o p e is = is
grant_last false q h o p e is = e is

grant_booked : (table : Table) (t : ℕ) (b : Bool) (q : placements.Placement) (h : Holder) → (b ≡ true → eqb (owner_of table q.thread) t ≡ false) →
    is_booked_for table t (cond b (holders.Held q) h) ≡ true → is_booked_for table t h ≡ true
grant_booked table t true q h e is = let no = e refl in cc
grant_booked table t false q h e is = is

other_number : (core c : ℕ) → (c ≡ core → ⊥) → eqb core c ≡ false
other_number core c ne = grind (arith, nat_tests)

booked_off : (table : Table) (x : List Action) (core thread class t c : ℕ) → (c ≡ core → ⊥) →
    is_booked_for table t (holder_of (x ++ Grant core thread class ∷ []) c) ≡ true → is_booked_for table t (holder_of x c) ≡ true
booked_off table x core thread class t c ne is =
    grant_booked table t (eqb core c) (placed x thread) (holder_of x c) (λ b. let no = other_number core c ne in cc) (sym (ap (is_booked_for table t) (granted_holder x core thread class c)) ∙ is)

booked_other : (table : Table) (x : List Action) (core thread class t c : ℕ) → (t ≡ owner_of table thread → ⊥) →
    is_booked_for table t (holder_of (x ++ Grant core thread class ∷ []) c) ≡ true → is_booked_for table t (holder_of x c) ≡ true
booked_other table x core thread class t c ne is =
    grant_booked table t (eqb core c) (placed x thread) (holder_of x c) (λ b. other_number (owner_of table thread) t ne) (sym (ap (is_booked_for table t) (granted_holder x core thread class c)) ∙ is)

grant_limit : (table : Table) (x : List Action) (core thread class t : ℕ) → booked_by table x t ≤ limit_of table t →
    booked_by table x (owner_of table thread) < limit_of table (owner_of table thread) → (t ≡ owner_of table thread) ⊎ (t ≡ owner_of table thread → ⊥) →
    booked_by table (x ++ Grant core thread class ∷ []) t ≤ limit_of table t
grant_limit table x core thread class t old room (inl same) =
    let one = count_le_one (λ c. is_booked_for table t (holder_of x c)) (λ c. is_booked_for table t (holder_of (x ++ Grant core thread class ∷ []) c)) core table.cores
    (λ c lt ne. booked_off table x core thread class t c ne) in
    let P : ℕ → Type 0 = λ n. booked_by table x n < limit_of table n in
    let space : booked_by table x t < limit_of table t = subst P (sym same) room in omega arith
grant_limit table x core thread class t old room (inr ne) =
    let less = count_le (λ c. is_booked_for table t (holder_of x c)) (λ c. is_booked_for table t (holder_of (x ++ Grant core thread class ∷ []) c)) table.cores
    (λ c lt. booked_other table x core thread class t c ne) in omega arith

pub Steady_grant : (table : Table) (x : List Action) (core thread class : ℕ) → thread < threads_of_table table →
    booked_by table x (owner_of table thread) < limit_of table (owner_of table thread) → IsSteady table x → IsSteady table (x ++ Grant core thread class ∷ [])
Steady_grant table x core thread class lt room s = record {
  threads = λ c p is. grant_threads (threads_of_table table) (eqb core c) (placed x thread) (holder_of x c) p lt (s.threads c p) (sym (ap placement_of (granted_holder x core thread class c)) ∙ is);
  granted = λ c p is. granted_last x core thread class c
      ∙ grant_last (eqb core c) (placed x thread) (holder_of x c) (last_placement x c) p (s.granted c p) (sym (ap placement_of (granted_holder x core thread class c)) ∙ is);
  limits = λ t low. grant_limit table x core thread class t (s.limits t low) room (cases_eq t (owner_of table thread));
}

pub none_counted : (n : ℕ) → count_below (λ c. false) n ≡ 0
none_counted zero = refl
none_counted (suc n) = rw (none_counted n) refl

pub Steady_start : (table : Table) → IsSteady table []
Steady_start table = record {
  threads = λ c p is. let no : None ≡ Some p = is in cc;
  granted = λ c p is. let no : None ≡ Some p = is in cc;
  limits = λ t lt. omega (arith, none_counted table.cores);
}
