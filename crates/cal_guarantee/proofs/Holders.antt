-- What one more action does to who has a core, and to the counts of cores.
use Rattle.cal_guarantee.proofs.Common.{◌≡◌, ℕ, ◌+◌, ◌<◌, ◌⊎◌, Bool, cond, eqb, List, [], ◌∷◌, ◌++◌, Option, Some, None, refl, ap, sym, ◌∙◌, arith, inl, inr, cases_eq, eq-eqb, ne_eqb, unwrap_or, unwrap_if, Action, Unban, Ban, Revoke, Cap, Grant, Holder, holder_of, last_placement, placed, left_by, last_of, count_below, holder_push, granted_holder, owed_to, owed_made, Cause}
use Rattle.cal_policy.specs.declared.board.holders.Placement as placements
use Rattle.cal_policy.specs.declared.board.holders.Holder.TheVariants as holders
use Rattle.cal_policy.proofs.ListLemmas.OneMore.{last_of_push, unwrap_or_or}
use Rattle.cal_guarantee.proofs.Sums.{one_if, count_same, count_but_one}

-- after y core a has the holder h, and the others have the ones that they had after x
pub record Moves (x y : List Action) (a : ℕ) (h : Holder) : Type 0 where
  pub here : holder_of y a ≡ h
  pub others : (c : ℕ) → (c ≡ a → ⊥) → holder_of y c ≡ holder_of x c

-- all cores have the holders that they had
pub record Stays (x y : List Action) : Type 0 where
  pub at : (c : ℕ) → holder_of y c ≡ holder_of x c

moved_from : (x y : List Action) (a : ℕ) (h : Holder) → ((c : ℕ) → holder_of y c ≡ cond (eqb a c) h (holder_of x c)) → Moves x y a h
moved_from x y a h e = record {
  here = e a ∙ ap (λ b. cond b h (holder_of x a)) (eq-eqb a a refl);
  others = λ c ne. e c ∙ ap (λ b. cond b h (holder_of x c)) (ne_eqb a c (λ same. ne (sym same)));
}

pub stays_unban : (x : List Action) (core : ℕ) → Stays x (x ++ Unban core ∷ [])
stays_unban x core = record { at = λ c. holder_push x (Unban core) c }

pub stays_ban : (x : List Action) (core thread started : ℕ) → Stays x (x ++ Ban core thread started ∷ [])
stays_ban x core thread started = record { at = λ c. holder_push x (Ban core thread started) c }

pub stays_cap : (x : List Action) (task cap : ℕ) → Stays x (x ++ Cap task cap ∷ [])
stays_cap x task cap = record { at = λ c. holder_push x (Cap task cap) c }

pub moves_revoke : (x : List Action) (core : ℕ) (cause : Cause) (p : placements.Placement) → last_placement x core ≡ Some p →
    Moves x (x ++ Revoke core cause ∷ []) core (holders.Leaving p cause)
moves_revoke x core cause p last = moved_from x (x ++ Revoke core cause ∷ []) core (holders.Leaving p cause)
    (λ c. holder_push x (Revoke core cause) c ∙ unwrap_if (eqb core c) (left_by (last_placement x core) cause) (holder_of x c)
    ∙ ap (λ o. cond (eqb core c) (left_by o cause) (holder_of x c)) last)

pub moves_grant : (x : List Action) (core thread class : ℕ) → Moves x (x ++ Grant core thread class ∷ []) core (holders.Held (placed x thread))
moves_grant x core thread class = moved_from x (x ++ Grant core thread class ∷ []) core (holders.Held (placed x thread))
    (λ c. granted_holder x core thread class c)

-- a count goes with its test at the core that moves
pub moved_count : (x y : List Action) (a : ℕ) (h : Holder) (f : Holder → Bool) (n : ℕ) → Moves x y a h → a < n →
    count_below (λ c. f (holder_of y c)) n + one_if (f (holder_of x a)) ≡ count_below (λ c. f (holder_of x c)) n + one_if (f h)
moved_count x y a h f n m lt =
    let move = count_but_one (λ c. f (holder_of y c)) (λ c. f (holder_of x c)) a n lt (λ c low ne. ap f (m.others c ne)) in
    let here : one_if (f (holder_of y a)) ≡ one_if (f h) = ap (λ k. one_if (f k)) m.here in
    omega (arith, move, here)

-- what the test says of the core is the same
pub moved_test : (x y : List Action) (a : ℕ) (h : Holder) (f : Holder → Bool) → Moves x y a h → f h ≡ f (holder_of x a) →
    (c : ℕ) → f (holder_of y c) ≡ f (holder_of x c)
moved_test x y a h f m same c = go (cases_eq c a)
  where
    go : (c ≡ a) ⊎ (c ≡ a → ⊥) → f (holder_of y c) ≡ f (holder_of x c)
    go (inl e) = rw e (ap f m.here ∙ same)
    go (inr ne) = ap f (m.others c ne)

pub moved_same : (x y : List Action) (a : ℕ) (h : Holder) (f : Holder → Bool) (n : ℕ) → Moves x y a h → f h ≡ f (holder_of x a) →
    count_below (λ c. f (holder_of y c)) n ≡ count_below (λ c. f (holder_of x c)) n
moved_same x y a h f n m same =
    count_same (λ c. f (holder_of y c)) (λ c. f (holder_of x c)) n (λ c low. moved_test x y a h f m same c)

pub stays_same : (x y : List Action) (f : Holder → Bool) (n : ℕ) → Stays x y →
    count_below (λ c. f (holder_of y c)) n ≡ count_below (λ c. f (holder_of x c)) n
stays_same x y f n m = count_same (λ c. f (holder_of y c)) (λ c. f (holder_of x c)) n (λ c low. ap f (m.at c))

-- to whom a core is owed, after one more action
pub owed_push : (x : List Action) (a : Action) (c : ℕ) → owed_to (x ++ a ∷ []) c ≡ unwrap_or (owed_made c x a) (owed_to x c)
owed_push x a c = ap (λ (o : Option (Option ℕ)). unwrap_or o None) (last_of_push (owed_made c) x a) ∙ unwrap_or_or (owed_made c x a) (last_of (owed_made c) x) None
