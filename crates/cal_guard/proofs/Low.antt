-- Cores that are held are the machine's.
use Rattle.cal_guard.proofs.Common.{◌≡◌, ℕ, ◌<◌, Bool, true, false, cond, eqb, List, [], ◌∷◌, ◌++◌, length, Option, Some, None, refl, sym, ap, ◌∙◌, arith, subst, unwrap_or, take-length, eqb-true, append-nil, Table, Action, Free, Unban, Ban, Revoke, Cap, Grant, Cause, PassEntry, Holder, actions_of, holder_of, holder_made, last_placement, left_by, placed, is_held, fits_state, holder_push, gives_free, after_passes, IsPermitted, IsPermittedHistory, HeldAreLow}
use Rattle.cal_policy.specs.declared.board.holders.Placement as placements
use Rattle.cal_policy.specs.declared.board.holders.Holder.TheVariants as holders
use Rattle.cal_guard.proofs.Steady.{each_permitted}

low_by : (table : Table) (c core : ℕ) (b : Bool) (p : placements.Placement) (h : Holder) → eqb core c ≡ b → core < table.cores → (is_held h ≡ true → c < table.cores) →
    is_held (unwrap_or (cond b (Some (holders.Held p)) None) h) ≡ true → c < table.cores
low_by table c core true p h e lt low held = subst (λ n. n < table.cores) (eqb-true core c e) lt
low_by table c core false p h e lt low held = low held

freed_low : (b : Bool) (h : Holder) → is_held (unwrap_or (cond b (Some holders.Free) None) h) ≡ true → is_held h ≡ true
freed_low true h e = cc
freed_low false h e = e

left_low : (b : Bool) (o : Option placements.Placement) (cause : Cause) (h : Holder) → is_held (unwrap_or (cond b (Some (left_by o cause)) None) h) ≡ true → is_held h ≡ true
left_low true None cause h e = cc
left_low true (Some p) cause h e = cc
left_low false o cause h e = e

low_made : (table : Table) (x : List Action) (a : Action) → fits_state table x a ≡ true → HeldAreLow table x → (c : ℕ) → is_held (unwrap_or (holder_made c x a) (holder_of x c)) ≡ true → c < table.cores
low_made table x (Free core) fits h c held = h.low c (freed_low (eqb core c) (holder_of x c) held)
low_made table x (Revoke core cause) fits h c held = h.low c (left_low (eqb core c) (last_placement x core) cause (holder_of x c) held)
low_made table x (Grant core thread class) fits h c held =
    low_by table c core (eqb core c) (placed x thread) (holder_of x c) refl (gives_free table x core thread class fits).low (h.low c) held
low_made table x (Unban core) fits h c held = h.low c held
low_made table x (Ban core thread started) fits h c held = h.low c held
low_made table x (Cap task cap) fits h c held = h.low c held

pub low_push : (table : Table) (x : List Action) (a : Action) → fits_state table x a ≡ true → HeldAreLow table x → HeldAreLow table (x ++ a ∷ [])
low_push table x a fits h = record { low = λ c held. low_made table x a fits h c (sym (ap is_held (holder_push x a c)) ∙ held) }

pub low_first : (table : Table) → HeldAreLow table []
low_first table = record { low = λ c held. let no : false ≡ true = held in cc }

pub low_after : (table : Table) (history : List PassEntry) → IsPermittedHistory table history → HeldAreLow table (actions_of history ++ [])
low_after table history permitted =
    let P : List PassEntry → Type 0 = λ h. HeldAreLow table (actions_of h) in
    let whole = after_passes IsPermitted table history (each_permitted table history permitted) (HeldAreLow table) (low_first table)
    (λ before entry acts a p was. low_push table (actions_of before ++ acts) a p.fits was) (length history) (omega arith) in
    subst (HeldAreLow table) (sym (append-nil (actions_of history))) (subst P (take-length history) whole)
