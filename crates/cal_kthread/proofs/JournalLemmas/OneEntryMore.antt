-- A journal with one more entry.
use Rattle.cal_kthread.proofs.Common.{◌≡◌, ◌+◌, ◌≤◌, Option, Some, None, List, [], ◌∷◌, ◌++◌, length, refl, sym, ap, subst, ◌∙◌, append_assoc, append-nil, arith, option_to_list, filter_map, cons_option, Record, Chain, last_from, IsPage, page_of, MayFollow, zero_record, Entry, State, changed_by, state_from, state_after, StandAfter, MayStand}

-- what one more member adds to a list of answers
pub filter_map-push : {X Y : Type 0} (h : X → Option Y) (xs : List X) (x : X) → filter_map h (xs ++ x ∷ []) ≡ filter_map h xs ++ option_to_list (h x)
filter_map-push h [] x = alone (h x)
  where
    alone : {Y : Type 0} (o : Option Y) → cons_option o [] ≡ [] ++ option_to_list o
    alone None = refl
    alone (Some y) = refl
filter_map-push h (z ∷ zs) x = ap (cons_option (h z)) (filter_map-push h zs x) ∙ joined (h z) (filter_map h zs) (option_to_list (h x))
  where
    joined : {Y : Type 0} (o : Option Y) (ys zs : List Y) → cons_option o (ys ++ zs) ≡ cons_option o ys ++ zs
    joined None ys zs = refl
    joined (Some y) ys zs = refl

pub length-filter_map : {X Y : Type 0} (h : X → Option Y) (xs : List X) → length (filter_map h xs) ≤ length xs
length-filter_map h [] = omega arith
length-filter_map h (x ∷ xs) = let e = length-filter_map h xs in let f = longer (h x) (filter_map h xs) in omega arith
  where
    longer : {Y : Type 0} (o : Option Y) (ys : List Y) → length (cons_option o ys) ≤ length ys + 1
    longer None ys = omega arith
    longer (Some y) ys = omega arith

pub state-push : (s : State) (xs : List Entry) (x : Entry) → state_from s (xs ++ x ∷ []) ≡ changed_by x (state_from s xs)
state-push s [] x = refl
state-push s (z ∷ zs) x = state-push (changed_by z s) zs x

pub state_after-push : (xs : List Entry) (x : Entry) → state_after (xs ++ x ∷ []) ≡ changed_by x (state_after xs)
state_after-push xs x = state-push _ xs x

-- one more entry may stand after them all
pub stand-push : (before xs : List Entry) (x : Entry) → StandAfter before xs → MayStand (before ++ xs) x → StandAfter before (xs ++ x ∷ [])
stand-push before [] x _ may = (subst (λ z. MayStand z x) (append-nil before) may, tt)
stand-push before (z ∷ zs) x each may = (each.0, stand-push (before ++ z ∷ []) zs x each.1 (subst (λ l. MayStand l x) (sym (append_assoc before (z ∷ []) zs)) may))

pub each-push : (xs : List Entry) (x : Entry) → StandAfter [] xs → MayStand xs x → StandAfter [] (xs ++ x ∷ [])
each-push xs x each may = stand-push [] xs x each may

-- one more record on a page
chain-push : (z : Record) (rs : List Record) (r : Record) → Chain MayFollow z rs → MayFollow (last_from z rs) r → Chain MayFollow z (rs ++ r ∷ [])
chain-push z [] r _ may = (may, tt)
chain-push z (x ∷ xs) r chain may = (chain.0, chain-push x xs r chain.1 may)

pub page-push : (rs : List Record) (r : Record) → IsPage (page_of rs) → MayFollow (last_from zero_record rs) r → IsPage (page_of (rs ++ r ∷ []))
page-push rs r page may = (page.0, chain-push zero_record rs r page.1 may)
