-- After an orderly history no core is banned while its sibling is.
use Rattle.cal_policy.proofs.Common.{◌≡◌, ℕ, suc, zero, Bool, true, false, cond, not, ◌&&◌, List, [], ◌∷◌, ◌++◌, take, slice_get, IsTrue, Option, Some, None, refl, ap, sym, subst, ◌∙◌, ⊎_elim, arith, append_assoc, eqb, ltb, is_some, append-nil, flat_map-append, and_parts, not-true, nat_tests, sibling_of, Table, threads_of_table, Action, Free, Unban, Ban, Revoke, Cap, Grant, PassEntry, BannedFor, in_turn, actions_of, ban_of, is_banned, IsOrderly, IsOrderlyEntry, fits_state, Setting, so_far, free_at, NoPairBanned, sibling_back, unwrap_if}
use Rattle.cal_policy.proofs.HistoryLemmas.OneMore.{ban_push}
use Rattle.cal_policy.proofs.PassLemmas.Pairs.{after_end, none_if_unbanned, so_far_more}

-- a sibling is another core, and its sibling is the core itself
sibling_other : (c : ℕ) → eqb c (sibling_of c) ≡ false
sibling_other c = grind (arith, nat_tests)

-- an action that names no ban changes none
same_bans : (x y : List Action) → ((c : ℕ) → ban_of y c ≡ ban_of x c) → NoPairBanned x → NoPairBanned y
same_bans x y e h = record { apart = λ c b. ap is_some (e (sibling_of c)) ∙ h.apart c (sym (ap is_some (e c)) ∙ b) }

after_unban_push : (x : List Action) (core : ℕ) → NoPairBanned x → NoPairBanned (x ++ Unban core ∷ [])
after_unban_push x core h = record {
  apart = λ d e. ⊎_elim
      (λ none. let e2 : is_some (ban_of (x ++ Unban core ∷ []) d) ≡ false = ap is_some none in cc)
      (λ same. let gone : ban_of x (sibling_of d) ≡ None = none_if_unbanned _ (h.apart d (sym (ap is_some same) ∙ e)) in
      ap is_some (⊎_elim (λ none. none) (λ still. still ∙ gone) (after_end x core (sibling_of d) false)))
      (after_end x core d false);
}

-- a ban on a core, where neither it nor its sibling is banned
ban_apart : (x : List Action) (core : ℕ) (ban : Option BannedFor) (d : ℕ) (here beside : Bool) → NoPairBanned x →
    is_banned x core ≡ false → is_banned x (sibling_of core) ≡ false → eqb core d ≡ here → eqb core (sibling_of d) ≡ beside →
    is_some (cond here ban (ban_of x d)) ≡ true → is_some (cond beside ban (ban_of x (sibling_of d))) ≡ false
ban_apart x core ban d true true h f g e1 e2 b = let no : eqb d (sibling_of d) ≡ false = sibling_other d in absurd (grind (arith, nat_tests))
ban_apart x core ban d true false h f g e1 e2 b = let same : core ≡ d = grind (arith, nat_tests) in rw same at g
ban_apart x core ban d false true h f g e1 e2 b =
    let same : core ≡ sibling_of d = grind (arith, nat_tests) in
    let back : sibling_of core ≡ d = ap sibling_of same ∙ sibling_back d in
    let no : is_banned x d ≡ false = sym (ap (is_banned x) back) ∙ g in cc
ban_apart x core ban d false false h f g e1 e2 b = h.apart d b

after_ban_push : (x : List Action) (core thread started : ℕ) → is_banned x core ≡ false → is_banned x (sibling_of core) ≡ false →
    NoPairBanned x → NoPairBanned (x ++ Ban core thread started ∷ [])
after_ban_push x core thread started f g h =
    let ban : Option BannedFor = Some (record { thread = thread; started = started }) in
    let said : (d : ℕ) → ban_of (x ++ Ban core thread started ∷ []) d ≡ cond (eqb core d) ban (ban_of x d) =
    λ d. ban_push x (Ban core thread started) d ∙ unwrap_if (eqb core d) ban (ban_of x d) in record {
      apart = λ d b. ap is_some (said (sibling_of d))
          ∙ ban_apart x core ban d (eqb core d) (eqb core (sibling_of d)) h f g refl refl (sym (ap is_some (said d)) ∙ b);
    }

not_both : (a p q : Bool) → (a && not p && not q) ≡ true → (p ≡ false) × (q ≡ false)
not_both a p q t = let first = and_parts (a && not p) (not q) t in let second = and_parts a (not p) first.0 in (not-true p second.1, not-true q first.1)

-- an action that fits leaves no pair banned
pub apart_push : (table : Table) (x : List Action) (a : Action) → IsTrue (fits_state table x a) → NoPairBanned x → NoPairBanned (x ++ a ∷ [])
apart_push table x (Free core) t h = same_bans x _ (λ c. ban_push x (Free core) c) h
apart_push table x (Revoke core cause) t h = same_bans x _ (λ c. ban_push x (Revoke core cause) c) h
apart_push table x (Cap task cap) t h = same_bans x _ (λ c. ban_push x (Cap task cap) c) h
apart_push table x (Grant core thread class) t h = same_bans x _ (λ c. ban_push x (Grant core thread class) c) h
apart_push table x (Unban core) t h = after_unban_push x core h
apart_push table x (Ban core thread started) t h =
    let b = not_both (ltb core table.cores && ltb thread (threads_of_table table)) (is_banned x core) (is_banned x (sibling_of core)) t in after_ban_push x core thread started b.0 b.1 h

-- a pass whose actions fit leaves no pair banned
pub apart_after : (table : Table) (x acts : List Action) →
    ((i : ℕ) (a : Action) → slice_get acts i ≡ Some a → IsTrue (fits_state table (x ++ take i acts) a)) → NoPairBanned x → NoPairBanned (x ++ acts)
apart_after table x [] fits h = rw append-nil h
apart_after table x (a ∷ acts) fits h =
    let P : List Action → Type 0 = λ l. IsTrue (fits_state table l a) in
    let first : IsTrue (fits_state table x a) = subst P (append-nil x) (fits 0 a refl) in
    let N : List Action → Type 0 = λ l. NoPairBanned l in
    subst N (append_assoc x (a ∷ []) acts)
    (apart_after table (x ++ a ∷ []) acts
    (λ i b e. let Q : List Action → Type 0 = λ l. IsTrue (fits_state table l b) in subst Q (sym (append_assoc x (a ∷ []) (take i acts))) (fits (suc i) b e))
    (apart_push table x a first h))

passes_apart : (table : Table) (before more : List PassEntry) →
    ((p : ℕ) (entry : PassEntry) → slice_get more p ≡ Some entry → IsOrderlyEntry table (before ++ take p more) entry) →
    NoPairBanned (actions_of before) → NoPairBanned (actions_of (before ++ more))
passes_apart table before [] o h = rw append-nil h
passes_apart table before (entry ∷ more) o h =
    let P : List PassEntry → Type 0 = λ l. IsOrderlyEntry table l entry in
    let first : IsOrderlyEntry table before entry = subst P (append-nil before) (o 0 entry refl) in
    let N : List Action → Type 0 = λ l. NoPairBanned l in
    let after : NoPairBanned (actions_of before ++ entry.actions) = apart_after table (actions_of before) entry.actions first.actions h in
    let one : actions_of (before ++ entry ∷ []) ≡ actions_of before ++ entry.actions =
    flat_map-append (λ (e : PassEntry). e.actions) before (entry ∷ []) ∙ ap (λ l. actions_of before ++ l) (append-nil entry.actions) in
    let M : List PassEntry → Type 0 = λ l. NoPairBanned (actions_of l) in
    subst M (append_assoc before (entry ∷ []) more)
    (passes_apart table (before ++ entry ∷ []) more
    (λ p e g. let Q : List PassEntry → Type 0 = λ l. IsOrderlyEntry table l e in subst Q (sym (append_assoc before (entry ∷ []) (take p more))) (o (suc p) e g))
    (subst N (sym one) after))

pub none_banned : NoPairBanned []
none_banned = record { apart = λ c e. cc }

-- after an orderly history no core is banned while its sibling is
pub orderly_apart : (table : Table) (history : List PassEntry) → IsOrderly table history → NoPairBanned (actions_of history)
orderly_apart table history o = passes_apart table [] history o.entries none_banned

free_apart : (x : List Action) (b : Bool) (c : ℕ) → NoPairBanned x → NoPairBanned (x ++ cond b (Free c ∷ []) [])
free_apart x true c h = same_bans x _ (λ d. ban_push x (Free c) d) h
free_apart x false c h = rw append-nil h

-- nor after the frees of the pass that follows it
pub frees_apart : (s : Setting) (acts : List Action) (n : ℕ) → NoPairBanned (so_far s acts) → NoPairBanned (so_far s (acts ++ in_turn (free_at s) acts n))
frees_apart s acts zero h = rw append-nil h
frees_apart s acts (suc n) h =
    let now = acts ++ in_turn (free_at s) acts n in
    rw (← append_assoc acts (in_turn (free_at s) acts n) (free_at s now n), so_far_more s now (free_at s now n))
    (free_apart (so_far s now) _ n (frees_apart s acts n h))
