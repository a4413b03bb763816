-- A thread holds a core by no command past the last that was sent to it.
use Rattle.cal_policy.proofs.Common.{◌≡◌, ℕ, ◌+◌, ◌≤◌, Bool, true, false, ◌&&◌, eqb, nat_lt, List, [], ◌∷◌, ◌++◌, Option, Some, None, refl, ap, ◌∙◌, subst, arith, append_assoc, option_or, unwrap_or, eqb-true, eq-eqb, le-ltb, some_then, Record, Action, Free, Unban, Ban, Revoke, Cap, Grant, Cause, Holder, is_untaken, holder_of, holder_made, last_placement, placed, left_by, sent_to, last_after, last_of, count_below}
use Rattle.cal_policy.specs.declared.board.holders.Placement as placements
use Rattle.cal_policy.specs.declared.board.holders.Holder.TheVariants as holders
use Rattle.cal_policy.proofs.BoardLemmas.Surveyed.{count_none}
use Rattle.cal_policy.proofs.HistoryLemmas.OneMore.{sent_push, sent_grows}

-- a grant sends one command
one_sent : (before : List Action) (core thread class : ℕ) → sent_to (before ++ Grant core thread class ∷ []) thread ≡ sent_to before thread + 1
one_sent before core thread class =
    let same : eqb thread thread ≡ true = eq-eqb thread thread refl in
    sent_push before (Grant core thread class) thread ∙ rw same refl

pub left_not_held : (o : Option placements.Placement) (cause : Cause) (p : placements.Placement) → left_by o cause ≡ holders.Held p → ⊥
left_not_held None cause p e = cc
left_not_held (Some q) cause p e = cc

-- who holds a core after this action holds it by a command that is sent with it
made_sent : (c : ℕ) (before xs : List Action) (a : Action) (p : placements.Placement) → holder_made c before a ≡ Some (holders.Held p) → p.number ≤ sent_to (before ++ a ∷ xs) p.thread
made_sent c before xs (Free core) p e = let there = some_then (eqb core c) (Some holders.Free) (holders.Held p) e in absurd (let no : Some holders.Free ≡ Some (holders.Held p) = there.1 in cc)
made_sent c before xs (Unban core) p e = cc
made_sent c before xs (Ban core thread started) p e = cc
made_sent c before xs (Revoke core cause) p e =
    let there = some_then (eqb core c) (Some (left_by (last_placement before core) cause)) (holders.Held p) e in
    let made : Some (left_by (last_placement before core) cause) ≡ Some (holders.Held p) = there.1 in
    absurd (left_not_held (last_placement before core) cause p (cc))
made_sent c before xs (Cap task cap) p e = cc
made_sent c before xs (Grant core thread class) p e =
    let there = some_then (eqb core c) (Some (holders.Held (placed before thread))) (holders.Held p) e in
    let made : Some (holders.Held (placed before thread)) ≡ Some (holders.Held p) = there.1 in
    let same : placed before thread ≡ p = cc in
    let P : placements.Placement → Type 0 = λ q. q.number ≤ sent_to (before ++ Grant core thread class ∷ xs) q.thread in
    let grown = sent_grows (before ++ Grant core thread class ∷ []) xs thread in
    let joined = ap (λ l. sent_to l thread) (append_assoc before (Grant core thread class ∷ []) xs) in
    subst P same (omega (arith, one_sent before core thread class, grown, joined))

last_step : (c : ℕ) (before xs : List Action) (a : Action) (p : placements.Placement) (o : Option Holder) →
    (o ≡ Some (holders.Held p) → p.number ≤ sent_to (before ++ a ∷ xs) p.thread) → option_or o (holder_made c before a) ≡ Some (holders.Held p) → p.number ≤ sent_to (before ++ a ∷ xs) p.thread
last_step c before xs a p (Some h) later e = later e
last_step c before xs a p None later e = made_sent c before xs a p e

last_sent : (c : ℕ) (before xs : List Action) (p : placements.Placement) → last_after (holder_made c) before xs ≡ Some (holders.Held p) → p.number ≤ sent_to (before ++ xs) p.thread
last_sent c before [] p e = cc
last_sent c before (a ∷ xs) p e =
    last_step c before xs a p (last_after (holder_made c) (before ++ a ∷ []) xs) (λ is. rw (append_assoc before (a ∷ []) xs) at (last_sent c (before ++ a ∷ []) xs p is)) e

pub held_is : (o : Option Holder) (p : placements.Placement) → unwrap_or o holders.Free ≡ holders.Held p → o ≡ Some (holders.Held p)
held_is None p e = cc
held_is (Some h) p e = ap (λ (x : Holder). Some x) e

-- who holds a core
pub held_sent : (x : List Action) (c : ℕ) (p : placements.Placement) → holder_of x c ≡ holders.Held p → p.number ≤ sent_to x p.thread
held_sent x c p e = last_sent c [] x p (held_is (last_of (holder_made c) x) p e)

untaken_by : (rec : Record) (x : List Action) (k c : ℕ) (h : Holder) → holder_of x c ≡ h → sent_to x k ≤ rec.taken → is_untaken rec k h ≡ false
untaken_by rec x k c holders.Free is le = refl
untaken_by rec x k c (holders.Leaving p cause) is le = refl
untaken_by rec x k c (holders.Held p) is le = go (eqb p.thread k) refl
  where
    go : (b : Bool) → eqb p.thread k ≡ b → (b && nat_lt rec.taken p.number) ≡ false
    go false e = refl
    go true e =
        let same : p.thread ≡ k = eqb-true p.thread k e in
        let sent : p.number ≤ sent_to x k = rw same at (held_sent x c p is) in
        le-ltb rec.taken p.number (omega (arith, le, sent))

-- a thread that has taken all that was sent to it holds no core by an untaken Run
pub all_taken : (rec : Record) (x : List Action) (k n : ℕ) → sent_to x k ≤ rec.taken → count_below (λ c. is_untaken rec k (holder_of x c)) n ≡ 0
all_taken rec x k n le = count_none (λ c. is_untaken rec k (holder_of x c)) n (λ c. untaken_by rec x k c (holder_of x c) refl le)
