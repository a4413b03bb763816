-- The board's data is kept up with one more action.
use Rattle.cal_policy.proofs.Common.{◌≡◌, ℕ, ◌+◌, ◌<◌, ◌^◌, true, false, cond, List, [], ◌∷◌, ◌++◌, length, get_or, set, min, Option, Some, None, refl, ap, sym, ◌∙◌, arith, eqb, option_map, common_steps, Action, Free, Revoke, Grant, Cause, Holding, Holder, holder_of, last_placement, sent_to, placed, left_by, HoldersAgree, kept_number, kept_placement, kept_holder, unwrap_if}
use Rattle.cal_policy.specs.declared.board.holders.Placement as placements
use Rattle.cal_policy.specs.declared.board.holders.Holder.TheVariants as holders
use Rattle.cal_policy.proofs.ListLemmas.OneMore.{set_says, or_if, map_if}
use Rattle.cal_policy.proofs.BoardLemmas.CommandNumbers.{kept_more}
use Rattle.cal_policy.proofs.HistoryLemmas.OneMore.{holder_push, last_placement_push, sent_push, last_thread_placement}

pub Holding_free : (h : Holding) (x : List Action) (core : ℕ) → length h.holders ≡ 128 → core < 128 → HoldersAgree h x →
    HoldersAgree (record { granted = h.granted; holders = set h.holders core holders.Free; sent = h.sent }) (x ++ Free core ∷ [])
Holding_free h x core len low s = record {
  granted = λ c lt. s.granted c lt ∙ sym (ap (λ o. option_map kept_placement o) (last_placement_push x (Free core) c));
  holders = λ c lt. set_says h.holders holders.Free (λ c. kept_holder (holder_of x c)) 128 core holders.Free len low s.holders c lt
      ∙ sym (ap kept_holder (holder_push x (Free core) c ∙ unwrap_if (eqb core c) holders.Free (holder_of x c)) ∙ map_if kept_holder (eqb core c) holders.Free (holder_of x c));
  sent = λ k lt. s.sent k lt ∙ ap kept_number (sym (sent_push x (Free core) k ∙ omega arith));
}

-- an action that sends nothing and names no holder
pub Holding_same : (h : Holding) (x : List Action) (a : Action) →
    ((c : ℕ) → last_placement (x ++ a ∷ []) c ≡ last_placement x c) → ((c : ℕ) → holder_of (x ++ a ∷ []) c ≡ holder_of x c) →
    ((k : ℕ) → sent_to (x ++ a ∷ []) k ≡ sent_to x k) → HoldersAgree h x → HoldersAgree h (x ++ a ∷ [])
Holding_same h x a e f g s = record {
  granted = λ c lt. s.granted c lt ∙ sym (ap (λ o. option_map kept_placement o) (e c));
  holders = λ c lt. s.holders c lt ∙ sym (ap kept_holder (f c));
  sent = λ k lt. s.sent k lt ∙ sym (ap kept_number (g k));
}

-- counts as they are kept, one of which went up by one
pub set_sent : (xs : List ℕ) (says : ℕ → ℕ) (i : ℕ) → length xs ≡ 128 → i < 128 →
    ((c : ℕ) → c < 128 → get_or xs c 0 ≡ kept_number (says c)) → (n : ℕ) → n ≡ min (get_or xs i 0 + 1) (2 ^ 64) → {Y : Type 0} (y : Y) (c : ℕ) → c < 128 →
    get_or (set xs i n) c 0 ≡ kept_number (says c + length (cond (eqb i c) (y ∷ []) []))
set_sent xs says i len low h n is y c lt = grind (arith, common_steps, h c lt, h i low)

-- a list of one command, whichever it is, has one member
parked : {X : Type 0} (n thread k core : ℕ) (y : X) → n + length (cond (eqb thread k) (y ∷ []) []) ≡ n + length (cond (eqb thread k) (core ∷ []) [])
parked n thread k core y = elim (eqb thread k) as (λ b. n + length (cond b (y ∷ []) []) ≡ n + length (cond b (core ∷ []) [])) [ true ↦ refl | false ↦ refl ]

none_of : (o : Option placements.Placement) → option_map kept_placement o ≡ None → o ≡ None
none_of None e = refl
none_of (Some p) e = cc

some_thread : (o : Option placements.Placement) (p : placements.Placement) → option_map kept_placement o ≡ Some p →
    option_map (λ (q : placements.Placement). q.thread) o ≡ Some p.thread
some_thread None p e = cc
some_thread (Some q) p e = let f : placements.Placement → ℕ = λ r. r.thread in
    let g : kept_placement q ≡ p = cc in ap (λ n. Some n) (ap f g)

left_kept : (o : Option placements.Placement) (cause : Cause) → kept_holder (left_by o cause) ≡ left_by (option_map kept_placement o) cause
left_kept None cause = refl
left_kept (Some p) cause = refl

pub Holding_revoke_none : (h : Holding) (x : List Action) (core : ℕ) (cause : Cause) → length h.holders ≡ 128 → core < 128 → HoldersAgree h x →
    get_or h.granted core None ≡ None →
    HoldersAgree (record { granted = h.granted; holders = set h.holders core holders.Free; sent = h.sent }) (x ++ Revoke core cause ∷ [])
Holding_revoke_none h x core cause len low s e =
    let gone : option_map kept_placement (last_placement x core) ≡ None = sym (s.granted core low) ∙ e in
    let was : last_placement x core ≡ None = none_of (last_placement x core) gone in record {
      granted = λ c lt. s.granted c lt ∙ sym (ap (λ o. option_map kept_placement o) (last_placement_push x (Revoke core cause) c));
      holders = λ c lt. set_says h.holders holders.Free (λ c. kept_holder (holder_of x c)) 128 core holders.Free len low s.holders c lt
          ∙ sym (ap kept_holder (holder_push x (Revoke core cause) c ∙ rw was (unwrap_if (eqb core c) holders.Free (holder_of x c))) ∙ map_if kept_holder (eqb core c) holders.Free (holder_of x c));
      sent = λ k lt. s.sent k lt ∙ sym (ap kept_number (sent_push x (Revoke core cause) k ∙ rw (last_thread_placement x core, was) (omega arith)));
    }

pub Holding_revoke : (h : Holding) (x : List Action) (core : ℕ) (cause : Cause) (p : placements.Placement) → length h.holders ≡ 128 → length h.sent ≡ 128 →
    core < 128 → p.thread < 128 → HoldersAgree h x → get_or h.granted core None ≡ Some p → (n : ℕ) → n ≡ min (get_or h.sent p.thread 0 + 1) (2 ^ 64) →
    HoldersAgree (record { granted = h.granted; holders = set h.holders core (holders.Leaving p cause); sent = set h.sent p.thread n }) (x ++ Revoke core cause ∷ [])
Holding_revoke h x core cause p len len2 low lowk s e n is =
    let was : option_map kept_placement (last_placement x core) ≡ Some p = sym (s.granted core low) ∙ e in record {
      granted = λ c lt. s.granted c lt ∙ sym (ap (λ o. option_map kept_placement o) (last_placement_push x (Revoke core cause) c));
      holders = λ c lt. set_says h.holders holders.Free (λ c. kept_holder (holder_of x c)) 128 core (holders.Leaving p cause) len low s.holders c lt
          ∙ sym (ap kept_holder (holder_push x (Revoke core cause) c ∙ unwrap_if (eqb core c) (left_by (last_placement x core) cause) (holder_of x c))
          ∙ map_if kept_holder (eqb core c) (left_by (last_placement x core) cause) (holder_of x c)
          ∙ ap (λ (o : Holder). cond (eqb core c) o (kept_holder (holder_of x c))) (left_kept (last_placement x core) cause ∙ ap (λ o. left_by o cause) was));
      sent = λ k lt. set_sent h.sent (sent_to x) p.thread len2 lowk s.sent n is core k lt
          ∙ sym (ap kept_number (sent_push x (Revoke core cause) k ∙ rw (last_thread_placement x core, some_thread (last_placement x core) p was) (parked (sent_to x k) p.thread k core _)));
    }

pub Holding_grant : (h : Holding) (x : List Action) (core thread class : ℕ) → length h.granted ≡ 128 → length h.holders ≡ 128 → length h.sent ≡ 128 →
    core < 128 → thread < 128 → HoldersAgree h x → (n : ℕ) → n ≡ min (get_or h.sent thread 0 + 1) (2 ^ 64) →
    HoldersAgree (record { granted = set h.granted core (Some (record { thread = thread; number = n })); holders = set h.holders core (holders.Held (record { thread = thread; number = n })); sent = set h.sent thread n }) (x ++ Grant core thread class ∷ [])
Holding_grant h x core thread class len0 len len2 low lowk s n is =
    let P : ℕ → placements.Placement = λ m. record { thread = thread; number = m } in
    let was : n ≡ kept_number (sent_to x thread + 1) = is ∙ ap (λ m. min (m + 1) (2 ^ 64)) (s.sent thread lowk) ∙ kept_more (sent_to x thread) in record {
      granted = λ c lt. set_says h.granted None (λ c. option_map kept_placement (last_placement x c)) 128 core (Some (P n)) len0 low s.granted c lt
          ∙ sym (ap (λ o. option_map kept_placement o) (last_placement_push x (Grant core thread class) c ∙ or_if (eqb core c) (placed x thread) (last_placement x c))
          ∙ map_if (λ o. option_map kept_placement o) (eqb core c) (Some (placed x thread)) (last_placement x c)
          ∙ ap (λ m. cond (eqb core c) (Some (P m)) (option_map kept_placement (last_placement x c))) (sym was));
      holders = λ c lt. set_says h.holders holders.Free (λ c. kept_holder (holder_of x c)) 128 core (holders.Held (P n)) len low s.holders c lt
          ∙ sym (ap kept_holder (holder_push x (Grant core thread class) c ∙ unwrap_if (eqb core c) (holders.Held (placed x thread)) (holder_of x c))
          ∙ map_if kept_holder (eqb core c) (holders.Held (placed x thread)) (holder_of x c)
          ∙ ap (λ m. cond (eqb core c) (holders.Held (P m)) (kept_holder (holder_of x c))) (sym was));
      sent = λ k lt. set_sent h.sent (sent_to x) thread len2 lowk s.sent n is core k lt
          ∙ sym (ap kept_number (sent_push x (Grant core thread class) k ∙ parked (sent_to x k) thread k core _));
    }
