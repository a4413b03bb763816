-- What each act of a short task keeps holds at the end of its turn; and how what it needs goes down by what
-- it is granted.
use Rattle.cal_guarantee.proofs.Common.{◌≡◌, ℕ, ◌+◌, ◌<◌, ◌≤◌, Bool, true, false, ◌&&◌, cond, List, [], ◌∷◌, ◌++◌, length, Some, refl, ap, sym, ◌∙◌, subst, arith, append_assoc, zero, suc, append-nil, and_parts, and_from, eq-eqb, Table, IsTable, owner_of, thread_of, Action, Free, Unban, Ban, Revoke, Cap, Grant, Setting, so_far, booked_by, thread_choice, grant_of, EachAfter, IsSteady, so_far_more, pressing, new_helpers, is_short, lacks, waits, waits_short, spare, choice_for, may_act, act_of, acts_in_place, sum_by_push, Cause, Moves, AllMove, act_moves, OneLess, one_less, grants_to, granted_to}
use Rattle.cal_guarantee.proofs.Steps.{IsStep, IsRevokeStep, IsGrantStep, act_steps, acts_steps}
use Rattle.cal_guarantee.proofs.Acting.{acts_short}
use Rattle.cal_guarantee.proofs.Counts.{short_parts, not_short_books, lacks_short, lacks_same}
use Rattle.cal_guarantee.proofs.Own.{same_books, same_pressing, same_new_helpers, same_spare}
use Rattle.cal_guarantee.proofs.KeptAlong.{NoGrant, along, steady_step, own_step, grant_one, grant_owner, taken_open, open_free}
use Rattle.cal_guarantee.proofs.PassTurns.{ToAny, never_granted}

-- a grant is to task t, which is short
abbrev pub ToShortSelf : Setting → ℕ → List Action → ℕ → Type 0
ToShortSelf s t acts u = (u ≡ t) × (is_short s.table (so_far s acts) t ≡ true)

-- what an act of task t keeps, while it is short and waits
abbrev pub IsKeptByActs : (List Action → Type 0) → Setting → ℕ → Type 0
IsKeptByActs P s t = (now : List Action) (a : Action) → waits_short s (so_far s now) t ≡ true → Moves (so_far s now) a → IsStep ⊥ (ToShortSelf s t) s now a → IsSteady s.table (so_far s now) → P now →
    P (now ++ a ∷ [])

module _ (P : List Action → Type 0) (s : Setting) (t : ℕ) (ok : IsTable s.table) (lt : t < length s.table.tasks) (keeps : IsKeptByActs P s t) where
  list_keeps : (now l : List Action) → waits_short s (so_far s now) t ≡ true → AllMove (so_far s now) l → EachAfter (IsStep ⊥ (ToShortSelf s t) s) now l → IsSteady s.table (so_far s now) → P now → P (now ++ l)
  list_keeps now [] w m each steady h = subst P (sym (append-nil now)) h
  list_keeps now (a ∷ []) w m each steady h = keeps now a w m each.0 steady h
  list_keeps now (a ∷ b ∷ more) w m each steady h = absurd m

  act_keeps : (now : List Action) → (may_act s now t ≡ true → is_short s.table (so_far s now) t ≡ true) → IsSteady s.table (so_far s now) → P now →
      (b : Bool) → (waits s (so_far s now) t && may_act s now t) ≡ b → P (now ++ act_of s now t)
  act_keeps now short steady h true e =
      let x = so_far s now in
      let both = and_parts (waits s x t) (may_act s now t) e in
      let is = short both.1 in
      list_keeps now (act_of s now t) (and_from (is_short s.table x t) (waits s x t) is both.0) (act_moves s now t)
      (act_steps ⊥ (ToShortSelf s t) s now t ok lt (λ core low may taken. (refl, is))) steady h
  act_keeps now short steady h false e =
      let none = ap (λ b. cond b (grant_of s t (thread_choice s (so_far s now) t) (choice_for s now t)) []) e in
      subst P (sym (ap (λ l. now ++ l) none ∙ append-nil now)) h

  pub turn_keeps : (acts : List Action) (n : ℕ) → is_short s.table (so_far s acts) t ≡ true → IsSteady s.table (so_far s acts) → P acts → P (acts ++ acts_in_place n s (Some t) acts)
  turn_keeps acts zero short steady h = subst P (sym (append-nil acts)) h
  turn_keeps acts (suc n) short steady h =
      let so = acts_in_place n s (Some t) acts in
      let now = acts ++ so in
      let st = along s (IsStep ⊥ ToAny s) (IsSteady s.table) (λ past a q was. steady_step ⊥ ToAny s past a q was) acts so (acts_steps ⊥ ToAny s acts t n ok lt (λ k core low may taken. tt)) steady in
      subst P (append_assoc acts so (act_of s now t))
      (act_keeps now (acts_short s acts t n short) st (turn_keeps acts n short steady h) (waits s (so_far s now) t && may_act s now t) refl)

-- what a task needs, by what it was granted since
pub record HasGot (s : Setting) (t : ℕ) (acts now : List Action) : Type 0 where
  pub lack : lacks s.table (so_far s acts) t + granted_to s.table t acts ≤ lacks s.table (so_far s now) t + granted_to s.table t now
  pub spares : spare s (so_far s acts) t + granted_to s.table t acts ≤ spare s (so_far s now) t + granted_to s.table t now
  pub helped : pressing s (so_far s acts) t + new_helpers s (so_far s now) t + granted_to s.table t acts
      ≤ pressing s (so_far s now) t + new_helpers s (so_far s acts) t + granted_to s.table t now

-- one core more
lacks_one : (table : Table) (x y : List Action) (t : ℕ) → is_short table x t ≡ true → booked_by table y t ≡ booked_by table x t + 1 → lacks table x t ≤ lacks table y t + 1
lacks_one table x y t short one = go (is_short table y t) refl
  where
    go : (b : Bool) → is_short table y t ≡ b → lacks table x t ≤ lacks table y t + 1
    go true e =
        let before = lacks_short table x t short in
        let after = lacks_short table y t e in
        omega (arith, before, after, one)
    go false e =
        let before = lacks_short table x t short in
        let parts = short_parts table x t short in
        let most = not_short_books table y t parts.0 e in
        omega (arith, before, most, one)

got_revoke : (s : Setting) (t : ℕ) (acts now : List Action) (core : ℕ) (cause : Cause) → t < length s.table.tasks → is_short s.table (so_far s now) t ≡ true → IsRevokeStep s now core →
    IsSteady s.table (so_far s now) → HasGot s t acts now → HasGot s t acts (now ++ Revoke core cause ∷ [])
got_revoke s t acts now core cause lt short q steady h =
    let a = Revoke core cause in
    let x = so_far s now in
    let y = x ++ a ∷ [] in
    let same = own_step ⊥ NoGrant s t now a (never_granted t) q steady short in
    let whole = so_far_more s now (a ∷ []) in
    let more = sum_by_push (grants_to s.table t) now a in
    let lack = ap (λ z. lacks s.table z t) whole ∙ lacks_same s.table x y t (same_books s t x y same) in
    let spares = ap (λ z. spare s z t) whole ∙ same_spare s t x y lt same in
    let press = ap (λ z. pressing s z t) whole ∙ same_pressing s t x y lt same in
    let helps = ap (λ z. new_helpers s z t) whole ∙ same_new_helpers s t x y lt same in
    let one = h.lack in
    let two = h.spares in
    let three = h.helped in
    record {
      lack = omega (arith, lack, more, one);
      spares = omega (arith, spares, more, two);
      helped = omega (arith, press, helps, more, three);
    }

got_grant : (s : Setting) (t : ℕ) (acts now : List Action) (core thread class : ℕ) (q : IsGrantStep (ToShortSelf s t) s now core thread) → HasGot s t acts now →
    HasGot s t acts (now ++ Grant core thread class ∷ [])
got_grant s t acts now core thread class q h =
    let a = Grant core thread class in
    let x = so_far s now in
    let y = x ++ a ∷ [] in
    let whole = so_far_more s now (a ∷ []) in
    let free = open_free x core (taken_open s x q.task core q.may).0 in
    let mine : thread ≡ thread_of s.table t q.number = q.thread_is ∙ ap (λ u. thread_of s.table u q.number) q.good.0 in
    let L : ℕ → Type 0 = λ k. OneLess s t x (x ++ Grant core k class ∷ []) in
    let less : OneLess s t x y = subst L (sym mine) (one_less s now t core q.number class free) in
    let owner : owner_of s.table thread ≡ t = grant_owner (ToShortSelf s t) s now core thread q ∙ q.good.0 in
    let counted : grants_to s.table t a ≡ 1 = ap (λ b. cond b 1 0) (eq-eqb (owner_of s.table thread) t owner) in
    let more = sum_by_push (grants_to s.table t) now a in
    let B : ℕ → Type 0 = λ u. booked_by s.table y u ≡ booked_by s.table x u + 1 in
    let books : booked_by s.table y t ≡ booked_by s.table x t + 1 = subst B q.good.0 (grant_one s (ToShortSelf s t) now core thread class q).books in
    let lack = lacks_one s.table x y t q.good.1 books in
    let spares = less.spares in
    let helped = less.helped in
    let at_lack = ap (λ z. lacks s.table z t) whole in
    let at_spare = ap (λ z. spare s z t) whole in
    let at_press = ap (λ z. pressing s z t) whole in
    let at_help = ap (λ z. new_helpers s z t) whole in
    let one = h.lack in
    let two = h.spares in
    let three = h.helped in
    record {
      lack = omega (arith, lack, more, counted, one, at_lack);
      spares = omega (arith, spares, more, counted, two, at_spare);
      helped = omega (arith, helped, more, counted, three, at_press, at_help);
    }

got_kept : (s : Setting) (t : ℕ) (acts : List Action) → t < length s.table.tasks → IsKeptByActs (HasGot s t acts) s t
got_kept s t acts lt now (Free core) w m q steady h = absurd q
got_kept s t acts lt now (Unban core) w m q steady h = absurd q
got_kept s t acts lt now (Ban core thread started) w m q steady h = absurd m
got_kept s t acts lt now (Cap task cap) w m q steady h = absurd m
got_kept s t acts lt now (Revoke core cause) w m q steady h = got_revoke s t acts now core cause lt (and_parts (is_short s.table (so_far s now) t) (waits s (so_far s now) t) w).0 q steady h
got_kept s t acts lt now (Grant core thread class) w m q steady h = got_grant s t acts now core thread class q h

pub turn_got : (s : Setting) (t : ℕ) (acts : List Action) (n : ℕ) → IsTable s.table → t < length s.table.tasks → is_short s.table (so_far s acts) t ≡ true → IsSteady s.table (so_far s acts) →
    HasGot s t acts (acts ++ acts_in_place n s (Some t) acts)
turn_got s t acts n ok lt short steady =
    turn_keeps (HasGot s t acts) s t ok lt (got_kept s t acts lt) acts n short steady
    (record { lack = omega arith; spares = omega arith; helped = omega arith })
