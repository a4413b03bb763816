-- After the second part as many cores are open as are lacking, or no free core is banned.
use Rattle.cal_guarantee.proofs.Common.{◌≡◌, ℕ, ◌<◌, ◌≤◌, ◌⊎◌, Bool, true, false, not, ◌&&◌, cond, ltb, List, [], ◌∷◌, ◌++◌, length, Option, Some, None, refl, ap, sym, ◌∙◌, subst, arith, inl, inr, ⊎_elim, append_assoc, zero, suc, append-nil, cases_lt, and_parts, eq-eqb, ltb-false, not-true, is_some, unwrap_or, sibling_of, Action, Unban, holder_of, ban_of, is_banned, in_turn, is_free, Setting, so_far, kept_now, IsSteady, holder_push, ban_push, each_in_turn, so_far_more, unban_for, unban_at, unbans, lacking, open_cores, waits_short, some_waits_short, are_wanted}
use Rattle.cal_policy.specs.declared.board.bans.BannedFor.{BannedFor}
use Rattle.cal_policy.specs.Pass.Bans.{still_shows}
use Rattle.cal_guarantee.proofs.Steps.{IsStep, unban_for_step}
use Rattle.cal_guarantee.proofs.Counts.{unban_at_most}
use Rattle.cal_guarantee.proofs.KeptAlong.{NoGrant, AreEnough, enough_step, with_along, some_waits}

-- none of the first n cores is free and banned
abbrev pub NoneBannedBelow : List Action → ℕ → Type 0
NoneBannedBelow x n = (c : ℕ) → c < n → is_free (holder_of x c) ≡ true → is_banned x c ≡ false

abbrev pub IsUnbannedTo : Setting → List Action → ℕ → Type 0
IsUnbannedTo s x n = AreEnough s x ⊎ NoneBannedBelow x n

-- open cores that are not wanted are enough
not_wanted : (s : Setting) (x : List Action) → some_waits_short s x ≡ true → are_wanted s x ≡ false → AreEnough s x
not_wanted s x some e =
    let lt : ltb (open_cores s.table x) (lacking s x) ≡ false = ap (λ b. b && ltb (open_cores s.table x) (lacking s x)) (sym some) ∙ e in
    ltb-false (open_cores s.table x) (lacking s x) lt

-- the ban of a core that is left
unban_ends : (x : List Action) (core : ℕ) → is_banned (x ++ Unban core ∷ []) core ≡ false
unban_ends x core = ap is_some (ban_push x (Unban core) core)
    ∙ ap (λ b. is_some (unwrap_or (cond b (Some None) None) (ban_of x core))) (eq-eqb core core refl)

-- the core's turn
one_more : (x : List Action) (n : ℕ) → (is_free (holder_of x n) ≡ true → is_banned x n ≡ false) → NoneBannedBelow x n → NoneBannedBelow x (suc n)
one_more x n here below c lt free = ⊎_elim
    (λ (l : c < n). below c l free)
    (λ (g : n ≤ c). let same : c ≡ n = omega (arith, g, lt) in rw same (here (rw same at free)))
    (cases_lt c n)

kept_ban : (s : Setting) (x : List Action) (n : ℕ) → some_waits_short s x ≡ true → are_wanted s x ≡ false → IsUnbannedTo s x (suc n)
kept_ban s x n some e = inl (not_wanted s x some e)

ended_ban : (s : Setting) (acts : List Action) (n : ℕ) → IsSteady s.table (so_far s acts) → some_waits_short s (so_far s acts) ≡ true → IsUnbannedTo s (so_far s acts) n →
    IsUnbannedTo s (so_far s acts ++ Unban n ∷ []) (suc n)
ended_ban s acts n steady some h =
    let x = so_far s acts in ⊎_elim
    (λ enough. inl (enough_step (Unit {0}) NoGrant s acts (Unban n) (λ now u none. absurd none) tt steady some enough))
    (λ below. inr (one_more (x ++ Unban n ∷ []) n (λ free. unban_ends x n)
    (λ c lt free. unban_at_most x n c (below c lt (ap is_free (sym (holder_push x (Unban n) c)) ∙ free)))))
    h

after_turn : (s : Setting) (acts : List Action) (n : ℕ) (b : Bool) → (b ≡ true → are_wanted s (so_far s acts) ≡ false) →
    IsSteady s.table (so_far s acts) → some_waits_short s (so_far s acts) ≡ true → IsUnbannedTo s (so_far s acts) n →
    IsUnbannedTo s (so_far s (acts ++ cond b [] (Unban n ∷ []))) (suc n)
after_turn s acts n true e steady some h =
    let P : List Action → Type 0 = λ now. IsUnbannedTo s (so_far s now) (suc n) in
    subst P (sym (append-nil acts)) (kept_ban s (so_far s acts) n some (e refl))
after_turn s acts n false e steady some h =
    let P : List Action → Type 0 = λ x. IsUnbannedTo s x (suc n) in
    subst P (sym (so_far_more s acts (Unban n ∷ []))) (ended_ban s acts n steady some h)

after_unban : (s : Setting) (acts : List Action) (n : ℕ) (o : Option BannedFor) → ban_of (so_far s acts) n ≡ o →
    IsSteady s.table (so_far s acts) → some_waits_short s (so_far s acts) ≡ true → IsUnbannedTo s (so_far s acts) n →
    IsUnbannedTo s (so_far s (acts ++ unban_for s (so_far s acts) n o)) (suc n)
after_unban s acts n None e steady some h =
    let P : List Action → Type 0 = λ now. IsUnbannedTo s (so_far s now) (suc n) in
    subst P (sym (append-nil acts)) (⊎_elim (λ enough. inl enough) (λ below. inr (one_more (so_far s acts) n (λ free. ap is_some e) below)) h)
after_unban s acts n (Some ban) e steady some h =
    let x = so_far s acts in
    let shown = still_shows (kept_now s ban.thread) (sibling_of n) ban.started in
    let wanted = are_wanted s x in
    after_turn s acts n (shown && not wanted) (λ is. not-true wanted (and_parts shown (not wanted) is).1) steady some h

-- the task is short and waits at each turn
module _ (s : Setting) (t : ℕ) (acts : List Action) (lt : t < length s.table.tasks) (steady : IsSteady s.table (so_far s acts)) (waiting : waits_short s (so_far s acts) t ≡ true) where
  at_turn : (n : ℕ) → IsSteady s.table (so_far s (acts ++ in_turn (unban_at s) acts n)) × (waits_short s (so_far s (acts ++ in_turn (unban_at s) acts n)) t ≡ true)
  at_turn n =
      let end = with_along (Unit {0}) NoGrant s t (λ x. Unit {0}) lt (λ now u none same. none) (λ now a q st w was. tt) acts (in_turn (unban_at s) acts n)
      (each_in_turn (IsStep (Unit {0}) NoGrant s) (unban_at s) acts n (λ now c low. unban_for_step (Unit {0}) NoGrant s now c tt (ban_of (so_far s now) c))) steady waiting tt in
      (end.0, end.1)

  unbanned_to : (n : ℕ) → IsUnbannedTo s (so_far s (acts ++ in_turn (unban_at s) acts n)) n
  unbanned_to zero = inr (λ c low free. absurd (omega (arith, low)))
  unbanned_to (suc n) =
      let now = acts ++ in_turn (unban_at s) acts n in
      let there = at_turn n in
      let P : List Action → Type 0 = λ all. IsUnbannedTo s (so_far s all) (suc n) in
      subst P (append_assoc acts (in_turn (unban_at s) acts n) (unban_at s now n))
      (after_unban s now n (ban_of (so_far s now) n) refl there.0 (some_waits s (so_far s now) t lt there.1) (unbanned_to n))

  -- after the part
  pub after_unbans : IsUnbannedTo s (so_far s (acts ++ unbans s acts)) s.table.cores
  after_unbans = unbanned_to s.table.cores
