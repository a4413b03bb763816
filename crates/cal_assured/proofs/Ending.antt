-- After Unbans as many cores are open as are lacking, or no free core is banned.
use Rattle.cal_assured.proofs.Common.{◌≡◌, ℕ, ◌<◌, ◌≤◌, ◌⊎◌, zero, suc, Bool, true, false, not, ◌&&◌, cond, eqb, ltb, List, [], ◌∷◌, ◌++◌, Option, Some, None, inl, inr, refl, sym, ap, ◌∙◌, arith, subst, append_assoc, ⊎_elim, is_some, and_parts, and_from, and_cases, not-true, not_from_false, ltb-false, eq-eqb, both_ways, sibling_of, Table, Action, Unban, holder_of, ban_of, is_banned, in_turn, is_free, still_shows, is_granted_in, followed, Setting, so_far, kept_now, holder_push, last_thread_push, count_le, made_are, so_far_push, BansEndForWhatIsLacked, lacking, is_open, open_cores, some_waits_short, are_wanted}
use Rattle.std.proofs.lemmas.List.{append-nil}
use Rattle.cal_policy.specs.declared.board.bans.BannedFor.{BannedFor}
use Rattle.cal_policy.specs.Pass.Frees.{frees}
use Rattle.cal_policy.specs.Laws.{ActionIsOneMore}
use Rattle.cal_policy.proofs.PassLemmas.Pairs.{unbanned_at}
use Rattle.cal_policy.proofs.PassLemmas.Best.{cases_eq_lt}
use Rattle.cal_laws.proofs.CapLemmas.Held.{cap_same}
use Rattle.cal_policy.specs.Assured.Hyperthreads.{unban_for, unban_at}
use Rattle.cal_assured.proofs.ByHolders.{new_in, lacking_same, some_waits_same}

still_none : (b banned : Bool) → banned ≡ false → cond b false banned ≡ false
still_none true banned e = refl
still_none false banned e = e

pub open_grows : (table : Table) (x : List Action) (core : ℕ) → open_cores table x ≤ open_cores table (x ++ Unban core ∷ [])
open_grows table x core = count_le (is_open (x ++ Unban core ∷ [])) (is_open x) table.cores (λ c lt e.
    let both = and_parts (is_free (holder_of x c)) (not (is_banned x c)) e in
    and_from (is_free (holder_of (x ++ Unban core ∷ []) c)) (not (is_banned (x ++ Unban core ∷ []) c))
    (ap is_free (holder_push x (Unban core) c) ∙ both.0)
    (not_from_false (is_banned (x ++ Unban core ∷ []) c) (unbanned_at x core c ∙ still_none (eqb core c) (is_banned x c) (not-true (is_banned x c) both.1))))

-- as many are open as are lacking, or of the cores below n no free one is banned
abbrev Ended : Setting → List Action → ℕ → Type 0
Ended s x n = (lacking s x ≤ open_cores s.table x) ⊎ ((c : ℕ) → c < n → is_free (holder_of x c) ≡ true → is_banned x c ≡ false)

-- what the actions of a turn leave
record Left (s : Setting) (now more : List Action) (n : ℕ) : Type 0 where
  back : some_waits_short s (so_far s (now ++ more)) ≡ true → some_waits_short s (so_far s now) ≡ true
  ended : some_waits_short s (so_far s now) ≡ true → Ended s (so_far s now) n → Ended s (so_far s (now ++ more)) (suc n)

left_nothing : (s : Setting) (now : List Action) (n : ℕ) → (some_waits_short s (so_far s now) ≡ true → Ended s (so_far s now) n → Ended s (so_far s now) (suc n)) → Left s now [] n
left_nothing s now n e = record { back = rw append-nil (λ h. h); ended = rw append-nil e }

one_more : (s : Setting) (x : List Action) (n : ℕ) → (is_free (holder_of x n) ≡ true → is_banned x n ≡ false) → Ended s x n → Ended s x (suc n)
one_more s x n here e = ⊎_elim
    (λ enough. inl enough)
    (λ below. inr (λ c lt free. ⊎_elim
    (λ low. below c low free)
    (λ same. let P : ℕ → Type 0 = λ m. is_free (holder_of x m) ≡ true → is_banned x m ≡ false in subst P (sym same) here free)
    (cases_eq_lt c n lt)))
    e

-- an Unban is no grant
new_still : (s : Setting) (now : List Action) (n c : ℕ) → new_in s (so_far s now ++ Unban n ∷ []) c ≡ new_in s (so_far s now) c
new_still s now n c =
    ap (λ l. new_in s l c) (sym (so_far_push s now (Unban n)))
    ∙ ap (λ l. is_granted_in l c) (made_are s (now ++ Unban n ∷ []))
    ∙ ap is_some (last_thread_push now (Unban n) c)
    ∙ sym (ap (λ l. is_granted_in l c) (made_are s now))

unbanned_ended : ActionIsOneMore → (s : Setting) (now : List Action) (n : ℕ) → Ended s (so_far s now) n → Ended s (so_far s now ++ Unban n ∷ []) (suc n)
unbanned_ended more s now n e =
    let x : List Action = so_far s now in
    let y : List Action = x ++ Unban n ∷ [] in
    let same : lacking s y ≡ lacking s x = lacking_same s x y (λ c. holder_push x (Unban n) c) (λ t. cap_same more s.table x (Unban n) t refl) (λ c. new_still s now n c) in
    ⊎_elim
    (λ enough. inl (omega (arith, same, enough, open_grows s.table x n)))
    (λ below. inr (λ c lt free. ⊎_elim
    (λ low. unbanned_at x n c ∙ still_none (eqb n c) (is_banned x c) (below c low (sym (ap is_free (holder_push x (Unban n) c)) ∙ free)))
    (λ here. unbanned_at x n c ∙ ap (λ (b : Bool). cond b false (is_banned x c)) (eq-eqb n c (sym here)))
    (cases_eq_lt c n lt)))
    e

unban_left : ActionIsOneMore → (s : Setting) (now : List Action) (n : ℕ) → Left s now (Unban n ∷ []) n
unban_left more s now n =
    let x : List Action = so_far s now in
    let P : List Action → Type 0 = λ y. Ended s y (suc n) in
    let Q : List Action → Type 0 = λ y. some_waits_short s y ≡ true in
    record {
      back = λ w. sym (some_waits_same s x (x ++ Unban n ∷ []) (λ c. holder_push x (Unban n) c) (λ t. cap_same more s.table x (Unban n) t refl) (λ c. new_still s now n c)) ∙ subst Q (so_far_push s now (Unban n)) w;
      ended = λ w e. subst P (sym (so_far_push s now (Unban n))) (unbanned_ended more s now n e);
    }

kept_ban : (s : Setting) (x : List Action) (n : ℕ) (shown : Bool) → (shown && not (are_wanted s x)) ≡ true → some_waits_short s x ≡ true → Ended s x n → Ended s x (suc n)
kept_ban s x n shown e wait was =
    let both = and_parts shown (not (are_wanted s x)) e in
    ⊎_elim
    (λ none. absurd (both_ways _ none wait))
    (λ enough. inl (ltb-false (open_cores s.table x) (lacking s x) enough))
    (and_cases (some_waits_short s x) (ltb (open_cores s.table x) (lacking s x)) (not-true (are_wanted s x) both.1))

turn_by : ActionIsOneMore → (s : Setting) (now : List Action) (n : ℕ) (shown b : Bool) → (shown && not (are_wanted s (so_far s now))) ≡ b → Left s now (cond b [] (Unban n ∷ [])) n
turn_by more s now n shown true e = left_nothing s now n (λ wait was. kept_ban s (so_far s now) n shown e wait was)
turn_by more s now n shown false e = unban_left more s now n

turn_left : ActionIsOneMore → (s : Setting) (now : List Action) (n : ℕ) (o : Option BannedFor) → ban_of (so_far s now) n ≡ o → Left s now (unban_for s (so_far s now) n o) n
turn_left more s now n None e = left_nothing s now n (λ wait was. one_more s (so_far s now) n (λ free. ap is_some e) was)
turn_left more s now n (Some ban) e =
    turn_by more s now n (still_shows (kept_now s ban.thread) (sibling_of n) ban.started)
    (still_shows (kept_now s ban.thread) (sibling_of n) ban.started && not (are_wanted s (so_far s now))) refl

turns_end : ActionIsOneMore → (s : Setting) (before : List Action) (n : ℕ) → some_waits_short s (so_far s (before ++ in_turn (unban_at s) before n)) ≡ true →
    Ended s (so_far s (before ++ in_turn (unban_at s) before n)) n
turns_end more s before zero wait = inr (λ c lt free. absurd (omega (arith, lt)))
turns_end more s before (suc n) wait =
    let now : List Action = before ++ in_turn (unban_at s) before n in
    let turn = turn_left more s now n (ban_of (so_far s now) n) refl in
    let P : List Action → Type 0 = λ l. Ended s (so_far s l) (suc n) in
    let Q : List Action → Type 0 = λ l. some_waits_short s (so_far s l) ≡ true in
    let whole = append_assoc before (in_turn (unban_at s) before n) (unban_at s now n) in
    let there = turn.back (subst Q (sym whole) wait) in
    subst P whole (turn.ended there (turns_end more s before n there))

pub bans_end : ActionIsOneMore → BansEndForWhatIsLacked
bans_end more s wait = turns_end more s (followed [] (frees s)) s.table.cores wait
