-- A task acts in its own turn, and nowhere before it.
use Rattle.cal_assured.proofs.Common.{◌≡◌, ◌≢◌, ℕ, ◌<◌, zero, suc, Bool, true, false, not, ◌&&◌, ◌||◌, cond, eqb, nat_le, nat_lt, List, [], ◌∷◌, ◌++◌, length, Option, Some, None, refl, sym, ap, ◌∙◌, arith, append-nil, append_assoc, and_parts, leb-true, ltb-true, ne_eqb, eqb-true, sibling_of, Table, owner_of, thread_of, limit_of, Action, Free, Unban, Ban, Revoke, Grant, CoreClass, Candidate, holder_of, ban_of, class_number, is_idle, in_turn, is_held, still_shows, ban_for, lowest_below, thread_choice, grant_of, followed, Setting, so_far, kept_now, may_act, act_of, act_in_place, turn_in_place, unbanned_of, bounded_of, is_short, waits, are_wanted, choice_for, acted_more, lowest_passes, thread_facts, made_before_turn}
use Rattle.cal_machine.proofs.ThreadNumbers.{task_there}
use Rattle.cal_policy.specs.declared.history.action.Cause.TheVariants as causes
use Rattle.cal_policy.specs.declared.board.bans.BannedFor.{BannedFor}
use Rattle.cal_policy.specs.Pass.Bandwidth.{victim_of, core_to_lose, cut_at, cut_of, rise_of, is_capped, bandwidth_part}
use Rattle.cal_policy.specs.Pass.Frees.{shows_left, free_at, frees}
use Rattle.cal_policy.specs.Assured.Acted.{is_own, has_acted}
use Rattle.cal_policy.specs.Assured.Hyperthreads.{unban_for, unban_at, due_for, bans_at, bans}
use Rattle.cal_policy.specs.Assured.Order.{place_of, task_in_place}

-- among these actions is none of task u
abbrev Without : Table → ℕ → List Action → Type 0
Without table u l = has_acted table l u ≡ false

neither : (a b : Bool) → a ≡ false → b ≡ false → (a || b) ≡ false
neither true b e f = cc
neither false b e f = f

both_without : (table : Table) (u : ℕ) (xs ys : List Action) → Without table u xs → Without table u ys → Without table u (xs ++ ys)
both_without table u xs ys e f = acted_more table xs ys u ∙ neither (has_acted table xs u) (has_acted table ys u) e f

-- nor after as many turns as have none
turns_without : (table : Table) (u : ℕ) (f : List Action → ℕ → List Action) (n : ℕ) → ((now : List Action) (k : ℕ) → k < n → Without table u (f now k)) →
    (before : List Action) → Without table u before → Without table u (before ++ in_turn f before n)
turns_without table u f zero step before e = ap (λ l. has_acted table l u) (append-nil before) ∙ e
turns_without table u f (suc n) step before e =
    let now = before ++ in_turn f before n in
    ap (λ l. has_acted table l u) (sym (append_assoc before (in_turn f before n) (f now n)))
    ∙ both_without table u now (f now n) (turns_without table u f n (λ l k lt. step l k (omega (arith, lt))) before e) (step now n (omega arith))

if_without : (table : Table) (u : ℕ) (b : Bool) (xs ys : List Action) → Without table u xs → Without table u ys → Without table u (cond b xs ys)
if_without table u true xs ys e f = e
if_without table u false xs ys e f = f

unban_without : (s : Setting) (u : ℕ) (x : List Action) (c : ℕ) (o : Option BannedFor) → Without s.table u (unban_for s x c o)
unban_without s u x c None = refl
unban_without s u x c (Some ban) = if_without s.table u (still_shows (kept_now s ban.thread) (sibling_of c) ban.started && not (are_wanted s x)) [] (Unban c ∷ []) refl refl

ban_without : (s : Setting) (u : ℕ) (x : List Action) (c : ℕ) (o : Option ℕ) → Without s.table u (ban_for s x c o)
ban_without s u x c None = refl
ban_without s u x c (Some thread) = if_without s.table u (is_held (holder_of x (sibling_of c))) (Revoke (sibling_of c) (causes.Ban c) ∷ []) [] refl refl

cut_without : (s : Setting) (u : ℕ) (x : List Action) (t : ℕ) (o : Option ℕ) → Without s.table u (cut_at s x t o)
cut_without s u x t None = refl
cut_without s u x t (Some core) = refl

victim_without : (s : Setting) (u : ℕ) (x : List Action) (o : Option (Candidate ℕ)) → Without s.table u (cut_of s x o)
victim_without s u x None = refl
victim_without s u x (Some v) = cut_without s u x v.number (core_to_lose s x v.number)

rise_without : (s : Setting) (u : ℕ) (x : List Action) (o : Option ℕ) → Without s.table u (rise_of s x o)
rise_without s u x None = refl
rise_without s u x (Some t) = refl

bandwidth_without : (s : Setting) (u : ℕ) (acts : List Action) → Without s.table u (bandwidth_part s acts)
bandwidth_without s u acts =
    let x = so_far s acts in
    let capped = lowest_below (is_capped s x) (length s.table.tasks) in
    if_without s.table u (nat_lt s.table.bandwidth_limit s.input.bandwidth) (cut_of s x (victim_of s x)) (rise_of s x capped) (victim_without s u x (victim_of s x)) (rise_without s u x capped)

-- before the grants no task has acted
pub bounded_without : (s : Setting) (u : ℕ) → Without s.table u (bounded_of s)
bounded_without s u =
    let freed : List Action = followed [] (frees s) in
    let one : Without s.table u freed = turns_without s.table u (free_at s) s.table.cores
    (λ now c lt. if_without s.table u (shows_left (kept_now s) (holder_of (so_far s now) c)) (Free c ∷ []) [] refl refl) [] refl in
    let two : Without s.table u (unbanned_of s) = turns_without s.table u (unban_at s) s.table.cores (λ now c lt. unban_without s u (so_far s now) c (ban_of (so_far s now) c)) freed one in
    let banned : List Action = followed (unbanned_of s) (bans s) in
    let three : Without s.table u banned = turns_without s.table u (bans_at s) s.table.cores (λ now c lt. ban_without s u (so_far s now) c (due_for s (so_far s now) c)) (unbanned_of s) two in
    both_without s.table u banned (bandwidth_part s banned) three (bandwidth_without s u banned)

-- a thread of a task is of no other
own_owner : (table : Table) (u k : ℕ) → u < length table.tasks → is_own table u k ≡ true → owner_of table k ≡ u
own_owner table u k lt e =
    let both = and_parts (nat_le (thread_of table u 0) k) (nat_lt k (thread_of table u (limit_of table u))) e in
    let from = leb-true (thread_of table u 0) k both.0 in
    let to = ltb-true k (thread_of table u (limit_of table u)) both.1 in
    task_there table.tasks u k lt (omega (arith, from)) to

not_own : (table : Table) (u t k : ℕ) → u < length table.tasks → owner_of table k ≡ t → t ≢ u → (b : Bool) → is_own table u k ≡ b → b ≡ false
not_own table u t k lt e off true is = absurd (off (sym e ∙ own_owner table u k lt is))
not_own table u t k lt e off false is = refl

-- an act of another task is none of u
chosen_without : (s : Setting) (u t : ℕ) (x : List Action) → u < length s.table.tasks → t < length s.table.tasks → t ≢ u → (thread : Option (Candidate ℕ)) → thread_choice s x t ≡ thread →
    (core : Option (Candidate CoreClass)) → Without s.table u (grant_of s t thread core)
chosen_without s u t x lu lt off None e core = refl
chosen_without s u t x lu lt off (Some thread) e None = refl
chosen_without s u t x lu lt off (Some thread) e (Some core) =
    let k = thread_of s.table t thread.number in
    let own : is_own s.table u k ≡ false = not_own s.table u t k lu (thread_facts s x t thread lt e).owner off (is_own s.table u k) refl in
    if_without s.table u (is_idle core.rank) (Grant core.number k (class_number core.rank) ∷ []) (Revoke core.number (causes.Preempt t) ∷ [])
    (neither (is_own s.table u k) false own refl) (neither _ false (ne_eqb t u off) refl)

act_without : (s : Setting) (u t : ℕ) (acts : List Action) → u < length s.table.tasks → t < length s.table.tasks → t ≢ u → Without s.table u (act_of s acts t)
act_without s u t acts lu lt off =
    let x = so_far s acts in
    if_without s.table u (waits s x t && may_act s acts t) (grant_of s t (thread_choice s x t) (choice_for s acts t)) [] (chosen_without s u t x lu lt off (thread_choice s x t) refl (choice_for s acts t)) refl

place_without : (s : Setting) (u place : ℕ) (acts x : List Action) → u < length s.table.tasks → (place_of s x u ≡ place → ⊥) → (o : Option ℕ) → task_in_place s x place ≡ o →
    Without s.table u (act_in_place s acts o)
place_without s u place acts x lu off None e = refl
place_without s u place acts x lu off (Some t) e =
    let there = lowest_passes (λ v. eqb (place_of s x v) place) (length s.table.tasks) t e in
    let at = eqb-true (place_of s x t) place there.1 in
    act_without s u t acts lu there.0 (λ same. off (ap (place_of s x) (sym same) ∙ at))

turn_without : (s : Setting) (u place : ℕ) (acts x : List Action) → u < length s.table.tasks → (place_of s x u ≡ place → ⊥) → Without s.table u (turn_in_place s acts (task_in_place s x place))
turn_without s u place acts x lu off = turns_alone s.table.cores
  where
    turns_alone : (n : ℕ) → Without s.table u (in_turn (λ made act. act_in_place s made (task_in_place s x place)) acts n)
    turns_alone zero = refl
    turns_alone (suc n) =
        let so = in_turn (λ made act. act_in_place s made (task_in_place s x place)) acts n in
        both_without s.table u so (act_in_place s (acts ++ so) (task_in_place s x place)) (turns_alone n) (place_without s u place (acts ++ so) x lu off (task_in_place s x place) refl)

-- so where its turn begins it has not acted
pub none_before_turn : (s : Setting) (u : ℕ) → u < length s.table.tasks → Without s.table u (made_before_turn s u)
none_before_turn s u lu =
    let b = bounded_of s in
    let x = so_far s b in
    turns_without s.table u (λ made place. turn_in_place s made (task_in_place s x place)) (place_of s x u)
    (λ now place lt. turn_without s u place now x lu (λ at. omega (arith, at, lt))) b (bounded_without s u)

pub acts_first_time : (s : Setting) (u : ℕ) → u < length s.table.tasks → may_act s (made_before_turn s u) u ≡ true
acts_first_time s u lu =
    let acts = made_before_turn s u in
    ap (λ b. is_short s.table (so_far s acts) u || not b) (none_before_turn s u lu) ∙ or_true (is_short s.table (so_far s acts) u)
  where
    or_true : (b : Bool) → (b || true) ≡ true
    or_true true = refl
    or_true false = refl
