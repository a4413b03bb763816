-- Each action of a pass comes in its turn.
use Rattle.cal_laws.proofs.Common.{◌≡◌, ℕ, ◌+◌, ◌*◌, ◌-◌, ◌<◌, ◌≤◌, suc, zero, Bool, true, false, ◌&&◌, cond, nat_lt, List, [], ◌∷◌, ◌++◌, length, Option, Some, None, refl, sym, ap, ◌∙◌, arith, subst, append_assoc, All, append-nil, All-nil, All-push, All-weaker, sibling_of, ThreadsAreOfTheirTask, Table, is_latency_critical, thread_of, Action, Free, Unban, Ban, Revoke, Cap, Grant, BannedFor, Candidate, CoreClass, class_number, is_idle, in_turn, holder_of, ban_of, is_held, held_by, lowest_below, Setting, so_far, kept_now, shows_left, free_at, frees, still_shows, unban_for, unban_at, unbans, ban_due, ban_for, bans_at, bans, victim_of, core_to_lose, cut_at, cut_of, rise_of, is_capped, bandwidth_part, is_congested, may_book, thread_choice, choice_of, grant_of, grant_at, grant_of_kind_at, grants_of_kind, pass_of, EachAfter, ChosenHasWaitedLongest, turn_of, place_of_task, each_append}
use Rattle.cal_policy.specs.declared.history.action.Cause.TheVariants as causes
use Rattle.cal_machine.specs.declared.task.Kind.TheVariants as kinds
use Rattle.cal_laws.proofs.ChoiceLemmas.Chosen.{chosen_owner}
use Rattle.cal_machine.proofs.Siblings.{sibling_back}

-- each member of xs is so after those before it, and all of them together leave Q
pub record Goes {X : Type 0} (P : List X → X → Type 0) (Q : List X → Type 0) (before xs : List X) : Type 0 where
  pub each : EachAfter P before xs
  pub after : Q (before ++ xs)

goes_none : {X : Type 0} (P : List X → X → Type 0) (Q : List X → Type 0) (before : List X) → Q before → Goes P Q before []
goes_none P Q before q = record { each = tt; after = subst Q (sym (append-nil before)) q }

goes_one : {X : Type 0} (P : List X → X → Type 0) (Q : List X → Type 0) (before : List X) (x : X) → P before x → Q (before ++ x ∷ []) → Goes P Q before (x ∷ [])
goes_one P Q before x p q = record { each = (p, tt); after = q }

pub goes_then : {X : Type 0} (P : List X → X → Type 0) (Q R : List X → Type 0) (before xs ys : List X) → Goes P Q before xs → (Q (before ++ xs) → Goes P R (before ++ xs) ys) →
    Goes P R before (xs ++ ys)
goes_then P Q R before xs ys first rest =
    let next = rest first.after in
    record { each = each_append P before xs ys first.each next.each; after = subst R (append_assoc before xs ys) next.after }

goes_if : {X : Type 0} (P : List X → X → Type 0) (Q : List X → Type 0) (before : List X) (b : Bool) (xs ys : List X) → (b ≡ true → Goes P Q before xs) → (b ≡ false → Goes P Q before ys) →
    Goes P Q before (cond b xs ys)
goes_if P Q before true xs ys f g = f refl
goes_if P Q before false xs ys f g = g refl

goes_in_turn : {X : Type 0} (P : List X → X → Type 0) (Q : ℕ → List X → Type 0) (f : List X → ℕ → List X) (before : List X) (n : ℕ) → Q 0 before →
    ((acts : List X) (k : ℕ) → k < n → Q k acts → Goes P (Q (k + 1)) acts (f acts k)) → Goes P (Q n) before (in_turn f before n)
goes_in_turn P Q f before zero q e = goes_none P (Q 0) before q
goes_in_turn P Q f before (suc n) q e =
    let one : n + 1 ≡ suc n = omega arith in
    let C : ℕ → Type 0 = λ m. Goes P (Q m) before (in_turn f before n ++ f (before ++ in_turn f before n) n) in
    subst C one (goes_then P (Q n) (Q (n + 1)) before (in_turn f before n) (f (before ++ in_turn f before n) n)
    (goes_in_turn P Q f before n q (λ acts k lt. e acts k (omega arith))) (λ was. e (before ++ in_turn f before n) n (omega arith) was))

-- all turns so far are below n
abbrev pub Below : Table → ℕ → List Action → Type 0
Below table n acts = All (λ a. turn_of table a < n) acts

below_more : (table : Table) (m n : ℕ) (acts : List Action) → m ≤ n → Below table m acts → Below table n acts
below_more table m n acts le b = All-weaker (λ a. turn_of table a < m) (λ a. turn_of table a < n) (λ a lt. omega arith) acts b

below_push : (table : Table) (n : ℕ) (acts : List Action) (a : Action) → Below table n acts → turn_of table a < n → Below table n (acts ++ a ∷ [])
below_push table n acts a b lt = All-push (λ a. turn_of table a < n) acts a b lt

-- an action after these comes in its turn: strictly after each of theirs
abbrev pub IsInTurn : Table → List Action → Action → Type 0
IsInTurn table acts a = Below table (turn_of table a) acts

-- one action in its turn, and nothing
one : (table : Table) (acts : List Action) (n m : ℕ) (a : Action) → turn_of table a ≡ n → n < m → Below table n acts → Goes (IsInTurn table) (Below table m) acts (a ∷ [])
one table acts n m a e lt b = goes_one (IsInTurn table) (Below table m) acts a
    (below_more table n (turn_of table a) acts (omega (arith, e)) b)
    (below_push table m acts a (below_more table n m acts (omega (arith, lt)) b) (omega (arith, e, lt)))

none : (table : Table) (acts : List Action) (m n : ℕ) → m ≤ n → Below table m acts → Goes (IsInTurn table) (Below table n) acts []
none table acts m n le b = goes_none (IsInTurn table) (Below table n) acts (below_more table m n acts le b)

frees_go : (s : Setting) (acts : List Action) → Below s.table 0 acts → Goes (IsInTurn s.table) (Below s.table s.table.cores) acts (frees s acts)
frees_go s acts b = goes_in_turn (IsInTurn s.table) (λ k. Below s.table k) (free_at s) acts s.table.cores b (λ now c lt q.
    goes_if (IsInTurn s.table) (Below s.table (c + 1)) now (shows_left (kept_now s) (holder_of (so_far s now) c)) (Free c ∷ []) []
    (λ e. one s.table now c (c + 1) (Free c) refl (omega arith) q) (λ e. none s.table now c (c + 1) (omega arith) q))

unban_goes : (s : Setting) (acts : List Action) (c m : ℕ) (o : Option BannedFor) → s.table.cores + c < m → Below s.table (s.table.cores + c) acts →
    Goes (IsInTurn s.table) (Below s.table m) acts (unban_for s c o)
unban_goes s acts c m None lt q = none s.table acts (s.table.cores + c) m (omega (arith, lt)) q
unban_goes s acts c m (Some ban) lt q = goes_if (IsInTurn s.table) (Below s.table m) acts (still_shows (kept_now s ban.thread) (sibling_of c) ban.started) [] (Unban c ∷ [])
    (λ e. none s.table acts (s.table.cores + c) m (omega (arith, lt)) q) (λ e. one s.table acts (s.table.cores + c) m (Unban c) refl lt q)

unbans_go : (s : Setting) (acts : List Action) → Below s.table s.table.cores acts → Goes (IsInTurn s.table) (Below s.table (s.table.cores + s.table.cores)) acts (unbans s acts)
unbans_go s acts b = goes_in_turn (IsInTurn s.table) (λ k. Below s.table (s.table.cores + k)) (unban_at s) acts s.table.cores (below_more s.table s.table.cores (s.table.cores + 0) acts (omega arith) b)
    (λ now c lt q. unban_goes s now c (s.table.cores + (c + 1)) (ban_of (so_far s now) c) (omega arith) q)

-- the turn of a core's ban, and of its revocation
abbrev ban_turn : ℕ → ℕ → ℕ
ban_turn cores c = 2 * cores + 2 * c

ban_goes : (s : Setting) (acts : List Action) (c m : ℕ) (o : Option ℕ) → ban_turn s.table.cores c + 1 < m → Below s.table (ban_turn s.table.cores c) acts →
    Goes (IsInTurn s.table) (Below s.table m) acts (ban_for s (so_far s acts) c o)
ban_goes s acts c m None lt q = none s.table acts (ban_turn s.table.cores c) m (omega (arith, lt)) q
ban_goes s acts c m (Some thread) lt q =
    let ban : Action = Ban (sibling_of c) thread (kept_now s thread).started in
    let held = is_held (holder_of (so_far s acts) (sibling_of c)) in
    let n = ban_turn s.table.cores c in
    goes_then (IsInTurn s.table) (Below s.table (n + 1)) (Below s.table m) acts (ban ∷ []) (cond held (Revoke (sibling_of c) (causes.Ban c) ∷ []) [])
    (one s.table acts n (n + 1) ban (ap (λ d. ban_turn s.table.cores d) (sibling_back c)) (omega arith) q)
    (λ was. goes_if (IsInTurn s.table) (Below s.table m) (acts ++ ban ∷ []) held (Revoke (sibling_of c) (causes.Ban c) ∷ []) []
    (λ e. one s.table (acts ++ ban ∷ []) (n + 1) m (Revoke (sibling_of c) (causes.Ban c)) refl lt was) (λ e. none s.table (acts ++ ban ∷ []) (n + 1) m (omega (arith, lt)) was))

bans_go : (s : Setting) (acts : List Action) → Below s.table (s.table.cores + s.table.cores) acts → Goes (IsInTurn s.table) (Below s.table (ban_turn s.table.cores s.table.cores)) acts (bans s acts)
bans_go s acts b = goes_in_turn (IsInTurn s.table) (λ k. Below s.table (ban_turn s.table.cores k)) (bans_at s) acts s.table.cores
    (below_more s.table (s.table.cores + s.table.cores) (ban_turn s.table.cores 0) acts (omega arith) b)
    (λ now c lt q. ban_goes s now c (ban_turn s.table.cores (c + 1)) (ban_due s (so_far s now) c) (omega arith) q)

cut_at_goes : (s : Setting) (acts : List Action) (t : ℕ) (o : Option ℕ) → Below s.table (4 * s.table.cores) acts →
    Goes (IsInTurn s.table) (Below s.table (4 * s.table.cores + 2)) acts (cut_at s (so_far s acts) t o)
cut_at_goes s acts t None q = none s.table acts (4 * s.table.cores) (4 * s.table.cores + 2) (omega arith) q
cut_at_goes s acts t (Some core) q =
    let cap : Action = Cap t (held_by s.table (so_far s acts) t - 1) in
    let n = 4 * s.table.cores in
    goes_then (IsInTurn s.table) (Below s.table (n + 1)) (Below s.table (n + 2)) acts (cap ∷ []) (Revoke core causes.Bandwidth ∷ [])
    (one s.table acts n (n + 1) cap refl (omega arith) q) (λ was. one s.table (acts ++ cap ∷ []) (n + 1) (n + 2) (Revoke core causes.Bandwidth) refl (omega arith) was)

cut_goes : (s : Setting) (acts : List Action) (o : Option (Candidate ℕ)) → Below s.table (4 * s.table.cores) acts → Goes (IsInTurn s.table) (Below s.table (4 * s.table.cores + 2)) acts (cut_of s (so_far s acts) o)
cut_goes s acts None q = none s.table acts (4 * s.table.cores) (4 * s.table.cores + 2) (omega arith) q
cut_goes s acts (Some victim) q = cut_at_goes s acts victim.number (core_to_lose s (so_far s acts) victim.number) q

rise_goes : (s : Setting) (acts : List Action) (o : Option ℕ) → Below s.table (4 * s.table.cores) acts → Goes (IsInTurn s.table) (Below s.table (4 * s.table.cores + 2)) acts (rise_of s (so_far s acts) o)
rise_goes s acts None q = none s.table acts (4 * s.table.cores) (4 * s.table.cores + 2) (omega arith) q
rise_goes s acts (Some t) q = one s.table acts (4 * s.table.cores) (4 * s.table.cores + 2) _ refl (omega arith) q

bandwidth_goes : (s : Setting) (acts : List Action) → Below s.table (4 * s.table.cores) acts → Goes (IsInTurn s.table) (Below s.table (4 * s.table.cores + 2)) acts (bandwidth_part s acts)
bandwidth_goes s acts q = goes_if (IsInTurn s.table) (Below s.table (4 * s.table.cores + 2)) acts (nat_lt s.table.bandwidth_limit s.input.bandwidth)
    (cut_of s (so_far s acts) (victim_of s (so_far s acts))) (rise_of s (so_far s acts) (lowest_below (is_capped s (so_far s acts)) (length s.table.tasks)))
    (λ e. cut_goes s acts (victim_of s (so_far s acts)) q) (λ e. rise_goes s acts (lowest_below (is_capped s (so_far s acts)) (length s.table.tasks)) q)

-- the turn of the task in this place
abbrev task_turn : Setting → ℕ → ℕ
task_turn s place = 4 * s.table.cores + 2 + place

grant_of_goes : ThreadsAreOfTheirTask → ChosenHasWaitedLongest → (s : Setting) (acts : List Action) (t n m : ℕ) → t < length s.table.tasks → task_turn s (place_of_task s.table t) ≡ n → n < m →
    Below s.table n acts → (thread : Option (Candidate ℕ)) (core : Option (Candidate CoreClass)) → thread_choice s (so_far s acts) t ≡ thread → Goes (IsInTurn s.table) (Below s.table m) acts (grant_of s t thread core)
grant_of_goes numbered longest s acts t n m lt is le q None core e = none s.table acts n m (omega (arith, le)) q
grant_of_goes numbered longest s acts t n m lt is le q (Some thread) None e = none s.table acts n m (omega (arith, le)) q
grant_of_goes numbered longest s acts t n m lt is le q (Some thread) (Some core) e =
    let k = thread_of s.table t thread.number in
    goes_if (IsInTurn s.table) (Below s.table m) acts (is_idle core.rank) (Grant core.number k (class_number core.rank) ∷ []) (Revoke core.number (causes.Preempt t) ∷ [])
    (λ low. one s.table acts n m (Grant core.number k (class_number core.rank)) (ap (λ o. task_turn s (place_of_task s.table o)) (chosen_owner numbered longest s (so_far s acts) t thread lt e) ∙ is) le q)
    (λ high. one s.table acts n m (Revoke core.number (causes.Preempt t)) is le q)

grant_goes : ThreadsAreOfTheirTask → ChosenHasWaitedLongest → (s : Setting) (acts : List Action) (t n m : ℕ) → t < length s.table.tasks → task_turn s (place_of_task s.table t) ≡ n → n < m →
    Below s.table n acts → Goes (IsInTurn s.table) (Below s.table m) acts (grant_at s acts t)
grant_goes numbered longest s acts t n m lt is le q = goes_if (IsInTurn s.table) (Below s.table m) acts (is_congested s t && may_book s (so_far s acts) t)
    (grant_of s t (thread_choice s (so_far s acts) t) (choice_of s acts t)) []
    (λ e. grant_of_goes numbered longest s acts t n m lt is le q (thread_choice s (so_far s acts) t) (choice_of s acts t) refl) (λ e. none s.table acts n m (omega (arith, le)) q)

critical_goes : ThreadsAreOfTheirTask → ChosenHasWaitedLongest → (s : Setting) (acts : List Action) → Below s.table (4 * s.table.cores + 2) acts →
    Goes (IsInTurn s.table) (Below s.table (task_turn s (length s.table.tasks))) acts (grants_of_kind kinds.LatencyCritical s acts)
critical_goes numbered longest s acts b = goes_in_turn (IsInTurn s.table) (λ k. Below s.table (task_turn s k)) (grant_of_kind_at kinds.LatencyCritical s) acts (length s.table.tasks)
    (below_more s.table (4 * s.table.cores + 2) (task_turn s 0) acts (omega arith) b) (λ now t lt q.
    goes_if (IsInTurn s.table) (Below s.table (task_turn s (t + 1))) now (is_latency_critical s.table t) (grant_at s now t) []
    (λ e. let place = ap (λ (b : Bool). task_turn s (cond b t (length s.table.tasks + t))) e in
    grant_goes numbered longest s now t (task_turn s t) (task_turn s (t + 1)) lt place (omega arith) q)
    (λ e. none s.table now (task_turn s t) (task_turn s (t + 1)) (omega arith) q))

best_effort_goes : ThreadsAreOfTheirTask → ChosenHasWaitedLongest → (s : Setting) (acts : List Action) → Below s.table (task_turn s (length s.table.tasks)) acts →
    Goes (IsInTurn s.table) (Below s.table (task_turn s (length s.table.tasks + length s.table.tasks))) acts (grants_of_kind kinds.BestEffort s acts)
best_effort_goes numbered longest s acts b = goes_in_turn (IsInTurn s.table) (λ k. Below s.table (task_turn s (length s.table.tasks + k))) (grant_of_kind_at kinds.BestEffort s) acts (length s.table.tasks)
    (below_more s.table (task_turn s (length s.table.tasks)) (task_turn s (length s.table.tasks + 0)) acts (omega arith) b) (λ now t lt q.
    let here = task_turn s (length s.table.tasks + t) in
    let next = task_turn s (length s.table.tasks + (t + 1)) in
    goes_if (IsInTurn s.table) (Below s.table next) now (is_latency_critical s.table t) [] (grant_at s now t)
    (λ e. none s.table now here next (omega arith) q)
    (λ e. let place = ap (λ (b : Bool). task_turn s (cond b t (length s.table.tasks + t))) e in grant_goes numbered longest s now t here next lt place (omega arith) q))

-- one part more
part : (s : Setting) (m n : ℕ) (acts more : List Action) → Goes (IsInTurn s.table) (Below s.table m) [] acts → (Below s.table m acts → Goes (IsInTurn s.table) (Below s.table n) acts more) →
    Goes (IsInTurn s.table) (Below s.table n) [] (acts ++ more)
part s m n acts more first rest = goes_then (IsInTurn s.table) (Below s.table m) (Below s.table n) [] acts more first rest

-- the same, once the bound is that of the next part
on : (s : Setting) (m n : ℕ) (acts : List Action) → m ≤ n → Goes (IsInTurn s.table) (Below s.table m) [] acts → Goes (IsInTurn s.table) (Below s.table n) [] acts
on s m n acts le g = record { each = g.each; after = below_more s.table m n acts le g.after }

-- each action of a pass comes in its turn
pub pass_in_turn : ThreadsAreOfTheirTask → ChosenHasWaitedLongest → (s : Setting) → EachAfter (IsInTurn s.table) [] (pass_of s)
pass_in_turn numbered longest s =
    let cores = s.table.cores in
    let tasks = length s.table.tasks in
    let freed = part s 0 cores [] _ (none s.table [] 0 0 (omega arith) (All-nil (λ a. turn_of s.table a < 0))) (frees_go s []) in
    let unbanned = part s cores (cores + cores) _ _ freed (unbans_go s _) in
    let banned = on s (ban_turn cores cores) (4 * cores) _ (omega arith) (part s (cores + cores) (ban_turn cores cores) _ _ unbanned (bans_go s _)) in
    let bounded = part s (4 * cores) (4 * cores + 2) _ _ banned (bandwidth_goes s _) in
    let served = part s (4 * cores + 2) (task_turn s tasks) _ _ bounded (critical_goes numbered longest s _) in
    (part s (task_turn s tasks) (task_turn s (tasks + tasks)) _ _ served (best_effort_goes numbered longest s _)).each
