-- Cores that a part of a pass goes past, since nothing is due for them.
use Rattle.cal_policy.proofs.Common.{◌≡◌, ℕ, zero, suc, ◌+◌, ◌-◌, ◌*◌, ◌<◌, ◌≤◌, Bool, true, false, not, ◌&&◌, ◌||◌, nat_lt, nat_le, max, cond, eqb, List, length, [], ◌∷◌, ◌++◌, Option, Some, None, refl, ap, sym, subst, ◌∙◌, arith, ⊎_elim, cases_lt, nat_tests, Table, append-nil, IfSome, is_some, task_in, first_next, Kind, Task, owner_of, threads_of_table, thread_of, limit_of, delay_of, is_latency_critical, has_room, Setting, so_far, kept_now, Record, has, Action, BannedFor, Holder, Held, Leaving, Board, in_pair, holder_of, ban_of, is_free, is_held, is_over, sibling_of, free_at, has_left, shows_left, Policy, unban_at_by, unban_for_by, bans_at_by, ban_due, may_ban_beside, may_be_emptied, too_long_on, holder_in, kept_holder, placement_of, IsReady, Stands, is_alone_by, NoneOver, cores_to_ban, Sorts, KeepsSets, kept_in, shows_waiting, has_thread, IsShownOn, record_delay, thread_delay, waited, task_delay, is_congested, grant_at, grant_of_kind_at, first_thread, task_at, greatest_below, and-false}
use Rattle.cal_machine.specs.declared.task.Kind.TheVariants as kinds
use Rattle.cal_policy.proofs.BoardLemmas.StateKept.{held_kept}
use Rattle.cal_policy.proofs.PassLemmas.Pairs.{beside_lower, beside_upper, none_ends, none_due}
use Rattle.cal_policy.specs.declared.history.action.Action.TheVariants as actions
use Rattle.cal_policy.specs.declared.board.holders.Holder.TheVariants.{Free}
use Rattle.cal_policy.proofs.BoardLemmas.TwoSets.{in_taken}
use Rattle.cal_policy.proofs.ListLemmas.OneNumberMore.{greatest_past}

-- a thread that is shown on its core has not left it
shown_stays : (rec : Record) (n c : ℕ) → rec.running ≡ c + 1 → has_left rec n ≡ false
shown_stays rec n c e =
    let on : eqb rec.running 0 ≡ false = grind (arith, nat_tests) in
    ap (λ b. nat_le n rec.taken && b) on ∙ and-false (nat_le n rec.taken)

none_left : (kept now : ℕ → Record) (c : ℕ) (h : Holder) → ((k : ℕ) → k < 128 → kept k ≡ now k) →
    IfSome (placement_of (kept_holder h)) (λ p. p.thread < 128) → IsShownOn kept c (kept_holder h) → shows_left now h ≡ false
none_left kept now c Free same low on = refl
none_left kept now c (Held p) same low on = shown_stays (now p.thread) p.number c (ap (λ (r : Record). r.running) (sym (same p.thread low)) ∙ on low)
none_left kept now c (Leaving p cause) same low on = shown_stays (now p.thread) p.number c (ap (λ (r : Record). r.running) (sym (same p.thread low)) ∙ on low)

-- a core that nobody has, or on which its thread is shown, is not freed
pub free_not_unshown : (table : Table) (b : Board) (s : Setting) (acts : List Action) → Stands b s acts → IsReady table b →
    (c : ℕ) → c < 128 → has b.unshown c ≡ false → free_at s acts c ≡ []
free_not_unshown table b s acts st ready c lt e =
    let h : Holder = holder_of (so_far s acts) c in
    let is : holder_in b.holding c ≡ kept_holder h = st.agrees.holding.holders c lt in
    let Low : Holder → Type 0 = λ x. IfSome (placement_of x) (λ p. p.thread < 128) in
    let On : Holder → Type 0 = λ x. IsShownOn (kept_in b.keeping) c x in
    ap (λ w. cond w (actions.Free c ∷ []) [])
    (none_left (kept_in b.keeping) (kept_now s) c h st.looks.kept (subst Low is (ready.sound.holding.holders c)) (subst On is (ready.shows.shown c lt e)))

none_banned : (p : Policy) (s : Setting) (x : List Action) (c : ℕ) (o : Option BannedFor) → is_some o ≡ false → unban_for_by p s x c o ≡ []
none_banned p s x c None e = none_ends p s x c
none_banned p s x c (Some ban) e = cc

-- no ban ends on a core that is not banned
unban_not_banned : (p : Policy) (b : Board) (s : Setting) (acts : List Action) → Stands b s acts → (c : ℕ) → c < 128 → has b.sets.banned c ≡ false → unban_at_by p s acts c ≡ []
unban_not_banned p b s acts st c lt e = none_banned p s (so_far s acts) c (ban_of (so_far s acts) c) (sym (st.agrees.banned.banned c lt) ∙ e)

pub two_empty : (f : List Action → ℕ → List Action) (acts : List Action) (n m : ℕ) → f acts n ≡ [] → f acts m ≡ [] → f acts n ++ f (acts ++ f acts n) m ≡ []
two_empty f acts n m e g = rw (e, append-nil acts) g

-- nor on a pair of them
pub unban_pair_not_banned : (p : Policy) (b : Board) (s : Setting) (acts : List Action) → Stands b s acts → (pair : ℕ) → 2 * pair + 1 < 128 →
    has b.sets.banned (2 * pair) ≡ false → has b.sets.banned (2 * pair + 1) ≡ false → in_pair (unban_at_by p s) acts pair ≡ []
unban_pair_not_banned p b s acts st pair lt e g =
    two_empty (unban_at_by p s) acts (2 * pair) (2 * pair + 1) (unban_not_banned p b s acts st (2 * pair) (omega (arith, lt)) e) (unban_not_banned p b s acts st (2 * pair + 1) lt g)

-- no request runs too long on a free core
none_too_long : (s : Setting) (c : ℕ) (h : Holder) → not (is_free h) ≡ false → too_long_on s c h ≡ None
none_too_long s c Free e = refl
none_too_long s c (Held p) e = cc
none_too_long s c (Leaving p cause) e = cc

either_none : {X : Type 0} (b : Bool) (o : Option X) → o ≡ None → cond b o None ≡ None
either_none true o e = e
either_none false o e = refl

-- so of a core that is not taken no ban is due
due_not_taken : (b : Board) (s : Setting) (acts : List Action) → Stands b s acts → Sorts (holder_in b.holding) b.sets →
    (c : ℕ) → c < 128 → has b.sets.taken c ≡ false → ban_due s (so_far s acts) c ≡ None
due_not_taken b s acts st sorts c lt e =
    either_none (may_ban_beside s (so_far s acts) c) _ (none_too_long s c (holder_of (so_far s acts) c) (sym (in_taken b s acts st sorts c lt) ∙ e))

-- a test fails where two of its parts do, or the last
both_fail : (a b m : Bool) → (a && b) ≡ false → (a && b && m) ≡ false
both_fail false b m e = refl
both_fail true false m e = refl
both_fail true true m e = cc

last_fails : (a b r o : Bool) → o ≡ false → (a && b && (r && o)) ≡ false
last_fails false b r o e = refl
last_fails true false r o e = refl
last_fails true true false o e = refl
last_fails true true true o e = e

-- a core that is not held alone bans nothing where no task is over
none_alone : (s : Setting) (x : List Action) (c : ℕ) (h beside : Holder) (a b : Bool) →
    (is_held h && not (is_held beside) && not a && not b) ≡ false →
    IfSome (placement_of (kept_holder beside)) (λ p. is_over s.table x (owner_of s.table p.thread) ≡ false) →
    cond (not a && not b && may_be_emptied s x beside) (too_long_on s c h) None ≡ None
none_alone s x c Free beside a b e over = either_none (not a && not b && may_be_emptied s x beside) None refl
none_alone s x c (Leaving p cause) beside a b e over = either_none (not a && not b && may_be_emptied s x beside) None refl
none_alone s x c (Held p) Free a b e over = ap (λ w. cond w (too_long_on s c (Held p)) None) (both_fail (not a) (not b) true e)
none_alone s x c (Held p) (Leaving q cause) a b e over = ap (λ w. cond w (too_long_on s c (Held p)) None) (both_fail (not a) (not b) true e)
none_alone s x c (Held p) (Held q) a b e over =
    ap (λ w. cond w (too_long_on s c (Held p)) None) (last_fails (not a) (not b) (has_room s q.thread) (is_over s.table x (owner_of s.table q.thread)) over)

owner_not_over : (s : Setting) (x : List Action) (h : Holder) → IfSome (placement_of (kept_holder h)) (λ p. p.thread < threads_of_table s.table) →
    ((t : ℕ) → t < length s.table.tasks → is_over s.table x t ≡ false) →
    IfSome (placement_of (kept_holder h)) (λ p. is_over s.table x (owner_of s.table p.thread) ≡ false)
owner_not_over s x Free there none = tt
owner_not_over s x (Held p) there none = let task = task_in s.table.tasks p.thread there in none (owner_of s.table p.thread) task.0
owner_not_over s x (Leaving p cause) there none = let task = task_in s.table.tasks p.thread there in none (owner_of s.table p.thread) task.0

held_there : (b : Board) (s : Setting) (acts : List Action) → Stands b s acts → (c : ℕ) → c < 128 → is_held (holder_in b.holding c) ≡ is_held (holder_of (so_far s acts) c)
held_there b s acts st c lt = ap is_held (st.agrees.holding.holders c lt) ∙ held_kept (holder_of (so_far s acts) c)

alone_there : (b : Board) (s : Setting) (acts : List Action) → Stands b s acts → (c : ℕ) → c < 128 → sibling_of c < 128 →
    is_alone_by (holder_in b.holding) b.sets.banned c
    ≡ (is_held (holder_of (so_far s acts) c) && not (is_held (holder_of (so_far s acts) (sibling_of c))) && not (is_some (ban_of (so_far s acts) c))
    && not (is_some (ban_of (so_far s acts) (sibling_of c))))
alone_there b s acts st c lt beside =
    rw (held_there b s acts st c lt, held_there b s acts st (sibling_of c) beside, st.agrees.banned.banned c lt, st.agrees.banned.banned (sibling_of c) beside) refl

due_not_alone : (b : Board) (s : Setting) (acts : List Action) → Stands b s acts → IsReady s.table b → NoneOver s.table b →
    (c : ℕ) → c < 128 → sibling_of c < 128 → has b.open_cores.alone c ≡ false → ban_due s (so_far s acts) c ≡ None
due_not_alone b s acts st ready none c lt beside e =
    let x = so_far s acts in
    let h = holder_of x (sibling_of c) in
    let there : IfSome (placement_of (kept_holder h)) (λ p. p.thread < threads_of_table s.table) =
    rw (← st.agrees.holding.holders (sibling_of c) beside) (ready.own.holding.holders (sibling_of c)) in
    none_alone s x c (holder_of x c) h (is_some (ban_of x c)) (is_some (ban_of x (sibling_of c)))
    (sym (alone_there b s acts st c lt beside) ∙ sym (ready.opens.alone c lt) ∙ e) (owner_not_over s x h there (none x st.agrees))

-- no ban is due for a core that may not give rise to one
due_past : (over : Bool) (b : Board) (s : Setting) (acts : List Action) → Stands b s acts → IsReady s.table b → (over ≡ false → NoneOver s.table b) →
    (c : ℕ) → c < 128 → sibling_of c < 128 → has (cores_to_ban b over) c ≡ false → ban_due s (so_far s acts) c ≡ None
due_past true b s acts st ready none c lt beside e = due_not_taken b s acts st ready.sets c lt e
due_past false b s acts st ready none c lt beside e = due_not_alone b s acts st ready (none refl) c lt beside e

-- a pair of cores that may not give rise to a ban gives none
pub ban_pair_past : (p : Policy) (over : Bool) (b : Board) (s : Setting) (acts : List Action) → Stands b s acts → IsReady s.table b → (over ≡ false → NoneOver s.table b) →
    (pair : ℕ) → 2 * pair + 1 < 128 → has (cores_to_ban b over) (2 * pair) ≡ false → has (cores_to_ban b over) (2 * pair + 1) ≡ false → in_pair (bans_at_by p s) acts pair ≡ []
ban_pair_past p over b s acts st ready none pair lt e g =
    let lower : sibling_of (2 * pair) < 128 = rw (beside_lower pair) lt in
    let upper : sibling_of (2 * pair + 1) < 128 = rw (beside_upper pair) (omega (arith, lt)) in
    two_empty (bans_at_by p s) acts (2 * pair) (2 * pair + 1)
    (none_due p s acts (2 * pair) (due_past over b s acts st ready none (2 * pair) (omega (arith, lt)) lower e))
    (none_due p s acts (2 * pair + 1) (due_past over b s acts st ready none (2 * pair + 1) lt upper g))

-- a record that shows no request that waits shows no delay
neither_waits : (now : ℕ) (a b : Bool) (x y : ℕ) → (a || b) ≡ false → max (waited now a x) (waited now b y) ≡ 0
neither_waits now true b x y e = cc
neither_waits now false true x y e = cc
neither_waits now false false x y e = refl

pub no_delay_shown : (now : ℕ) (rec : Record) → shows_waiting rec ≡ false → record_delay now rec ≡ 0
no_delay_shown now rec e = neither_waits now (nat_lt 0 rec.queued) (nat_lt 0 rec.paused) rec.oldest rec.since e

-- so a thread that does not wait has none
pub no_delay : (b : Board) (s : Setting) (acts : List Action) → Stands b s acts → KeepsSets b.keeping → (k : ℕ) → k < 128 →
    has_thread b.keeping.waiting k ≡ false → thread_delay s k ≡ 0
no_delay b s acts st sets k lt e = ap (record_delay s.input.now) (sym (st.looks.kept k lt))
    ∙ no_delay_shown s.input.now (kept_in b.keeping k) (sym (sets.waiting k lt) ∙ e)

-- so the greatest delay of a task's threads is that of those before some that do not wait
pub delays_past : (b : Board) (s : Setting) (acts : List Action) → Stands b s acts → KeepsSets b.keeping → (t first n m : ℕ) →
    first ≡ first_thread s.table.tasks t → n ≤ m → first + m ≤ 128 → ((j : ℕ) → first + n ≤ j → j < first + m → has_thread b.keeping.waiting j ≡ false) →
    greatest_below (λ j. thread_delay s (thread_of s.table t j)) m ≡ greatest_below (λ j. thread_delay s (thread_of s.table t j)) n
delays_past b s acts st sets t first n m at low most none =
    let F : ℕ → ℕ = λ j. thread_delay s (first_thread s.table.tasks t + j) in
    let e : m ≡ n + (m - n) = omega (arith, low) in
    ap (greatest_below F) e
    ∙ greatest_past F n (m - n) (λ j x y. no_delay b s acts st sets (first_thread s.table.tasks t + j) (omega (arith, at, most, x, y))
    (none (first_thread s.table.tasks t + j) (omega (arith, at, x)) (omega (arith, at, x, y))))

not_below_0 : (n : ℕ) → nat_lt n 0 ≡ false
not_below_0 n = grind (arith, nat_tests)

-- a task of whose threads none waits gets nothing
pub none_waits : (b : Board) (s : Setting) (acts : List Action) → Stands b s acts → KeepsSets b.keeping → (kind : Kind) (t : ℕ) →
    first_thread s.table.tasks t + limit_of s.table t ≤ 128 →
    ((j : ℕ) → first_thread s.table.tasks t ≤ j → j < first_thread s.table.tasks t + limit_of s.table t → has_thread b.keeping.waiting j ≡ false) →
    grant_of_kind_at kind s acts t ≡ []
none_waits b s acts st sets kind t most none = of_kind kind
  where
    first : ℕ
    first = first_thread s.table.tasks t

    none_late : task_delay s t ≡ 0
    none_late = delays_past b s acts st sets t first 0 (limit_of s.table t) refl (omega arith) most (λ j x y. none j (omega (arith, x)) y)

    calm : is_congested s t ≡ false
    calm = ap (λ n. nat_lt (delay_of s.table t) n) none_late ∙ not_below_0 (delay_of s.table t)

    nothing : grant_at s acts t ≡ []
    nothing = rw calm refl

    same : (b : Bool) (l : List Action) → cond b l l ≡ l
    same true l = refl
    same false l = refl

    of_kind : (kind : Kind) → grant_of_kind_at kind s acts t ≡ []
    of_kind kinds.LatencyCritical = rw nothing (same (is_latency_critical s.table t) [])
    of_kind kinds.BestEffort = rw nothing (same (is_latency_critical s.table t) [])

-- the first threads go up with the tasks
pub first_upto : (tasks : List Task) (t more : ℕ) → t + more ≤ length tasks → first_thread tasks t ≤ first_thread tasks (t + more)
first_upto tasks t zero le = let e : t ≡ t + 0 = omega arith in omega (arith, ap (first_thread tasks) e)
first_upto tasks t (suc more) le =
    let e : t + more + 1 ≡ t + suc more = omega arith in
    omega (arith, first_upto tasks t more (omega (arith, le)), first_next tasks (t + more) (omega (arith, le)), ap (first_thread tasks) e)

-- a thread that is none of those below task r is one of task r or of a later one
pub task_not_before : (tasks : List Task) (r t k : ℕ) → r ≤ length tasks → t < length tasks → first_thread tasks r ≤ k → k < first_thread tasks t + (task_at tasks t).limit → r ≤ t
task_not_before tasks r t k le lt from below = ⊎_elim
    (λ early.
    let e : t + 1 + (r - (t + 1)) ≡ r = omega (arith, early) in
    absurd (omega (arith, first_upto tasks (t + 1) (r - (t + 1)) (omega (arith, le, early)), ap (first_thread tasks) e, first_next tasks t lt, from, below)))
    (λ late. late)
    (cases_lt t r)

-- the tasks from r on below t have all their threads between those of r and those of t
pub threads_between : (tasks : List Task) (r u t : ℕ) → r ≤ u → u < t → t ≤ length tasks →
    (first_thread tasks r ≤ first_thread tasks u) × (first_thread tasks u + (task_at tasks u).limit ≤ first_thread tasks t)
threads_between tasks r u t a b le =
    let e : r + (u - r) ≡ u = omega (arith, a) in
    let f : u + 1 + (t - (u + 1)) ≡ t = omega (arith, b) in (
      omega (arith, first_upto tasks r (u - r) (omega (arith, a, b, le)), ap (first_thread tasks) e),
      omega (arith, first_upto tasks (u + 1) (t - (u + 1)) (omega (arith, b, le)), ap (first_thread tasks) f, first_next tasks u (omega (arith, b, le))),
    )
