-- A pass of Caladan's policy goes by what the passes before left.
use Rattle.std.proofs.Common.{◌≡◌, ℕ, ◌-◌, ◌&&◌, not, cond, eqb, nat_lt, List, [], ◌∷◌, length, Option, Some, None, refl, ap, ◌∙◌}
use Rattle.std.specs.Option.{is_some}
use Rattle.cal_machine.specs.declared.task.Kind.{Kind}
use Rattle.cal_machine.specs.declared.task.Kind.TheVariants as kinds
use Rattle.cal_machine.specs.Machine.{sibling_of}
use Rattle.cal_machine.specs.TableTasks.{owner_of, thread_of, limit_of, delay_of, request_of, is_latency_critical}
use Rattle.cal_policy.specs.declared.board.bans.BannedFor.{BannedFor}
use Rattle.cal_policy.specs.declared.board.holders.Holder.{Holder}
use Rattle.cal_policy.specs.declared.board.holders.Holder.TheVariants as holders
use Rattle.cal_policy.specs.declared.history.action.Action.{Action}
use Rattle.cal_policy.specs.declared.history.action.Action.TheVariants.{Free, Unban, Ban, Revoke}
use Rattle.cal_policy.specs.declared.history.action.Cause.TheVariants as causes
use Rattle.cal_policy.specs.declared.history.core_class.CoreClass.{CoreClass}
use Rattle.cal_policy.specs.declared.pass.choice.Candidate.{Candidate}
use Rattle.cal_policy.specs.declared.policy.Policy.TheVariants.{Caladan}
use Rattle.cal_policy.specs.History.{holder_of, ban_of, is_banned, last_thread}
use Rattle.cal_policy.specs.History.CoreClasses.{comes_before}
use Rattle.cal_policy.specs.History.Lists.{in_turn}
use Rattle.cal_policy.specs.Board.Counts.{is_held, cores_of_thread}
use Rattle.cal_policy.specs.Pass.{pass_of}
use Rattle.cal_policy.specs.Pass.Bandwidth.{core_to_lose, task_misses, victim_rank, victim_of, cut_of, rise_of, is_capped, bandwidth_after, bandwidth_part}
use Rattle.cal_policy.specs.Pass.Bans.{still_shows, unban_for, unban_at, unbans, runs_too_long, too_long_on, may_ban_beside, ban_due, ban_for, bans_at, bans}
use Rattle.cal_policy.specs.Pass.Choice.{count_below, sum_below, greatest_below, best_below, lowest_below}
use Rattle.cal_policy.specs.Pass.Frees.{shows_left, free_at, frees}
use Rattle.cal_policy.specs.Pass.Grants.{record_delay, thread_delay, task_delay, is_congested, may_book, thread_rank, thread_choice, leaves_for, is_granted_in, idle_class, preempt_class, class_by, class_of, choice_of, grant_of, grant_at, grant_of_kind_at, grants_of_kind}
use Rattle.cal_policy.specs.Setting.{so_far, has_room, is_held_with_room}
use Rattle.cal_idle.proofs.Pair.{Pair, first, second, so_far_same, kept_same, before_same, part_same}
use Rattle.cal_idle.specs.Idle.{GoesByWhatIsLeft}

-- ---- frees ----

free_same : (w : Pair) (acts : List Action) (c : ℕ) → free_at (first w) acts c ≡ free_at (second w) acts c
free_same w acts c = λ i. cond (shows_left (λ k. kept_same w k i) (holder_of (so_far_same w acts i) c)) (Free c ∷ []) []

pub frees_same : (w : Pair) (acts : List Action) → frees (first w) acts ≡ frees (second w) acts
frees_same w acts = λ i. in_turn (λ acts c. free_same w acts c i) acts w.table.cores

-- ---- bans ----

unban_for_same : (w : Pair) (c : ℕ) (ban : Option BannedFor) → unban_for (first w) c ban ≡ unban_for (second w) c ban
unban_for_same w c None = refl
unban_for_same w c (Some ban) = λ i. cond (still_shows (kept_same w ban.thread i) (sibling_of c) ban.started) [] (Unban c ∷ [])

unban_same : (w : Pair) (acts : List Action) (c : ℕ) → unban_at (first w) acts c ≡ unban_at (second w) acts c
unban_same w acts c = unban_for_same w c (ban_of (so_far (first w) acts) c) ∙ ap (λ x. unban_for (second w) c (ban_of x c)) (so_far_same w acts)

unbans_same : (w : Pair) (acts : List Action) → unbans (first w) acts ≡ unbans (second w) acts
unbans_same w acts = λ i. in_turn (λ acts c. unban_same w acts c i) acts w.table.cores

too_long_same : (w : Pair) (c : ℕ) (holder : Holder) → too_long_on (first w) c holder ≡ too_long_on (second w) c holder
too_long_same w c holders.Free = refl
too_long_same w c (holders.Leaving placement cause) = refl
too_long_same w c (holders.Held placement) = λ i. cond
    (is_latency_critical w.table (owner_of w.table placement.thread)
    && runs_too_long w.input.now (kept_same w placement.thread i) c (request_of w.table (owner_of w.table placement.thread)))
    (Some placement.thread) None

pub due_same : (w : Pair) (x : List Action) (c : ℕ) → ban_due (first w) x c ≡ ban_due (second w) x c
due_same w x c = λ i. cond (may_ban_beside (first w) x c) (too_long_same w c (holder_of x c) i) None

pub ban_for_same : (w : Pair) (x : List Action) (c : ℕ) (thread : Option ℕ) → ban_for (first w) x c thread ≡ ban_for (second w) x c thread
ban_for_same w x c None = refl
ban_for_same w x c (Some thread) = λ i.
    Ban (sibling_of c) thread (kept_same w thread i).started
    ∷ cond (is_held (holder_of x (sibling_of c))) (Revoke (sibling_of c) (causes.Ban c) ∷ []) []

ban_same : (w : Pair) (acts : List Action) (c : ℕ) → bans_at (first w) acts c ≡ bans_at (second w) acts c
ban_same w acts c =
    let x : List Action = so_far (first w) acts in
    ap (ban_for (first w) x c) (due_same w x c) ∙ ban_for_same w x c (ban_due (second w) x c)
    ∙ ap (λ x. ban_for (second w) x c (ban_due (second w) x c)) (so_far_same w acts)

bans_same : (w : Pair) (acts : List Action) → bans (first w) acts ≡ bans (second w) acts
bans_same w acts = λ i. in_turn (λ acts c. ban_same w acts c i) acts w.table.cores

-- ---- bandwidth ----

misses_same : (w : Pair) (t : ℕ) → task_misses (first w) t ≡ task_misses (second w) t
misses_same w t = λ i. sum_below (λ j. (kept_same w (thread_of w.table t j) i).misses - (before_same w (thread_of w.table t j) i).misses) (limit_of w.table t)

victim_rank_same : (w : Pair) (x : List Action) (t : ℕ) → victim_rank (first w) x t ≡ victim_rank (second w) x t
victim_rank_same w x t = λ i. cond (not (is_latency_critical w.table t) && is_some (core_to_lose (first w) x t)) (Some (misses_same w t i)) None

victim_same : (w : Pair) (x : List Action) → victim_of (first w) x ≡ victim_of (second w) x
victim_same w x = λ i. best_below (λ rank best. nat_lt best rank) (λ t. victim_rank_same w x t i) (length w.table.tasks)

cut_same : (w : Pair) (x : List Action) (victim : Option (Candidate ℕ)) → cut_of (first w) x victim ≡ cut_of (second w) x victim
cut_same w x None = refl
cut_same w x (Some victim) = refl

after_same : (w : Pair) (x : List Action) → bandwidth_after (first w) x ≡ bandwidth_after (second w) x
after_same w x = λ i. cond (nat_lt w.table.bandwidth_limit w.input.bandwidth)
    ((ap (cut_of (first w) x) (victim_same w x) ∙ cut_same w x (victim_of (second w) x)) i)
    (rise_of (first w) x (lowest_below (is_capped (first w) x) (length w.table.tasks)))

pub bandwidth_same : (w : Pair) (acts : List Action) → bandwidth_part (first w) acts ≡ bandwidth_part (second w) acts
bandwidth_same w acts = after_same w (so_far (first w) acts) ∙ ap (bandwidth_after (second w)) (so_far_same w acts)

-- ---- grants ----

pub delay_same : (w : Pair) (k : ℕ) → thread_delay (first w) k ≡ thread_delay (second w) k
delay_same w k = ap (record_delay w.input.now) (kept_same w k)

pub task_delay_same : (w : Pair) (t : ℕ) → task_delay (first w) t ≡ task_delay (second w) t
task_delay_same w t = λ i. greatest_below (λ j. delay_same w (thread_of w.table t j) i) (limit_of w.table t)

congested_same : (w : Pair) (t : ℕ) → is_congested (first w) t ≡ is_congested (second w) t
congested_same w t = ap (nat_lt (delay_of w.table t)) (task_delay_same w t)

pub thread_rank_same : (w : Pair) (x : List Action) (k : ℕ) → thread_rank (first w) x k ≡ thread_rank (second w) x k
thread_rank_same w x k = λ i. cond (eqb (cores_of_thread w.table x k) 0 && has_room (first w) k) (Some (delay_same w k i)) None

pub choice_same : (w : Pair) (x : List Action) (t : ℕ) → thread_choice (first w) x t ≡ thread_choice (second w) x t
choice_same w x t = λ i. best_below (λ rank best. nat_lt best rank) (λ j. thread_rank_same w x (thread_of w.table t j) i) (limit_of w.table t)

class_by_same : (w : Pair) (acts : List Action) (t c : ℕ) (holder : Holder) → class_by (first w) acts t c holder ≡ class_by (second w) acts t c holder
class_by_same w acts t c holders.Free = λ i. cond (is_banned (so_far_same w acts i) c) None
    (Some (idle_class w.table t (holder_of (so_far_same w acts i) (sibling_of c)) (last_thread (so_far_same w acts i) c)))
class_by_same w acts t c (holders.Held placement) = λ i. cond
    (is_latency_critical w.table t && is_held_with_room (first w) (holders.Held placement) && not (is_granted_in acts c)
    && eqb (count_below (λ c. leaves_for t (holder_of (so_far_same w acts i) c)) w.table.cores) 0)
    (preempt_class w.table (so_far_same w acts i) t (owner_of w.table placement.thread)) None
class_by_same w acts t c (holders.Leaving placement cause) = refl

class_same : (w : Pair) (acts : List Action) (t c : ℕ) → class_of (first w) acts t c ≡ class_of (second w) acts t c
class_same w acts t c =
    class_by_same w acts t c (holder_of (so_far (first w) acts) c) ∙ ap (λ x. class_by (second w) acts t c (holder_of x c)) (so_far_same w acts)

core_same : (w : Pair) (acts : List Action) (t : ℕ) → choice_of (first w) acts t ≡ choice_of (second w) acts t
core_same w acts t = λ i. best_below comes_before (λ c. class_same w acts t c i) w.table.cores

pub grant_of_same : (w : Pair) (t : ℕ) (thread : Option (Candidate ℕ)) (core : Option (Candidate CoreClass)) → grant_of (first w) t thread core ≡ grant_of (second w) t thread core
grant_of_same w t None core = refl
grant_of_same w t (Some thread) None = refl
grant_of_same w t (Some thread) (Some core) = refl

grant_same : (w : Pair) (acts : List Action) (t : ℕ) → grant_at (first w) acts t ≡ grant_at (second w) acts t
grant_same w acts t =
    let x : List Action = so_far (first w) acts in
    (λ i. cond (congested_same w t i && may_book (first w) x t) (grant_of (first w) t (choice_same w x t i) (core_same w acts t i)) [])
    ∙ ap (λ l. cond (is_congested (second w) t && may_book (second w) x t) l []) (grant_of_same w t (thread_choice (second w) x t) (choice_of (second w) acts t))
    ∙ ap (λ x. cond (is_congested (second w) t && may_book (second w) x t) (grant_of (second w) t (thread_choice (second w) x t) (choice_of (second w) acts t)) []) (so_far_same w acts)

kind_same : (w : Pair) (kind : Kind) (acts : List Action) (t : ℕ) → grant_of_kind_at kind (first w) acts t ≡ grant_of_kind_at kind (second w) acts t
kind_same w kinds.LatencyCritical acts t = λ i. cond (is_latency_critical w.table t) (grant_same w acts t i) []
kind_same w kinds.BestEffort acts t = λ i. cond (is_latency_critical w.table t) [] (grant_same w acts t i)

grants_same : (w : Pair) (kind : Kind) (acts : List Action) → grants_of_kind kind (first w) acts ≡ grants_of_kind kind (second w) acts
grants_same w kind acts = λ i. in_turn (λ acts t. kind_same w kind acts t i) acts (length w.table.tasks)

-- ---- the pass ----

pass_same : (w : Pair) → pass_of (first w) ≡ pass_of (second w)
pass_same w =
    let freed = part_same (frees (first w)) (frees (second w)) (frees_same w) [] [] refl in
    let unbanned = part_same (unbans (first w)) (unbans (second w)) (unbans_same w) _ _ freed in
    let banned = part_same (bans (first w)) (bans (second w)) (bans_same w) _ _ unbanned in
    let bounded = part_same (bandwidth_part (first w)) (bandwidth_part (second w)) (bandwidth_same w) _ _ banned in
    let critical = part_same (grants_of_kind kinds.LatencyCritical (first w)) (grants_of_kind kinds.LatencyCritical (second w)) (grants_same w kinds.LatencyCritical) _ _ bounded in
    part_same (grants_of_kind kinds.BestEffort (first w)) (grants_of_kind kinds.BestEffort (second w)) (grants_same w kinds.BestEffort) _ _ critical

pub by_what_is_left : GoesByWhatIsLeft Caladan
by_what_is_left table one other input same = pass_same (record { table = table; input = input; one = one; other = other; same = same })
