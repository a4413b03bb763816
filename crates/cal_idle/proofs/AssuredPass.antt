-- A pass of the second policy goes by what the passes before left. Nothing else here is of it.
use Rattle.std.proofs.Common.{◌≡◌, ℕ, ◌+◌, ◌&&◌, ◌||◌, Bool, true, false, not, cond, eqb, nat_lt, nat_le, min, drop, List, [], ◌∷◌, length, Option, Some, None, refl, ap, ◌∙◌}
use Rattle.std.specs.Option.{is_some, option_or}
use Rattle.cal_machine.specs.Machine.{sibling_of}
use Rattle.cal_machine.specs.TableTasks.{owner_of, thread_of, limit_of, delay_of, is_latency_critical}
use Rattle.cal_policy.specs.declared.board.bans.BannedFor.{BannedFor}
use Rattle.cal_policy.specs.declared.board.holders.Holder.{Holder}
use Rattle.cal_policy.specs.declared.board.holders.Holder.TheVariants as holders
use Rattle.cal_policy.specs.declared.history.action.Action.{Action}
use Rattle.cal_policy.specs.declared.history.action.Action.TheVariants.{Unban}
use Rattle.cal_policy.specs.declared.policy.Policy.TheVariants.{Assured}
use Rattle.cal_policy.specs.History.{holder_of, ban_of, last_thread}
use Rattle.cal_policy.specs.History.CoreClasses.{comes_before}
use Rattle.cal_policy.specs.History.Lists.{in_turn}
use Rattle.cal_policy.specs.Board.Counts.{is_free, held_by}
use Rattle.cal_policy.specs.Pass.Bandwidth.{bandwidth_part}
use Rattle.cal_policy.specs.Pass.Bans.{still_shows, ban_for}
use Rattle.cal_policy.specs.Pass.Choice.{count_below, sum_below, best_below, lowest_below}
use Rattle.cal_policy.specs.Pass.Frees.{frees}
use Rattle.cal_policy.specs.Pass.Grants.{thread_choice, may_book, idle_class, preempt_class, is_granted_in, grant_of}
use Rattle.cal_policy.specs.Setting.{so_far, is_held_with_room}
use Rattle.cal_policy.specs.Assured.Acted.{has_acted}
use Rattle.cal_policy.specs.Assured.Grants.{act_of, act_in_place, turn_in_place, grants}
use Rattle.cal_policy.specs.Assured.Hyperthreads.{unban_for, unban_at, unbans, due_for, bans_at, bans}
use Rattle.cal_policy.specs.Assured.InFlight.{is_untaken, is_in_flight, is_late, pressing, helpers, is_new_in_flight, new_helpers, coming}
use Rattle.cal_policy.specs.Assured.Order.{group_of, is_later, is_rather, goes_before, place_of, task_in_place}
use Rattle.cal_policy.specs.Assured.Owed.{owed_to, is_task, owed_below}
use Rattle.cal_policy.specs.Assured.Pass.{bounded_of, pass_of}
use Rattle.cal_policy.specs.Assured.Short.{is_short, lacks, lacking, needs, is_open, open_cores, surplus, waits, waits_short, some_waits_short, are_lacked, are_wanted}
use Rattle.cal_policy.specs.Assured.Taking.{is_kept_for, is_kept_for_short, is_kept, open_class, open_choice, held_class, held_choice, fewer_come, may_take_from, more_press, may_preempt, choice_for}
use Rattle.cal_idle.proofs.Pair.{Pair, first, second, so_far_same, kept_same, part_same}
use Rattle.cal_idle.proofs.CaladanPass.{frees_same, due_same, ban_for_same, bandwidth_same, delay_same, task_delay_same, thread_rank_same, choice_same, grant_of_same}
use Rattle.cal_idle.specs.Idle.{GoesByWhatIsLeft}

-- ---- who waits ----

flight_same : (w : Pair) (x : List Action) (k : ℕ) → is_in_flight (first w) x k ≡ is_in_flight (second w) x k
flight_same w x k = λ i. not (eqb (count_below (λ c. is_untaken (kept_same w k i) k (holder_of x c)) w.table.cores) 0)

late_same : (w : Pair) (k : ℕ) → is_late (first w) k ≡ is_late (second w) k
late_same w k = ap (nat_lt (delay_of w.table (owner_of w.table k))) (delay_same w k)

pressing_same : (w : Pair) (x : List Action) (t : ℕ) → pressing (first w) x t ≡ pressing (second w) x t
pressing_same w x t = λ i. count_below (λ j. late_same w (thread_of w.table t j) i && not (flight_same w x (thread_of w.table t j) i)) (limit_of w.table t)

helpers_same : (w : Pair) (x : List Action) (t : ℕ) → helpers (first w) x t ≡ helpers (second w) x t
helpers_same w x t = λ i. count_below (λ j. flight_same w x (thread_of w.table t j) i && not (late_same w (thread_of w.table t j) i)) (limit_of w.table t)

new_flight_same : (w : Pair) (x : List Action) (k : ℕ) → is_new_in_flight (first w) x k ≡ is_new_in_flight (second w) x k
new_flight_same w x k = λ i. not (eqb (count_below (λ c. is_granted_in (drop (length (w.same.done i)) x) c && is_untaken (kept_same w k i) k (holder_of x c)) w.table.cores) 0)

new_helpers_same : (w : Pair) (x : List Action) (t : ℕ) → new_helpers (first w) x t ≡ new_helpers (second w) x t
new_helpers_same w x t = λ i. count_below (λ j. new_flight_same w x (thread_of w.table t j) i && not (late_same w (thread_of w.table t j) i)) (limit_of w.table t)

surplus_same : (w : Pair) (x : List Action) (t : ℕ) → surplus (first w) x t ≡ surplus (second w) x t
surplus_same w x t = λ i. cond (is_short w.table x t) (new_helpers_same w x t i) (helpers_same w x t i)

waits_same : (w : Pair) (x : List Action) (t : ℕ) → waits (first w) x t ≡ waits (second w) x t
waits_same w x t = λ i. nat_lt (surplus_same w x t i) (pressing_same w x t i) && may_book (first w) x t && is_some (choice_same w x t i)

waits_short_same : (w : Pair) (x : List Action) (t : ℕ) → waits_short (first w) x t ≡ waits_short (second w) x t
waits_short_same w x t = ap (λ b. is_short w.table x t && b) (waits_same w x t)

some_waits_same : (w : Pair) (x : List Action) → some_waits_short (first w) x ≡ some_waits_short (second w) x
some_waits_same w x = λ i. not (eqb (count_below (λ t. waits_short_same w x t i) (length w.table.tasks)) 0)

lacking_same : (w : Pair) (x : List Action) → lacking (first w) x ≡ lacking (second w) x
lacking_same w x = λ i. sum_below (λ t. cond (waits_same w x t i) (lacks w.table x t) 0) (length w.table.tasks)

lacked_same : (w : Pair) (x : List Action) → are_lacked (first w) x ≡ are_lacked (second w) x
lacked_same w x = λ i. some_waits_same w x i && nat_le (open_cores w.table x) (lacking_same w x i)

wanted_same : (w : Pair) (x : List Action) → are_wanted (first w) x ≡ are_wanted (second w) x
wanted_same w x = λ i. some_waits_same w x i && nat_lt (open_cores w.table x) (lacking_same w x i)

needs_same : (w : Pair) (x : List Action) (t : ℕ) → needs (first w) x t ≡ needs (second w) x t
needs_same w x t = λ i. min (lacks w.table x t)
    (min (pressing_same w x t i) (count_below (λ j. is_some (thread_rank_same w x (thread_of w.table t j) i)) (limit_of w.table t)))

-- ---- bans ----

unban_for_same : (w : Pair) (x : List Action) (c : ℕ) (ban : Option BannedFor) → unban_for (first w) x c ban ≡ unban_for (second w) x c ban
unban_for_same w x c None = refl
unban_for_same w x c (Some ban) = λ i. cond (still_shows (kept_same w ban.thread i) (sibling_of c) ban.started && not (wanted_same w x i)) [] (Unban c ∷ [])

unban_same : (w : Pair) (acts : List Action) (c : ℕ) → unban_at (first w) acts c ≡ unban_at (second w) acts c
unban_same w acts c =
    let x : List Action = so_far (first w) acts in
    unban_for_same w x c (ban_of x c) ∙ ap (λ x. unban_for (second w) x c (ban_of x c)) (so_far_same w acts)

unbans_same : (w : Pair) (acts : List Action) → unbans (first w) acts ≡ unbans (second w) acts
unbans_same w acts = λ i. in_turn (λ acts c. unban_same w acts c i) acts w.table.cores

due_for_same : (w : Pair) (x : List Action) (c : ℕ) → due_for (first w) x c ≡ due_for (second w) x c
due_for_same w x c = λ i. cond (is_free (holder_of x (sibling_of c)) && lacked_same w x i) None (due_same w x c i)

ban_same : (w : Pair) (acts : List Action) (c : ℕ) → bans_at (first w) acts c ≡ bans_at (second w) acts c
ban_same w acts c =
    let x : List Action = so_far (first w) acts in
    ap (ban_for (first w) x c) (due_for_same w x c) ∙ ban_for_same w x c (due_for (second w) x c)
    ∙ ap (λ x. ban_for (second w) x c (due_for (second w) x c)) (so_far_same w acts)

bans_same : (w : Pair) (acts : List Action) → bans (first w) acts ≡ bans (second w) acts
bans_same w acts = λ i. in_turn (λ acts c. ban_same w acts c i) acts w.table.cores

-- ---- the order of tasks ----

later_same : (w : Pair) (t u : ℕ) → is_later (first w) t u ≡ is_later (second w) t u
later_same w t u = λ i. nat_lt (task_delay_same w u i + delay_of w.table t) (task_delay_same w t i + delay_of w.table u)

rather_same : (w : Pair) (x : List Action) (group t u : ℕ) → is_rather (first w) x group t u ≡ is_rather (second w) x group t u
rather_same w x group t u = λ i. cond (eqb group 0) false (cond (eqb group 1) (later_same w t u i) (nat_lt (held_by w.table x t) (held_by w.table x u)))

before_same : (w : Pair) (x : List Action) (t u : ℕ) → goes_before (first w) x t u ≡ goes_before (second w) x t u
before_same w x t u = λ i.
    cond (nat_lt (group_of (first w) x t) (group_of (first w) x u)) true
    (cond (nat_lt (group_of (first w) x u) (group_of (first w) x t)) false
    (cond (rather_same w x (group_of (first w) x t) t u i) true
    (cond (rather_same w x (group_of (first w) x t) u t i) false (nat_lt t u))))

place_same : (w : Pair) (x : List Action) (t : ℕ) → place_of (first w) x t ≡ place_of (second w) x t
place_same w x t = λ i. count_below (λ u. before_same w x u t i) (length w.table.tasks)

in_place_same : (w : Pair) (x : List Action) (place : ℕ) → task_in_place (first w) x place ≡ task_in_place (second w) x place
in_place_same w x place = λ i. lowest_below (λ t. eqb (place_same w x t i) place) (length w.table.tasks)

-- ---- the choice of a core ----

kept_for_same : (w : Pair) (x : List Action) (t : ℕ) (owed : Option ℕ) → is_kept_for (first w) x t owed ≡ is_kept_for (second w) x t owed
kept_for_same w x t None = refl
kept_for_same w x t (Some u) = ap (λ b. not (eqb u t) && b) (waits_same w x u)

kept_for_short_same : (w : Pair) (x : List Action) (t c : ℕ) (owed : Option ℕ) → is_kept_for_short (first w) x t c owed ≡ is_kept_for_short (second w) x t c owed
kept_for_short_same w x t c None = refl
kept_for_short_same w x t c (Some u) = λ i. not (eqb u t) && waits_short_same w x u i && nat_lt (owed_below x u c) (needs_same w x u i)

is_kept_same : (w : Pair) (x : List Action) (t c : ℕ) → is_kept (first w) x t c ≡ is_kept (second w) x t c
is_kept_same w x t c = λ i. cond (is_short w.table x t) (kept_for_short_same w x t c (owed_to x c) i) (kept_for_same w x t (owed_to x c) i)

open_class_same : (w : Pair) (x : List Action) (t c : ℕ) → open_class (first w) x t c ≡ open_class (second w) x t c
open_class_same w x t c = λ i. cond (is_open x c && not (is_kept_same w x t c i)) (Some (idle_class w.table t (holder_of x (sibling_of c)) (last_thread x c))) None

open_choice_same : (w : Pair) (x : List Action) (t : ℕ) → open_choice (first w) x t ≡ open_choice (second w) x t
open_choice_same w x t = λ i. option_or
    (best_below comes_before (λ c. cond (is_task t (owed_to x c)) (open_class_same w x t c i) None) w.table.cores)
    (best_below comes_before (λ c. open_class_same w x t c i) w.table.cores)

held_class_same : (w : Pair) (acts : List Action) (t c : ℕ) (holder : Holder) → held_class (first w) acts t c holder ≡ held_class (second w) acts t c holder
held_class_same w acts t c holders.Free = refl
held_class_same w acts t c (holders.Held placement) = λ i. cond
    (is_held_with_room (first w) (holders.Held placement) && not (is_granted_in acts c)
    && may_take_from (first w) (so_far_same w acts i) t (owner_of w.table placement.thread))
    (preempt_class w.table (so_far_same w acts i) t (owner_of w.table placement.thread)) None
held_class_same w acts t c (holders.Leaving placement cause) = refl

held_same : (w : Pair) (acts : List Action) (t : ℕ) → held_choice (first w) acts t ≡ held_choice (second w) acts t
held_same w acts t = λ i. best_below comes_before (λ c. one c i) w.table.cores
  where
    one : (c : ℕ) → held_class (first w) acts t c (holder_of (so_far (first w) acts) c) ≡ held_class (second w) acts t c (holder_of (so_far (second w) acts) c)
    one c = held_class_same w acts t c (holder_of (so_far (first w) acts) c) ∙ ap (λ x. held_class (second w) acts t c (holder_of x c)) (so_far_same w acts)

more_same : (w : Pair) (x : List Action) (t : ℕ) → more_press (first w) x t ≡ more_press (second w) x t
more_same w x t = λ i. nat_lt (coming (first w) x t + surplus_same w x t i) (pressing_same w x t i)

preempt_same : (w : Pair) (acts : List Action) (t : ℕ) → may_preempt (first w) acts t ≡ may_preempt (second w) acts t
preempt_same w acts t =
    (λ i. is_latency_critical w.table t && more_same w (so_far (first w) acts) t i && (not (has_acted w.table acts t) || fewer_come (first w) (so_far (first w) acts) t))
    ∙ ap (λ x. is_latency_critical w.table t && more_press (second w) x t && (not (has_acted w.table acts t) || fewer_come (second w) x t)) (so_far_same w acts)

core_same : (w : Pair) (acts : List Action) (t : ℕ) → choice_for (first w) acts t ≡ choice_for (second w) acts t
core_same w acts t =
    (λ i. option_or (open_choice_same w (so_far (first w) acts) t i) (cond (preempt_same w acts t i) (held_same w acts t i) None))
    ∙ ap (λ x. option_or (open_choice (second w) x t) (cond (may_preempt (second w) acts t) (held_choice (second w) acts t) None)) (so_far_same w acts)

-- ---- grants ----

act_same : (w : Pair) (acts : List Action) (t : ℕ) → act_of (first w) acts t ≡ act_of (second w) acts t
act_same w acts t =
    let x : List Action = so_far (first w) acts in
    let may : List Action → Bool = λ x. is_short w.table x t || not (has_acted w.table acts t) in
    (λ i. cond (waits_same w x t i && may x) (grant_of (first w) t (choice_same w x t i) (core_same w acts t i)) [])
    ∙ ap (λ l. cond (waits (second w) x t && may x) l []) (grant_of_same w t (thread_choice (second w) x t) (choice_for (second w) acts t))
    ∙ ap (λ x. cond (waits (second w) x t && may x) (grant_of (second w) t (thread_choice (second w) x t) (choice_for (second w) acts t)) []) (so_far_same w acts)

act_there_same : (w : Pair) (acts : List Action) (t : Option ℕ) → act_in_place (first w) acts t ≡ act_in_place (second w) acts t
act_there_same w acts None = refl
act_there_same w acts (Some t) = act_same w acts t

turn_same : (w : Pair) (acts : List Action) (t : Option ℕ) → turn_in_place (first w) acts t ≡ turn_in_place (second w) acts t
turn_same w acts t = λ i. in_turn (λ made act. act_there_same w made t i) acts w.table.cores

grants_same : (w : Pair) (acts : List Action) → grants (first w) acts ≡ grants (second w) acts
grants_same w acts = λ i. in_turn (λ made place. one made place i) acts (length w.table.tasks)
  where
    one : (made : List Action) (place : ℕ) → turn_in_place (first w) made (task_in_place (first w) (so_far (first w) acts) place)
        ≡ turn_in_place (second w) made (task_in_place (second w) (so_far (second w) acts) place)
    one made place = turn_same w made (task_in_place (first w) (so_far (first w) acts) place)
        ∙ ap (turn_in_place (second w) made) (in_place_same w (so_far (first w) acts) place
        ∙ ap (λ x. task_in_place (second w) x place) (so_far_same w acts))

-- ---- the pass ----

-- up to where its grants begin
bounded_same : (w : Pair) → bounded_of (first w) ≡ bounded_of (second w)
bounded_same w =
    let freed = part_same (frees (first w)) (frees (second w)) (frees_same w) [] [] refl in
    let unbanned = part_same (unbans (first w)) (unbans (second w)) (unbans_same w) _ _ freed in
    let banned = part_same (bans (first w)) (bans (second w)) (bans_same w) _ _ unbanned in
    part_same (bandwidth_part (first w)) (bandwidth_part (second w)) (bandwidth_same w) _ _ banned

-- all actions so far there, who is short and waits there, and how many cores it needs
bounded_so_far : (w : Pair) → so_far (first w) (bounded_of (first w)) ≡ so_far (second w) (bounded_of (second w))
bounded_so_far w = so_far_same w (bounded_of (first w)) ∙ ap (so_far (second w)) (bounded_same w)

pub waits_there_same : (w : Pair) (t : ℕ) → waits_short (first w) (so_far (first w) (bounded_of (first w))) t ≡ waits_short (second w) (so_far (second w) (bounded_of (second w))) t
waits_there_same w t = waits_short_same w (so_far (first w) (bounded_of (first w))) t ∙ ap (λ x. waits_short (second w) x t) (bounded_so_far w)

pub needs_there_same : (w : Pair) (t : ℕ) → needs (first w) (so_far (first w) (bounded_of (first w))) t ≡ needs (second w) (so_far (second w) (bounded_of (second w))) t
needs_there_same w t = needs_same w (so_far (first w) (bounded_of (first w))) t ∙ ap (λ x. needs (second w) x t) (bounded_so_far w)

-- to its end
pass_same : (w : Pair) → pass_of (first w) ≡ pass_of (second w)
pass_same w = part_same (grants (first w)) (grants (second w)) (grants_same w) _ _ (bounded_same w)

pub by_what_is_left : GoesByWhatIsLeft Assured
by_what_is_left table one other input same = pass_same (record { table = table; input = input; one = one; other = other; same = same })
