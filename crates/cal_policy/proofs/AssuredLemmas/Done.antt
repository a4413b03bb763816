-- Each action of a pass, with what stands at its own place.
use Rattle.cal_policy.proofs.Common.{◌≡◌, ℕ, ◌<◌, ◌⊎◌, Bool, true, false, not, ◌&&◌, cond, eqb, nat_lt, List, [], ◌∷◌, ◌++◌, length, Option, Some, None, inl, inr, refl, ap, ◌∙◌, subst, option_or, is_some, and_parts, sibling_of, owner_of, thread_of, is_latency_critical, some_then, Action, Free, Unban, Ban, Revoke, Cap, Grant, BannedFor, Holder, Candidate, CoreClass, class_number, is_idle, comes_before, holder_of, last_thread, ban_of, is_banned, is_held, best_below, lowest_below, shows_left, free_at, frees, still_shows, ban_for, victim_of, core_to_lose, cut_at, cut_of, rise_of, is_capped, bandwidth_part, thread_choice, grant_of, idle_class, preempt_class, is_granted_in, EachAfter, IsFreed, IsCapCut, IsCapRise, followed, Setting, so_far, kept_now, is_held_with_room, may_act, act_of, act_in_place, acts_in_place, turn_in_place, grants_of_first, grants, due_for, task_in_place, place_of, bounded_of, ComesTo, waits, are_wanted, may_take, open_class, owed_class, open_choice, may_take_from, held_class, held_choice, more_press, may_preempt, choice_for, owed_to, is_task}
use Rattle.cal_policy.specs.declared.history.action.Cause.TheVariants as causes
use Rattle.cal_policy.specs.declared.board.holders.Holder.TheVariants as holders
use Rattle.cal_policy.proofs.ListLemmas.Counted.{best_ranked, lowest_passes}
use Rattle.cal_policy.proofs.ListLemmas.EachAfter.{each_append}
use Rattle.cal_policy.proofs.PassLemmas.Fits.{idle_low, preempt_high}
use Rattle.cal_policy.specs.Assured.Cause.{IsForTask, HasCause}
use Rattle.cal_policy.specs.Assured.Hyperthreads.{unban_for, unban_at, unbans, bans_at, bans}
use Rattle.cal_policy.specs.Assured.Pass.{pass_of}
use Rattle.cal_policy.proofs.AssuredLemmas.Walks.{each_turn, each_inside, each_so}

-- a core is unbanned: it was banned
pub record IsUnbanned (s : Setting) (acts : List Action) (core : ℕ) : Type 0 where
  pub low : core < s.table.cores
  pub banned : is_banned (so_far s acts) core ≡ true

-- a ban was due for a thread on the sibling
pub record IsBanned (s : Setting) (acts : List Action) (core thread started : ℕ) : Type 0 where
  pub by : ℕ
  pub beside : core ≡ sibling_of by
  pub start : started ≡ (kept_now s thread).started
  pub low : by < s.table.cores
  pub due : due_for s (so_far s acts) by ≡ Some thread

-- a core was chosen for a task that waits, at the task's turn
pub record IsGranted (s : Setting) (acts : List Action) (core thread class : ℕ) : Type 0 where
  pub task : ℕ
  pub own : task < length s.table.tasks
  pub waiting : waits s (so_far s acts) task ≡ true
  pub may : may_act s acts task ≡ true
  pub chosen_thread : Candidate ℕ
  pub longest : thread_choice s (so_far s acts) task ≡ Some chosen_thread
  pub thread_chosen : thread ≡ thread_of s.table task chosen_thread.number
  pub choice : Candidate CoreClass
  pub least : open_choice s (so_far s acts) task ≡ Some choice
  pub core_chosen : core ≡ choice.number
  pub class_chosen : class ≡ class_number choice.rank
  pub place : ℕ
  pub turn : task_in_place s (so_far s (bounded_of s)) place ≡ Some task
  pub act : ℕ
  pub before : acts ≡ followed (followed (bounded_of s) (grants_of_first place s)) (acts_in_place act s (Some task))

-- what the first part does, the second, and the last
abbrev pub IsFreeing : Setting → List Action → Action → Type 0
IsFreeing s acts (Free core) = IsFreed s acts core
IsFreeing s acts (Unban core) = ⊥
IsFreeing s acts (Ban core thread started) = ⊥
IsFreeing s acts (Revoke core cause) = ⊥
IsFreeing s acts (Cap task cap) = ⊥
IsFreeing s acts (Grant core thread class) = ⊥

abbrev pub IsUnbanning : Setting → List Action → Action → Type 0
IsUnbanning s acts (Free core) = ⊥
IsUnbanning s acts (Unban core) = IsUnbanned s acts core
IsUnbanning s acts (Ban core thread started) = ⊥
IsUnbanning s acts (Revoke core cause) = ⊥
IsUnbanning s acts (Cap task cap) = ⊥
IsUnbanning s acts (Grant core thread class) = ⊥

abbrev pub IsServing : Setting → List Action → Action → Type 0
IsServing s acts (Free core) = ⊥
IsServing s acts (Unban core) = ⊥
IsServing s acts (Ban core thread started) = ⊥
IsServing s acts (Revoke core (causes.Preempt task)) = IsForTask s acts core task
IsServing s acts (Revoke core (causes.Ban by)) = ⊥
IsServing s acts (Revoke core causes.Bandwidth) = ⊥
IsServing s acts (Cap task cap) = ⊥
IsServing s acts (Grant core thread class) = IsGranted s acts core thread class

-- an action that the policy makes at this place
abbrev pub IsDone : Setting → List Action → Action → Type 0
IsDone s acts (Free core) = IsFreed s acts core
IsDone s acts (Unban core) = IsUnbanned s acts core
IsDone s acts (Ban core thread started) = IsBanned s acts core thread started
IsDone s acts (Revoke core cause) = HasCause s acts core cause
IsDone s acts (Cap task cap) = IsCapCut s acts task cap ⊎ IsCapRise s acts task cap
IsDone s acts (Grant core thread class) = IsGranted s acts core thread class

freeing_done : (s : Setting) (acts : List Action) (a : Action) → IsFreeing s acts a → IsDone s acts a
freeing_done s acts (Free core) m = m
freeing_done s acts (Unban core) m = absurd m
freeing_done s acts (Ban core thread started) m = absurd m
freeing_done s acts (Revoke core cause) m = absurd m
freeing_done s acts (Cap task cap) m = absurd m
freeing_done s acts (Grant core thread class) m = absurd m

unbanning_done : (s : Setting) (acts : List Action) (a : Action) → IsUnbanning s acts a → IsDone s acts a
unbanning_done s acts (Free core) m = absurd m
unbanning_done s acts (Unban core) m = m
unbanning_done s acts (Ban core thread started) m = absurd m
unbanning_done s acts (Revoke core cause) m = absurd m
unbanning_done s acts (Cap task cap) m = absurd m
unbanning_done s acts (Grant core thread class) m = absurd m

serving_done : (s : Setting) (acts : List Action) (a : Action) → IsServing s acts a → IsDone s acts a
serving_done s acts (Free core) m = absurd m
serving_done s acts (Unban core) m = absurd m
serving_done s acts (Ban core thread started) m = absurd m
serving_done s acts (Revoke core (causes.Preempt task)) m = m
serving_done s acts (Revoke core (causes.Ban by)) m = absurd m
serving_done s acts (Revoke core causes.Bandwidth) m = absurd m
serving_done s acts (Cap task cap) m = absurd m
serving_done s acts (Grant core thread class) m = m

each_if : {X : Type 0} (P : List X → X → Type 0) (before : List X) (b : Bool) (xs : List X) → (b ≡ true → EachAfter P before xs) → EachAfter P before (cond b xs [])
each_if P before true xs e = e refl
each_if P before false xs e = tt

each_unless : {X : Type 0} (P : List X → X → Type 0) (before : List X) (b : Bool) (xs : List X) → (b ≡ false → EachAfter P before xs) → EachAfter P before (cond b [] xs)
each_unless P before true xs e = tt
each_unless P before false xs e = e refl

pub frees_made : (s : Setting) (acts : List Action) → EachAfter (IsFreeing s) acts (frees s acts)
frees_made s acts = each_turn (IsFreeing s) (free_at s) acts s.table.cores (λ c lt.
    each_if (IsFreeing s) _ (shows_left (kept_now s) (holder_of (so_far s _) c)) (Free c ∷ []) (λ e. (record { core = lt; left = e }, tt)))

unban_made : (s : Setting) (acts : List Action) (c : ℕ) → c < s.table.cores → (o : Option BannedFor) → ban_of (so_far s acts) c ≡ o → EachAfter (IsUnbanning s) acts (unban_for s (so_far s acts) c o)
unban_made s acts c lt None e = tt
unban_made s acts c lt (Some ban) e =
    each_unless (IsUnbanning s) acts (still_shows (kept_now s ban.thread) (sibling_of c) ban.started && not (are_wanted s (so_far s acts))) (Unban c ∷ [])
    (λ o. (record { low = lt; banned = ap is_some e }, tt))

pub unbans_made : (s : Setting) (acts : List Action) → EachAfter (IsUnbanning s) acts (unbans s acts)
unbans_made s acts = each_turn (IsUnbanning s) (unban_at s) acts s.table.cores (λ c lt. unban_made s _ c lt (ban_of (so_far s _) c) refl)

ban_done : (s : Setting) (acts : List Action) (c : ℕ) → c < s.table.cores → (o : Option ℕ) → due_for s (so_far s acts) c ≡ o → EachAfter (IsDone s) acts (ban_for s (so_far s acts) c o)
ban_done s acts c lt None e = tt
ban_done s acts c lt (Some thread) e = (
  record { by = c; beside = refl; start = refl; low = lt; due = e },
  each_if (IsDone s) (acts ++ Ban (sibling_of c) thread (kept_now s thread).started ∷ []) (is_held (holder_of (so_far s acts) (sibling_of c))) (Revoke (sibling_of c) (causes.Ban c) ∷ [])
      (λ held. (record { earlier = acts; thread = thread; just_before = refl; beside = refl; own = lt; due = e; held = held }, tt)),
)

pub bans_done : (s : Setting) (acts : List Action) → EachAfter (IsDone s) acts (bans s acts)
bans_done s acts = each_turn (IsDone s) (bans_at s) acts s.table.cores (λ c lt. ban_done s _ c lt (due_for s (so_far s _) c) refl)

cut_core_done : (s : Setting) (acts : List Action) → nat_lt s.table.bandwidth_limit s.input.bandwidth ≡ true → (v : Candidate ℕ) → victim_of s (so_far s acts) ≡ Some v →
    (o : Option ℕ) → core_to_lose s (so_far s acts) v.number ≡ o → EachAfter (IsDone s) acts (cut_at s (so_far s acts) v.number o)
cut_core_done s acts over v e None f = tt
cut_core_done s acts over v e (Some core) f = (
  inl (record { victim = v; core = core; number = refl; below = refl; cut = record { over = over; greatest = e; highest = f } }),
  (record { earlier = acts; victim = v; just_before = refl; cut = record { over = over; greatest = e; highest = f } }, tt),
)

cut_done : (s : Setting) (acts : List Action) → nat_lt s.table.bandwidth_limit s.input.bandwidth ≡ true → (o : Option (Candidate ℕ)) → victim_of s (so_far s acts) ≡ o →
    EachAfter (IsDone s) acts (cut_of s (so_far s acts) o)
cut_done s acts over None e = tt
cut_done s acts over (Some v) e = cut_core_done s acts over v e (core_to_lose s (so_far s acts) v.number) refl

rise_done : (s : Setting) (acts : List Action) → nat_lt s.table.bandwidth_limit s.input.bandwidth ≡ false → (o : Option ℕ) →
    lowest_below (is_capped s (so_far s acts)) (length s.table.tasks) ≡ o → EachAfter (IsDone s) acts (rise_of s (so_far s acts) o)
rise_done s acts within None e = tt
rise_done s acts within (Some t) e = (inr (record { above = refl; raised = record { within = within; lowest = e } }), tt)

bandwidth_by : (s : Setting) (acts : List Action) (b : Bool) → nat_lt s.table.bandwidth_limit s.input.bandwidth ≡ b →
    EachAfter (IsDone s) acts (cond b (cut_of s (so_far s acts) (victim_of s (so_far s acts))) (rise_of s (so_far s acts) (lowest_below (is_capped s (so_far s acts)) (length s.table.tasks))))
bandwidth_by s acts true e = cut_done s acts e (victim_of s (so_far s acts)) refl
bandwidth_by s acts false e = rise_done s acts e (lowest_below (is_capped s (so_far s acts)) (length s.table.tasks)) refl

pub bandwidth_done : (s : Setting) (acts : List Action) → EachAfter (IsDone s) acts (bandwidth_part s acts)
bandwidth_done s acts = bandwidth_by s acts (nat_lt s.table.bandwidth_limit s.input.bandwidth) refl

-- a core that a task may take, with its class
pub record IsTaken (s : Setting) (x : List Action) (t : ℕ) (choice : Candidate CoreClass) : Type 0 where
  pub low : choice.number < s.table.cores
  pub may : may_take s x t choice.number ≡ true
  pub idle : is_idle choice.rank ≡ true

taken_by : (s : Setting) (x : List Action) (t : ℕ) (choice : Candidate CoreClass) → choice.number < s.table.cores → open_class s x t choice.number ≡ Some choice.rank → IsTaken s x t choice
taken_by s x t choice low e =
    let class : CoreClass = idle_class s.table t (holder_of x (sibling_of choice.number)) (last_thread x choice.number) in
    let there = some_then (may_take s x t choice.number) (Some class) choice.rank e in
    let is : Some class ≡ Some choice.rank = there.1 in
    let same : class ≡ choice.rank = cc in
    let P : CoreClass → Type 0 = λ r. is_idle r ≡ true in
    record { low = low; may = there.0; idle = subst P same (idle_low s.table t (holder_of x (sibling_of choice.number)) (last_thread x choice.number)) }

taken_or : (s : Setting) (x : List Action) (t : ℕ) (choice : Candidate CoreClass) (o : Option (Candidate CoreClass)) → best_below comes_before (owed_class s x t) s.table.cores ≡ o →
    option_or o (best_below comes_before (open_class s x t) s.table.cores) ≡ Some choice → IsTaken s x t choice
taken_or s x t choice (Some best) e f =
    let same : best ≡ choice = cc in
    let ranked = best_ranked comes_before (owed_class s x t) s.table.cores choice (e ∙ f) in
    let there = some_then (is_task t (owed_to x choice.number)) (open_class s x t choice.number) choice.rank ranked.1 in
    taken_by s x t choice ranked.0 there.1
taken_or s x t choice None e f =
    let ranked = best_ranked comes_before (open_class s x t) s.table.cores choice f in
    taken_by s x t choice ranked.0 ranked.1

pub open_taken : (s : Setting) (x : List Action) (t : ℕ) (choice : Candidate CoreClass) → open_choice s x t ≡ Some choice → IsTaken s x t choice
open_taken s x t choice e = taken_or s x t choice (best_below comes_before (owed_class s x t) s.table.cores) refl e

-- a held core that was chosen
pub record IsHeldFor (s : Setting) (acts : List Action) (t core : ℕ) (class : CoreClass) : Type 0 where
  pub low : core < s.table.cores
  pub classed : held_class s acts t core (holder_of (so_far s acts) core) ≡ Some class
  pub high : is_idle class ≡ false

held_high : (s : Setting) (acts : List Action) (t core : ℕ) (class : CoreClass) (h : Holder) → held_class s acts t core h ≡ Some class → is_idle class ≡ false
held_high s acts t core class holders.Free e = cc
held_high s acts t core class (holders.Leaving p cause) e = cc
held_high s acts t core class (holders.Held p) e =
    let there = some_then (is_held_with_room s (holders.Held p) && not (is_granted_in acts core) && may_take_from s (so_far s acts) t (owner_of s.table p.thread)) (preempt_class s.table (so_far s acts) t (owner_of s.table p.thread)) class e in
    preempt_high s.table (so_far s acts) t (owner_of s.table p.thread) class there.1

pub held_taken : (s : Setting) (acts : List Action) (t : ℕ) (choice : Candidate CoreClass) → held_choice s acts t ≡ Some choice → IsHeldFor s acts t choice.number choice.rank
held_taken s acts t choice e =
    let ranked = best_ranked comes_before (λ c. held_class s acts t c (holder_of (so_far s acts) c)) s.table.cores choice e in
    record { low = ranked.0; classed = ranked.1; high = held_high s acts t choice.number choice.rank (holder_of (so_far s acts) choice.number) ranked.1 }

-- the actions before an act of a task in its place
abbrev before_act : Setting → ℕ → ℕ → ℕ → List Action
before_act s place t act = followed (followed (bounded_of s) (grants_of_first place s)) (acts_in_place act s (Some t))

-- an act of a task
record IsAct (s : Setting) (acts : List Action) (t : ℕ) : Type 0 where
  own : t < length s.table.tasks
  waiting : waits s (so_far s acts) t ≡ true
  may : may_act s acts t ≡ true
  place : ℕ
  turn : task_in_place s (so_far s (bounded_of s)) place ≡ Some t
  act : ℕ
  before : acts ≡ before_act s place t act

granted_made : (s : Setting) (acts : List Action) (t : ℕ) (thread : Candidate ℕ) (core : Candidate CoreClass) → IsAct s acts t → thread_choice s (so_far s acts) t ≡ Some thread →
    open_choice s (so_far s acts) t ≡ Some core → (b : Bool) → is_idle core.rank ≡ b →
    EachAfter (IsServing s) acts (cond b (Grant core.number (thread_of s.table t thread.number) (class_number core.rank) ∷ []) (Revoke core.number (causes.Preempt t) ∷ []))
granted_made s acts t thread core turn longest least true is = (
  record {
    task = t;
    own = turn.own;
    waiting = turn.waiting;
    may = turn.may;
    chosen_thread = thread;
    longest = longest;
    thread_chosen = refl;
    choice = core;
    least = least;
    core_chosen = refl;
    class_chosen = refl;
    place = turn.place;
    turn = turn.turn;
    act = turn.act;
    before = turn.before;
  },
  tt,
)
granted_made s acts t thread core turn longest least false is = let idle = (open_taken s (so_far s acts) t core least).idle in absurd (cc)

revoked_made : (s : Setting) (acts : List Action) (t : ℕ) (thread : Candidate ℕ) (core : Candidate CoreClass) → IsAct s acts t →
    open_choice s (so_far s acts) t ≡ None → may_preempt s acts t ≡ true → held_choice s acts t ≡ Some core → (b : Bool) → is_idle core.rank ≡ b →
    EachAfter (IsServing s) acts (cond b (Grant core.number (thread_of s.table t thread.number) (class_number core.rank) ∷ []) (Revoke core.number (causes.Preempt t) ∷ []))
revoked_made s acts t thread core turn none may held true is = let high = (held_taken s acts t core held).high in absurd (cc)
revoked_made s acts t thread core turn none may held false is =
    let presses = and_parts (is_latency_critical s.table t && more_press s (so_far s acts) t) _ may in
    let both = and_parts (is_latency_critical s.table t) (more_press s (so_far s acts) t) presses.0 in
    (record { own = turn.own; critical = both.0; waiting = turn.waiting; none_open = none; may = may; class = core.rank; least = held }, tt)

chosen_made : (s : Setting) (acts : List Action) (t : ℕ) (thread : Option (Candidate ℕ)) → IsAct s acts t → thread_choice s (so_far s acts) t ≡ thread →
    (o : Option (Candidate CoreClass)) → open_choice s (so_far s acts) t ≡ o → (b : Bool) → may_preempt s acts t ≡ b → (h : Option (Candidate CoreClass)) → held_choice s acts t ≡ h →
    EachAfter (IsServing s) acts (grant_of s t thread (option_or o (cond b h None)))
chosen_made s acts t None turn e o f b g h i = tt
chosen_made s acts t (Some thread) turn e (Some core) f b g h i = granted_made s acts t thread core turn e f (is_idle core.rank) refl
chosen_made s acts t (Some thread) turn e None f true g (Some core) i = revoked_made s acts t thread core turn f g i (is_idle core.rank) refl
chosen_made s acts t (Some thread) turn e None f true g None i = tt
chosen_made s acts t (Some thread) turn e None f false g h i = tt

act_made : (s : Setting) (place t act : ℕ) → t < length s.table.tasks → task_in_place s (so_far s (bounded_of s)) place ≡ Some t →
    EachAfter (IsServing s) (before_act s place t act) (act_of s (before_act s place t act) t)
act_made s place t act own e =
    let acts : List Action = before_act s place t act in
    each_if (IsServing s) acts (waits s (so_far s acts) t && may_act s acts t) (grant_of s t (thread_choice s (so_far s acts) t) (choice_for s acts t)) (λ both.
    let parts = and_parts (waits s (so_far s acts) t) (may_act s acts t) both in
    chosen_made s acts t (thread_choice s (so_far s acts) t) (record { own = own; waiting = parts.0; may = parts.1; place = place; turn = e; act = act; before = refl }) refl
    (open_choice s (so_far s acts) t) refl (may_preempt s acts t) refl (held_choice s acts t) refl)

place_made : (s : Setting) (place : ℕ) (o : Option ℕ) → task_in_place s (so_far s (bounded_of s)) place ≡ o → (act : ℕ) →
    let acts : List Action = followed (followed (bounded_of s) (grants_of_first place s)) (acts_in_place act s o) in EachAfter (IsServing s) acts (act_in_place s acts o)
place_made s place None e act = tt
place_made s place (Some t) e act =
    let there = lowest_passes (λ t. eqb (place_of s (so_far s (bounded_of s)) t) place) (length s.table.tasks) t e in act_made s place t act there.0 e

turn_made : (s : Setting) (place : ℕ) (o : Option ℕ) → task_in_place s (so_far s (bounded_of s)) place ≡ o →
    EachAfter (IsServing s) (followed (bounded_of s) (grants_of_first place s)) (turn_in_place s (followed (bounded_of s) (grants_of_first place s)) o)
turn_made s place o e =
    each_turn (IsServing s) (λ made act. act_in_place s made o) (followed (bounded_of s) (grants_of_first place s)) s.table.cores (λ act lt. place_made s place o e act)

pub grants_made : (s : Setting) → EachAfter (IsServing s) (bounded_of s) (grants s (bounded_of s))
grants_made s = each_turn (IsServing s) (λ made place. turn_in_place s made (task_in_place s (so_far s (bounded_of s)) place)) (bounded_of s) (length s.table.tasks)
    (λ place lt. turn_made s place (task_in_place s (so_far s (bounded_of s)) place) refl)

then_done : (s : Setting) (acts more : List Action) → EachAfter (IsDone s) [] acts → EachAfter (IsDone s) acts more → EachAfter (IsDone s) [] (acts ++ more)
then_done s acts more e f = each_append (IsDone s) [] acts more e f

-- each action of a pass is one that the policy makes at its place
pub pass_done : (s : Setting) → EachAfter (IsDone s) [] (pass_of s)
pass_done s =
    then_done s _ _ (then_done s _ _ (then_done s _ _ (then_done s _ _ (each_so (freeing_done s) [] _ (frees_made s [])) (each_so (unbanning_done s) _ _ (unbans_made s _))) (bans_done s _)) (bandwidth_done s _)) (each_so (serving_done s) _ _ (grants_made s))

-- so is one to which a pass comes
pub comes_done : (s : Setting) (acts : List Action) (next : Action) → ComesTo s acts next → IsDone s acts next
comes_done s acts next comes =
    let P : List Action → Type 0 = λ xs. EachAfter (IsDone s) [] xs in
    each_inside (IsDone s) [] acts comes.rest next (subst P comes.pass (pass_done s))
