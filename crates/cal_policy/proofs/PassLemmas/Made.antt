-- Each action of a pass is made at its own place.
use Rattle.cal_policy.proofs.Common.{◌≡◌, ℕ, ◌<◌, Bool, true, false, ◌&&◌, nat_lt, List, [], ◌∷◌, ◌++◌, length, Option, Some, None, inl, inr, refl, if◌then◌else◌, sibling_of, is_latency_critical, thread_of, Action, Free, Unban, Ban, Revoke, Grant, BannedFor, Candidate, CoreClass, class_number, is_idle, holder_of, ban_of, is_held, lowest_below, Setting, so_far, kept_now, shows_left, free_at, frees, still_shows, unban_for, unban_at, unbans, ban_due, ban_for, bans_at, bans, victim_of, core_to_lose, cut_at, cut_of, rise_of, is_capped, bandwidth_part, is_congested, may_book, thread_choice, choice_of, grant_of, grant_at, grant_of_kind_at, grants_of_kind, pass_of, EachAfter, IsMade, IsCut, IsChosen, and_parts}
use Rattle.cal_policy.specs.declared.history.action.Cause.TheVariants as causes
use Rattle.cal_machine.specs.declared.task.Kind.TheVariants as kinds
use Rattle.cal_policy.proofs.ListLemmas.EachAfter.{each_append, each_in_turn}

-- what holds of all members where the test holds holds of all where nothing stands otherwise
each_if : {X : Type 0} (P : List X → X → Type 0) (before : List X) (b : Bool) (xs : List X) → (b ≡ true → EachAfter P before xs) → EachAfter P before (if b then xs else [])
each_if P before true xs e = e refl
each_if P before false xs e = tt

each_unless : {X : Type 0} (P : List X → X → Type 0) (before : List X) (b : Bool) (xs : List X) → (b ≡ false → EachAfter P before xs) → EachAfter P before (if b then [] else xs)
each_unless P before true xs e = tt
each_unless P before false xs e = e refl

pub frees_made : (s : Setting) (acts : List Action) → EachAfter (IsMade s) acts (frees s acts)
frees_made s acts = each_in_turn (IsMade s) (free_at s) acts s.table.cores (λ now c lt.
    each_if (IsMade s) now (shows_left (kept_now s) (holder_of (so_far s now) c)) (Free c ∷ []) (λ e. (record { core = lt; left = e }, tt)))

unban_made : (s : Setting) (acts : List Action) (c : ℕ) → c < s.table.cores → (o : Option BannedFor) → ban_of (so_far s acts) c ≡ o → EachAfter (IsMade s) acts (unban_for s c o)
unban_made s acts c lt None e = tt
unban_made s acts c lt (Some ban) e = each_unless (IsMade s) acts (still_shows (kept_now s ban.thread) (sibling_of c) ban.started) (Unban c ∷ [])
    (λ o. ((ban, record { core = lt; banned = e; over = o }), tt))

pub unbans_made : (s : Setting) (acts : List Action) → EachAfter (IsMade s) acts (unbans s acts)
unbans_made s acts = each_in_turn (IsMade s) (unban_at s) acts s.table.cores (λ now c lt. unban_made s now c lt (ban_of (so_far s now) c) refl)

ban_made : (s : Setting) (acts : List Action) (c : ℕ) → c < s.table.cores → (o : Option ℕ) → ban_due s (so_far s acts) c ≡ o → EachAfter (IsMade s) acts (ban_for s (so_far s acts) c o)
ban_made s acts c lt None e = tt
ban_made s acts c lt (Some thread) e = (
  record { by = c; beside = refl; start = refl; due = record { core = lt; due = e } },
  each_if (IsMade s) (acts ++ Ban (sibling_of c) thread (kept_now s thread).started ∷ []) (is_held (holder_of (so_far s acts) (sibling_of c))) (Revoke (sibling_of c) (causes.Ban c) ∷ [])
      (λ held. (record { earlier = acts; thread = thread; just_before = refl; beside = refl; due = record { core = lt; due = e }; held = held }, tt)),
)

pub bans_made : (s : Setting) (acts : List Action) → EachAfter (IsMade s) acts (bans s acts)
bans_made s acts = each_in_turn (IsMade s) (bans_at s) acts s.table.cores (λ now c lt. ban_made s now c lt (ban_due s (so_far s now) c) refl)

cut_core_made : (s : Setting) (acts : List Action) → nat_lt s.table.bandwidth_limit s.input.bandwidth ≡ true → (v : Candidate ℕ) → victim_of s (so_far s acts) ≡ Some v →
    (o : Option ℕ) → core_to_lose s (so_far s acts) v.number ≡ o → EachAfter (IsMade s) acts (cut_at s (so_far s acts) v.number o)
cut_core_made s acts over v e None f = tt
cut_core_made s acts over v e (Some core) f =
    let cut : IsCut s acts v core = record { over = over; greatest = e; highest = f } in (
      inl (record { victim = v; core = core; number = refl; below = refl; cut = cut }),
      (record { earlier = acts; victim = v; just_before = refl; cut = cut }, tt),
    )

cut_made : (s : Setting) (acts : List Action) → nat_lt s.table.bandwidth_limit s.input.bandwidth ≡ true → (o : Option (Candidate ℕ)) → victim_of s (so_far s acts) ≡ o →
    EachAfter (IsMade s) acts (cut_of s (so_far s acts) o)
cut_made s acts over None e = tt
cut_made s acts over (Some v) e = cut_core_made s acts over v e (core_to_lose s (so_far s acts) v.number) refl

rise_made : (s : Setting) (acts : List Action) → nat_lt s.table.bandwidth_limit s.input.bandwidth ≡ false → (o : Option ℕ) →
    lowest_below (is_capped s (so_far s acts)) (length s.table.tasks) ≡ o → EachAfter (IsMade s) acts (rise_of s (so_far s acts) o)
rise_made s acts within None e = tt
rise_made s acts within (Some t) e = (inr (record { above = refl; raised = record { within = within; lowest = e } }), tt)

bandwidth_by : (s : Setting) (acts : List Action) (b : Bool) → nat_lt s.table.bandwidth_limit s.input.bandwidth ≡ b →
    EachAfter (IsMade s) acts (if b then cut_of s (so_far s acts) (victim_of s (so_far s acts)) else rise_of s (so_far s acts) (lowest_below (is_capped s (so_far s acts)) (length s.table.tasks)))
bandwidth_by s acts true e = cut_made s acts e (victim_of s (so_far s acts)) refl
bandwidth_by s acts false e = rise_made s acts e (lowest_below (is_capped s (so_far s acts)) (length s.table.tasks)) refl

pub bandwidth_made : (s : Setting) (acts : List Action) → EachAfter (IsMade s) acts (bandwidth_part s acts)
bandwidth_made s acts = bandwidth_by s acts (nat_lt s.table.bandwidth_limit s.input.bandwidth) refl

chosen_made : (s : Setting) (acts : List Action) (t : ℕ) (thread : Candidate ℕ) (core : Candidate CoreClass) → IsChosen s acts t thread core → (b : Bool) → is_idle core.rank ≡ b →
    EachAfter (IsMade s) acts (if b then Grant core.number (thread_of s.table t thread.number) (class_number core.rank) ∷ [] else Revoke core.number (causes.Preempt t) ∷ [])
chosen_made s acts t thread core e true is = (record { task = t; chosen_thread = thread; choice = core; core_chosen = refl; thread_chosen = refl; class_chosen = refl; granted = is; chosen = e }, tt)
chosen_made s acts t thread core e false is = (record { thread = thread; choice = core; number = refl; class = is; chosen = e }, tt)

grant_of_made : (s : Setting) (acts : List Action) (t : ℕ) → t < length s.table.tasks → is_congested s t ≡ true → may_book s (so_far s acts) t ≡ true →
    (thread : Option (Candidate ℕ)) (core : Option (Candidate CoreClass)) → thread_choice s (so_far s acts) t ≡ thread → choice_of s acts t ≡ core → EachAfter (IsMade s) acts (grant_of s t thread core)
grant_of_made s acts t lt congested room None core e f = tt
grant_of_made s acts t lt congested room (Some thread) None e f = tt
grant_of_made s acts t lt congested room (Some thread) (Some core) e f =
    chosen_made s acts t thread core (record { task = lt; congested = congested; room = room; longest = e; least = f }) (is_idle core.rank) refl

grant_made : (s : Setting) (acts : List Action) (t : ℕ) → t < length s.table.tasks → EachAfter (IsMade s) acts (grant_at s acts t)
grant_made s acts t lt = each_if (IsMade s) acts (is_congested s t && may_book s (so_far s acts) t) (grant_of s t (thread_choice s (so_far s acts) t) (choice_of s acts t))
    (λ e. let both = and_parts (is_congested s t) (may_book s (so_far s acts) t) e in
    grant_of_made s acts t lt both.0 both.1 (thread_choice s (so_far s acts) t) (choice_of s acts t) refl refl)

pub critical_grants_made : (s : Setting) (acts : List Action) → EachAfter (IsMade s) acts (grants_of_kind kinds.LatencyCritical s acts)
critical_grants_made s acts = each_in_turn (IsMade s) (grant_of_kind_at kinds.LatencyCritical s) acts (length s.table.tasks) (λ now t lt.
    each_if (IsMade s) now (is_latency_critical s.table t) (grant_at s now t) (λ e. grant_made s now t lt))

pub best_effort_grants_made : (s : Setting) (acts : List Action) → EachAfter (IsMade s) acts (grants_of_kind kinds.BestEffort s acts)
best_effort_grants_made s acts = each_in_turn (IsMade s) (grant_of_kind_at kinds.BestEffort s) acts (length s.table.tasks) (λ now t lt.
    each_unless (IsMade s) now (is_latency_critical s.table t) (grant_at s now t) (λ e. grant_made s now t lt))

then_made : (s : Setting) (acts more : List Action) → EachAfter (IsMade s) [] acts → EachAfter (IsMade s) acts more → EachAfter (IsMade s) [] (acts ++ more)
then_made s acts more e f = each_append (IsMade s) [] acts more e f

-- each action of a pass is one that a pass makes at its place
pub pass_made : (s : Setting) → EachAfter (IsMade s) [] (pass_of s)
pass_made s =
    then_made s _ _ (then_made s _ _ (then_made s _ _ (then_made s _ _ (then_made s _ _ (frees_made s []) (unbans_made s _)) (bans_made s _)) (bandwidth_made s _))
    (critical_grants_made s _)) (best_effort_grants_made s _)
