-- A cut of a cap is followed at once by its revocation.
use Rattle.cal_laws.proofs.Common.{◌≡◌, ℕ, suc, zero, Bool, true, false, ◌&&◌, cond, nat_lt, List, [], ◌∷◌, ◌++◌, length, Option, Some, None, refl, ap, subst, slice_get, sibling_of, is_latency_critical, thread_of, Action, Free, Unban, Ban, Revoke, Cap, Grant, BannedFor, Candidate, CoreClass, class_number, is_idle, in_turn, holder_of, ban_of, is_held, lowest_below, Setting, so_far, kept_now, shows_left, free_at, still_shows, unban_for, unban_at, ban_due, ban_for, bans_at, victim_of, core_to_lose, cut_at, cut_of, rise_of, is_capped, bandwidth_part, is_congested, may_book, thread_choice, choice_of, grant_of, grant_at, grant_of_kind_at, pass_of}
use Rattle.cal_policy.specs.declared.history.action.Cause.TheVariants as causes
use Rattle.cal_machine.specs.declared.task.Kind.TheVariants as kinds

-- a revocation for bandwidth comes first
pub record BeginsWithRevocation (rest : List Action) : Type 0 where
  pub core : ℕ
  pub more : List Action
  pub begins : rest ≡ Revoke core causes.Bandwidth ∷ more

-- over the bandwidth limit what follows a cap begins with a revocation
abbrev pub IsFollowed : Setting → Action → List Action → Type 0
IsFollowed s (Cap task cap) rest = nat_lt s.table.bandwidth_limit s.input.bandwidth ≡ true → BeginsWithRevocation rest
IsFollowed s (Free core) rest = Unit {0}
IsFollowed s (Unban core) rest = Unit {0}
IsFollowed s (Ban core thread started) rest = Unit {0}
IsFollowed s (Revoke core cause) rest = Unit {0}
IsFollowed s (Grant core thread class) rest = Unit {0}

abbrev pub AllFollowed : Setting → List Action → Type 0
AllFollowed s [] = Unit {0}
AllFollowed s (a ∷ rest) = IsFollowed s a rest × AllFollowed s rest

followed_more : (s : Setting) (a : Action) (rest more : List Action) → IsFollowed s a rest → IsFollowed s a (rest ++ more)
followed_more s (Cap task cap) rest more f = λ over. let begins = f over in
    record { core = begins.core; more = begins.more ++ more; begins = ap (λ l. l ++ more) begins.begins }
followed_more s (Free core) rest more f = tt
followed_more s (Unban core) rest more f = tt
followed_more s (Ban core thread started) rest more f = tt
followed_more s (Revoke core cause) rest more f = tt
followed_more s (Grant core thread class) rest more f = tt

then_followed : (s : Setting) (xs ys : List Action) → AllFollowed s xs → AllFollowed s ys → AllFollowed s (xs ++ ys)
then_followed s [] ys f g = g
then_followed s (a ∷ xs) ys f g = (followed_more s a xs ys f.0, then_followed s xs ys f.1 g)

in_turn_followed : (s : Setting) (f : List Action → ℕ → List Action) (before : List Action) (n : ℕ) → ((acts : List Action) (k : ℕ) → AllFollowed s (f acts k)) → AllFollowed s (in_turn f before n)
in_turn_followed s f before zero e = tt
in_turn_followed s f before (suc n) e = then_followed s (in_turn f before n) (f (before ++ in_turn f before n) n) (in_turn_followed s f before n e) (e (before ++ in_turn f before n) n)

if_followed : (s : Setting) (b : Bool) (xs ys : List Action) → (b ≡ true → AllFollowed s xs) → (b ≡ false → AllFollowed s ys) → AllFollowed s (cond b xs ys)
if_followed s true xs ys f g = f refl
if_followed s false xs ys f g = g refl

unban_followed : (s : Setting) (c : ℕ) (o : Option BannedFor) → AllFollowed s (unban_for s c o)
unban_followed s c None = tt
unban_followed s c (Some ban) = if_followed s (still_shows (kept_now s ban.thread) (sibling_of c) ban.started) [] (Unban c ∷ []) (λ e. tt) (λ e. (tt, tt))

ban_followed : (s : Setting) (x : List Action) (c : ℕ) (o : Option ℕ) → AllFollowed s (ban_for s x c o)
ban_followed s x c None = tt
ban_followed s x c (Some thread) = (tt, if_followed s (is_held (holder_of x (sibling_of c))) (Revoke (sibling_of c) (causes.Ban c) ∷ []) [] (λ e. (tt, tt)) (λ e. tt))

cut_at_followed : (s : Setting) (x : List Action) (t : ℕ) (o : Option ℕ) → AllFollowed s (cut_at s x t o)
cut_at_followed s x t None = tt
cut_at_followed s x t (Some core) = (λ over. record { core = core; more = []; begins = refl }, (tt, tt))

cut_followed : (s : Setting) (x : List Action) (o : Option (Candidate ℕ)) → AllFollowed s (cut_of s x o)
cut_followed s x None = tt
cut_followed s x (Some victim) = cut_at_followed s x victim.number (core_to_lose s x victim.number)

rise_followed : (s : Setting) (x : List Action) (o : Option ℕ) → nat_lt s.table.bandwidth_limit s.input.bandwidth ≡ false → AllFollowed s (rise_of s x o)
rise_followed s x None e = tt
rise_followed s x (Some t) e = (λ over. cc, tt)

bandwidth_followed : (s : Setting) (acts : List Action) → AllFollowed s (bandwidth_part s acts)
bandwidth_followed s acts = if_followed s (nat_lt s.table.bandwidth_limit s.input.bandwidth) (cut_of s (so_far s acts) (victim_of s (so_far s acts)))
    (rise_of s (so_far s acts) (lowest_below (is_capped s (so_far s acts)) (length s.table.tasks)))
    (λ e. cut_followed s (so_far s acts) (victim_of s (so_far s acts))) (λ e. rise_followed s (so_far s acts) (lowest_below (is_capped s (so_far s acts)) (length s.table.tasks)) e)

grant_of_followed : (s : Setting) (t : ℕ) (thread : Option (Candidate ℕ)) (core : Option (Candidate CoreClass)) → AllFollowed s (grant_of s t thread core)
grant_of_followed s t None core = tt
grant_of_followed s t (Some thread) None = tt
grant_of_followed s t (Some thread) (Some core) = if_followed s (is_idle core.rank) (Grant core.number (thread_of s.table t thread.number) (class_number core.rank) ∷ []) (Revoke core.number (causes.Preempt t) ∷ [])
    (λ e. (tt, tt)) (λ e. (tt, tt))

grant_followed : (s : Setting) (acts : List Action) (t : ℕ) → AllFollowed s (grant_at s acts t)
grant_followed s acts t = if_followed s (is_congested s t && may_book s (so_far s acts) t) (grant_of s t (thread_choice s (so_far s acts) t) (choice_of s acts t)) []
    (λ e. grant_of_followed s t (thread_choice s (so_far s acts) t) (choice_of s acts t)) (λ e. tt)

pub pass_followed : (s : Setting) → AllFollowed s (pass_of s)
pass_followed s =
    let freed = in_turn_followed s (free_at s) [] s.table.cores (λ acts c. if_followed s (shows_left (kept_now s) (holder_of (so_far s acts) c)) (Free c ∷ []) [] (λ e. (tt, tt)) (λ e. tt)) in
    let unbanned = then_followed s _ _ freed (in_turn_followed s (unban_at s) _ s.table.cores (λ acts c. unban_followed s c (ban_of (so_far s acts) c))) in
    let banned = then_followed s _ _ unbanned (in_turn_followed s (bans_at s) _ s.table.cores (λ acts c. ban_followed s (so_far s acts) c (ban_due s (so_far s acts) c))) in
    let bounded = then_followed s _ _ banned (bandwidth_followed s _) in
    let critical = then_followed s _ _ bounded (in_turn_followed s (grant_of_kind_at kinds.LatencyCritical s) _ (length s.table.tasks)
    (λ acts t. if_followed s (is_latency_critical s.table t) (grant_at s acts t) [] (λ e. grant_followed s acts t) (λ e. tt))) in
    then_followed s _ _ critical (in_turn_followed s (grant_of_kind_at kinds.BestEffort s) _ (length s.table.tasks)
    (λ acts t. if_followed s (is_latency_critical s.table t) [] (grant_at s acts t) (λ e. tt) (λ e. grant_followed s acts t)))

-- after the cut of a cap comes its revocation, by place
pub revocation_next : (s : Setting) (xs : List Action) (i task cap : ℕ) → AllFollowed s xs → nat_lt s.table.bandwidth_limit s.input.bandwidth ≡ true → slice_get xs i ≡ Some (Cap task cap) →
    (core : ℕ) × (slice_get xs (suc i) ≡ Some (Revoke core causes.Bandwidth))
revocation_next s [] i task cap f over e = cc
revocation_next s (a ∷ xs) (suc i) task cap f over e = revocation_next s xs i task cap f.1 over e
revocation_next s (a ∷ xs) zero task cap f over e =
    let same : a ≡ Cap task cap = cc in
    let begins = (let P : Action → Type 0 = λ a. IsFollowed s a xs in subst P same f.0) over in
    (begins.core, ap (λ l. slice_get l 0) begins.begins)
