-- Where the third part of a pass ends: what is made before it, and what comes after.
use Rattle.cal_laws.proofs.Common.{◌≡◌, ℕ, ◌<◌, ◌≤◌, zero, suc, Bool, true, false, cond, ◌&&◌, nat_lt, List, [], ◌∷◌, ◌++◌, length, take, Option, Some, None, refl, sym, ap, ◌∙◌, arith, append_assoc, subst, length-append, slice_get, sibling_of, is_latency_critical, thread_of, Action, Free, Unban, Revoke, Grant, BannedFor, Candidate, CoreClass, class_number, is_idle, in_turn, holder_of, ban_of, is_held, lowest_below, Setting, so_far, kept_now, shows_left, free_at, frees, still_shows, unban_for, unban_at, unbans, ban_due, ban_for, bans_at, bans, victim_of, core_to_lose, cut_at, cut_of, rise_of, is_capped, bandwidth_part, is_congested, may_book, thread_choice, choice_of, grant_of, grant_at, grant_of_kind_at, grants_of_kind, pass_of, Point, IsPoint, setting_at, made_at}
use Rattle.cal_machine.specs.declared.task.Kind.TheVariants as kinds
use Rattle.cal_policy.specs.declared.history.action.Cause.TheVariants as causes
use Rattle.cal_laws.specs.DueBans.{is_up_to_bans, BansAreMade, ComesToBans}
use Rattle.cal_laws.proofs.PointLemmas.PassKeeps.{unbanned_of}

-- each action of a list is of the first three parts, or none is
abbrev AllAre : Bool → List Action → Type 0
AllAre b [] = Unit {0}
AllAre b (a ∷ xs) = (is_up_to_bans a ≡ b) × AllAre b xs

both : (b : Bool) (xs ys : List Action) → AllAre b xs → AllAre b ys → AllAre b (xs ++ ys)
both b [] ys f g = g
both b (a ∷ xs) ys f g = (f.0, both b xs ys f.1 g)

in_turn_are : (b : Bool) (f : List Action → ℕ → List Action) (before : List Action) (n : ℕ) → ((acts : List Action) (k : ℕ) → AllAre b (f acts k)) → AllAre b (in_turn f before n)
in_turn_are b f before zero e = tt
in_turn_are b f before (suc n) e = both b (in_turn f before n) (f (before ++ in_turn f before n) n) (in_turn_are b f before n e) (e (before ++ in_turn f before n) n)

if_are : (b t : Bool) (xs ys : List Action) → AllAre b xs → AllAre b ys → AllAre b (cond t xs ys)
if_are b true xs ys f g = f
if_are b false xs ys f g = g

unban_are : (s : Setting) (c : ℕ) (o : Option BannedFor) → AllAre true (unban_for s c o)
unban_are s c None = tt
unban_are s c (Some ban) = if_are true (still_shows (kept_now s ban.thread) (sibling_of c) ban.started) [] (Unban c ∷ []) tt (refl, tt)

ban_are : (s : Setting) (x : List Action) (c : ℕ) (o : Option ℕ) → AllAre true (ban_for s x c o)
ban_are s x c None = tt
ban_are s x c (Some thread) = (refl, if_are true (is_held (holder_of x (sibling_of c))) (Revoke (sibling_of c) (causes.Ban c) ∷ []) [] (refl, tt) tt)

cut_at_are : (s : Setting) (x : List Action) (t : ℕ) (o : Option ℕ) → AllAre false (cut_at s x t o)
cut_at_are s x t None = tt
cut_at_are s x t (Some core) = (refl, (refl, tt))

cut_are : (s : Setting) (x : List Action) (o : Option (Candidate ℕ)) → AllAre false (cut_of s x o)
cut_are s x None = tt
cut_are s x (Some victim) = cut_at_are s x victim.number (core_to_lose s x victim.number)

rise_are : (s : Setting) (x : List Action) (o : Option ℕ) → AllAre false (rise_of s x o)
rise_are s x None = tt
rise_are s x (Some t) = (refl, tt)

bandwidth_are : (s : Setting) (acts : List Action) → AllAre false (bandwidth_part s acts)
bandwidth_are s acts = if_are false (nat_lt s.table.bandwidth_limit s.input.bandwidth) (cut_of s (so_far s acts) (victim_of s (so_far s acts)))
    (rise_of s (so_far s acts) (lowest_below (is_capped s (so_far s acts)) (length s.table.tasks)))
    (cut_are s (so_far s acts) (victim_of s (so_far s acts))) (rise_are s (so_far s acts) (lowest_below (is_capped s (so_far s acts)) (length s.table.tasks)))

grant_of_are : (s : Setting) (t : ℕ) (thread : Option (Candidate ℕ)) (core : Option (Candidate CoreClass)) → AllAre false (grant_of s t thread core)
grant_of_are s t None core = tt
grant_of_are s t (Some thread) None = tt
grant_of_are s t (Some thread) (Some core) = if_are false (is_idle core.rank) (Grant core.number (thread_of s.table t thread.number) (class_number core.rank) ∷ []) (Revoke core.number (causes.Preempt t) ∷ [])
    (refl, tt) (refl, tt)

grant_are : (s : Setting) (acts : List Action) (t : ℕ) → AllAre false (grant_at s acts t)
grant_are s acts t = if_are false (is_congested s t && may_book s (so_far s acts) t) (grant_of s t (thread_choice s (so_far s acts) t) (choice_of s acts t)) []
    (grant_of_are s t (thread_choice s (so_far s acts) t) (choice_of s acts t)) tt

-- the actions of the first three parts
abbrev pub banned_of : Setting → List Action
banned_of s = unbanned_of s ++ bans s (unbanned_of s)

-- those of the last two
abbrev served_of : Setting → List Action
served_of s = grants_of_kind kinds.LatencyCritical s (banned_of s ++ bandwidth_part s (banned_of s))

abbrev left_of : Setting → List Action
left_of s = grants_of_kind kinds.BestEffort s ((banned_of s ++ bandwidth_part s (banned_of s)) ++ served_of s)

abbrev rest_of : Setting → List Action
rest_of s = (bandwidth_part s (banned_of s) ++ served_of s) ++ left_of s

banned_are : (s : Setting) → AllAre true (banned_of s)
banned_are s =
    let freed = in_turn_are true (free_at s) [] s.table.cores (λ acts c. if_are true (shows_left (kept_now s) (holder_of (so_far s acts) c)) (Free c ∷ []) [] (refl, tt) tt) in
    let unbanned = both true (frees s []) (unbans s (frees s [])) freed (in_turn_are true (unban_at s) (frees s []) s.table.cores (λ acts c. unban_are s c (ban_of (so_far s acts) c))) in
    both true (unbanned_of s) (bans s (unbanned_of s)) unbanned (in_turn_are true (bans_at s) (unbanned_of s) s.table.cores (λ acts c. ban_are s (so_far s acts) c (ban_due s (so_far s acts) c)))

rest_are : (s : Setting) → AllAre false (rest_of s)
rest_are s =
    let critical : AllAre false (served_of s) = in_turn_are false (grant_of_kind_at kinds.LatencyCritical s) (banned_of s ++ bandwidth_part s (banned_of s)) (length s.table.tasks)
    (λ acts t. if_are false (is_latency_critical s.table t) (grant_at s acts t) [] (grant_are s acts t) tt) in
    let best : AllAre false (left_of s) = in_turn_are false (grant_of_kind_at kinds.BestEffort s) ((banned_of s ++ bandwidth_part s (banned_of s)) ++ served_of s) (length s.table.tasks)
    (λ acts t. if_are false (is_latency_critical s.table t) [] (grant_at s acts t) tt (grant_are s acts t)) in
    both false (bandwidth_part s (banned_of s) ++ served_of s) (left_of s) (both false (bandwidth_part s (banned_of s)) (served_of s) (bandwidth_are s (banned_of s)) critical) best

two_parts : (s : Setting) → pass_of s ≡ banned_of s ++ rest_of s
two_parts s =
    ap (λ l. l ++ left_of s) (append_assoc (banned_of s) (bandwidth_part s (banned_of s)) (served_of s))
    ∙ append_assoc (banned_of s) (bandwidth_part s (banned_of s) ++ served_of s) (left_of s)

-- what is made where the first kind ends is all of the first kind
ends_where : (xs ys : List Action) (n : ℕ) → AllAre true xs → AllAre false ys → n ≤ length (xs ++ ys) →
    ((i : ℕ) (a : Action) → i < n → slice_get (xs ++ ys) i ≡ Some a → is_up_to_bans a ≡ true) → ((a : Action) → slice_get (xs ++ ys) n ≡ Some a → is_up_to_bans a ≡ false) →
    take n (xs ++ ys) ≡ xs
ends_where [] ys zero f g le made next = refl
ends_where [] [] (suc n) f g le made next = absurd (omega (arith, le))
ends_where [] (y ∷ ys) (suc n) f g le made next = absurd (let yes : is_up_to_bans y ≡ true = made 0 y (omega arith) refl in let no : is_up_to_bans y ≡ false = g.0 in cc)
ends_where (x ∷ xs) ys zero f g le made next = absurd (let no : is_up_to_bans x ≡ false = next x refl in let yes : is_up_to_bans x ≡ true = f.0 in cc)
ends_where (x ∷ xs) ys (suc n) f g le made next =
    ap (λ l. x ∷ l) (ends_where xs ys n f.1 g (omega (arith, le)) (λ i a lt e. made (suc i) a (omega (arith, lt)) e) next)

first_are : (xs ys : List Action) (i : ℕ) (a : Action) → AllAre true xs → i < length xs → slice_get (xs ++ ys) i ≡ Some a → is_up_to_bans a ≡ true
first_are [] ys i a f lt e = absurd (omega (arith, lt))
first_are (x ∷ xs) ys zero a f lt e = let same : x ≡ a = cc in ap is_up_to_bans (sym same) ∙ f.0
first_are (x ∷ xs) ys (suc i) a f lt e = first_are xs ys i a f.1 (omega (arith, lt)) e

next_is : (xs ys : List Action) (a : Action) → AllAre false ys → slice_get (xs ++ ys) (length xs) ≡ Some a → is_up_to_bans a ≡ false
next_is [] [] a g e = cc
next_is [] (y ∷ ys) a g e = let same : y ≡ a = cc in ap is_up_to_bans (sym same) ∙ g.0
next_is (x ∷ xs) ys a g e = next_is xs ys a g e

-- the pass of a point is these two
parts_at : (here : Point) → IsPoint here → here.entry.actions ≡ banned_of (setting_at here) ++ rest_of (setting_at here)
parts_at here is = (is.legal.passes here.pass here.entry is.entry).actions ∙ two_parts (setting_at here)

-- where the third part ends, the actions of the first three parts are made
pub made_there : (here : Point) → IsPoint here → BansAreMade here → made_at here ≡ banned_of (setting_at here)
made_there here is end =
    let s = setting_at here in
    let e = parts_at here is in
    let G : List Action → Type 0 = λ l. (i : ℕ) (a : Action) → i < here.made → slice_get l i ≡ Some a → is_up_to_bans a ≡ true in
    let N : List Action → Type 0 = λ l. (a : Action) → slice_get l here.made ≡ Some a → is_up_to_bans a ≡ false in
    let L : List Action → Type 0 = λ l. here.made ≤ length l in
    ap (take here.made) e ∙ ends_where (banned_of s) (rest_of s) here.made (banned_are s) (rest_are s) (subst L e is.made) (subst G e end.made) (subst N e end.next)

-- and each pass comes to that
pub comes_to_bans : (here : Point) → IsPoint here → ComesToBans here
comes_to_bans here is =
    let s = setting_at here in
    let e = parts_at here is in
    let n = length (banned_of s) in
    let L : List Action → Type 0 = λ l. n ≤ length l in
    let G : List Action → Type 0 = λ l. (i : ℕ) (a : Action) → i < n → slice_get l i ≡ Some a → is_up_to_bans a ≡ true in
    let N : List Action → Type 0 = λ l. (a : Action) → slice_get l n ≡ Some a → is_up_to_bans a ≡ false in
    let least : n ≤ length (banned_of s ++ rest_of s) = (let sum = length-append (banned_of s) (rest_of s) in omega (arith, sum)) in
    record {
      made = n;
      point = record { table = is.table; legal = is.legal; entry = is.entry; made = subst L (sym e) least };
      bans = record {
        made = subst G (sym e) (λ i a lt f. first_are (banned_of s) (rest_of s) i a (banned_are s) lt f);
        next = subst N (sym e) (λ a f. next_is (banned_of s) (rest_of s) a (rest_are s) f);
      };
    }
