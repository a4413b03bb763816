-- The record for a thread that is gone fits, is kept, and frees the thread's cores.
use Rattle.cal_policy.proofs.Common.{◌≡◌, ◌≢◌, ℕ, ◌+◌, ◌-◌, ◌<◌, ◌≤◌, ◌^◌, ◌==◌, ◌&&◌, nat_lt, nat_le, zero, suc, Bool, true, false, cond, List, [], ◌∷◌, ◌++◌, length, map, take, Option, Some, None, slice_get, refl, sym, ap, subst, ◌∙◌, arith, append_assoc, ⊎_elim, option_map, option_or, unwrap_or, option_and_then, Contains, and_parts, leb-true, le-leb, cases_lt, le-ltb, nat_tests, append-nil, take_all, slice_get-map, Table, Record, Shown, IsShaped, IsFitShown, Action, Free, Unban, Ban, Revoke, Cap, Grant, Holder, Seen, Whole, Busy, Ahead, Foreign, PassEntry, placement_of, last_after, last_of, in_turn, actions_of, looks_of, sent_to, sends, holder_of, last_placement, placement_made, placed, last_shown, shown_at, shown_by, judged, IsFitLook, followed, IsLegal, grants, pass_by, Policy, Caladan, Assured, has_left, shows_left, free_at, frees, unbans, bans, bandwidth_part, grants_of_kind, Setting, setting, so_far, kept_now}
use Rattle.std.proofs.lemmas.List.Elements.{Contains-push, Contains-append_left, Contains-append_right}
use Rattle.cal_signal.specs.declared.look.Look.TheVariants as found
use Rattle.cal_policy.specs.declared.board.holders.Holder.TheVariants as holders
use Rattle.cal_policy.specs.declared.board.holders.Placement as placements
use Rattle.cal_policy.specs.Judgement.Gone.{shown_when_gone, can_be_gone, GoneIsKept, GoneFreesItsCores}
use Rattle.cal_policy.specs.Assured.Hyperthreads as assured
use Rattle.cal_machine.specs.declared.task.Kind.TheVariants as kinds
use Rattle.cal_policy.proofs.HistoryLemmas.OneMore.{kept_push, holder_push, sent_push, sent_grows}
use Rattle.cal_policy.proofs.JudgementLemmas.OneByOne.{only_faults_are_refused}
use Rattle.cal_policy.proofs.PolicyLemmas.{steady_by}

-- what holds of every answer holds of the last one
last_after_all : {X Y : Type 0} (P : Y → Type 0) (f : List X → X → Option Y) (before xs : List X) →
    ((i : ℕ) (x : X) (y : Y) → slice_get xs i ≡ Some x → f (before ++ take i xs) x ≡ Some y → P y) → (y : Y) → last_after f before xs ≡ Some y → P y
last_after_all P f before [] each y e = cc
last_after_all {X = X} {Y = Y} P f before (x ∷ xs) each y e =
    go (λ at. last_after_all P f (before ++ x ∷ []) xs (λ i w v at gives. each (suc i) w v at (ap (λ b. f b w) (sym (append_assoc before (x ∷ []) (take i xs))) ∙ gives)) y at)
    (last_after f (before ++ x ∷ []) xs) refl
  where
    go : (last_after f (before ++ x ∷ []) xs ≡ Some y → P y) → (o : Option Y) → last_after f (before ++ x ∷ []) xs ≡ o → P y
    go later (Some z) is =
        let or_is : option_or (Some z) (f before x) ≡ Some y = sym (ap (λ p. option_or p (f before x)) is) ∙ e in
        later (is ∙ or_is)
    go later None is = each 0 x y refl (ap (λ b. f b x) (append-nil before) ∙ sym (ap (λ p. option_or p (f before x)) is) ∙ e)

pub last_of_all : {X Y : Type 0} (P : Y → Type 0) (f : List X → X → Option Y) (xs : List X) →
    ((i : ℕ) (x : X) (y : Y) → slice_get xs i ≡ Some x → f (take i xs) x ≡ Some y → P y) → (y : Y) → last_of f xs ≡ Some y → P y
last_of_all P f xs each y e = last_after_all P f [] xs each y e

-- what a look that fits carries has the right shape
pub shown_shaped : (last : Shown) (seen : Seen) (shown : Shown) → IsFitLook last seen → shown_by seen ≡ Some shown → IsShaped shown.rec
shown_shaped last (Whole number rec) shown fit e =
    let same : record { number = number; rec = rec } ≡ shown = ap (λ o. unwrap_or o shown) e in
    subst (λ (s : Shown). IsShaped s.rec) same fit.0
shown_shaped last (Busy first second) shown fit e = cc
shown_shaped last (Ahead number rec) shown fit e =
    let same : record { number = number; rec = rec } ≡ shown = ap (λ o. unwrap_or o shown) e in
    subst (λ (s : Shown). IsShaped s.rec) same fit.0
shown_shaped last (Foreign number rec) shown fit e =
    let same : record { number = number; rec = rec } ≡ shown = ap (λ o. unwrap_or o shown) e in
    subst (λ (s : Shown). IsShaped s.rec) same fit.0

map_place : {X Y : Type 0} (f : X → Y) (xs : List X) (i : ℕ) (y : Y) → slice_get (map f xs) i ≡ Some y → (x : X) × (slice_get xs i ≡ Some x) × (f x ≡ y)
map_place {X = X} {Y = Y} f xs i y e = go (slice_get xs i) refl
  where
    go : (o : Option X) → slice_get xs i ≡ o → (x : X) × (slice_get xs i ≡ Some x) × (f x ≡ y)
    go (Some x) is =
        let there : Some (f x) ≡ Some y = sym (slice_get-map f xs i ∙ ap (option_map f) is) ∙ e in
        (x, is, ap (λ o. unwrap_or o y) there)
    go None is = let there : None ≡ Some y = sym (slice_get-map f xs i ∙ ap (option_map f) is) ∙ e in cc

-- what a legal history showed last has the right shape
pub last_is_shaped : (table : Table) (h : List PassEntry) (k : ℕ) → IsLegal table h → IsShaped (last_shown (looks_of h) k).rec
last_is_shaped table h k legal = go (last_of (λ before seen. shown_at seen k) (looks_of h)) refl
  where
    go : (o : Option Shown) → last_of (λ before seen. shown_at seen k) (looks_of h) ≡ o → IsShaped (last_shown (looks_of h) k).rec
    go None is = rw is (omega arith, omega arith)
    go (Some shown) is = rw is (last_of_all (λ (s : Shown). IsShaped s.rec) (λ before seen. shown_at seen k) (looks_of h) each shown is)
      where
        each : (i : ℕ) (seen : List Seen) (s : Shown) → slice_get (looks_of h) i ≡ Some seen → shown_at seen k ≡ Some s → IsShaped s.rec
        each i seen s at e =
            let entry = map_place (λ (entry : PassEntry). entry.input.seen) h i seen at in
            let fits = (legal.passes i entry.0 entry.1).input.looks.fit in
            let e2 : shown_at entry.0.input.seen k ≡ Some s = ap (λ looks. shown_at looks k) entry.2 ∙ e in
            one entry.0 fits (slice_get entry.0.input.seen k) refl e2
          where
            one : (entry : PassEntry) → ((j : ℕ) (look : Seen) → slice_get entry.input.seen j ≡ Some look → IsFitLook (last_shown (looks_of (take i h)) j) look) →
                (o : Option Seen) → slice_get entry.input.seen k ≡ o → shown_at entry.input.seen k ≡ Some s → IsShaped s.rec
            one entry fits (Some look) here e3 =
                shown_shaped (last_shown (looks_of (take i h)) k) look s (fits k look here) (sym (ap (λ o. option_and_then shown_by o) here) ∙ e3)
            one entry fits None here e3 = let none : None ≡ Some s = sym (ap (λ (o : Option Seen). option_and_then shown_by o) here) ∙ e3 in cc

-- the numbers that allow the record
record Numbers (h : List PassEntry) (k : ℕ) : Type 0 where
  pub taken : (last_shown (looks_of h) k).rec.taken ≤ sent_to (actions_of h) k

numbers : (h : List PassEntry) (k : ℕ) → can_be_gone h k ≡ true → Numbers h k
numbers h k e =
    let last = last_shown (looks_of h) k in
    let sent = sent_to (actions_of h) k in
    let outer = and_parts (nat_le last.rec.taken sent && nat_lt sent (2 ^ 64)) (nat_lt last.number (2 ^ 64 - 1)) e in
    let inner = and_parts (nat_le last.rec.taken sent) (nat_lt sent (2 ^ 64)) outer.0 in
    record { taken = leb-true last.rec.taken sent inner.0 }

gone_fits : (table : Table) (h : List PassEntry) (k : ℕ) → IsLegal table h → Numbers h k → IsFitShown (last_shown (looks_of h) k) (shown_when_gone h k)
gone_fits table h k legal n =
    let last = last_shown (looks_of h) k in
    let shape = last_is_shaped table h k legal in (
      (omega arith, shape.1),
      record {
        not_below = omega arith;
        same = λ e. absurd (omega (arith, e));
        later = λ lt. (n.taken, omega arith, omega arith);
      },
    )

pub gone_is_kept : GoneIsKept
gone_is_kept table h k legal can =
    let shown = shown_when_gone h k in
    let n = numbers h k can in
    let is : judged table.cores (actions_of h) k (found.Whole shown.number shown.rec) ≡ Whole shown.number shown.rec = rw (le-ltb (sent_to (actions_of h) k) (sent_to (actions_of h) k) (omega arith)) refl in
    record {
      taken = (only_faults_are_refused table.cores h k (found.Whole shown.number shown.rec)).1 (rw is (gone_fits table h k legal n), rw is refl);
      kept = is;
    }

-- a list parts at each of its places
parts_at : {X : Type 0} (xs : List X) (i : ℕ) (x : X) → slice_get xs i ≡ Some x → (rest : List X) × (xs ≡ take i xs ++ x ∷ rest)
parts_at [] i x e = cc
parts_at (y ∷ ys) zero x e = let same : y ≡ x = ap (λ o. unwrap_or o y) e in (ys, ap (λ z. z ∷ ys) same)
parts_at (y ∷ ys) (suc i) x e = let more = parts_at ys i x e in (more.0, ap (λ zs. y ∷ zs) more.1)

if_some : {Y : Type 0} (b : Bool) (y z : Y) → cond b (Some y) None ≡ Some z → y ≡ z
if_some true y z e = ap (λ o. unwrap_or o y) e
if_some false y z e = cc

-- the number of a grant's Run is at most the number of commands that were sent to its thread
is_sent : (x : List Action) (c i : ℕ) (a : Action) (p : placements.Placement) → slice_get x i ≡ Some a → placement_made c (take i x) a ≡ Some p → p.number ≤ sent_to x p.thread
is_sent x c i (Grant core thread class) p at e =
    let same : placed (take i x) thread ≡ p = if_some (core == c) (placed (take i x) thread) p e in
    let split = parts_at x i (Grant core thread class) at in
    let whole : x ≡ (take i x ++ Grant core thread class ∷ []) ++ split.0 = split.1 ∙ sym (append_assoc (take i x) (Grant core thread class ∷ []) split.0) in
    let self : (thread == thread) ≡ true = grind (arith, nat_tests) in
    let one : length (sends thread (take i x) (Grant core thread class)) ≡ 1 = rw self refl in
    let push = sent_push (take i x) (Grant core thread class) thread in
    let grows = sent_grows (take i x ++ Grant core thread class ∷ []) split.0 thread in
    let sum = ap (λ l. sent_to l thread) whole in
    let all : sent_to (take i x) thread + 1 ≤ sent_to x thread = omega (arith, one, push, grows, sum) in
    subst (λ (q : placements.Placement). q.number ≤ sent_to x q.thread) same all
is_sent x c i (Free core) p at e = cc
is_sent x c i (Unban core) p at e = cc
is_sent x c i (Ban core thread started) p at e = cc
is_sent x c i (Revoke core cause) p at e = cc
is_sent x c i (Cap task cap) p at e = cc

number_is_sent : (x : List Action) (c : ℕ) (p : placements.Placement) → last_placement x c ≡ Some p → p.number ≤ sent_to x p.thread
number_is_sent x c p e = last_of_all (λ (q : placements.Placement). q.number ≤ sent_to x q.thread) (placement_made c) x (λ i a q at is. is_sent x c i a q at is) p e

other_core : (n c : ℕ) → n ≢ c → (n == c) ≡ false
other_core n c ne = grind (arith, nat_tests)

-- freeing other cores changes nothing of this one
freed_other : (s : Setting) (acts : List Action) (n c : ℕ) (b : Bool) → n ≢ c →
    holder_of (so_far s (acts ++ cond b (Free n ∷ []) [])) c ≡ holder_of (so_far s acts) c
freed_other s acts n c false ne = ap (λ l. holder_of (so_far s l) c) (append-nil acts)
freed_other s acts n c true ne =
    ap (λ l. holder_of l c) (sym (append_assoc (actions_of s.history) acts (Free n ∷ []))) ∙ holder_push (so_far s acts) (Free n) c ∙ rw (other_core n c ne) refl

stays : (s : Setting) (c n : ℕ) → n ≤ c → holder_of (so_far s (in_turn (free_at s) [] n)) c ≡ holder_of (so_far s []) c
stays s c zero le = refl
stays s c (suc n) le =
    let now = in_turn (free_at s) [] n in
    let ne : n ≢ c = λ e. absurd (omega (arith, e, le)) in
    freed_other s now n c (shows_left (kept_now s) (holder_of (so_far s now) n)) ne ∙ stays s c n (omega (arith, le))

freed : (s : Setting) (c n : ℕ) → c < n → shows_left (kept_now s) (holder_of (so_far s []) c) ≡ true → Contains (in_turn (free_at s) [] n) (Free c)
freed s c zero lt left = absurd (omega (arith, lt))
freed s c (suc n) lt left = ⊎_elim
    (λ below. Contains-append_left (in_turn (free_at s) [] n) (free_at s (in_turn (free_at s) [] n) n) (Free c) (freed s c n below left))
    (λ at.
    let same : n ≡ c = omega (arith, at, lt) in
    let now = in_turn (free_at s) [] n in
    let le : n ≤ c = omega (arith, same) in
    let here : shows_left (kept_now s) (holder_of (so_far s now) n) ≡ true =
    ap (λ m. shows_left (kept_now s) (holder_of (so_far s now) m)) same ∙ ap (shows_left (kept_now s)) (stays s c n le) ∙ left in
    let due : free_at s now n ≡ Free n ∷ [] = rw here refl in
    let it : Contains (free_at s now n) (Free c) = rw (due, same) (Contains-push [] (Free c)) in
    Contains-append_right now (free_at s now n) (Free c) it)
    (cases_lt c n)

-- what the first part of a pass has, the pass has
frees_in_pass : (policy : Policy) (s : Setting) (a : Action) → Contains (frees s []) a → Contains (pass_by policy s) a
frees_in_pass Caladan s a is =
    let freed = followed [] (frees s) in
    let unbanned = followed freed (unbans s) in
    let banned = followed unbanned (bans s) in
    let bounded = followed banned (bandwidth_part s) in
    let granted = followed bounded (grants_of_kind kinds.LatencyCritical s) in
    Contains-append_left granted (grants_of_kind kinds.BestEffort s granted) a
    (Contains-append_left bounded (grants_of_kind kinds.LatencyCritical s bounded) a
    (Contains-append_left banned (bandwidth_part s banned) a
    (Contains-append_left unbanned (bans s unbanned) a
    (Contains-append_left freed (unbans s freed) a is))))
frees_in_pass Assured s a is =
    let freed = followed [] (frees s) in
    let unbanned = followed freed (assured.unbans s) in
    let banned = followed unbanned (assured.bans s) in
    let bounded = followed banned (bandwidth_part s) in
    Contains-append_left bounded (grants s bounded) a
    (Contains-append_left banned (bandwidth_part s banned) a
    (Contains-append_left unbanned (assured.bans s unbanned) a
    (Contains-append_left freed (assured.unbans s freed) a is)))

left_by_gone : (rec : ℕ → Record) (h : Holder) (p : placements.Placement) → placement_of h ≡ Some p → nat_le p.number (rec p.thread).taken ≡ true → (rec p.thread).running ≡ 0 →
    shows_left rec h ≡ true
left_by_gone rec holders.Free p e low off = cc
left_by_gone rec (holders.Held q) p e low off =
    let same : p ≡ q = sym (ap (λ o. unwrap_or o p) e) in
    let holds : (r : placements.Placement) → p ≡ r → has_left (rec r.thread) r.number ≡ true = λ r is. subst (λ (t : placements.Placement). has_left (rec t.thread) t.number ≡ true) is (rw (low, off) refl) in
    holds q same
left_by_gone rec (holders.Leaving q cause) p e low off =
    let same : p ≡ q = sym (ap (λ o. unwrap_or o p) e) in
    let holds : (r : placements.Placement) → p ≡ r → has_left (rec r.thread) r.number ≡ true = λ r is. subst (λ (t : placements.Placement). has_left (rec t.thread) t.number ≡ true) is (rw (low, off) refl) in
    holds q same

pub gone_frees_its_cores : GoneFreesItsCores
gone_frees_its_cores policy table h k input accepted legal seen c p lt there own =
    let s = setting table h input in
    let x = actions_of h in
    let shown = shown_when_gone h k in
    let kept : kept_now s k ≡ shown.rec = kept_push (looks_of h) input.seen k ∙ rw seen refl in
    let kept_own : kept_now s p.thread ≡ shown.rec = ap (kept_now s) own ∙ kept in
    let steady = steady_by policy table h accepted legal (length h) (omega arith) in
    let all : take (length h) h ≡ h = take_all (length h) h (omega arith) in
    let grant : last_placement x c ≡ Some p =
    subst (λ (g : List PassEntry). placement_of (holder_of (actions_of g) c) ≡ Some p → last_placement (actions_of g) c ≡ Some p) all (steady.granted c p) there in
    let number : p.number ≤ sent_to x p.thread = number_is_sent x c p grant in
    let number_own : p.number ≤ sent_to x k = subst (λ j. p.number ≤ sent_to x j) own number in
    let taken : (kept_now s p.thread).taken ≡ sent_to x k = ap (λ (r : Record). r.taken) kept_own in
    let low : nat_le p.number (kept_now s p.thread).taken ≡ true = rw taken (le-leb p.number (sent_to x k) number_own) in
    let off : (kept_now s p.thread).running ≡ 0 = ap (λ (r : Record). r.running) kept_own in
    let now : holder_of (so_far s []) c ≡ holder_of x c = ap (λ l. holder_of l c) (append-nil x) in
    let left : shows_left (kept_now s) (holder_of (so_far s []) c) ≡ true = ap (shows_left (kept_now s)) now ∙ left_by_gone (kept_now s) (holder_of x c) p there low off in
    frees_in_pass policy s (Free c) (freed s c table.cores lt left)
