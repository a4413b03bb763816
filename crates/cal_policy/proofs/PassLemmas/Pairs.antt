-- A part that goes over the cores pair by pair, and bans of cores beside each other.
use Rattle.cal_policy.proofs.Common.{◌≡◌, ℕ, ◌+◌, ◌*◌, ◌/◌, subst, cases_lt, suc, zero, Bool, true, false, cond, List, [], ◌∷◌, ◌++◌, Option, Some, None, refl, ap, sym, ◌∙◌, arith, append_assoc, eqb, ◌⊎◌, inl, inr, ⊎_elim, is_some, append-nil, and-false, and-true, not, ◌&&◌, nat_tests, Record, sibling_of, Action, Unban, Ban, Revoke, Cause, BannedFor, in_turn, in_pair, holder_of, ban_of, is_banned, is_held, Setting, so_far, kept_now, NoPairBanned, still_shows, ban_for, ban_due, unwrap_if, Policy, Caladan, Assured, give_way, unban_for_by, unban_at_by, stays_open, ban_due_by, bans_at_by}
use Rattle.cal_policy.specs.declared.history.action.Cause.TheVariants as causes
use Rattle.cal_policy.proofs.HistoryLemmas.OneMore.{ban_push}
use Rattle.cal_policy.proofs.PassLemmas.PartSoFar.{in_turn_more}

-- two by two is one by one
pub in_turn_pairs : {X : Type 0} (f : List X → ℕ → List X) (before : List X) (n : ℕ) →
    in_turn (in_pair f) before n ≡ in_turn f before (2 * n)
in_turn_pairs f before zero = refl
in_turn_pairs f before (suc n) =
    let even = 2 * n in
    let e : 2 * suc n ≡ 2 * n + 1 + 1 = omega arith in
    ap (λ l. l ++ in_pair f (before ++ l) n) (in_turn_pairs f before n)
    ∙ rw (e, in_turn_more f before (2 * n + 1), in_turn_more f before (2 * n), append_assoc (in_turn f before (2 * n)), append_assoc before) refl

-- the cores of a pair are each other's siblings
pub beside_lower : (n : ℕ) → sibling_of (2 * n) ≡ 2 * n + 1
beside_lower n = grind (arith, nat_tests)

pub beside_upper : (n : ℕ) → sibling_of (2 * n + 1) ≡ 2 * n
beside_upper n = grind (arith, nat_tests)

-- no ban is none
pub none_if_unbanned : (o : Option BannedFor) → is_some o ≡ false → o ≡ None
none_if_unbanned None e = refl
none_if_unbanned (Some ban) e = cc

pub so_far_more : (s : Setting) (acts more : List Action) → so_far s (acts ++ more) ≡ so_far s acts ++ more
so_far_more s acts more = sym (append_assoc _ acts more)

-- the end of a ban, or nothing, leaves each other ban as it was
pub after_end : (x : List Action) (c d : ℕ) (b : Bool) → (ban_of (x ++ cond b [] (Unban c ∷ [])) d ≡ None) ⊎ (ban_of (x ++ cond b [] (Unban c ∷ [])) d ≡ ban_of x d)
after_end x c d true = inr (ap (λ y. ban_of y d) (append-nil x))
after_end x c d false =
    let e = ban_push x (Unban c) d ∙ unwrap_if (eqb c d) None (ban_of x d) in
    elim (eqb c d) as (λ b. (ban_of (x ++ Unban c ∷ []) d ≡ cond b None (ban_of x d)) → (ban_of (x ++ Unban c ∷ []) d ≡ None) ⊎ (ban_of (x ++ Unban c ∷ []) d ≡ ban_of x d)) [ true ↦ λ h. inl h | false ↦ λ h. inr h ] e

-- where no ban stands none ends; one ends unless its thread still shows what it was for and it does not give way
pub none_ends : (p : Policy) (s : Setting) (x : List Action) (c : ℕ) → unban_for_by p s x c None ≡ []
none_ends Caladan s x c = refl
none_ends Assured s x c = refl

pub one_ends : (p : Policy) (s : Setting) (x : List Action) (c : ℕ) (ban : BannedFor) →
    unban_for_by p s x c (Some ban) ≡ cond (still_shows (kept_now s ban.thread) (sibling_of c) ban.started && not (give_way p s x)) [] (Unban c ∷ [])
one_ends Caladan s x c ban = ap (λ b. cond b [] (Unban c ∷ [])) (sym (and-true (still_shows (kept_now s ban.thread) (sibling_of c) ban.started)))
one_ends Assured s x c ban = refl

-- a ban that gives way ends
pub ends_giving : (p : Policy) (s : Setting) (x : List Action) (c : ℕ) (ban : BannedFor) (o : Option BannedFor) → o ≡ Some ban → give_way p s x ≡ true → Unban c ∷ [] ≡ unban_for_by p s x c o
ends_giving p s x c ban o e gives =
    let shows : Bool = still_shows (kept_now s ban.thread) (sibling_of c) ban.started in
    sym (ap (unban_for_by p s x c) e ∙ one_ends p s x c ban
    ∙ ap (λ g. cond (shows && not g) [] (Unban c ∷ [])) gives
    ∙ ap (λ b. cond b [] (Unban c ∷ [])) (and-false shows))

-- what one Unban changes: the ban of its core ends
unban_some : (b : Bool) (o : Option BannedFor) → is_some (cond b None o) ≡ cond b false (is_some o)
unban_some true o = refl
unban_some false o = refl

pub unbanned_at : (x : List Action) (core c : ℕ) → is_banned (x ++ Unban core ∷ []) c ≡ cond (eqb core c) false (is_banned x c)
unbanned_at x core c = ap is_some (ban_push x (Unban core) c ∙ unwrap_if (eqb core c) None (ban_of x c)) ∙ unban_some (eqb core c) (ban_of x c)

after_unban_for : (p : Policy) (s : Setting) (x : List Action) (c d : ℕ) (o : Option BannedFor) → (ban_of (x ++ unban_for_by p s x c o) d ≡ None) ⊎ (ban_of (x ++ unban_for_by p s x c o) d ≡ ban_of x d)
after_unban_for p s x c d None = inr (ap (λ l. ban_of (x ++ l) d) (none_ends p s x c) ∙ ap (λ y. ban_of y d) (append-nil x))
after_unban_for p s x c d (Some ban) = rw (one_ends p s x c ban) (after_end x c d (still_shows (kept_now s ban.thread) (sibling_of c) ban.started && not (give_way p s x)))

-- what ends a ban leaves each ban as it was, or ends it
pub after_unban : (p : Policy) (s : Setting) (acts : List Action) (c d : ℕ) →
    (ban_of (so_far s (acts ++ unban_at_by p s acts c)) d ≡ None) ⊎ (ban_of (so_far s (acts ++ unban_at_by p s acts c)) d ≡ ban_of (so_far s acts) d)
after_unban p s acts c d = rw so_far_more (after_unban_for p s (so_far s acts) c d (ban_of (so_far s acts) c))

still_none : (p : Policy) (s : Setting) (acts : List Action) (c d : ℕ) → ban_of (so_far s acts) d ≡ None → ban_of (so_far s (acts ++ unban_at_by p s acts c)) d ≡ None
still_none p s acts c d e = ⊎_elim (λ h. h) (λ h. h ∙ e) (after_unban p s acts c d)

-- no pair is banned after the end of a ban
unban_keeps : (p : Policy) (s : Setting) (acts : List Action) (c : ℕ) → NoPairBanned (so_far s acts) → NoPairBanned (so_far s (acts ++ unban_at_by p s acts c))
unban_keeps p s acts c h = record {
  apart = λ d e. ⊎_elim
      (λ none. let e2 : is_some (ban_of (so_far s (acts ++ unban_at_by p s acts c)) d) ≡ false = ap is_some none in cc)
      (λ same. ap is_some (still_none p s acts c (sibling_of d) (none_if_unbanned _ (h.apart d (sym (ap is_some same) ∙ e)))))
      (after_unban p s acts c d);
}

pub unban_pair_keeps : (p : Policy) (s : Setting) (acts : List Action) (n : ℕ) → NoPairBanned (so_far s acts) → NoPairBanned (so_far s (acts ++ in_pair (unban_at_by p s) acts n))
unban_pair_keeps p s acts n h =
    let one = acts ++ unban_at_by p s acts (2 * n) in
    rw (← append_assoc acts (unban_at_by p s acts (2 * n)) (unban_at_by p s one (2 * n + 1)))
    (unban_keeps p s one (2 * n + 1) (unban_keeps p s acts (2 * n) h))

unban_for_banned : (p : Policy) (s : Setting) (x : List Action) (c : ℕ) (o : Option BannedFor) (a : Action) → a ∷ [] ≡ unban_for_by p s x c o → is_some o ≡ true
unban_for_banned p s x c None a e = let none = e ∙ none_ends p s x c in cc
unban_for_banned p s x c (Some ban) a e = refl

none_to_end : (p : Policy) (s : Setting) (acts : List Action) (c : ℕ) → ban_of (so_far s acts) c ≡ None → unban_at_by p s acts c ≡ []
none_to_end p s acts c e = ap (unban_for_by p s (so_far s acts) c) e ∙ none_ends p s (so_far s acts) c

-- where the lower core's ban ends, the upper core has none to end
pub unban_lower : (p : Policy) (s : Setting) (acts : List Action) (n : ℕ) (a : Action) → NoPairBanned (so_far s acts) →
    a ∷ [] ≡ unban_at_by p s acts (2 * n) → a ∷ [] ≡ in_pair (unban_at_by p s) acts n
unban_lower p s acts n a h e =
    let lone : ban_of (so_far s acts) (2 * n + 1) ≡ None = none_if_unbanned _ (ap (is_banned (so_far s acts)) (sym (beside_lower n)) ∙ h.apart (2 * n) (unban_for_banned p s (so_far s acts) (2 * n) _ a e)) in
    let none = none_to_end p s (acts ++ unban_at_by p s acts (2 * n)) (2 * n + 1) (still_none p s acts (2 * n) (2 * n + 1) lone) in
    e ∙ sym (append-nil (unban_at_by p s acts (2 * n))) ∙ ap (λ l. unban_at_by p s acts (2 * n) ++ l) (sym none)

-- where the lower core's does not, the upper core's is judged as it was
pub pair_upper : {X : Type 0} (f : List X → ℕ → List X) (acts : List X) (n : ℕ) → [] ≡ f acts (2 * n) → f acts (2 * n + 1) ≡ in_pair f acts n
pair_upper f acts n e =
    ap (λ l. f l (2 * n + 1)) (sym (append-nil acts)) ∙ ap (λ l. l ++ f (acts ++ l) (2 * n + 1)) e

-- of a pair whose one core is banned only that one's ban may end
alone_lower : (p : Policy) (s : Setting) (acts : List Action) (n : ℕ) → NoPairBanned (so_far s acts) → is_banned (so_far s acts) (2 * n) ≡ true →
    unban_at_by p s acts (2 * n) ≡ in_pair (unban_at_by p s) acts n
alone_lower p s acts n h banned =
    let lone : ban_of (so_far s acts) (2 * n + 1) ≡ None = none_if_unbanned _ (ap (is_banned (so_far s acts)) (sym (beside_lower n)) ∙ h.apart (2 * n) banned) in
    let none = none_to_end p s (acts ++ unban_at_by p s acts (2 * n)) (2 * n + 1) (still_none p s acts (2 * n) (2 * n + 1) lone) in
    sym (append-nil (unban_at_by p s acts (2 * n))) ∙ ap (λ l. unban_at_by p s acts (2 * n) ++ l) (sym none)

alone_upper : (p : Policy) (s : Setting) (acts : List Action) (n : ℕ) → NoPairBanned (so_far s acts) → is_banned (so_far s acts) (2 * n + 1) ≡ true →
    unban_at_by p s acts (2 * n + 1) ≡ in_pair (unban_at_by p s) acts n
alone_upper p s acts n h banned =
    let lone : ban_of (so_far s acts) (2 * n) ≡ None = none_if_unbanned _ (ap (is_banned (so_far s acts)) (sym (beside_upper n)) ∙ h.apart (2 * n + 1) banned) in
    pair_upper (unban_at_by p s) acts n (sym (none_to_end p s acts (2 * n) lone))

pub unban_alone : (p : Policy) (s : Setting) (acts : List Action) (core : ℕ) → NoPairBanned (so_far s acts) → is_banned (so_far s acts) core ≡ true →
    unban_at_by p s acts core ≡ in_pair (unban_at_by p s) acts (core / 2)
unban_alone p s acts core h banned =
    let n = core / 2 in
    let Alone : ℕ → Type 0 = λ c. is_banned (so_far s acts) c ≡ true → unban_at_by p s acts c ≡ in_pair (unban_at_by p s) acts n in
    ⊎_elim
    (λ low. let same : 2 * n ≡ core = omega (arith, low) in subst Alone same (alone_lower p s acts n h) banned)
    (λ high. let same : 2 * n + 1 ≡ core = omega (arith, high) in subst Alone same (alone_upper p s acts n h) banned)
    (cases_lt core (2 * n + 1))

-- a ban, and perhaps a revocation, leaves the banned core banned
after_revocation : (x : List Action) (d : ℕ) (b : Bool) (cause : Cause) → ban_of (x ++ cond b (Revoke d cause ∷ []) []) d ≡ ban_of x d
after_revocation x d true cause = ban_push x (Revoke d cause) d
after_revocation x d false cause = ap (λ y. ban_of y d) (append-nil x)

pub after_ban : (x : List Action) (d thread started : ℕ) (b : Bool) (cause : Cause) →
    is_banned (x ++ Ban d thread started ∷ cond b (Revoke d cause ∷ []) []) d ≡ true
after_ban x d thread started b cause =
    let made : Option BannedFor = Some (record { thread = thread; started = started }) in
    let e = ban_push x (Ban d thread started) d ∙ unwrap_if (eqb d d) made (ban_of x d) in
    let same : eqb d d ≡ true = grind (arith, nat_tests) in
    let said : ban_of (x ++ Ban d thread started ∷ []) d ≡ made = rw same at e in
    rw (← append_assoc x (Ban d thread started ∷ []) (cond b (Revoke d cause ∷ []) []))
    (ap is_some (after_revocation (x ++ Ban d thread started ∷ []) d b cause ∙ said))

after_ban_for : (s : Setting) (x : List Action) (c : ℕ) (due : Option ℕ) (a : Action) (rest : List Action) → a ∷ rest ≡ ban_for s x c due →
    is_banned (x ++ ban_for s x c due) (sibling_of c) ≡ true
after_ban_for s x c None a rest e = cc
after_ban_for s x c (Some thread) a rest e = after_ban x (sibling_of c) thread (kept_now s thread).started (is_held (holder_of x (sibling_of c))) (causes.Ban c)

unless_none : {X : Type 0} (b : Bool) (o : Option X) → o ≡ None → cond b None o ≡ None
unless_none true o e = refl
unless_none false o e = e

-- where Caladan's policy has no ban due no policy bans
pub none_due : (p : Policy) (s : Setting) (acts : List Action) (c : ℕ) → ban_due s (so_far s acts) c ≡ None → bans_at_by p s acts c ≡ []
none_due p s acts c e = ap (ban_for s (so_far s acts) c) (unless_none (stays_open p s (so_far s acts) c) _ e)

-- a core that is banned bans nothing
banned_bans_nothing : (p : Policy) (s : Setting) (acts : List Action) (c : ℕ) → is_banned (so_far s acts) c ≡ true → bans_at_by p s acts c ≡ []
banned_bans_nothing p s acts c e = none_due p s acts c (rw e refl)

-- where the lower core of a pair gives a ban, the upper core gives none
pub ban_lower : (p : Policy) (s : Setting) (acts : List Action) (n : ℕ) (a : Action) (rest : List Action) →
    a ∷ rest ≡ bans_at_by p s acts (2 * n) → a ∷ rest ≡ in_pair (bans_at_by p s) acts n
ban_lower p s acts n a rest e =
    let banned : is_banned (so_far s (acts ++ bans_at_by p s acts (2 * n))) (2 * n + 1) ≡ true =
    ap (λ x. is_banned x (2 * n + 1)) (so_far_more s acts (bans_at_by p s acts (2 * n)))
    ∙ ap (is_banned (so_far s acts ++ bans_at_by p s acts (2 * n))) (sym (beside_lower n))
    ∙ after_ban_for s (so_far s acts) (2 * n) (ban_due_by p s (so_far s acts) (2 * n)) a rest e in
    e ∙ sym (append-nil (bans_at_by p s acts (2 * n))) ∙ ap (λ l. bans_at_by p s acts (2 * n) ++ l) (sym (banned_bans_nothing p s (acts ++ bans_at_by p s acts (2 * n)) (2 * n + 1) banned))

-- a ban by what the board says, where this is due
pub ban_parts : (s : Setting) (x : List Action) (c thread beside : ℕ) (rec : Record) (l : List Action) (due : Option ℕ) →
    beside ≡ sibling_of c → rec ≡ kept_now s thread → l ≡ cond (is_held (holder_of x beside)) (Revoke beside (causes.Ban c) ∷ []) [] →
    Some thread ≡ due → Ban beside thread rec.started ∷ l ≡ ban_for s x c due
ban_parts s x c thread beside rec l due e1 e2 e3 e4 =
    ap (λ m. Ban beside thread rec.started ∷ m) e3
    ∙ ap (λ (r : Record). Ban beside thread r.started ∷ cond (is_held (holder_of x beside)) (Revoke beside (causes.Ban c) ∷ []) []) e2
    ∙ ap (λ b. Ban b thread (kept_now s thread).started ∷ cond (is_held (holder_of x b)) (Revoke b (causes.Ban c) ∷ []) []) e1
    ∙ ap (ban_for s x c) e4
