-- After the third part of a pass no ban is due.
use Rattle.cal_laws.proofs.Common.{◌≡◌, ◌≢◌, ℕ, ◌+◌, ◌-◌, ◌<◌, ◌≤◌, zero, suc, Bool, true, false, not, ◌&&◌, cond, eqb, ltb, List, [], ◌∷◌, ◌++◌, Option, Some, None, refl, sym, ap, ◌∙◌, arith, append_assoc, subst, ⊎_elim, unwrap_or, is_some, eqb-true, eq-eqb, and_from, both_ways, cases_lt, nat_tests, append-nil, Record, sibling_of, owner_of, request_of, is_latency_critical, unwrap_if, Action, Ban, Revoke, Cause, BannedFor, Holder, in_turn, holder_of, left_by, last_placement, ban_of, is_banned, is_held, is_over, held_by, Setting, so_far, kept_now, has_room, runs_too_long, may_be_emptied, too_long_on, may_ban_beside, ban_due, ban_for, bans_at, ActionIsOneMore, so_far_push, Point, IsPoint, setting_at, actions_at, MayBeEmpty, RunsTooLong, IsDue, BannedAreEmptiedAtOnce}
use Rattle.cal_policy.specs.declared.history.action.Cause.TheVariants as causes
use Rattle.cal_policy.specs.declared.board.holders.Placement as placements
use Rattle.cal_policy.specs.declared.board.holders.Holder.TheVariants as holders
use Rattle.cal_policy.proofs.PassLemmas.Pairs.{so_far_more, after_ban}
use Rattle.cal_laws.specs.DueBans.{BansAreMade, NoBanIsLeftDue}
use Rattle.cal_laws.proofs.CapLemmas.Held.{held_revoked}
use Rattle.cal_laws.proofs.ExclusionLemmas.SameHolders.{held_same}
use Rattle.cal_laws.proofs.BanLemmas.BansMade.{made_there}
use Rattle.cal_laws.proofs.PointLemmas.PassKeeps.{unbanned_of}

-- a ban that is due is found due
shows_long : (now : ℕ) (rec : Record) (c limit : ℕ) → rec.running ≡ c + 1 → rec.started ≢ 0 → rec.started < now → limit < now - rec.started → runs_too_long now rec c limit ≡ true
shows_long now rec c limit shown at_work begun too_long =
    let on : eqb rec.running (c + 1) ≡ true = eq-eqb _ _ shown in
    let work : eqb rec.started 0 ≡ false = grind (arith, nat_tests) in
    let past : ltb rec.started now ≡ true = grind (arith, nat_tests) in
    let long : ltb limit (now - rec.started) ≡ true = grind (arith, nat_tests) in
    and_from (eqb rec.running (c + 1) && not (eqb rec.started 0) && ltb rec.started now) (ltb limit (now - rec.started))
    (and_from (eqb rec.running (c + 1) && not (eqb rec.started 0)) (ltb rec.started now) (and_from (eqb rec.running (c + 1)) (not (eqb rec.started 0)) on (ap not work)) past) long

held_long : (s : Setting) (c : ℕ) (p : placements.Placement) (thread : ℕ) → p.thread ≡ thread → is_latency_critical s.table (owner_of s.table thread) ≡ true →
    runs_too_long s.input.now (kept_now s thread) c (request_of s.table (owner_of s.table thread)) ≡ true → too_long_on s c (holders.Held p) ≡ Some thread
held_long s c p thread runs critical long =
    let test : ℕ → Bool = λ k. is_latency_critical s.table (owner_of s.table k) && runs_too_long s.input.now (kept_now s k) c (request_of s.table (owner_of s.table k)) in
    let yes : test thread ≡ true = and_from (is_latency_critical s.table (owner_of s.table thread)) _ critical long in
    ap (λ k. cond (test k) (Some k) None) runs ∙ ap (λ b. cond b (Some thread) None) yes

emptied : (s : Setting) (x : List Action) (h : Holder) → MayBeEmpty s x h → may_be_emptied s x h ≡ true
emptied s x holders.Free m = refl
emptied s x (holders.Leaving p cause) m = refl
emptied s x (holders.Held p) m =
    let lt = m.over in
    let over : is_over s.table x (owner_of s.table p.thread) ≡ true = grind (arith, nat_tests) in
    and_from (has_room s p.thread) (is_over s.table x (owner_of s.table p.thread)) m.room over

found_due : (s : Setting) (x : List Action) (c thread : ℕ) → IsDue s x c thread → ban_due s x c ≡ Some thread
found_due s x c thread h =
    let r = h.request in
    let long = shows_long s.input.now (kept_now s thread) c (request_of s.table (owner_of s.table thread)) r.shown r.at_work r.begun r.too_long in
    let beside : may_ban_beside s x c ≡ true =
    and_from (not (is_banned x c) && not (is_banned x (sibling_of c))) (may_be_emptied s x (holder_of x (sibling_of c)))
    (and_from (not (is_banned x c)) (not (is_banned x (sibling_of c))) (ap not h.not_banned) (ap not h.beside_not_banned)) (emptied s x (holder_of x (sibling_of c)) h.may_be_empty) in
    ap (λ b. cond b (too_long_on s c (holder_of x c)) None) beside ∙ ap (too_long_on s c) r.held ∙ held_long s c r.placement thread r.runs r.critical long

-- a ban that is due was due before, where neither core of the pair has changed and no task held less
less_over : (s : Setting) (x y : List Action) → ((t : ℕ) → held_by s.table y t ≤ held_by s.table x t) → (h : Holder) → MayBeEmpty s y h → MayBeEmpty s x h
less_over s x y le holders.Free m = tt
less_over s x y le (holders.Leaving p cause) m = tt
less_over s x y le (holders.Held p) m = record { room = m.room; over = (let lt = m.over in omega (arith, lt, le (owner_of s.table p.thread))) }

still_due : (s : Setting) (x y : List Action) (c thread : ℕ) → holder_of y c ≡ holder_of x c → holder_of y (sibling_of c) ≡ holder_of x (sibling_of c) →
    is_banned x c ≡ false → is_banned x (sibling_of c) ≡ false → ((t : ℕ) → held_by s.table y t ≤ held_by s.table x t) → IsDue s y c thread → IsDue s x c thread
still_due s x y c thread own beside none none_beside le h =
    let r = h.request in
    let M : Holder → Type 0 = λ (o : Holder). MayBeEmpty s x o in record {
      request = record {
        own = r.own;
        placement = r.placement;
        held = sym own ∙ r.held;
        runs = r.runs;
        critical = r.critical;
        shown = r.shown;
        at_work = r.at_work;
        begun = r.begun;
        too_long = r.too_long;
      };
      not_banned = none;
      beside_not_banned = none_beside;
      may_be_empty = subst M beside (less_over s x y le (holder_of y (sibling_of c)) h.may_be_empty);
    }

-- a ban makes no other due
unbanned_by : (b : Bool) (ban : BannedFor) (o : Option BannedFor) → is_some (unwrap_or (cond b (Some (Some ban)) None) o) ≡ false → is_some o ≡ false
unbanned_by true ban o e = cc
unbanned_by false ban o e = e

unbanned_before : ActionIsOneMore → (x : List Action) (d thread started c : ℕ) → is_banned (x ++ Ban d thread started ∷ []) c ≡ false → is_banned x c ≡ false
unbanned_before more x d thread started c e =
    unbanned_by (eqb d c) (record { thread = thread; started = started }) (ban_of x c) (sym (ap is_some ((more x (Ban d thread started)).ban c)) ∙ e)

due_before_ban : ActionIsOneMore → (s : Setting) (x : List Action) (d by started c thread : ℕ) → IsDue s (x ++ Ban d by started ∷ []) c thread → IsDue s x c thread
due_before_ban more s x d by started c thread h =
    let y = x ++ Ban d by started ∷ [] in
    let same : (k : ℕ) → holder_of y k ≡ holder_of x k = (more x (Ban d by started)).holder in
    still_due s x y c thread (same c) (same (sibling_of c)) (unbanned_before more x d by started c h.not_banned)
    (unbanned_before more x d by started (sibling_of c) h.beside_not_banned) (λ t. let e = held_same s.table x y same t in omega (arith, e)) h

-- nor does the revocation of a banned core
other : (x : List Action) (d c : ℕ) → is_banned x d ≡ true → is_banned x c ≡ false → (b : Bool) → eqb d c ≡ b → b ≡ false
other x d c banned none true e = absurd (both_ways (is_banned x d) (ap (is_banned x) (eqb-true d c e) ∙ none) banned)
other x d c banned none false e = refl

due_before_revocation : ActionIsOneMore → (s : Setting) (x : List Action) (d : ℕ) (cause : Cause) (c thread : ℕ) → is_banned x d ≡ true → IsDue s (x ++ Revoke d cause ∷ []) c thread → IsDue s x c thread
due_before_revocation more s x d cause c thread banned h =
    let y = x ++ Revoke d cause ∷ [] in
    let was : (k : ℕ) → is_banned y k ≡ false → is_banned x k ≡ false = λ k e. sym (ap is_some ((more x (Revoke d cause)).ban k)) ∙ e in
    let same : (k : ℕ) → is_banned x k ≡ false → holder_of y k ≡ holder_of x k = λ k none.
    (more x (Revoke d cause)).holder k ∙ unwrap_if (eqb d k) (left_by (last_placement x d) cause) (holder_of x k)
    ∙ ap (λ (b : Bool). cond b (left_by (last_placement x d) cause) (holder_of x k)) (other x d k banned none (eqb d k) refl) in
    let own = was c h.not_banned in
    let beside = was (sibling_of c) h.beside_not_banned in
    still_due s x y c thread (same c own) (same (sibling_of c) beside) own beside (λ t. held_revoked more s.table x d cause t) h

-- no ban is due of the cores below n
record NoneDue (s : Setting) (acts : List Action) (n : ℕ) : Type 0 where
  none : (c thread : ℕ) → c < n → IsDue s (so_far s acts) c thread → ⊥

due_before_both : ActionIsOneMore → (s : Setting) (acts : List Action) (d by started : ℕ) (cause : Cause) (b : Bool) (c thread : ℕ) →
    IsDue s (so_far s (acts ++ Ban d by started ∷ cond b (Revoke d cause ∷ []) [])) c thread → IsDue s (so_far s acts) c thread
due_before_both more s acts d by started cause false c thread h =
    let X : List Action → Type 0 = λ x. IsDue s x c thread in
    due_before_ban more s (so_far s acts) d by started c thread (subst X (so_far_push s acts (Ban d by started)) h)
due_before_both more s acts d by started cause true c thread h =
    let ban = Ban d by started in
    let one = acts ++ ban ∷ [] in
    let x = so_far s acts in
    let X : List Action → Type 0 = λ x. IsDue s x c thread in
    let e : so_far s (acts ++ ban ∷ Revoke d cause ∷ []) ≡ (x ++ ban ∷ []) ++ Revoke d cause ∷ [] =
    ap (so_far s) (sym (append_assoc acts (ban ∷ []) (Revoke d cause ∷ []))) ∙ so_far_push s one (Revoke d cause) ∙ ap (λ l. l ++ Revoke d cause ∷ []) (so_far_push s acts ban) in
    due_before_ban more s x d by started c thread
    (due_before_revocation more s (x ++ ban ∷ []) d cause c thread (after_ban x d by started false cause) (subst X e h))

due_before : ActionIsOneMore → (s : Setting) (acts : List Action) (k : ℕ) (o : Option ℕ) (c thread : ℕ) → IsDue s (so_far s (acts ++ ban_for s (so_far s acts) k o)) c thread → IsDue s (so_far s acts) c thread
due_before more s acts k None c thread h = let X : List Action → Type 0 = λ l. IsDue s (so_far s l) c thread in subst X (append-nil acts) h
due_before more s acts k (Some by) c thread h =
    due_before_both more s acts (sibling_of k) by (kept_now s by).started (causes.Ban k) (is_held (holder_of (so_far s acts) (sibling_of k))) c thread h

-- and beside the core itself a ban is made
not_due : ActionIsOneMore → (s : Setting) (acts : List Action) (k : ℕ) (o : Option ℕ) → ban_due s (so_far s acts) k ≡ o → (thread : ℕ) → IsDue s (so_far s (acts ++ ban_for s (so_far s acts) k o)) k thread → ⊥
not_due more s acts k None e thread h =
    let was : ban_due s (so_far s acts) k ≡ Some thread = found_due s (so_far s acts) k thread (due_before more s acts k None k thread h) in
    let no : None ≡ Some thread = sym e ∙ was in cc
not_due more s acts k (Some by) e thread h =
    let x = so_far s acts in
    let held = is_held (holder_of x (sibling_of k)) in
    let banned = after_ban x (sibling_of k) by (kept_now s by).started held (causes.Ban k) in
    both_ways _ h.beside_not_banned (ap (λ l. is_banned l (sibling_of k)) (so_far_more s acts (ban_for s x k (Some by))) ∙ banned)

ban_more : ActionIsOneMore → (s : Setting) (acts : List Action) (n : ℕ) → NoneDue s acts n → NoneDue s (acts ++ bans_at s acts n) (suc n)
ban_more more s acts n h = record {
  none = λ c thread lt due. ⊎_elim
      (λ below. h.none c thread below (due_before more s acts n (ban_due s (so_far s acts) n) c thread due))
      (λ least.
      let same : c ≡ n = omega (arith, lt, least) in
      let D : ℕ → Type 0 = λ c. IsDue s (so_far s (acts ++ bans_at s acts n)) c thread in
      not_due more s acts n (ban_due s (so_far s acts) n) refl thread (subst D same due))
      (cases_lt c n);
}

none_due : ActionIsOneMore → (s : Setting) (before : List Action) (n : ℕ) → NoneDue s (before ++ in_turn (bans_at s) before n) n
none_due more s before zero = record { none = λ c thread lt due. absurd (omega (arith, lt)) }
none_due more s before (suc n) =
    let Q : List Action → Type 0 = λ l. NoneDue s l (suc n) in
    let now = before ++ in_turn (bans_at s) before n in
    subst Q (append_assoc before (in_turn (bans_at s) before n) (bans_at s now n)) (ban_more more s now n (none_due more s before n))

pub none_left_due : ActionIsOneMore → (here : Point) → IsPoint here → BansAreMade here → (c thread : ℕ) → IsDue (setting_at here) (actions_at here) c thread → ⊥
none_left_due more here is end c thread due =
    let s = setting_at here in
    let Q : List Action → Type 0 = λ l. IsDue s (so_far s l) c thread in
    (none_due more s (unbanned_of s) s.table.cores).none c thread due.request.own (subst Q (made_there here is end) due)

-- so a core is banned beside which a request runs too long, if it may be kept empty
own_not_banned : BannedAreEmptiedAtOnce → (here : Point) → IsPoint here → BansAreMade here → (c : ℕ) (p : placements.Placement) → holder_of (actions_at here) c ≡ holders.Held p → (b : Bool) → is_banned (actions_at here) c ≡ b → b ≡ false
own_not_banned emptied here is end c p held true e =
    let just = emptied here is c e (ap is_held held) in
    absurd (let no = end.next (Revoke c (causes.Ban just.by)) just.revoked in cc)
own_not_banned emptied here is end c p held false e = refl

pub beside_banned : NoBanIsLeftDue → BannedAreEmptiedAtOnce → (here : Point) → IsPoint here → BansAreMade here → (c thread : ℕ) → RunsTooLong (setting_at here) (actions_at here) c thread →
    MayBeEmpty (setting_at here) (actions_at here) (holder_of (actions_at here) (sibling_of c)) → (b : Bool) → is_banned (actions_at here) (sibling_of c) ≡ b → b ≡ true
beside_banned none emptied here is end c thread long empty true e = refl
beside_banned none emptied here is end c thread long empty false e = absurd (none here is end c thread (record {
  request = long;
  not_banned = own_not_banned emptied here is end c long.placement long.held (is_banned (actions_at here) c) refl;
  beside_not_banned = e;
  may_be_empty = empty;
}))
