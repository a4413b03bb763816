-- A banned core is held only between its ban and its revocation.
use Rattle.cal_laws.proofs.Common.{◌≡◌, ℕ, ◌+◌, ◌≤◌, zero, suc, Bool, true, false, cond, eqb, List, [], ◌∷◌, ◌++◌, length, take, Option, Some, None, refl, sym, ap, ◌∙◌, arith, append_assoc, subst, ⊎_elim, slice_get, unwrap_or, is_some, take-length, eqb-true, both_ways, append-nil, take_all, slice_get_cases, slice_get_within, sibling_of, Table, Action, Free, Unban, Ban, Revoke, Cap, Grant, Cause, PassEntry, BannedFor, Holder, actions_of, holder_of, holder_made, last_placement, left_by, placed, ban_of, ban_made, is_banned, is_held, Setting, setting_of, so_far, kept_now, shows_left, free_at, frees, still_shows, unban_for, unban_at, ban_due, ban_for, pass_of, IsLegal, EachAfter, ActionIsOneMore, ChosenIsOfLeastClass, Point, IsPoint, setting_at, made_at, actions_at, next_at, NoneHeld, IsJustBanned, each_at, so_far_push}
use Rattle.cal_policy.specs.declared.history.action.Cause.TheVariants as causes
use Rattle.cal_policy.specs.declared.board.holders.Placement as placements
use Rattle.cal_policy.specs.declared.board.holders.Holder.TheVariants as holders
use Rattle.cal_laws.proofs.PointLemmas.PassKeeps.{IsKeptInPass, nothing_more, in_turn_keeps, unbanned_of, pass_keeps}
use Rattle.cal_laws.proofs.PointLemmas.EachAction.{actions_more}

-- an action that leaves no banned core held: it bans no held core and grants no banned one
abbrev pub Spares : List Action → Action → Type 0
Spares x (Free core) = Unit {0}
Spares x (Unban core) = Unit {0}
Spares x (Ban core thread started) = is_held (holder_of x core) ≡ false
Spares x (Revoke core cause) = Unit {0}
Spares x (Cap task cap) = Unit {0}
Spares x (Grant core thread class) = is_banned x core ≡ false

free_by : (b : Bool) (h : Holder) → is_held h ≡ false → is_held (unwrap_or (cond b (Some holders.Free) None) h) ≡ false
free_by true h e = refl
free_by false h e = e

left_free : (o : Option placements.Placement) (cause : Cause) → is_held (left_by o cause) ≡ false
left_free None cause = refl
left_free (Some p) cause = refl

left_or : (b : Bool) (o : Option placements.Placement) (cause : Cause) (h : Holder) → (b ≡ false → is_held h ≡ false) →
    is_held (unwrap_or (cond b (Some (left_by o cause)) None) h) ≡ false
left_or true o cause h e = left_free o cause
left_or false o cause h e = e refl

unban_by : (b : Bool) (o : Option BannedFor) → is_some (unwrap_or (cond b (Some None) None) o) ≡ true → is_some o ≡ true
unban_by true o e = cc
unban_by false o e = e

ban_elsewhere : (b : Bool) (ban : BannedFor) (o : Option BannedFor) → b ≡ false → is_some (unwrap_or (cond b (Some (Some ban)) None) o) ≡ true → is_some o ≡ true
ban_elsewhere true ban o f e = cc
ban_elsewhere false ban o f e = e

ban_by : (x : List Action) (core c : ℕ) (ban : BannedFor) (b : Bool) → NoneHeld x → eqb core c ≡ b → is_held (holder_of x core) ≡ false →
    is_some (unwrap_or (cond b (Some (Some ban)) None) (ban_of x c)) ≡ true → is_held (holder_of x c) ≡ false
ban_by x core c ban true h e f banned = ap (λ n. is_held (holder_of x n)) (sym (eqb-true core c e)) ∙ f
ban_by x core c ban false h e f banned = h.empty c banned

grant_by : (x : List Action) (core c : ℕ) (p : placements.Placement) (b : Bool) → NoneHeld x → eqb core c ≡ b → is_banned x core ≡ false → is_banned x c ≡ true →
    is_held (unwrap_or (cond b (Some (holders.Held p)) None) (holder_of x c)) ≡ false
grant_by x core c p true h e f banned = let no : is_banned x c ≡ false = ap (is_banned x) (sym (eqb-true core c e)) ∙ f in cc
grant_by x core c p false h e f banned = h.empty c banned

spared : (x : List Action) (a : Action) → Spares x a → NoneHeld x → (c : ℕ) → is_some (unwrap_or (ban_made c x a) (ban_of x c)) ≡ true →
    is_held (unwrap_or (holder_made c x a) (holder_of x c)) ≡ false
spared x (Free core) f h c b = free_by (eqb core c) (holder_of x c) (h.empty c b)
spared x (Unban core) f h c b = h.empty c (unban_by (eqb core c) (ban_of x c) b)
spared x (Ban core thread started) f h c b = ban_by x core c (record { thread = thread; started = started }) (eqb core c) h refl f b
spared x (Revoke core cause) f h c b = left_or (eqb core c) (last_placement x core) cause (holder_of x c) (λ off. h.empty c b)
spared x (Cap task cap) f h c b = h.empty c b
spared x (Grant core thread class) f h c b = grant_by x core c (placed x thread) (eqb core c) h refl f b

pub none_held_after : ActionIsOneMore → (x : List Action) (a : Action) → Spares x a → NoneHeld x → NoneHeld (x ++ a ∷ [])
none_held_after more x a f h = record { empty = λ c b. ap is_held ((more x a).holder c) ∙ spared x a f h c (sym (ap is_some ((more x a).ban c)) ∙ b) }

-- a ban elsewhere leaves a core as it was
pub banned_before : ActionIsOneMore → (x : List Action) (d thread started c : ℕ) → eqb d c ≡ false → is_banned (x ++ Ban d thread started ∷ []) c ≡ true → is_banned x c ≡ true
banned_before more x d thread started c off b =
    ban_elsewhere (eqb d c) (record { thread = thread; started = started }) (ban_of x c) off (sym (ap is_some ((more x (Ban d thread started)).ban c)) ∙ b)

-- a ban of a held core, and then its revocation
pub none_held_emptied : ActionIsOneMore → (x : List Action) (d thread started : ℕ) (cause : Cause) → NoneHeld x → NoneHeld ((x ++ Ban d thread started ∷ []) ++ Revoke d cause ∷ [])
none_held_emptied more x d thread started cause h =
    let y = x ++ Ban d thread started ∷ [] in record {
      empty = λ c b. ap is_held ((more y (Revoke d cause)).holder c)
          ∙ left_or (eqb d c) (last_placement y d) cause (holder_of y c) (λ off. ap is_held ((more x (Ban d thread started)).holder c)
          ∙ h.empty c (banned_before more x d thread started c off (sym (ap is_some ((more y (Revoke d cause)).ban c)) ∙ b)));
    }

-- at each action made so far a banned core is held only where it was just banned, and now none is
abbrev AtPlace : Setting → List Action → Action → Type 0
AtPlace s acts a = (c : ℕ) → is_banned (so_far s acts) c ≡ true → is_held (holder_of (so_far s acts) c) ≡ true → IsJustBanned acts c (Some a)

record IsRun (s : Setting) (acts : List Action) : Type 0 where
  each : EachAfter (AtPlace s) [] acts
  after : NoneHeld (so_far s acts)

each_push : {X : Type 0} (P : List X → X → Type 0) (before xs : List X) (x : X) → EachAfter P before xs → P (before ++ xs) x → EachAfter P before (xs ++ x ∷ [])
each_push P before [] x e f = (rw append-nil at f, tt)
each_push P before (y ∷ xs) x e f = (e.0, each_push P (before ++ y ∷ []) xs x e.1 (rw (append_assoc before (y ∷ []) xs) f))

none_at : (s : Setting) (acts : List Action) (a : Action) → NoneHeld (so_far s acts) → AtPlace s acts a
none_at s acts a h c b held = absurd (both_ways _ (h.empty c b) held)

run_one : ActionIsOneMore → (s : Setting) (acts : List Action) (a : Action) → Spares (so_far s acts) a → IsRun s acts → IsRun s (acts ++ a ∷ [])
run_one more s acts a f r = record {
  each = each_push (AtPlace s) [] acts a r.each (none_at s acts a r.after);
  after = let P : List Action → Type 0 = λ x. NoneHeld x in subst P (sym (so_far_push s acts a)) (none_held_after more (so_far s acts) a f r.after);
}

-- the place between a ban and its revocation
between : ActionIsOneMore → (s : Setting) (acts : List Action) (d thread started by : ℕ) → NoneHeld (so_far s acts) → (c : ℕ) (b : Bool) → eqb d c ≡ b →
    is_banned (so_far s acts ++ Ban d thread started ∷ []) c ≡ true → is_held (holder_of (so_far s acts ++ Ban d thread started ∷ []) c) ≡ true →
    IsJustBanned (acts ++ Ban d thread started ∷ []) c (Some (Revoke d (causes.Ban by)))
between more s acts d thread started by h c true e banned held =
    let same : d ≡ c = eqb-true d c e in record {
      earlier = acts;
      thread = thread;
      started = started;
      by = by;
      banned = ap (λ n. acts ++ Ban n thread started ∷ []) same;
      revoked = ap (λ n. Some (Revoke n (causes.Ban by))) same;
    }
between more s acts d thread started by h c false e banned held =
    let x = so_far s acts in
    let free : is_held (holder_of x c) ≡ false = h.empty c (banned_before more x d thread started c e banned) in
    absurd (both_ways _ free (sym (ap is_held ((more x (Ban d thread started)).holder c)) ∙ held))

run_two : ActionIsOneMore → (s : Setting) (acts : List Action) (d thread started by : ℕ) → IsRun s acts →
    IsRun s (acts ++ Ban d thread started ∷ Revoke d (causes.Ban by) ∷ [])
run_two more s acts d thread started by r =
    let ban = Ban d thread started in
    let revoke = Revoke d (causes.Ban by) in
    let one = acts ++ ban ∷ [] in
    let P : List Action → Type 0 = λ x. NoneHeld x in
    let B : ℕ → List Action → Type 0 = λ c x. is_banned x c ≡ true in
    let H : ℕ → List Action → Type 0 = λ c x. is_held (holder_of x c) ≡ true in
    let place : AtPlace s one revoke = (λ c b held.
    between more s acts d thread started by r.after c (eqb d c) refl (subst (B c) (so_far_push s acts ban) b) (subst (H c) (so_far_push s acts ban) held)) in
    let twice : so_far s (one ++ revoke ∷ []) ≡ (so_far s acts ++ ban ∷ []) ++ revoke ∷ [] = so_far_push s one revoke ∙ ap (λ x. x ++ revoke ∷ []) (so_far_push s acts ban) in
    let Q : List Action → Type 0 = λ l. IsRun s l in
    let both : IsRun s (one ++ revoke ∷ []) = record {
      each = each_push (AtPlace s) [] one revoke (each_push (AtPlace s) [] acts ban r.each (none_at s acts ban r.after)) place;
      after = subst P (sym twice) (none_held_emptied more (so_far s acts) d thread started (causes.Ban by) r.after);
    } in
    subst Q (append_assoc acts (ban ∷ []) (revoke ∷ [])) both

run_ban : ActionIsOneMore → (s : Setting) (acts : List Action) (c thread : ℕ) (b : Bool) → is_held (holder_of (so_far s acts) (sibling_of c)) ≡ b → IsRun s acts →
    IsRun s (acts ++ Ban (sibling_of c) thread (kept_now s thread).started ∷ cond b (Revoke (sibling_of c) (causes.Ban c) ∷ []) [])
run_ban more s acts c thread true e r = run_two more s acts (sibling_of c) thread (kept_now s thread).started c r
run_ban more s acts c thread false e r = run_one more s acts (Ban (sibling_of c) thread (kept_now s thread).started) e r

run_ban_for : ActionIsOneMore → (s : Setting) (acts : List Action) (c : ℕ) (due : Option ℕ) → IsRun s acts → IsRun s (acts ++ ban_for s (so_far s acts) c due)
run_ban_for more s acts c None r = nothing_more (λ l. IsRun s l) acts r
run_ban_for more s acts c (Some thread) r = run_ban more s acts c thread (is_held (holder_of (so_far s acts) (sibling_of c))) refl r

run_kept : ActionIsOneMore → (s : Setting) → IsKeptInPass s (λ l. IsRun s l)
run_kept more s = record {
  ban = λ acts c lt r. run_ban_for more s acts c (ban_due s (so_far s acts) c) r;
  revoke = λ acts core cause r. run_one more s acts (Revoke core cause) tt r;
  cap = λ acts task cap r. run_one more s acts (Cap task cap) tt r;
  grant = λ acts core thread class free r. run_one more s acts (Grant core thread class) free r;
}

run_free : ActionIsOneMore → (s : Setting) (acts : List Action) (c : ℕ) (b : Bool) → IsRun s acts → IsRun s (acts ++ cond b (Free c ∷ []) [])
run_free more s acts c true r = run_one more s acts (Free c) tt r
run_free more s acts c false r = nothing_more (λ l. IsRun s l) acts r

run_unban : ActionIsOneMore → (s : Setting) (acts : List Action) (c : ℕ) (b : Bool) → IsRun s acts → IsRun s (acts ++ cond b [] (Unban c ∷ []))
run_unban more s acts c true r = nothing_more (λ l. IsRun s l) acts r
run_unban more s acts c false r = run_one more s acts (Unban c) tt r

run_unban_for : ActionIsOneMore → (s : Setting) (acts : List Action) (c : ℕ) (o : Option BannedFor) → IsRun s acts → IsRun s (acts ++ unban_for s c o)
run_unban_for more s acts c None r = nothing_more (λ l. IsRun s l) acts r
run_unban_for more s acts c (Some ban) r = run_unban more s acts c (still_shows (kept_now s ban.thread) (sibling_of c) ban.started) r

pass_run : ActionIsOneMore → ChosenIsOfLeastClass → (s : Setting) → NoneHeld (actions_of s.history) → IsRun s (pass_of s)
pass_run more law s h =
    let P : List Action → Type 0 = λ x. NoneHeld x in
    let Q : List Action → Type 0 = λ l. IsRun s l in
    let start : IsRun s [] = record { each = tt; after = subst P (sym (append-nil (actions_of s.history))) h } in
    let freed : Q (frees s []) = in_turn_keeps Q (free_at s) [] s.table.cores
    (λ acts c lt r. run_free more s acts c (shows_left (kept_now s) (holder_of (so_far s acts) c)) r) start in
    let unbanned : Q (unbanned_of s) = in_turn_keeps Q (unban_at s) (frees s []) s.table.cores
    (λ acts c lt r. run_unban_for more s acts c (ban_of (so_far s acts) c) r) freed in
    pass_keeps law s Q (run_kept more s) unbanned

entry_run : ActionIsOneMore → ChosenIsOfLeastClass → (table : Table) (history : List PassEntry) → IsLegal table history → (p : ℕ) (entry : PassEntry) → slice_get history p ≡ Some entry →
    NoneHeld (actions_of (take p history)) → IsRun (setting_of table (take p history) entry) entry.actions
entry_run more law table history legal p entry e h =
    let s = setting_of table (take p history) entry in
    let Q : List Action → Type 0 = λ l. IsRun s l in
    subst Q (sym (legal.passes p entry e).actions) (pass_run more law s h)

none_held : ActionIsOneMore → ChosenIsOfLeastClass → (table : Table) (history : List PassEntry) → IsLegal table history → (p : ℕ) → p ≤ length history → NoneHeld (actions_of (take p history))
none_held more law table history legal zero le = record { empty = λ c b. cc }
none_held more law table history legal (suc p) le = ⊎_elim
    (λ found.
    let P : List Action → Type 0 = λ x. NoneHeld x in
    let one : suc p ≡ p + 1 = omega arith in
    let run = entry_run more law table history legal p found.0 found.2 (none_held more law table history legal p (omega arith)) in
    subst P (sym (ap (λ n. actions_of (take n history)) one ∙ actions_more history p found.0 found.2)) run.after)
    (λ past. absurd (let no = past.0 in omega arith))
    (slice_get_cases history p).1

-- after every legal history no banned core is held
pub none_held_at_end : ActionIsOneMore → ChosenIsOfLeastClass → (table : Table) (history : List PassEntry) → IsLegal table history → NoneHeld (actions_of history)
none_held_at_end more law table history legal =
    let P : List PassEntry → Type 0 = λ h. NoneHeld (actions_of h) in
    subst P (take-length history) (none_held more law table history legal (length history) (omega arith))

-- and inside a pass only one that was just banned
pub just_banned : ActionIsOneMore → ChosenIsOfLeastClass → (here : Point) → IsPoint here → (core : ℕ) → is_banned (actions_at here) core ≡ true → is_held (holder_of (actions_at here) core) ≡ true →
    IsJustBanned (made_at here) core (next_at here)
just_banned more law here is core banned held =
    let s = setting_at here in
    let within = slice_get_within here.history here.pass here.entry is.entry in
    let run = entry_run more law here.table here.history is.legal here.pass here.entry is.entry (none_held more law here.table here.history is.legal here.pass (omega arith)) in
    ⊎_elim
    (λ found.
    let place = each_at (AtPlace s) [] here.entry.actions here.made found.0 run.each found.2 core banned held in
    let Q : Option Action → Type 0 = λ o. IsJustBanned (made_at here) core o in
    subst Q (sym found.2) place)
    (λ past.
    let P : List Action → Type 0 = λ acts. NoneHeld (so_far s acts) in
    let whole : NoneHeld (actions_at here) = subst P (sym (take_all here.made here.entry.actions past.0)) run.after in
    absurd (both_ways _ (whole.empty core banned) held))
    (slice_get_cases here.entry.actions here.made).1
