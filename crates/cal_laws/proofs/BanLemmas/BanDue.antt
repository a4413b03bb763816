-- When a ban is due, and why a core is taken for one, in words of their own.
use Rattle.cal_laws.proofs.Common.{◌≡◌, ◌≢◌, ℕ, ◌+◌, ◌-◌, ◌<◌, true, not, ◌&&◌, eqb, ltb, List, [], ◌∷◌, ◌++◌, Some, refl, sym, ap, ◌∙◌, subst, arith, ltb-true, eqb-true, eqb-false, and_parts, not-true, cond_some, Record, sibling_of, owner_of, request_of, is_latency_critical, Action, Ban, Holder, holder_of, is_banned, is_held, is_over, Setting, so_far, kept_now, has_room, runs_too_long, may_be_emptied, too_long_on, may_ban_beside, ActionIsOneMore, IsOverWithRoom, MayBeEmpty, IsDue, IsForBan, some_then}
use Rattle.cal_policy.specs.declared.board.holders.Placement as placements
use Rattle.cal_policy.specs.declared.board.holders.Holder.TheVariants as holders
use Rattle.cal_policy.specs.Pass.Made as made
use Rattle.cal_laws.proofs.ExclusionLemmas.SameHolders.{SameHolders, holders_after, held_same}

-- what a record shows that runs too long
record ShowsTooLong (now : ℕ) (rec : Record) (c limit : ℕ) : Type 0 where
  shown : rec.running ≡ c + 1
  at_work : rec.started ≢ 0
  begun : rec.started < now
  too_long : limit < now - rec.started

shows_too_long : (now : ℕ) (rec : Record) (c limit : ℕ) → runs_too_long now rec c limit ≡ true → ShowsTooLong now rec c limit
shows_too_long now rec c limit e =
    let three = and_parts (eqb rec.running (c + 1) && not (eqb rec.started 0) && ltb rec.started now) (ltb limit (now - rec.started)) e in
    let two = and_parts (eqb rec.running (c + 1) && not (eqb rec.started 0)) (ltb rec.started now) three.0 in
    let one = and_parts (eqb rec.running (c + 1)) (not (eqb rec.started 0)) two.0 in
    record {
      shown = eqb-true _ _ one.0;
      at_work = eqb-false _ _ (not-true _ one.1);
      begun = ltb-true _ _ two.1;
      too_long = ltb-true _ _ three.1;
    }

-- the thread of a core that is held too long
record HoldsTooLong (s : Setting) (c thread : ℕ) (h : Holder) : Type 0 where
  placement : placements.Placement
  held : h ≡ holders.Held placement
  runs : placement.thread ≡ thread
  critical : is_latency_critical s.table (owner_of s.table thread) ≡ true
  shows : ShowsTooLong s.input.now (kept_now s thread) c (request_of s.table (owner_of s.table thread))

holds_too_long : (s : Setting) (c thread : ℕ) (h : Holder) → too_long_on s c h ≡ Some thread → HoldsTooLong s c thread h
holds_too_long s c thread holders.Free e = cc
holds_too_long s c thread (holders.Leaving p cause) e = cc
holds_too_long s c thread (holders.Held p) e =
    let test = is_latency_critical s.table (owner_of s.table p.thread)
    && runs_too_long s.input.now (kept_now s p.thread) c (request_of s.table (owner_of s.table p.thread)) in
    let parts = cond_some test p.thread thread e in
    let both = and_parts (is_latency_critical s.table (owner_of s.table p.thread)) _ parts.0 in
    let P : ℕ → Type 0 = λ k. HoldsTooLong s c k (holders.Held p) in
    subst P parts.1 (record {
      placement = p;
      held = refl;
      runs = refl;
      critical = both.0;
      shows = shows_too_long s.input.now (kept_now s p.thread) c (request_of s.table (owner_of s.table p.thread)) both.1;
    })

empty_by : (s : Setting) (x : List Action) (h : Holder) → may_be_emptied s x h ≡ true → MayBeEmpty s x h
empty_by s x holders.Free e = tt
empty_by s x (holders.Leaving p cause) e = tt
empty_by s x (holders.Held p) e =
    let both = and_parts (has_room s p.thread) (is_over s.table x (owner_of s.table p.thread)) e in
    record { room = both.0; over = ltb-true _ _ both.1 }

pub is_due : (s : Setting) (acts : List Action) (c thread : ℕ) → made.IsBanDue s acts c thread → IsDue s (so_far s acts) c thread
is_due s acts c thread h =
    let x = so_far s acts in
    let parts = some_then (may_ban_beside s x c) (too_long_on s c (holder_of x c)) thread h.due in
    let two = and_parts (not (is_banned x c) && not (is_banned x (sibling_of c))) (may_be_emptied s x (holder_of x (sibling_of c))) parts.0 in
    let one = and_parts (not (is_banned x c)) (not (is_banned x (sibling_of c))) two.0 in
    let runs = holds_too_long s c thread (holder_of x c) parts.1 in
    record {
      request = record {
        own = h.core;
        placement = runs.placement;
        held = runs.held;
        runs = runs.runs;
        critical = runs.critical;
        shown = runs.shows.shown;
        at_work = runs.shows.at_work;
        begun = runs.shows.begun;
        too_long = runs.shows.too_long;
      };
      not_banned = not-true (is_banned x c) one.0;
      beside_not_banned = not-true (is_banned x (sibling_of c)) one.1;
      may_be_empty = empty_by s x (holder_of x (sibling_of c)) two.1;
    }

-- a held core that may be empty is held by a task that is over
record IsHeldOver (s : Setting) (x : List Action) (h : Holder) : Type 0 where
  placement : placements.Placement
  held : h ≡ holders.Held placement
  over : IsOverWithRoom s x placement.thread

held_over : (s : Setting) (x : List Action) (h : Holder) → is_held h ≡ true → MayBeEmpty s x h → IsHeldOver s x h
held_over s x holders.Free e m = cc
held_over s x (holders.Leaving p cause) e m = cc
held_over s x (holders.Held p) e m = record { placement = p; held = refl; over = m }

over_same : (s : Setting) (x y : List Action) → SameHolders x y → (thread : ℕ) → IsOverWithRoom s x thread → IsOverWithRoom s y thread
over_same s x y e thread h = record { room = h.room; over = omega (arith, h.over, held_same s.table x y e (owner_of s.table thread)) }

beside_cause : ActionIsOneMore → (s : Setting) (earlier : List Action) (by thread : ℕ) → made.IsBanDue s earlier by thread → is_held (holder_of (so_far s earlier) (sibling_of by)) ≡ true →
    IsForBan s (earlier ++ Ban (sibling_of by) thread (kept_now s thread).started ∷ []) (sibling_of by) by
beside_cause more s earlier by thread h held =
    let x = so_far s earlier in
    let ban = Ban (sibling_of by) thread (kept_now s thread).started in
    let y = so_far s (earlier ++ ban ∷ []) in
    let same : SameHolders x y = holders_after more s earlier ban (λ c. refl) in
    let due = is_due s earlier by thread h in
    let from = held_over s x (holder_of x (sibling_of by)) held due.may_be_empty in
    record {
      earlier = earlier;
      thread = thread;
      just_before = refl;
      beside = refl;
      due = due;
      placement = from.placement;
      held = same (sibling_of by) ∙ from.held;
      over = over_same s x y same from.placement.thread from.over;
    }

pub ban_cause : ActionIsOneMore → (s : Setting) (acts : List Action) (core by : ℕ) → made.IsRevokedForBan s acts core by → IsForBan s acts core by
ban_cause more s acts core by r =
    let held : is_held (holder_of (so_far s r.earlier) (sibling_of by)) ≡ true = ap (λ c. is_held (holder_of (so_far s r.earlier) c)) (sym r.beside) ∙ r.held in
    let P : List Action → Type 0 = λ l. IsForBan s l (sibling_of by) by in
    let Q : ℕ → Type 0 = λ c. IsForBan s acts c by in
    let R : ℕ → Type 0 = λ c. acts ≡ r.earlier ++ Ban c r.thread (kept_now s r.thread).started ∷ [] in
    subst Q (sym r.beside) (subst P (sym (subst R r.beside r.just_before)) (beside_cause more s r.earlier by r.thread r.due held))
