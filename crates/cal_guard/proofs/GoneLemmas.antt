-- After a permitted history the record for a thread that is gone fits, is kept, and lets its core be
-- freed.
use Rattle.cal_guard.proofs.Common.{◌≡◌, ℕ, ◌+◌, ◌<◌, ◌≤◌, ◌^◌, ◌-◌, ◌==◌, ◌&&◌, nat_lt, nat_le, zero, suc, Bool, true, false, cond, List, [], ◌∷◌, length, take, Option, Some, None, refl, sym, ap, subst, ◌∙◌, arith, length-append, option_map, option_and_then, unwrap_or, is_some, and_parts, leb-true, le-leb, le-ltb, nat_tests, append-nil, slice_get-map, unwrap_if, Table, Run, Park, Action, Free, Holder, Seen, Whole, PassEntry, Input, placement_of, is_free, is_held, held_by, cap_of, actions_of, looks_of, sent_to, holder_of, is_banned, IsOrderly, fits_state, ActionIsOneMore, setting, so_far, kept_now, kept_push, holder_push, ban_push, held_freed, cap_same, IsByLastRun, PermittedIsOrderly, PermittedIsSafeBetween, IsPermitted, IsPermittedHistory, LeavesNothing}
use Rattle.std.proofs.Common.{slice_get}
use mathlib.Core.Bool.{true≢false}
use Rattle.cal_signal.specs.declared.record.Record.{Record}
use Rattle.cal_signal.specs.declared.shown.Shown.{Shown}
use Rattle.cal_signal.specs.declared.look.Look.TheVariants as found
use Rattle.cal_signal.specs.Records.{IsShaped}
use Rattle.cal_signal.specs.Shown.{IsFitShown}
use Rattle.cal_policy.specs.declared.board.holders.Holder.TheVariants as holders
use Rattle.cal_policy.specs.declared.board.holders.Placement as placements
use Rattle.cal_policy.specs.History.Lists.{last_of}
use Rattle.cal_policy.specs.History.Looks.{last_shown, shown_at, shown_by}
use Rattle.cal_policy.specs.Judgement.Judging.{judged}
use Rattle.cal_policy.specs.Judgement.Gone.{shown_when_gone}
use Rattle.cal_policy.specs.Pass.Frees.{has_left, shows_left}
use Rattle.cal_policy.proofs.JudgementLemmas.Gone.{last_of_all, shown_shaped}
use Rattle.cal_policy.proofs.JudgementLemmas.OneByOne.{only_faults_are_refused}
use Rattle.cal_guard.specs.Gone.{PermittedGoneIsKept, GoneMayBeFreed}
use Rattle.cal_guard.proofs.Emptying.{mended}

-- the looks of a pass of an orderly history
shaped_in : (table : Table) (h : List PassEntry) (k i : ℕ) (s : Shown) → IsOrderly table h → (o : Option PassEntry) → slice_get h i ≡ o → (seen : List Seen) →
    option_map (λ (entry : PassEntry). entry.input.seen) o ≡ Some seen → shown_at seen k ≡ Some s → IsShaped s.rec
shaped_in table h k i s orderly None at seen is e = cc
shaped_in table h k i s orderly (Some entry) at seen is e = one (slice_get entry.input.seen k) refl
  where
    same : entry.input.seen ≡ seen
    same = ap (λ o. unwrap_or o seen) is

    shows : shown_at entry.input.seen k ≡ Some s
    shows = ap (λ looks. shown_at looks k) same ∙ e

    one : (o : Option Seen) → slice_get entry.input.seen k ≡ o → IsShaped s.rec
    one (Some look) here =
        shown_shaped (last_shown (looks_of (take i h)) k) look s ((orderly.entries i entry at).looks.fit k look here) (sym (ap (λ o. option_and_then shown_by o) here) ∙ shows)
    one None here = let none : None ≡ Some s = sym (ap (λ (o : Option Seen). option_and_then shown_by o) here) ∙ shows in cc

pub last_is_shaped : (table : Table) (h : List PassEntry) (k : ℕ) → IsOrderly table h → IsShaped (last_shown (looks_of h) k).rec
last_is_shaped table h k orderly = go (last_of (λ before seen. shown_at seen k) (looks_of h)) refl
  where
    go : (o : Option Shown) → last_of (λ before seen. shown_at seen k) (looks_of h) ≡ o → IsShaped (last_shown (looks_of h) k).rec
    go None is = rw is (omega arith, omega arith)
    go (Some shown) is = rw is (last_of_all (λ (s : Shown). IsShaped s.rec) (λ before seen. shown_at seen k) (looks_of h)
        (λ i seen s at e. shaped_in table h k i s orderly (slice_get h i) refl seen (sym (slice_get-map (λ (entry : PassEntry). entry.input.seen) h i) ∙ at) e) shown is)

pub gone_kept : PermittedIsOrderly → PermittedGoneIsKept
gone_kept orderly table h k permitted can =
    let last = last_shown (looks_of h) k in
    let sent = sent_to (actions_of h) k in
    let shown = shown_when_gone h k in
    let parts = and_parts (nat_le last.rec.taken sent && nat_lt sent (2 ^ 64)) (nat_lt last.number (2 ^ 64 - 1)) can in
    let taken : last.rec.taken ≤ sent = leb-true last.rec.taken sent (and_parts (nat_le last.rec.taken sent) (nat_lt sent (2 ^ 64)) parts.0).0 in
    let shape = last_is_shaped table h k (orderly table h permitted) in
    let fits : IsFitShown last shown = (
      (omega arith, shape.1),
      record { not_below = omega arith; same = λ e. absurd (omega (arith, e)); later = λ lt. (taken, omega arith, omega arith) },
    ) in
    let is : judged table.cores (actions_of h) k (found.Whole shown.number shown.rec) ≡ Whole shown.number shown.rec = rw (le-ltb sent sent (omega arith)) refl in
    record {
      taken = (only_faults_are_refused table.cores h k (found.Whole shown.number shown.rec)).1 (rw is fits, rw is refl);
      kept = is;
    }

-- a holder's Run was sent
is_sent : (x : List Action) (c : ℕ) (holder : Holder) (p : placements.Placement) → IsByLastRun x c holder → placement_of holder ≡ Some p → p.number ≤ sent_to x p.thread
is_sent x c holders.Free p run e = cc
is_sent x c (holders.Held q) p run e =
    let count : sent_to x q.thread ≡ length run.earlier + 1 = ap length run.commands ∙ length-append run.earlier (Run c ∷ []) in
    let low : q.number ≤ sent_to x q.thread = omega (arith, count, run.number) in
    subst (λ (r : placements.Placement). r.number ≤ sent_to x r.thread) (ap (λ o. unwrap_or o p) e) low
is_sent x c (holders.Leaving q cause) p run e =
    let count : sent_to x q.thread ≡ length run.earlier + 2 = ap length run.commands ∙ length-append run.earlier (Run c ∷ Park ∷ []) in
    let low : q.number ≤ sent_to x q.thread = omega (arith, count, run.number) in
    subst (λ (r : placements.Placement). r.number ≤ sent_to x r.thread) (ap (λ o. unwrap_or o p) e) low

-- whoever has a core left it where his kept record shows it
left_where : (rec : ℕ → Record) (holder : Holder) (p : placements.Placement) → placement_of holder ≡ Some p → shows_left rec holder ≡ has_left (rec p.thread) p.number
left_where rec holders.Free p e = cc
left_where rec (holders.Held q) p e = ap (λ (r : placements.Placement). has_left (rec r.thread) r.number) (ap (λ o. unwrap_or o p) e)
left_where rec (holders.Leaving q cause) p e = ap (λ (r : placements.Placement). has_left (rec r.thread) r.number) (ap (λ o. unwrap_or o p) e)

taken_core : (holder : Holder) (p : placements.Placement) → placement_of holder ≡ Some p → is_free holder ≡ false
taken_core holders.Free p e = cc
taken_core (holders.Held q) p e = refl
taken_core (holders.Leaving q cause) p e = refl

-- with the look of a thread that is gone each core that it has was left
gone_left : (table : Table) (h : List PassEntry) (k : ℕ) (input : Input) (c : ℕ) (p : placements.Placement) →
    slice_get input.seen k ≡ Some (Whole (shown_when_gone h k).number (shown_when_gone h k).rec) → IsByLastRun (actions_of h) c (holder_of (actions_of h) c) →
    placement_of (holder_of (actions_of h) c) ≡ Some p → p.thread ≡ k → shows_left (kept_now (setting table h input)) (holder_of (actions_of h) c) ≡ true
gone_left table h k input c p seen run there own =
    let s = setting table h input in
    let x = actions_of h in
    let kept : kept_now s k ≡ (shown_when_gone h k).rec = kept_push (looks_of h) input.seen k ∙ rw seen refl in
    let kept_own : kept_now s p.thread ≡ (shown_when_gone h k).rec = ap (kept_now s) own ∙ kept in
    let number : p.number ≤ sent_to x k = subst (λ j. p.number ≤ sent_to x j) own (is_sent x c (holder_of x c) p run there) in
    let taken : (kept_now s p.thread).taken ≡ sent_to x k = ap (λ (r : Record). r.taken) kept_own in
    let off : (kept_now s p.thread).running ≡ 0 = ap (λ (r : Record). r.running) kept_own in
    let low : nat_le p.number (kept_now s p.thread).taken ≡ true = rw taken (le-leb p.number (sent_to x k) number) in
    let left : has_left (kept_now s p.thread) p.number ≡ true = rw (low, off) refl in
    left_where (kept_now s) (holder_of x c) p there ∙ left

-- a core that is freed is not held, and the others are with whom they were
held_after : (b : Bool) (holder : Holder) → is_held holder ≡ false → is_held (cond b holders.Free holder) ≡ false
held_after true holder e = refl
held_after false holder e = e

-- after whole passes and the Free of one core nothing is left undone
nothing_left : ActionIsOneMore → (table : Table) (h : List PassEntry) (input : Input) (c : ℕ) → IsPermittedHistory table h → LeavesNothing (setting table h input) (Free c ∷ [])
nothing_left more table h input c permitted =
    let x = actions_of h in
    let was = mended table h permitted in
    record {
      emptied = record {
        empty = λ core banned.
            let before : is_banned x core ≡ true = sym (ap is_some (ban_push x (Free c) core)) ∙ banned in
            ap is_held (holder_push x (Free c) core ∙ unwrap_if (c == core) holders.Free (holder_of x core)) ∙ held_after (c == core) (holder_of x core) (was.emptied.empty core before);
      };
      lowered = record { within = λ t best. omega (arith, held_freed more table x c t, cap_same more table x (Free c) t refl, was.lowered.within t best) };
    }

-- the Free of a core that was left, before all else, is permitted
first_free : (table : Table) (h : List PassEntry) (input : Input) (c : ℕ) (p : placements.Placement) → IsPermittedHistory table h → c < table.cores →
    placement_of (holder_of (actions_of h) c) ≡ Some p → shows_left (kept_now (setting table h input)) (holder_of (actions_of h) c) ≡ true →
    IsPermitted (setting table h input) [] (Free c)
first_free table h input c p permitted lt there left =
    let s = setting table h input in
    let x = actions_of h in
    let same : so_far s [] ≡ x = append-nil x in
    let low : nat_lt c table.cores ≡ true = grind (arith, nat_tests, lt) in
    let was = mended table h permitted in
    let one : fits_state table x (Free c) ≡ true = rw (low, taken_core (holder_of x c) p there) refl in
    record {
      fits = ap (λ l. fits_state table l (Free c)) same ∙ one;
      may = ap (λ l. shows_left (kept_now s) (holder_of l c)) same ∙ left;
      empties = λ core banned held.
          let before : is_banned x core ≡ true = sym (ap (λ l. is_banned l core) same) ∙ banned in
          let on : is_held (holder_of x core) ≡ true = sym (ap (λ l. is_held (holder_of l core)) same) ∙ held in
          absurd (true≢false (sym on ∙ was.emptied.empty core before));
      lowers = λ t best over.
          let within = was.lowered.within t best in
          let held = ap (λ l. held_by table l t) same in
          let cap = ap (λ l. cap_of table l t) same in
          absurd (omega (arith, within, held, cap, over));
    }

pub gone_freed : PermittedIsSafeBetween → ActionIsOneMore → GoneMayBeFreed
gone_freed between more table h k input permitted seen c p lt there own =
    let s = setting table h input in
    let run = (between table h permitted).last_run c lt in
    let first = first_free table h input c p permitted lt there (gone_left table h k input c p seen run there own) in
    record {
      each = λ i a e. each i a e first;
      short = omega arith;
      settled = nothing_left more table h input c permitted;
    }
  where
    each : (i : ℕ) (a : Action) → slice_get (Free c ∷ []) i ≡ Some a → IsPermitted (setting table h input) [] (Free c) → IsPermitted (setting table h input) (take i (Free c ∷ [])) a
    each zero a e first = subst (λ (b : Action). IsPermitted (setting table h input) [] b) (ap (λ o. unwrap_or o a) e) first
    each (suc i) a e first = let none : None ≡ Some a = e in cc
