-- Where a kept record shows its thread on a core, the thread has that core.
use Rattle.cal_laws.proofs.Common.{◌≡◌, ◌≢◌, ℕ, ◌+◌, ◌-◌, ◌≤◌, ◌⊎◌, zero, suc, Bool, true, false, cond, eqb, leb, List, [], ◌∷◌, ◌++◌, length, take, Option, Some, None, refl, sym, ap, ◌∙◌, arith, inl, inr, subst, ⊎_elim, slice_get, unwrap_or, option_and_then, take-length, and_parts, eqb-true, leb-true, slice_get_cases, slice_get_within, Table, Record, Action, Free, Unban, Ban, Revoke, Cap, Grant, PassEntry, Seen, Holder, actions_of, looks_of, holder_of, holder_made, last_placement, left_by, placed, placement_of, kept_by, record_to_keep, Setting, setting_of, so_far, kept_now, shows_left, has_left, ActionIsOneMore, LookIsOneMore, Point, setting_at, actions_at, IsSafe, IsSafeHistory, IsSafePoint, unwrap_if}
use Rattle.cal_policy.specs.declared.history.look.Seen.TheVariants.{Whole, Busy, Ahead, Foreign}
use Rattle.cal_policy.specs.declared.board.holders.Placement as placements
use Rattle.cal_policy.specs.declared.board.holders.Holder.TheVariants as holders
use Rattle.cal_policy.specs.Judgement.Judging.{IsInput}
use Rattle.cal_laws.specs.Kept.{IsOnItsCore}
use Rattle.cal_laws.proofs.ChoiceLemmas.Granted.{gives_free, free_nobody}
use Rattle.cal_laws.proofs.PointLemmas.EachAction.{actions_more, within_pass}
use Rattle.cal_laws.proofs.KeptLemmas.Truth.{fresh, looks_more}

-- the kept record of a core's thread has taken the Run that put it there, and shows it on no core
pub record IsShownOff (s : Setting) (p : placements.Placement) : Type 0 where
  pub taken : p.number ≤ (kept_now s p.thread).taken
  pub on_none : (kept_now s p.thread).running ≡ 0

off_by : (s : Setting) (q p : placements.Placement) → q ≡ p → has_left (kept_now s q.thread) q.number ≡ true → IsShownOff s p
off_by s q p same left =
    let both = and_parts (leb q.number (kept_now s q.thread).taken) (eqb (kept_now s q.thread).running 0) left in
    subst (IsShownOff s) same (record { taken = leb-true _ _ both.0; on_none = eqb-true _ _ both.1 })

left_of : (s : Setting) (h : Holder) (p : placements.Placement) → placement_of h ≡ Some p → shows_left (kept_now s) h ≡ true → IsShownOff s p
left_of s holders.Free p e left = cc
left_of s (holders.Held q) p e left = let same : q ≡ p = cc in off_by s q p same left
left_of s (holders.Leaving q cause) p e left = let same : q ≡ p = cc in off_by s q p same left

-- the action frees the core, whose thread was shown to have left it
pub record IsFreed (s : Setting) (a : Action) (c : ℕ) (p : placements.Placement) : Type 0 where
  pub frees : a ≡ Free c
  pub off : IsShownOff s p

-- after one more action the thread has the core as it had it, or the action freed it
abbrev pub Stays : Setting → List Action → Action → ℕ → placements.Placement → Type 0
Stays s x a c p = (placement_of (holder_of (x ++ a ∷ []) c) ≡ Some p) ⊎ IsFreed s a c p

unchanged : ActionIsOneMore → (s : Setting) (x : List Action) (a : Action) (c : ℕ) (p : placements.Placement) → holder_made c x a ≡ None → placement_of (holder_of x c) ≡ Some p → Stays s x a c p
unchanged more s x a c p none e = inl (ap placement_of ((more x a).holder c) ∙ ap (λ o. placement_of (unwrap_or o (holder_of x c))) none ∙ e)

stays_by : ActionIsOneMore → (s : Setting) (x : List Action) (a : Action) (core c : ℕ) (h : Holder) (p : placements.Placement) → holder_made c x a ≡ cond (eqb core c) (Some h) None →
    placement_of (holder_of x c) ≡ Some p → (core ≡ c → (placement_of h ≡ Some p) ⊎ IsFreed s a c p) → Stays s x a c p
stays_by more s x a core c h p made e here = choose (eqb core c) refl
  where
    after : (b : Bool) → eqb core c ≡ b → placement_of (holder_of (x ++ a ∷ []) c) ≡ placement_of (cond b h (holder_of x c))
    after b f = ap placement_of ((more x a).holder c ∙ ap (λ o. unwrap_or o (holder_of x c)) made ∙ unwrap_if (eqb core c) h (holder_of x c) ∙ ap (λ (b : Bool). cond b h (holder_of x c)) f)

    choose : (b : Bool) → eqb core c ≡ b → Stays s x a c p
    choose true f = ⊎_elim (λ same. inl (after true f ∙ same)) (λ freed. inr freed) (here (eqb-true core c f))
    choose false f = inl (after false f ∙ e)

pub stays : ActionIsOneMore → (s : Setting) (acts : List Action) (a : Action) → IsSafe s acts a → (c : ℕ) (p : placements.Placement) → placement_of (holder_of (so_far s acts) c) ≡ Some p →
    Stays s (so_far s acts) a c p
stays more s acts (Free core) safe c p e =
    let x : List Action = so_far s acts in
    stays_by more s x (Free core) core c holders.Free p refl e
    (λ same. inr (record { frees = ap (λ n. Free n) same; off = left_of s (holder_of x c) p e (ap (λ n. shows_left (kept_now s) (holder_of x n)) (sym same) ∙ safe.left) }))
stays more s acts (Revoke core cause) safe c p e =
    let x : List Action = so_far s acts in
    stays_by more s x (Revoke core cause) core c (left_by (last_placement x core) cause) p refl e
    (λ same. inl (ap (λ n. placement_of (left_by (last_placement x n) cause)) same ∙ ap (λ o. placement_of (left_by o cause)) (safe.steady.granted c p e)))
stays more s acts (Grant core thread class) safe c p e =
    let x : List Action = so_far s acts in
    stays_by more s x (Grant core thread class) core c (holders.Held (placed x thread)) p refl e
    (λ same. absurd (free_nobody (holder_of x core) p (gives_free s.table x core thread class safe.fits).free (ap (λ n. placement_of (holder_of x n)) same ∙ e)))
stays more s acts (Unban core) safe c p e = unchanged more s (so_far s acts) (Unban core) c p refl e
stays more s acts (Ban core thread started) safe c p e = unchanged more s (so_far s acts) (Ban core thread started) c p refl e
stays more s acts (Cap task cap) safe c p e = unchanged more s (so_far s acts) (Cap task cap) c p refl e

-- a thread that its kept record shows on a core stays there
on_after : ActionIsOneMore → (s : Setting) (acts : List Action) (a : Action) → IsSafe s acts a → (k : ℕ) → (kept_now s k).running ≢ 0 → IsOnItsCore s.table (so_far s acts) k (kept_now s k) →
    IsOnItsCore s.table (so_far s acts ++ a ∷ []) k (kept_now s k)
on_after more s acts a safe k on h = ⊎_elim
    (λ there. record { low = h.low; place = h.place; there = there; thread = h.thread; acknowledged = h.acknowledged })
    (λ freed. absurd (on (ap (λ n. (kept_now s n).running) (sym h.thread) ∙ freed.off.on_none)))
    (stays more s acts a safe ((kept_now s k).running - 1) h.place h.there)

on_through : ActionIsOneMore → (table : Table) (history : List PassEntry) → IsSafeHistory table history → (p : ℕ) (entry : PassEntry) → slice_get history p ≡ Some entry →
    (k : ℕ) → (kept_now (setting_of table (take p history) entry) k).running ≢ 0 → IsOnItsCore table (actions_of (take p history)) k (kept_now (setting_of table (take p history) entry) k) →
    (i : ℕ) → i ≤ length entry.actions → IsOnItsCore table (actions_of (take p history) ++ take i entry.actions) k (kept_now (setting_of table (take p history) entry) k)
on_through more table history safe p entry e k on begin =
    let s : Setting = setting_of table (take p history) entry in
    within_pass IsSafe table history safe.actions p entry e (λ x. IsOnItsCore table x k (kept_now s k)) (λ acts a is was. on_after more s acts a is k on was) begin

-- where the record shows its thread on a core, the thread has it after the actions x
abbrev IsOn : Table → List Action → ℕ → Record → Type 0
IsOn table x k rec = rec.running ≢ 0 → IsOnItsCore table x k rec

looked : (table : Table) (history : List PassEntry) (k n : ℕ) (entry : PassEntry) (old : Record) → slice_get history n ≡ Some entry → IsInput table (take n history) entry.input →
    IsOn table (actions_of (take n history)) k old → (o : Option Seen) → slice_get entry.input.seen k ≡ o → IsOn table (actions_of (take n history)) k (unwrap_or (option_and_then record_to_keep o) old)
looked table history k n entry old e pass was None is = was
looked table history k n entry old e pass was (Some (Busy first second)) is = was
looked table history k n entry old e pass was (Some (Ahead number rec)) is = was
looked table history k n entry old e pass was (Some (Foreign number rec)) is = was
looked table history k n entry old e pass was (Some (Whole number rec)) is = λ on. ((fresh table history k n entry number rec e pass is).1 on).on_core

begins : LookIsOneMore → (table : Table) (history : List PassEntry) (k n : ℕ) (entry : PassEntry) → slice_get history n ≡ Some entry → IsInput table (take n history) entry.input →
    IsOn table (actions_of (take n history)) k (kept_by (looks_of (take n history)) k) → IsOn table (actions_of (take n history)) k (kept_by (looks_of (take n history) ++ entry.input.seen ∷ []) k)
begins one table history k n entry e pass was =
    let P : Record → Type 0 = λ rec. IsOn table (actions_of (take n history)) k rec in
    subst P (sym (one (looks_of (take n history)) entry.input.seen k)) (looked table history k n entry (kept_by (looks_of (take n history)) k) e pass was (slice_get entry.input.seen k) refl)

on_to_next : ActionIsOneMore → LookIsOneMore → (table : Table) (history : List PassEntry) → IsSafeHistory table history → (k n : ℕ) (entry : PassEntry) → slice_get history n ≡ Some entry →
    IsOn table (actions_of (take n history)) k (kept_by (looks_of (take n history)) k) → IsOn table (actions_of (take (n + 1) history)) k (kept_by (looks_of (take (n + 1) history)) k)
on_to_next more one table history safe k n entry e was =
    let x : List Action = actions_of (take n history) in
    let rec : Record = kept_by (looks_of (take n history) ++ entry.input.seen ∷ []) k in
    let begin = begins one table history k n entry e (safe.inputs n entry e) was in
    let P : List Action → Type 0 = λ acts. IsOnItsCore table (x ++ acts) k rec in
    let whole : IsOn table (x ++ entry.actions) k rec =
    (λ on. subst P (take-length entry.actions) (on_through more table history safe n entry e k on (begin on) (length entry.actions) (omega arith))) in
    let Q : List Action → Type 0 = λ y. IsOn table y k rec in
    let R : Record → Type 0 = λ r. IsOn table (actions_of (take (n + 1) history)) k r in
    subst R (sym (ap (λ l. kept_by l k) (looks_more history n entry e))) (subst Q (sym (actions_more history n entry e)) whole)

on_before : ActionIsOneMore → LookIsOneMore → (table : Table) (history : List PassEntry) → IsSafeHistory table history → (k n : ℕ) → n ≤ length history →
    IsOn table (actions_of (take n history)) k (kept_by (looks_of (take n history)) k)
on_before more one table history safe k zero le = λ on. absurd (on refl)
on_before more one table history safe k (suc n) le = ⊎_elim
    (λ found.
    let next : suc n ≡ n + 1 = omega arith in
    let P : ℕ → Type 0 = λ m. IsOn table (actions_of (take m history)) k (kept_by (looks_of (take m history)) k) in
    subst P (sym next) (on_to_next more one table history safe k n found.0 found.2 (on_before more one table history safe k n (omega (arith, le)))))
    (λ past. absurd (let no = past.0 in omega (arith, le, no)))
    (slice_get_cases history n).1

-- where a kept record shows its thread on a core at a point, the thread has it there
pub on_core_at : ActionIsOneMore → LookIsOneMore → (here : Point) → IsSafePoint here → (k : ℕ) → (kept_now (setting_at here) k).running ≢ 0 →
    IsOnItsCore here.table (actions_at here) k (kept_now (setting_at here) k)
on_core_at more one here is k on =
    let within = slice_get_within here.history here.pass here.entry is.entry in
    let before = on_before more one here.table here.history is.history k here.pass (omega (arith, within)) in
    let begin = begins one here.table here.history k here.pass here.entry is.entry (is.history.inputs here.pass here.entry is.entry) before in
    on_through more here.table here.history is.history here.pass here.entry is.entry k on (begin on) here.made is.made
