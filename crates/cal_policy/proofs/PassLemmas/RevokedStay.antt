-- What a pass revokes it grants to nobody any more: after its frees it frees no core, and a core
-- that is being left is not granted.
use Rattle.cal_policy.proofs.Common.{◌≡◌, ℕ, ◌<◌, suc, zero, Bool, true, false, ◌&&◌, cond, eqb, nat_lt, List, [], ◌∷◌, ◌++◌, length, take, Option, Some, None, refl, sym, ap, subst, ◌∙◌, append_assoc, arith, append-nil, nat_tests, sibling_of, Table, is_latency_critical, thread_of, threads_of_table, Action, Free, Unban, Ban, Revoke, Cap, Grant, Cause, BannedFor, Candidate, CoreClass, class_number, is_idle, Holder, in_turn, holder_of, last_placement, ban_of, is_held, is_free, lowest_below, Setting, so_far, kept_now, shows_left, free_at, frees, still_shows, unban_for, unban_at, unbans, ban_due, ban_for, bans_at, bans, victim_of, core_to_lose, cut_at, cut_of, rise_of, is_capped, bandwidth_part, is_congested, may_book, thread_choice, choice_of, grant_of, grant_at, grant_of_kind_at, grants_of_kind, pass_of, placement_of, EachAfter, fits_state, and_parts}
use Rattle.std.specs.List.{slice_get}
use Rattle.cal_policy.specs.declared.history.action.Cause.TheVariants as causes
use Rattle.cal_policy.specs.declared.board.holders.Placement as placements
use Rattle.cal_policy.specs.declared.board.holders.Holder.TheVariants as holders
use Rattle.cal_machine.specs.declared.task.Kind.TheVariants as kinds
use Rattle.cal_policy.proofs.PassLemmas.Fits.{so_far_push}
use Rattle.cal_policy.proofs.PassLemmas.LegalOrderly.{FitsSteady}
use Rattle.cal_policy.proofs.HistoryLemmas.OneMore.{holder_push, last_placement_push}

-- each action is so
abbrev pub Every : (Action → Type 0) → List Action → Type 0
Every P [] = Unit {0}
Every P (a ∷ xs) = P a × Every P xs

every_append : (P : Action → Type 0) (xs ys : List Action) → Every P xs → Every P ys → Every P (xs ++ ys)
every_append P [] ys e f = f
every_append P (a ∷ xs) ys e f = (e.0, every_append P xs ys e.1 f)

pub every_in_turn : (P : Action → Type 0) (f : List Action → ℕ → List Action) (before : List Action) (n : ℕ) → ((acts : List Action) (k : ℕ) → Every P (f acts k)) →
    Every P (in_turn f before n)
every_in_turn P f before zero e = tt
every_in_turn P f before (suc n) e = every_append P (in_turn f before n) (f (before ++ in_turn f before n) n) (every_in_turn P f before n e) (e (before ++ in_turn f before n) n)

pub every_if : (P : Action → Type 0) (b : Bool) (xs ys : List Action) → Every P xs → Every P ys → Every P (cond b xs ys)
every_if P true xs ys e f = e
every_if P false xs ys e f = f

-- an action frees a core, or it does not
abbrev pub Frees : Action → Type 0
Frees (Free core) = Unit {0}
Frees (Unban core) = ⊥
Frees (Ban core thread started) = ⊥
Frees (Revoke core cause) = ⊥
Frees (Cap task cap) = ⊥
Frees (Grant core thread class) = ⊥

abbrev pub FreesNone : Action → Type 0
FreesNone (Free core) = ⊥
FreesNone (Unban core) = Unit {0}
FreesNone (Ban core thread started) = Unit {0}
FreesNone (Revoke core cause) = Unit {0}
FreesNone (Cap task cap) = Unit {0}
FreesNone (Grant core thread class) = Unit {0}

-- after an action that frees no core none is freed
abbrev pub EndsFrees : Action → List Action → Type 0
EndsFrees (Free core) rest = Unit {0}
EndsFrees (Unban core) rest = Every FreesNone rest
EndsFrees (Ban core thread started) rest = Every FreesNone rest
EndsFrees (Revoke core cause) rest = Every FreesNone rest
EndsFrees (Cap task cap) rest = Every FreesNone rest
EndsFrees (Grant core thread class) rest = Every FreesNone rest

-- cores are freed first
abbrev pub FreesFirst : List Action → Type 0
FreesFirst [] = Unit {0}
FreesFirst (a ∷ rest) = EndsFrees a rest × FreesFirst rest

ends_more : (a : Action) (rest more : List Action) → EndsFrees a rest → Every FreesNone more → EndsFrees a (rest ++ more)
ends_more (Free core) rest more e f = tt
ends_more (Unban core) rest more e f = every_append FreesNone rest more e f
ends_more (Ban core thread started) rest more e f = every_append FreesNone rest more e f
ends_more (Revoke core cause) rest more e f = every_append FreesNone rest more e f
ends_more (Cap task cap) rest more e f = every_append FreesNone rest more e f
ends_more (Grant core thread class) rest more e f = every_append FreesNone rest more e f

none_ends : (a : Action) (rest : List Action) → Every FreesNone rest → EndsFrees a rest
none_ends (Free core) rest f = tt
none_ends (Unban core) rest f = f
none_ends (Ban core thread started) rest f = f
none_ends (Revoke core cause) rest f = f
none_ends (Cap task cap) rest f = f
none_ends (Grant core thread class) rest f = f

none_first : (xs : List Action) → Every FreesNone xs → FreesFirst xs
none_first [] f = tt
none_first (a ∷ xs) f = (none_ends a xs f.1, none_first xs f.1)

all_ends : (a : Action) (rest : List Action) → Frees a → EndsFrees a rest
all_ends (Free core) rest f = tt
all_ends (Unban core) rest f = absurd f
all_ends (Ban core thread started) rest f = absurd f
all_ends (Revoke core cause) rest f = absurd f
all_ends (Cap task cap) rest f = absurd f
all_ends (Grant core thread class) rest f = absurd f

pub all_first : (xs : List Action) → Every Frees xs → FreesFirst xs
all_first [] f = tt
all_first (a ∷ xs) f = (all_ends a xs f.0, all_first xs f.1)

pub then_first : (xs ys : List Action) → FreesFirst xs → Every FreesNone ys → FreesFirst (xs ++ ys)
then_first [] ys f g = none_first ys g
then_first (a ∷ xs) ys f g = (ends_more a xs ys f.0 g, then_first xs ys f.1 g)

-- the parts of a pass
pub frees_all : (s : Setting) (acts : List Action) → Every Frees (frees s acts)
frees_all s acts = every_in_turn Frees (free_at s) acts s.table.cores (λ now c. every_if Frees (shows_left (kept_now s) (holder_of (so_far s now) c)) (Free c ∷ []) [] (tt, tt) tt)

unban_none : (s : Setting) (c : ℕ) (o : Option BannedFor) → Every FreesNone (unban_for s c o)
unban_none s c None = tt
unban_none s c (Some ban) = every_if FreesNone (still_shows (kept_now s ban.thread) (sibling_of c) ban.started) [] (Unban c ∷ []) tt (tt, tt)

unbans_none : (s : Setting) (acts : List Action) → Every FreesNone (unbans s acts)
unbans_none s acts = every_in_turn FreesNone (unban_at s) acts s.table.cores (λ now c. unban_none s c (ban_of (so_far s now) c))

pub ban_none : (s : Setting) (x : List Action) (c : ℕ) (o : Option ℕ) → Every FreesNone (ban_for s x c o)
ban_none s x c None = tt
ban_none s x c (Some thread) = (tt, every_if FreesNone (is_held (holder_of x (sibling_of c))) (Revoke (sibling_of c) (causes.Ban c) ∷ []) [] (tt, tt) tt)

bans_none : (s : Setting) (acts : List Action) → Every FreesNone (bans s acts)
bans_none s acts = every_in_turn FreesNone (bans_at s) acts s.table.cores (λ now c. ban_none s (so_far s now) c (ban_due s (so_far s now) c))

cut_at_none : (s : Setting) (x : List Action) (t : ℕ) (o : Option ℕ) → Every FreesNone (cut_at s x t o)
cut_at_none s x t None = tt
cut_at_none s x t (Some core) = (tt, (tt, tt))

cut_none : (s : Setting) (x : List Action) (o : Option (Candidate ℕ)) → Every FreesNone (cut_of s x o)
cut_none s x None = tt
cut_none s x (Some victim) = cut_at_none s x victim.number (core_to_lose s x victim.number)

rise_none : (s : Setting) (x : List Action) (o : Option ℕ) → Every FreesNone (rise_of s x o)
rise_none s x None = tt
rise_none s x (Some t) = (tt, tt)

pub bandwidth_none : (s : Setting) (acts : List Action) → Every FreesNone (bandwidth_part s acts)
bandwidth_none s acts =
    let x = so_far s acts in
    every_if FreesNone (nat_lt s.table.bandwidth_limit s.input.bandwidth) (cut_of s x (victim_of s x)) (rise_of s x (lowest_below (is_capped s x) (length s.table.tasks)))
    (cut_none s x (victim_of s x)) (rise_none s x (lowest_below (is_capped s x) (length s.table.tasks)))

pub chosen_none : (s : Setting) (t : ℕ) (thread : Option (Candidate ℕ)) (core : Option (Candidate CoreClass)) → Every FreesNone (grant_of s t thread core)
chosen_none s t None core = tt
chosen_none s t (Some thread) None = tt
chosen_none s t (Some thread) (Some core) =
    every_if FreesNone (is_idle core.rank) (Grant core.number (thread_of s.table t thread.number) (class_number core.rank) ∷ []) (Revoke core.number (causes.Preempt t) ∷ []) (tt, tt) (tt, tt)

grant_none : (s : Setting) (acts : List Action) (t : ℕ) → Every FreesNone (grant_at s acts t)
grant_none s acts t =
    let x = so_far s acts in
    every_if FreesNone (is_congested s t && may_book s x t) (grant_of s t (thread_choice s x t) (choice_of s acts t)) [] (chosen_none s t (thread_choice s x t) (choice_of s acts t)) tt

critical_none : (s : Setting) (acts : List Action) → Every FreesNone (grants_of_kind kinds.LatencyCritical s acts)
critical_none s acts = every_in_turn FreesNone (grant_of_kind_at kinds.LatencyCritical s) acts (length s.table.tasks) (λ now t.
    every_if FreesNone (is_latency_critical s.table t) (grant_at s now t) [] (grant_none s now t) tt)

best_effort_none : (s : Setting) (acts : List Action) → Every FreesNone (grants_of_kind kinds.BestEffort s acts)
best_effort_none s acts = every_in_turn FreesNone (grant_of_kind_at kinds.BestEffort s) acts (length s.table.tasks) (λ now t.
    every_if FreesNone (is_latency_critical s.table t) [] (grant_at s now t) tt (grant_none s now t))

-- a pass frees cores first
pub pass_frees_first : (s : Setting) → FreesFirst (pass_of s)
pass_frees_first s =
    then_first _ _ (then_first _ _ (then_first _ _ (then_first _ _ (then_first _ _ (all_first (frees s []) (frees_all s [])) (unbans_none s _)) (bans_none s _)) (bandwidth_none s _))
    (critical_none s _)) (best_effort_none s _)

-- where no core is freed, a core that is being left is left by the same thread, and its last grant
-- is the same
left_step : (table : Table) (x : List Action) (a : Action) (c : ℕ) (p : placements.Placement) (cause : Cause) → fits_state table x a ≡ true → FreesNone a →
    holder_of x c ≡ holders.Leaving p cause → (holder_of (x ++ a ∷ []) c ≡ holders.Leaving p cause) × (last_placement (x ++ a ∷ []) c ≡ last_placement x c)
left_step table x (Free core) c p cause fits none e = absurd none
left_step table x (Unban core) c p cause fits none e = (holder_push x (Unban core) c ∙ e, last_placement_push x (Unban core) c)
left_step table x (Ban core thread started) c p cause fits none e = (holder_push x (Ban core thread started) c ∙ e, last_placement_push x (Ban core thread started) c)
left_step table x (Cap task cap) c p cause fits none e = (holder_push x (Cap task cap) c ∙ e, last_placement_push x (Cap task cap) c)
left_step table x (Revoke core v) c p cause fits none e = go (eqb core c) refl
  where
    go : (b : Bool) → eqb core c ≡ b → (holder_of (x ++ Revoke core v ∷ []) c ≡ holders.Leaving p cause) × (last_placement (x ++ Revoke core v ∷ []) c ≡ last_placement x c)
    go true is =
        let same : core ≡ c = grind (arith, nat_tests) in
        let held : is_held (holder_of x core) ≡ true = (and_parts _ (is_held (holder_of x core)) fits).1 in
        let other : is_held (holder_of x core) ≡ false = ap (λ n. is_held (holder_of x n)) same ∙ ap is_held e in
        let bad : true ≡ false = sym held ∙ other in cc
    go false is = (holder_push x (Revoke core v) c ∙ rw is e, last_placement_push x (Revoke core v) c)
left_step table x (Grant core thread class) c p cause fits none e = go (eqb core c) refl
  where
    go : (b : Bool) → eqb core c ≡ b → (holder_of (x ++ Grant core thread class ∷ []) c ≡ holders.Leaving p cause) × (last_placement (x ++ Grant core thread class ∷ []) c ≡ last_placement x c)
    go true is =
        let same : core ≡ c = grind (arith, nat_tests) in
        let free : is_free (holder_of x core) ≡ true = (and_parts _ (is_free (holder_of x core)) (and_parts _ _ fits).0).1 in
        let other : is_free (holder_of x core) ≡ false = ap (λ n. is_free (holder_of x n)) same ∙ ap is_free e in
        let bad : true ≡ false = sym free ∙ other in cc
    go false is = (holder_push x (Grant core thread class) c ∙ rw is e, last_placement_push x (Grant core thread class) c ∙ rw is refl)

left_stays : (s : Setting) (acts xs : List Action) (c : ℕ) (p : placements.Placement) (cause : Cause) → EachAfter (FitsSteady s) acts xs → Every FreesNone xs →
    holder_of (so_far s acts) c ≡ holders.Leaving p cause → last_placement (so_far s (acts ++ xs)) c ≡ last_placement (so_far s acts) c
left_stays s acts [] c p cause sound none e = rw append-nil refl
left_stays s acts (a ∷ xs) c p cause sound none e =
    let step = left_step s.table (so_far s acts) a c p cause sound.0.fits none.0 e in
    let here : holder_of (so_far s (acts ++ a ∷ [])) c ≡ holders.Leaving p cause = ap (λ x. holder_of x c) (so_far_push s acts a) ∙ step.0 in
    let same : last_placement (so_far s (acts ++ a ∷ [])) c ≡ last_placement (so_far s acts) c = ap (λ x. last_placement x c) (so_far_push s acts a) ∙ step.1 in
    ap (λ l. last_placement (so_far s l) c) (sym (append_assoc acts (a ∷ []) xs)) ∙ left_stays s (acts ++ a ∷ []) xs c p cause sound.1 none.1 here ∙ same

pub held_by_one : (h : Holder) → is_held h ≡ true → (p : placements.Placement) × (h ≡ holders.Held p)
held_by_one holders.Free e = cc
held_by_one (holders.Held p) e = (p, refl)
held_by_one (holders.Leaving p cause) e = cc

-- a core that is revoked is held by a thread of the table, by its last grant
pub record IsRevocable (table : Table) (x : List Action) (c : ℕ) (p : placements.Placement) : Type 0 where
  pub held : holder_of x c ≡ holders.Held p
  pub granted : last_placement x c ≡ Some p
  pub thread : p.thread < threads_of_table table

pub revocable : (s : Setting) (acts : List Action) (c : ℕ) (cause : Cause) → FitsSteady s acts (Revoke c cause) → (p : placements.Placement) × IsRevocable s.table (so_far s acts) c p
revocable s acts c cause sound =
    let x = so_far s acts in
    let held = held_by_one (holder_of x c) (and_parts _ (is_held (holder_of x c)) sound.fits).1 in (
      held.0,
      record {
        held = held.1;
        granted = sound.steady.granted c held.0 (ap placement_of held.1);
        thread = sound.steady.threads c held.0 (ap placement_of held.1);
      },
    )

revoked_here : (s : Setting) (acts xs : List Action) (c : ℕ) (cause : Cause) → EachAfter (FitsSteady s) acts (Revoke c cause ∷ xs) → Every FreesNone xs →
    last_placement (so_far s (acts ++ Revoke c cause ∷ xs)) c ≡ last_placement (so_far s acts) c
revoked_here s acts xs c cause sound none =
    let x = so_far s acts in
    let a = Revoke c cause in
    let it = revocable s acts c cause sound.0 in
    let own : eqb c c ≡ true = grind (arith, nat_tests) in
    let left : holder_of (so_far s (acts ++ a ∷ [])) c ≡ holders.Leaving it.0 cause = ap (λ l. holder_of l c) (so_far_push s acts a) ∙ holder_push x a c ∙ rw (own, it.1.granted) refl in
    let same : last_placement (so_far s (acts ++ a ∷ [])) c ≡ last_placement x c = ap (λ l. last_placement l c) (so_far_push s acts a) ∙ last_placement_push x a c in
    ap (λ l. last_placement (so_far s l) c) (sym (append_assoc acts (a ∷ []) xs)) ∙ left_stays s (acts ++ a ∷ []) xs c it.0 cause sound.1 none left ∙ same

-- at the end of a pass the last grant of a core that was revoked in it is that of the moment when
-- it was revoked
pub revoked_stays : (s : Setting) (acts xs : List Action) (i c : ℕ) (cause : Cause) → EachAfter (FitsSteady s) acts xs → FreesFirst xs → slice_get xs i ≡ Some (Revoke c cause) →
    last_placement (so_far s (acts ++ xs)) c ≡ last_placement (so_far s (acts ++ take i xs)) c
revoked_stays s acts [] i c cause sound first is = cc
revoked_stays s acts (a ∷ xs) zero c cause sound first is =
    let same : Revoke c cause ≡ a = cc in
    let P : Action → Type 0 = λ b. EachAfter (FitsSteady s) acts (b ∷ xs) → EndsFrees b xs → last_placement (so_far s (acts ++ b ∷ xs)) c ≡ last_placement (so_far s acts) c in
    let here = subst P same (λ so none. revoked_here s acts xs c cause so none) sound first.0 in
    here ∙ ap (λ l. last_placement (so_far s l) c) (sym (append-nil acts))
revoked_stays s acts (a ∷ xs) (suc i) c cause sound first is =
    ap (λ l. last_placement (so_far s l) c) (sym (append_assoc acts (a ∷ []) xs))
    ∙ revoked_stays s (acts ++ a ∷ []) xs i c cause sound.1 first.1 is
    ∙ ap (λ l. last_placement (so_far s l) c) (append_assoc acts (a ∷ []) (take i xs))
