-- A pass sends each thread at most one command.
use Rattle.cal_laws.proofs.Common.{◌≡◌, ◌≢◌, ℕ, ◌+◌, ◌*◌, ◌<◌, ◌≤◌, ◌⊎◌, zero, suc, Bool, true, false, not, ◌&&◌, cond, eqb, ltb, List, [], ◌∷◌, ◌++◌, length, take, Option, Some, None, refl, sym, ap, ◌∙◌, arith, inl, inr, subst, append_assoc, ⊎_elim, length-append, slice_get, is_some, option_map, option_or, eqb-true, ltb-true, and_parts, nat_tests, append-nil, All-pop, slice_get_cases, Command, Run, Park, ThreadsAreOfTheirTask, Table, IsTable, Action, Free, Unban, Ban, Revoke, Cap, Grant, Cause, PassEntry, actions_of, holder_of, last_placement, last_thread, commands_to, command_to, sent_to, sends, placed, placement_made, left_by, is_banned, is_free, is_held, is_with, cores_of_thread, placement_of, Setting, setting_of, so_far, is_granted_in, names_table, IsLegal, IsMade, EachAfter, IsPreempted, IsSound, LegalIsSound, ActionIsOneMore, LastThreadIsPlaced, ChosenHasWaitedLongest, ChosenIsOfLeastClass, Point, IsPoint, actions_at, HaveOneCore, turn_of, unwrap_if, each_at, take_next}
use Rattle.cal_policy.specs.declared.history.action.Cause.TheVariants as causes
use Rattle.cal_policy.specs.declared.board.holders.Placement as placements
use Rattle.cal_policy.specs.declared.board.holders.Holder.TheVariants as holders
use Rattle.cal_laws.proofs.ListLemmas.Counted.{count_none}
use Rattle.cal_laws.proofs.ExclusionLemmas.Excluded.{excludes_at, on_other, last_loser}
use Rattle.cal_laws.proofs.ChoiceLemmas.Granted.{gives_free, free_nobody}
use Rattle.cal_laws.proofs.PointLemmas.EachAction.{legal_safe, safe_point}
use Rattle.cal_laws.proofs.CauseLemmas.Revoked.{takes_held, preempted_before_pass}
use Rattle.cal_laws.proofs.OneEachLemmas.Turns.{Below, IsInTurn, pass_in_turn}
use Rattle.cal_policy.proofs.HistoryLemmas.FreshCores.{eqb_swap}

-- the thread was sent its command of this pass, by one of the actions acts: it is on a core, which
-- it is leaving or was granted in this pass
pub record IsServed (table : Table) (x acts : List Action) (k : ℕ) : Type 0 where
  pub core : ℕ
  pub low : core < table.cores
  pub place : placements.Placement
  pub there : placement_of (holder_of x core) ≡ Some place
  pub is : place.thread ≡ k
  pub after_unbans : (n : ℕ) → Below table n acts → 2 * table.cores < n
  pub granted : is_held (holder_of x core) ≡ true → is_granted_in acts core ≡ true
  pub in_last_part : is_held (holder_of x core) ≡ true → (n : ℕ) → Below table n acts → 4 * table.cores + 2 < n

below_before : (table : Table) (n : ℕ) (acts : List Action) (a : Action) → Below table n (acts ++ a ∷ []) → Below table n acts × (turn_of table a < n)
below_before table n acts a b = let both = All-pop (λ a. turn_of table a < n) (acts ++ a ∷ []) acts (Some a) refl b in (both.0, both.1)

-- what was granted in this pass stays granted in it
or_some : (o p : Option placements.Placement) → is_some (option_map (λ (p : placements.Placement). p.thread) p) ≡ true → is_some (option_map (λ (p : placements.Placement). p.thread) (option_or o p)) ≡ true
or_some None p e = e
or_some (Some q) p e = refl

granted_more : ActionIsOneMore → LastThreadIsPlaced → (acts : List Action) (a : Action) (c : ℕ) → is_granted_in acts c ≡ true → is_granted_in (acts ++ a ∷ []) c ≡ true
granted_more more last acts a c e =
    ap is_some (last (acts ++ a ∷ []) c ∙ ap (λ o. option_map (λ (p : placements.Placement). p.thread) o) ((more acts a).placement c))
    ∙ or_some (placement_made c acts a) (last_placement acts c) (sym (ap is_some (last acts c)) ∙ e)

granted_now : ActionIsOneMore → LastThreadIsPlaced → (acts : List Action) (core thread class : ℕ) → is_granted_in (acts ++ Grant core thread class ∷ []) core ≡ true
granted_now more last acts core thread class =
    let a : Action = Grant core thread class in
    let same : eqb core core ≡ true = grind (arith, nat_tests) in
    let made : placement_made core acts a ≡ Some (placed acts thread) = ap (λ (b : Bool). cond b (Some (placed acts thread)) None) same in
    ap is_some (last (acts ++ a ∷ []) core ∙ ap (λ o. option_map (λ (p : placements.Placement). p.thread) o) ((more acts a).placement core
    ∙ ap (λ o. option_or o (last_placement acts core)) made))

-- an action that leaves the thread's core as it is leaves it served
stays : ActionIsOneMore → LastThreadIsPlaced → (table : Table) (x acts : List Action) (a : Action) (k : ℕ) → (was : IsServed table x acts k) →
    holder_of (x ++ a ∷ []) was.core ≡ holder_of x was.core → IsServed table (x ++ a ∷ []) (acts ++ a ∷ []) k
stays more last table x acts a k was e = record {
  core = was.core;
  low = was.low;
  place = was.place;
  there = ap placement_of e ∙ was.there;
  is = was.is;
  after_unbans = λ n b. was.after_unbans n (below_before table n acts a b).0;
  granted = λ held. granted_more more last acts a was.core (was.granted (sym (ap is_held e) ∙ held));
  in_last_part = λ held n b. was.in_last_part (sym (ap is_held e) ∙ held) n (below_before table n acts a b).0;
}

-- nothing is sent, and it stays served
abbrev pub Rests : Table → List Action → List Action → Action → ℕ → Type 0
Rests table x acts a k = (length (sends k x a) ≡ 0) × IsServed table (x ++ a ∷ []) (acts ++ a ∷ []) k

not_sent : (k thread : ℕ) (command : Command) → eqb thread k ≡ false → length (command_to k (Some thread) command) ≡ 0
not_sent k thread command e = ap (λ (b : Bool). length (cond b (command ∷ []) [])) e

granted_rests : ActionIsOneMore → LastThreadIsPlaced → (table : Table) (x acts : List Action) (core thread class k : ℕ) → is_free (holder_of x core) ≡ true → cores_of_thread table x thread ≡ 0 →
    IsServed table x acts k → Rests table x acts (Grant core thread class) k
granted_rests more last table x acts core thread class k free none was =
    let off : eqb core was.core ≡ false = apart (eqb core was.core) refl in
    let on_none = count_none (λ c. is_with thread (holder_of x c)) was.core table.cores was.low none in
    let other : eqb thread k ≡ false = ap (eqb thread) (sym was.is) ∙ eqb_swap thread was.place.thread ∙ on_other thread (holder_of x was.core) was.place on_none was.there in
    let same = (more x (Grant core thread class)).holder was.core ∙ unwrap_if (eqb core was.core) (holders.Held (placed x thread)) (holder_of x was.core)
    ∙ ap (λ (b : Bool). cond b (holders.Held (placed x thread)) (holder_of x was.core)) off in
    (not_sent k thread (Run core) other, stays more last table x acts (Grant core thread class) k was same)
  where
    apart : (b : Bool) → eqb core was.core ≡ b → eqb core was.core ≡ false
    apart false e = e
    apart true e = let same = eqb-true core was.core e in absurd (free_nobody (holder_of x core) was.place free (ap (λ n. placement_of (holder_of x n)) same ∙ was.there))

-- only the last part's revocations come after a grant
last_cause : (table : Table) (core : ℕ) (cause : Cause) → names_table table cause ≡ true → 4 * table.cores + 2 < turn_of table (Revoke core cause) → (task : ℕ) × (cause ≡ causes.Preempt task)
last_cause table core (causes.Ban by) named lt = let low = ltb-true by table.cores named in absurd (omega (arith, lt, low))
last_cause table core causes.Bandwidth named lt = absurd (omega (arith, lt))
last_cause table core (causes.Preempt task) named lt = (task, refl)

-- a thread that was granted a core in this pass does not lose it in it
not_lost : ChosenIsOfLeastClass → (s : Setting) (acts : List Action) (core : ℕ) (cause : Cause) → IsSound s acts (Revoke core cause) → IsInTurn s.table acts (Revoke core cause) →
    (k : ℕ) → (was : IsServed s.table (so_far s acts) acts k) → was.core ≡ core → ⊥
not_lost least s acts core cause sound turn k was same =
    let x : List Action = so_far s acts in
    let takes = takes_held s.table x core cause sound.fits in
    let held : is_held (holder_of x was.core) ≡ true = ap (λ n. is_held (holder_of x n)) same ∙ ap is_held takes.held in
    let low = and_parts (ltb core s.table.cores && names_table s.table cause) (is_held (holder_of x core)) sound.fits in
    let named = and_parts (ltb core s.table.cores) (names_table s.table cause) low.0 in
    let last = last_cause s.table core cause named.1 (was.in_last_part held (turn_of s.table (Revoke core cause)) turn) in
    let M : Cause → Type 0 = λ cause. IsMade s acts (Revoke core cause) in
    let made : IsPreempted s acts core last.0 = subst M last.1 sound.made in
    let fresh = preempted_before_pass least s acts core last.0 made takes in
    let granted : is_granted_in acts core ≡ true = ap (is_granted_in acts) (sym same) ∙ was.granted held in cc

revoked_rests : ActionIsOneMore → LastThreadIsPlaced → ChosenIsOfLeastClass → (s : Setting) (acts : List Action) (core : ℕ) (cause : Cause) (k : ℕ) → IsSound s acts (Revoke core cause) →
    IsInTurn s.table acts (Revoke core cause) → HaveOneCore s.table (so_far s acts) → IsServed s.table (so_far s acts) acts k → Rests s.table (so_far s acts) acts (Revoke core cause) k
revoked_rests more last least s acts core cause k sound turn one was =
    let x : List Action = so_far s acts in
    let takes = takes_held s.table x core cause sound.fits in
    let loser = takes.loser in
    let apart : was.core ≢ core = λ same. not_lost least s acts core cause sound turn k was same in
    let other : loser.thread ≢ k = λ same. apart (sym (one core was.core loser was.place takes.low was.low (ap placement_of takes.held) was.there (same ∙ sym was.is))) in
    let off : eqb core was.core ≡ false = grind (arith, nat_tests) in
    let elsewhere : eqb loser.thread k ≡ false = grind (arith, nat_tests) in
    let thread = last_loser x core loser (last x core) (sound.steady.granted core loser (ap placement_of takes.held)) in
    let same = (more x (Revoke core cause)).holder was.core ∙ unwrap_if (eqb core was.core) (left_by (last_placement x core) cause) (holder_of x was.core)
    ∙ ap (λ (b : Bool). cond b (left_by (last_placement x core) cause) (holder_of x was.core)) off in
    (ap (λ o. length (command_to k o Park)) thread ∙ not_sent k loser.thread Park elsewhere, stays more last s.table x acts (Revoke core cause) k was same)

-- a thread that was served is sent nothing more
rests : ActionIsOneMore → LastThreadIsPlaced → ChosenIsOfLeastClass → (s : Setting) (acts : List Action) (a : Action) (k : ℕ) → IsSound s acts a → IsInTurn s.table acts a →
    HaveOneCore s.table (so_far s acts) → IsServed s.table (so_far s acts) acts k → Rests s.table (so_far s acts) acts a k
rests more last least s acts (Free core) k sound turn one was =
    let low = ltb-true core s.table.cores (and_parts (ltb core s.table.cores) (not (is_free (holder_of (so_far s acts) core))) sound.fits).0 in
    absurd (let no = was.after_unbans (turn_of s.table (Free core)) turn in omega (arith, low, no))
rests more last least s acts (Unban core) k sound turn one was =
    let low = ltb-true core s.table.cores (and_parts (ltb core s.table.cores) (is_banned (so_far s acts) core) sound.fits).0 in
    absurd (let no = was.after_unbans (turn_of s.table (Unban core)) turn in omega (arith, low, no))
rests more last least s acts (Ban core thread started) k sound turn one was =
    (refl, stays more last s.table (so_far s acts) acts (Ban core thread started) k was ((more (so_far s acts) (Ban core thread started)).holder was.core))
rests more last least s acts (Cap task cap) k sound turn one was = (refl, stays more last s.table (so_far s acts) acts (Cap task cap) k was ((more (so_far s acts) (Cap task cap)).holder was.core))
rests more last least s acts (Revoke core cause) k sound turn one was = revoked_rests more last least s acts core cause k sound turn one was
rests more last least s acts (Grant core thread class) k sound turn one was =
    let gives = gives_free s.table (so_far s acts) core thread class sound.fits in
    granted_rests more last s.table (so_far s acts) acts core thread class k gives.free gives.on_none was

-- what an action sends to a thread that was not served: nothing, or the one command that serves it
abbrev pub Serves : Table → List Action → List Action → Action → ℕ → Type 0
Serves table x acts a k = (length (sends k x a) ≡ 0) ⊎ ((length (sends k x a) ≡ 1) × IsServed table (x ++ a ∷ []) (acts ++ a ∷ []) k)

sent_one : (k thread : ℕ) (command : Command) → eqb thread k ≡ true → length (command_to k (Some thread) command) ≡ 1
sent_one k thread command e = ap (λ (b : Bool). length (cond b (command ∷ []) [])) e

granted_serves : ActionIsOneMore → LastThreadIsPlaced → (table : Table) (x acts : List Action) (core thread class k : ℕ) → core < table.cores → (b : Bool) → eqb thread k ≡ b →
    Serves table x acts (Grant core thread class) k
granted_serves more last table x acts core thread class k low false e = inl (not_sent k thread (Run core) e)
granted_serves more last table x acts core thread class k low true e =
    let a : Action = Grant core thread class in
    let same : eqb core core ≡ true = grind (arith, nat_tests) in
    let holder : holder_of (x ++ a ∷ []) core ≡ holders.Held (placed x thread) = (more x a).holder core ∙ unwrap_if (eqb core core) (holders.Held (placed x thread)) (holder_of x core)
    ∙ ap (λ (b : Bool). cond b (holders.Held (placed x thread)) (holder_of x core)) same in
    inr (
      sent_one k thread (Run core) e,
      record {
        core = core;
        low = low;
        place = placed x thread;
        there = ap placement_of holder;
        is = eqb-true thread k e;
        after_unbans = λ n b. let lt = (below_before table n acts a b).1 in omega (arith, lt);
        granted = λ held. granted_now more last acts core thread class;
        in_last_part = λ held n b. let lt = (below_before table n acts a b).1 in omega (arith, lt);
      },
    )

revocation_late : (table : Table) (core : ℕ) (cause : Cause) → 2 * table.cores ≤ turn_of table (Revoke core cause)
revocation_late table core (causes.Ban by) = omega arith
revocation_late table core causes.Bandwidth = omega arith
revocation_late table core (causes.Preempt task) = omega arith

revoked_serves : ActionIsOneMore → (table : Table) (x acts : List Action) (core : ℕ) (cause : Cause) (loser : placements.Placement) (k : ℕ) → core < table.cores → last_placement x core ≡ Some loser →
    last_thread x core ≡ Some loser.thread → (b : Bool) → eqb loser.thread k ≡ b → Serves table x acts (Revoke core cause) k
revoked_serves more table x acts core cause loser k low placed_last thread false e = inl (ap (λ o. length (command_to k o Park)) thread ∙ not_sent k loser.thread Park e)
revoked_serves more table x acts core cause loser k low placed_last thread true e =
    let a : Action = Revoke core cause in
    let same : eqb core core ≡ true = grind (arith, nat_tests) in
    let holder : holder_of (x ++ a ∷ []) core ≡ holders.Leaving loser cause = (more x a).holder core ∙ unwrap_if (eqb core core) (left_by (last_placement x core) cause) (holder_of x core)
    ∙ ap (λ (b : Bool). cond b (left_by (last_placement x core) cause) (holder_of x core)) same ∙ ap (λ o. left_by o cause) placed_last in
    inr (
      ap (λ o. length (command_to k o Park)) thread ∙ sent_one k loser.thread Park e,
      record {
        core = core;
        low = low;
        place = loser;
        there = ap placement_of holder;
        is = eqb-true loser.thread k e;
        after_unbans = λ n b. let lt = (below_before table n acts a b).1 in let from = revocation_late table core cause in omega (arith, lt, from);
        granted = λ held. (let no : is_held (holders.Leaving loser cause) ≡ true = sym (ap is_held holder) ∙ held in cc);
        in_last_part = λ held n b. absurd (let no : is_held (holders.Leaving loser cause) ≡ true = sym (ap is_held holder) ∙ held in cc);
      },
    )

serves : ActionIsOneMore → LastThreadIsPlaced → (s : Setting) (acts : List Action) (a : Action) (k : ℕ) → IsSound s acts a → Serves s.table (so_far s acts) acts a k
serves more last s acts (Free core) k sound = inl refl
serves more last s acts (Unban core) k sound = inl refl
serves more last s acts (Ban core thread started) k sound = inl refl
serves more last s acts (Cap task cap) k sound = inl refl
serves more last s acts (Grant core thread class) k sound =
    granted_serves more last s.table (so_far s acts) acts core thread class k (gives_free s.table (so_far s acts) core thread class sound.fits).low (eqb thread k) refl
serves more last s acts (Revoke core cause) k sound =
    let x : List Action = so_far s acts in
    let takes = takes_held s.table x core cause sound.fits in
    let placed_last = sound.steady.granted core takes.loser (ap placement_of takes.held) in
    revoked_serves more s.table x acts core cause takes.loser k takes.low placed_last (last_loser x core takes.loser (last x core) placed_last) (eqb takes.loser.thread k) refl

-- how many commands a thread was sent in this pass: none, or one that serves it
abbrev pub HasBeenSent : Setting → List Action → ℕ → Type 0
HasBeenSent s acts k = (sent_to (so_far s acts) k ≡ sent_to (actions_of s.history) k)
    ⊎ ((sent_to (so_far s acts) k ≡ sent_to (actions_of s.history) k + 1) × IsServed s.table (so_far s acts) acts k)

step : ActionIsOneMore → LastThreadIsPlaced → ChosenIsOfLeastClass → (s : Setting) (acts : List Action) (a : Action) (k : ℕ) → IsSound s acts a → IsInTurn s.table acts a →
    HaveOneCore s.table (so_far s acts) → HasBeenSent s acts k → HasBeenSent s (acts ++ a ∷ []) k
step more last least s acts a k sound turn one was =
    let x : List Action = so_far s acts in
    let same : x ++ a ∷ [] ≡ so_far s (acts ++ a ∷ []) = append_assoc (actions_of s.history) acts (a ∷ []) in
    let counted : sent_to (x ++ a ∷ []) k ≡ sent_to x k + length (sends k x a) = ap length ((more x a).commands k) ∙ length-append (commands_to x k) (sends k x a) in
    let P : List Action → Type 0 = λ y. (sent_to y k ≡ sent_to (actions_of s.history) k) ⊎ ((sent_to y k ≡ sent_to (actions_of s.history) k + 1) × IsServed s.table y (acts ++ a ∷ []) k) in
    subst P same (⊎_elim
    (λ none. ⊎_elim (λ zero_sent. inl (omega (arith, none, counted, zero_sent))) (λ one_sent. let sent = one_sent.0 in inr (omega (arith, none, counted, sent), one_sent.1))
    (serves more last s acts a k sound))
    (λ served. let r = rests more last least s acts a k sound turn one served.1 in let had = served.0 in let sent = r.0 in inr (omega (arith, had, counted, sent), r.1))
    was)

within_pass : LegalIsSound → ActionIsOneMore → LastThreadIsPlaced → ChosenIsOfLeastClass → ChosenHasWaitedLongest → ThreadsAreOfTheirTask → (table : Table) (history : List PassEntry) → IsTable table →
    IsLegal table history → (p : ℕ) (entry : PassEntry) → slice_get history p ≡ Some entry → (k i : ℕ) → i ≤ length entry.actions →
    HasBeenSent (setting_of table (take p history) entry) (take i entry.actions) k
within_pass sound more last least longest numbered table history ok legal p entry e k zero le = inl (ap (λ x. sent_to x k) (append-nil (actions_of (take p history))))
within_pass sound more last least longest numbered table history ok legal p entry e k (suc i) le = ⊎_elim
    (λ found.
    let s : Setting = setting_of table (take p history) entry in
    let acts : List Action = take i entry.actions in
    let a : Action = found.0 in
    let one : suc i ≡ i + 1 = omega arith in
    let at : acts ++ a ∷ [] ≡ take (suc i) entry.actions = sym (ap (λ n. take n entry.actions) one ∙ take_next entry.actions i a found.2) in
    let here : Point = record { table = table; history = history; pass = p; entry = entry; made = i } in
    let excludes = excludes_at more last here (safe_point (legal_safe sound) here (record { table = ok; legal = legal; entry = e; made = omega (arith, le) })) in
    let E : List Action → Type 0 = λ acts. EachAfter (IsInTurn table) [] acts in
    let each = subst E (sym (legal.passes p entry e).actions) (pass_in_turn numbered longest s) in
    let P : List Action → Type 0 = λ acts. HasBeenSent s acts k in
    subst P at (step more last least s acts a k (sound table history ok legal p entry e i a found.2) (each_at (IsInTurn table) [] entry.actions i a each found.2) excludes.one
    (within_pass sound more last least longest numbered table history ok legal p entry e k i (omega (arith, le)))))
    (λ past. absurd (let no = past.0 in omega (arith, le, no)))
    (slice_get_cases entry.actions i).1

pub at_most_one : LegalIsSound → ActionIsOneMore → LastThreadIsPlaced → ChosenIsOfLeastClass → ChosenHasWaitedLongest → ThreadsAreOfTheirTask → (here : Point) → IsPoint here → (k : ℕ) →
    sent_to (actions_at here) k ≤ sent_to (actions_of (take here.pass here.history)) k + 1
at_most_one sound more last least longest numbered here is k = ⊎_elim
    (λ none. omega (arith, none))
    (λ served. let one = served.0 in omega (arith, one))
    (within_pass sound more last least longest numbered here.table here.history is.table is.legal here.pass here.entry is.entry k here.made is.made)
