-- A Run that is live stands: through a pass its core stays with its thread.
use Rattle.cal_world.proofs.Common.{◌≡◌, ℕ, ◌+◌, ◌<◌, ◌⊎◌, Bool, true, false, cond, eqb, List, [], ◌∷◌, ◌++◌, length, take, Some, None, refl, sym, ap, ◌∙◌, arith, subst, append_assoc, ⊎_elim, slice_get, unwrap_or, eqb-true, nat_tests, append-nil, take-append_seam, take-length, Run, Park, Table, Record, Action, PassEntry, Holder, actions_of, holder_of, holder_made, commands_to, sends, last_thread, last_placement, left_by, placed, placement_of, Setting, setting_of, so_far, kept_now, shows_left, has_left, IsPermittedHistory, ActionIsOneMore, PermittedIsSafe, slice_get_parts, slice_get_seam}
use Rattle.cal_policy.specs.declared.history.action.Action.TheVariants.{Free, Unban, Ban, Revoke, Cap, Grant}
use Rattle.cal_policy.specs.declared.history.action.Cause.{Cause}
use Rattle.cal_policy.specs.declared.board.holders.Placement as placements
use Rattle.cal_policy.specs.declared.board.holders.Holder.TheVariants as holders
use Rattle.cal_policy.specs.Board.Counts.{is_free}
use Rattle.cal_policy.specs.Pass.Steady.{IsSteady}
use Rattle.cal_laws.specs.Safe.{IsSafe}
use Rattle.cal_laws.proofs.ChoiceLemmas.Granted.{gives_free, free_nobody}
use Rattle.cal_world.proofs.ListLemmas.OneMore.{of_each_part}
use Rattle.cal_machine.proofs.Booleans.{unwrap_if}
use Rattle.cal_laws.proofs.ExclusionLemmas.Standing.{one_sent}

-- the placement of thread k by the command at this place among those sent to it
abbrev pub by_run : ℕ → ℕ → placements.Placement
by_run k place = record { thread = k; number = place + 1 }

-- each live Run that was sent is of a core of the machine that its thread holds or leaves, by this
-- Run
pub record RunsStand (table : Table) (x : List Action) (live : ℕ → ℕ → Type 0) : Type 0 where
  pub low : (k place c : ℕ) → slice_get (commands_to x k) place ≡ Some (Run c) → live k place → c < table.cores
  pub there : (k place c : ℕ) → slice_get (commands_to x k) place ≡ Some (Run c) → live k place → placement_of (holder_of x c) ≡ Some (by_run k place)

-- no kept record shows that the core of a live Run was left
abbrev pub NoneLeft : (ℕ → Record) → (ℕ → ℕ → Type 0) → Type 0
NoneLeft kept live = (k place : ℕ) → live k place → has_left (kept k) (place + 1) ≡ true → ⊥

-- a core whose thread was shown to have left
left_shown : (kept : ℕ → Record) (h : Holder) (p : placements.Placement) → placement_of h ≡ Some p → shows_left kept h ≡ true → has_left (kept p.thread) p.number ≡ true
left_shown kept holders.Free p e left = cc
left_shown kept (holders.Held q) p e left =
    let same : q ≡ p = cc in let P : placements.Placement → Type 0 = λ p. has_left (kept p.thread) p.number ≡ true in subst P same left
left_shown kept (holders.Leaving q cause) p e left =
    let same : q ≡ p = cc in let P : placements.Placement → Type 0 = λ p. has_left (kept p.thread) p.number ≡ true in subst P same left

-- after an action that gives the core this holder, the core of a placement that the action leaves
-- is with it still
placed_after : ActionIsOneMore → (x : List Action) (a : Action) (core c : ℕ) (h : Holder) (p : placements.Placement) → holder_made c x a ≡ cond (eqb core c) (Some h) None →
    placement_of (holder_of x c) ≡ Some p → (core ≡ c → placement_of h ≡ Some p) → placement_of (holder_of (x ++ a ∷ []) c) ≡ Some p
placed_after more x a core c h p made e here = choose (eqb core c) refl
  where
    after : (b : Bool) → eqb core c ≡ b → placement_of (holder_of (x ++ a ∷ []) c) ≡ placement_of (cond b h (holder_of x c))
    after b f = ap placement_of ((more x a).holder c ∙ ap (λ o. unwrap_or o (holder_of x c)) made ∙ unwrap_if (eqb core c) h (holder_of x c) ∙ ap (λ (b : Bool). cond b h (holder_of x c)) f)

    choose : (b : Bool) → eqb core c ≡ b → placement_of (holder_of (x ++ a ∷ []) c) ≡ Some p
    choose true f = after true f ∙ here (eqb-true core c f)
    choose false f = after false f ∙ e

unchanged : ActionIsOneMore → (x : List Action) (a : Action) (c : ℕ) (p : placements.Placement) → holder_made c x a ≡ None → placement_of (holder_of x c) ≡ Some p →
    placement_of (holder_of (x ++ a ∷ []) c) ≡ Some p
unchanged more x a c p none e = ap placement_of ((more x a).holder c) ∙ ap (λ o. placement_of (unwrap_or o (holder_of x c))) none ∙ e

-- the action leaves the placements of live Runs, and the Runs that it sends stand
record LeavesRuns (table : Table) (x : List Action) (a : Action) (live : ℕ → ℕ → Type 0) : Type 0 where
  old : (k place c : ℕ) → live k place → placement_of (holder_of x c) ≡ Some (by_run k place) → placement_of (holder_of (x ++ a ∷ []) c) ≡ Some (by_run k place)
  new_low : (k c j : ℕ) → slice_get (sends k x a) j ≡ Some (Run c) → c < table.cores
  new_there : (k c j : ℕ) → slice_get (sends k x a) j ≡ Some (Run c) → placement_of (holder_of (x ++ a ∷ []) c) ≡ Some (by_run k (length (commands_to x k) + j))

runs_after : ActionIsOneMore → (table : Table) (x : List Action) (a : Action) (live : ℕ → ℕ → Type 0) → RunsStand table x live → LeavesRuns table x a live → RunsStand table (x ++ a ∷ []) live
runs_after more table x a live was leaves = record {
  low = λ k place c e l. ⊎_elim (λ old. was.low k place c old l) (λ new. leaves.new_low k c new.0 new.2) (parts k place c e);
  there = λ k place c e l. ⊎_elim
      (λ old. leaves.old k place c l (was.there k place c old l))
      (λ new. let P : ℕ → Type 0 = λ n. placement_of (holder_of (x ++ a ∷ []) c) ≡ Some (by_run k n) in subst P (sym new.1) (leaves.new_there k c new.0 new.2))
      (parts k place c e);
}
  where
    parts : (k place c : ℕ) → slice_get (commands_to (x ++ a ∷ []) k) place ≡ Some (Run c) →
        (slice_get (commands_to x k) place ≡ Some (Run c)) ⊎ ((j : ℕ) × (place ≡ length (commands_to x k) + j) × (slice_get (sends k x a) j ≡ Some (Run c)))
    parts k place c e = slice_get_parts (commands_to x k) (sends k x a) place (Run c) (ap (λ cs. slice_get cs place) (sym ((more x a).commands k)) ∙ e)

-- a core that is freed
freed : ActionIsOneMore → (s : Setting) (acts : List Action) (core : ℕ) (live : ℕ → ℕ → Type 0) → shows_left (kept_now s) (holder_of (so_far s acts) core) ≡ true → NoneLeft (kept_now s) live →
    LeavesRuns s.table (so_far s acts) (Free core) live
freed more s acts core live left none =
    let x : List Action = so_far s acts in record {
      old = λ k place c l e. placed_after more x (Free core) core c holders.Free (by_run k place) refl e
          (λ same. absurd (none k place l (left_shown (kept_now s) (holder_of x c) (by_run k place) e (ap (λ n. shows_left (kept_now s) (holder_of x n)) (sym same) ∙ left))));
      new_low = λ k c j e. let no : None ≡ Some (Run c) = e in cc;
      new_there = λ k c j e. let no : None ≡ Some (Run c) = e in cc;
    }

-- a core that is revoked is left by the thread that had it
revoked : ActionIsOneMore → (s : Setting) (acts : List Action) (core : ℕ) (cause : Cause) (live : ℕ → ℕ → Type 0) → IsSteady s.table (so_far s acts) →
    LeavesRuns s.table (so_far s acts) (Revoke core cause) live
revoked more s acts core cause live steady =
    let x : List Action = so_far s acts in record {
      old = λ k place c l e. placed_after more x (Revoke core cause) core c (left_by (last_placement x core) cause) (by_run k place) refl e
          (λ same. ap (λ n. placement_of (left_by (last_placement x n) cause)) same ∙ ap (λ o. placement_of (left_by o cause)) (steady.granted c (by_run k place) e));
      new_low = λ k c j e. let no : Park ≡ Run c = (one_sent k (last_thread x core) Park (Run c) j e).2 in cc;
      new_there = λ k c j e. let no : Park ≡ Run c = (one_sent k (last_thread x core) Park (Run c) j e).2 in cc;
    }

-- a core that is granted was free, and is held by the Run that is sent
granted : ActionIsOneMore → (s : Setting) (acts : List Action) (core thread class : ℕ) (live : ℕ → ℕ → Type 0) → core < s.table.cores → is_free (holder_of (so_far s acts) core) ≡ true →
    LeavesRuns s.table (so_far s acts) (Grant core thread class) live
granted more s acts core thread class live low free =
    let x : List Action = so_far s acts in record {
      old = λ k place c l e. placed_after more x (Grant core thread class) core c (holders.Held (placed x thread)) (by_run k place) refl e
          (λ same. absurd (free_nobody (holder_of x c) (by_run k place) (ap (λ n. is_free (holder_of x n)) (sym same) ∙ free) e));
      new_low = λ k c j e. let sent = one_sent k (Some thread) (Run core) (Run c) j e in let same : core ≡ c = (let r = sent.2 in cc) in subst (λ n. n < s.table.cores) same low;
      new_there = λ k c j e. held k c j (one_sent k (Some thread) (Run core) (Run c) j e);
    }
  where
    held : (k c j : ℕ) → (j ≡ 0) × (Some thread ≡ Some k) × (Run core ≡ Run c) →
        placement_of (holder_of (so_far s acts ++ Grant core thread class ∷ []) c) ≡ Some (by_run k (length (commands_to (so_far s acts) k) + j))
    held k c j sent =
        let x : List Action = so_far s acts in
        let first = sent.0 in
        let at : core ≡ c = (let r = sent.2 in cc) in
        let by : thread ≡ k = (let r = sent.1 in cc) in
        let here : eqb core c ≡ true = grind (arith, nat_tests) in
        let holder : placement_of (holder_of (x ++ Grant core thread class ∷ []) c) ≡ Some (placed x thread) =
        ap placement_of ((more x (Grant core thread class)).holder c ∙ unwrap_if (eqb core c) (holders.Held (placed x thread)) (holder_of x c)
        ∙ ap (λ (b : Bool). cond b (holders.Held (placed x thread)) (holder_of x c)) here) in
        let end : length (commands_to x k) ≡ length (commands_to x k) + j = omega arith in
        holder ∙ ap (λ n. Some (placed x n)) by ∙ ap (λ n. Some (by_run k n)) end

-- the other actions
quiet : ActionIsOneMore → (table : Table) (x : List Action) (a : Action) (live : ℕ → ℕ → Type 0) → ((c : ℕ) → holder_made c x a ≡ None) → ((k : ℕ) → sends k x a ≡ []) → LeavesRuns table x a live
quiet more table x a live none silent = record {
  old = λ k place c l e. unchanged more x a c (by_run k place) (none c) e;
  new_low = λ k c j e. let no : None ≡ Some (Run c) = ap (λ cs. slice_get cs j) (sym (silent k)) ∙ e in cc;
  new_there = λ k c j e. let no : None ≡ Some (Run c) = ap (λ cs. slice_get cs j) (sym (silent k)) ∙ e in cc;
}

leaves : ActionIsOneMore → (s : Setting) (acts : List Action) (a : Action) (live : ℕ → ℕ → Type 0) → NoneLeft (kept_now s) live → IsSafe s acts a → LeavesRuns s.table (so_far s acts) a live
leaves more s acts (Free core) live none sound = freed more s acts core live sound.left none
leaves more s acts (Revoke core cause) live none sound = revoked more s acts core cause live sound.steady
leaves more s acts (Grant core thread class) live none sound =
    let gives = gives_free s.table (so_far s acts) core thread class sound.fits in granted more s acts core thread class live gives.low gives.free
leaves more s acts (Unban core) live none sound = quiet more s.table (so_far s acts) (Unban core) live (λ c. refl) (λ k. refl)
leaves more s acts (Ban core thread started) live none sound = quiet more s.table (so_far s acts) (Ban core thread started) live (λ c. refl) (λ k. refl)
leaves more s acts (Cap task cap) live none sound = quiet more s.table (so_far s acts) (Cap task cap) live (λ c. refl) (λ k. refl)

-- the sound actions of one more pass
pub sound_last : PermittedIsSafe → (table : Table) (history : List PassEntry) (entry : PassEntry) → IsPermittedHistory table (history ++ entry ∷ []) →
    (i : ℕ) (a : Action) → slice_get entry.actions i ≡ Some a → IsSafe (setting_of table history entry) (take i entry.actions) a
sound_last sound table history entry legal i a e =
    let P : List PassEntry → Type 0 = λ before. IsSafe (setting_of table before entry) (take i entry.actions) a in
    subst P (take-append_seam history (entry ∷ [])) ((sound table (history ++ entry ∷ []) legal).actions.at (length history) entry (slice_get_seam history entry []) i a e)

-- through a pass in which no core of a live Run was shown to be left, live Runs stand
pub runs_through_pass : PermittedIsSafe → ActionIsOneMore → (table : Table) (history : List PassEntry) (entry : PassEntry) (live : ℕ → ℕ → Type 0) → IsPermittedHistory table (history ++ entry ∷ []) →
    NoneLeft (kept_now (setting_of table history entry)) live → RunsStand table (actions_of history) live → RunsStand table (actions_of history ++ entry.actions) live
runs_through_pass sound more table history entry live legal none was =
    subst (λ acts. RunsStand table (actions_of history ++ acts) live) (take-length entry.actions) (of_each_part entry.actions P begin step (length entry.actions) (omega arith))
  where
    P : List Action → Type 0
    P acts = RunsStand table (actions_of history ++ acts) live

    begin : P []
    begin = subst (λ x. RunsStand table x live) (sym (append-nil (actions_of history))) was

    step : (i : ℕ) (a : Action) → slice_get entry.actions i ≡ Some a → P (take i entry.actions) → P (take i entry.actions ++ a ∷ [])
    step i a e now =
        let s : Setting = setting_of table history entry in
        let acts : List Action = take i entry.actions in
        subst (λ x. RunsStand table x live) (append_assoc (actions_of history) acts (a ∷ []))
        (runs_after more table (so_far s acts) a live now (leaves more s acts a live none (sound_last sound table history entry legal i a e)))
