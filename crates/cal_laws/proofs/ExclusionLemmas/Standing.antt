-- Runs that were sent stand until they are left.
use Rattle.cal_laws.proofs.Common.{◌≡◌, ℕ, ◌+◌, ◌<◌, ◌≤◌, ◌⊎◌, zero, suc, Bool, true, false, cond, eqb, List, [], ◌∷◌, ◌++◌, length, take, Option, Some, None, refl, sym, ap, ◌∙◌, arith, inl, inr, subst, append_assoc, ⊎_elim, slice_get, eqb-true, nat_tests, Command, Run, Park, Table, Action, Free, Unban, Ban, Revoke, Cap, Grant, PassEntry, actions_of, holder_of, commands_to, command_to, sends, last_thread, placed, placement_of, Setting, setting_of, so_far, ActionIsOneMore, Point, actions_at, IsSafe, EachAction, IsSafeHistory, IsSafePoint, unwrap_if}
use Rattle.cal_policy.specs.declared.board.holders.Placement as placements
use Rattle.cal_policy.specs.declared.board.holders.Holder.TheVariants as holders
use Rattle.cal_laws.specs.Runs.{IsRunOf, IsThereBy, WasLeft, RunsStand}
use Rattle.cal_laws.proofs.ChoiceLemmas.Granted.{gives_free}
use Rattle.cal_laws.proofs.KeptLemmas.OnCore.{IsShownOff, IsFreed, stays}
use Rattle.cal_laws.proofs.PointLemmas.EachAction.{always, after_passes}
use Rattle.cal_machine.proofs.Places.{slice_get_parts}

-- the action is safe, and it is the next one at a point of the history where the setting and the
-- actions of the pass are these
record IsPlaced (table : Table) (history : List PassEntry) (s : Setting) (acts : List Action) (a : Action) : Type 0 where
  pub safe : IsSafe s acts a
  pub pass : ℕ
  pub entry : PassEntry
  pub made : ℕ
  pub is_pass : slice_get history pass ≡ Some entry
  pub setting : setting_of table (take pass history) entry ≡ s
  pub acts_made : take made entry.actions ≡ acts
  pub next : slice_get entry.actions made ≡ Some a

each_placed : (table : Table) (history : List PassEntry) → IsSafeHistory table history → EachAction (IsPlaced table history) table history
each_placed table history safe = record {
  at = λ p entry e i a f. record { safe = safe.actions.at p entry e i a f; pass = p; entry = entry; made = i; is_pass = e; setting = refl; acts_made = refl; next = f };
}

-- thread k's Run of core c
abbrev by : ℕ → ℕ → placements.Placement
by k number = record { thread = k; number = number }

-- the point of an action that is placed
abbrev point_of : (table : Table) (history : List PassEntry) (s : Setting) (acts : List Action) (a : Action) → IsPlaced table history s acts a → Point
point_of table history s acts a is = record { table = table; history = history; pass = is.pass; entry = is.entry; made = is.made }

all_made : (table : Table) (history : List PassEntry) (s : Setting) (acts : List Action) (a : Action) → (is : IsPlaced table history s acts a) →
    actions_at (point_of table history s acts a is) ≡ so_far s acts
all_made table history s acts a is =
    ap (λ (s : Setting). so_far s (take is.made is.entry.actions)) is.setting ∙ ap (λ (acts : List Action). so_far s acts) is.acts_made

-- a core that the action frees was left
freed_now : (table : Table) (history : List PassEntry) (s : Setting) (acts : List Action) (a : Action) → IsPlaced table history s acts a → (k number c : ℕ) →
    IsThereBy (so_far s acts) k number c → IsFreed s a c (by k number) → WasLeft table history (so_far s acts ++ a ∷ []) k number c
freed_now table history s acts a is k number c there freed =
    let made = all_made table history s acts a is in
    let P : List Action → Type 0 = λ x. IsThereBy x k number c in
    let Q : Setting → Type 0 = λ s. IsShownOff s (by k number) in
    let off = subst Q (sym is.setting) freed.off in record {
      pass = is.pass;
      entry = is.entry;
      made = is.made;
      is_pass = is.is_pass;
      left = record { there = subst P (sym made) there; frees = is.next ∙ ap (λ (b : Action). Some b) freed.frees; taken = off.taken; on_none = off.on_none };
      after = [];
      earlier = ap (λ (x : List Action). x ++ a ∷ []) (sym made) ∙ ap (λ (b : Action). actions_at (point_of table history s acts a is) ++ b ∷ []) freed.frees;
    }

-- what was left is left after one more action
left_still : (table : Table) (history : List PassEntry) (x : List Action) (a : Action) (k number c : ℕ) → WasLeft table history x k number c → WasLeft table history (x ++ a ∷ []) k number c
left_still table history x a k number c was =
    let here : Point = record { table = table; history = history; pass = was.pass; entry = was.entry; made = was.made } in record {
      pass = was.pass;
      entry = was.entry;
      made = was.made;
      is_pass = was.is_pass;
      left = was.left;
      after = was.after ++ a ∷ [];
      earlier = ap (λ (x : List Action). x ++ a ∷ []) was.earlier ∙ append_assoc (actions_at here) (Free c ∷ was.after) (a ∷ []);
    }

-- what one action sends
pub one_sent : (k : ℕ) (o : Option ℕ) (command z : Command) (j : ℕ) → slice_get (command_to k o command) j ≡ Some z → (j ≡ 0) × (o ≡ Some k) × (command ≡ z)
one_sent k None command z j e = let no : None ≡ Some z = e in cc
one_sent k (Some thread) command z j e = choose (eqb thread k) refl j e
  where
    choose : (b : Bool) → eqb thread k ≡ b → (j : ℕ) → slice_get (cond b (command ∷ []) []) j ≡ Some z → (j ≡ 0) × (Some thread ≡ Some k) × (command ≡ z)
    choose true is zero e = (refl, ap (λ (n : ℕ). Some n) (eqb-true thread k is), (let same : command ≡ z = cc in same))
    choose true is (suc j) e = let no : None ≡ Some z = e in cc
    choose false is j e = let no : None ≡ Some z = e in cc

-- a Run that is sent is of a core of the machine, and its thread has the core by it
record IsNew (table : Table) (x : List Action) (a : Action) (k c j : ℕ) : Type 0 where
  pub own : c < table.cores
  pub there : IsThereBy (x ++ a ∷ []) k (length (commands_to x k) + j + 1) c

granted : ActionIsOneMore → (table : Table) (x : List Action) (core thread class : ℕ) → core < table.cores → (k c j : ℕ) →
    (j ≡ 0) × (Some thread ≡ Some k) × (Run core ≡ Run c) → IsNew table x (Grant core thread class) k c j
granted more table x core thread class low k c j sent =
    let first = sent.0 in
    let at : core ≡ c = (let r = sent.2 in cc) in
    let to : thread ≡ k = (let r = sent.1 in cc) in
    let here : eqb core c ≡ true = grind (arith, nat_tests) in
    let holder : placement_of (holder_of (x ++ Grant core thread class ∷ []) c) ≡ Some (placed x thread) =
    ap placement_of ((more x (Grant core thread class)).holder c ∙ unwrap_if (eqb core c) (holders.Held (placed x thread)) (holder_of x c)
    ∙ ap (λ (b : Bool). cond b (holders.Held (placed x thread)) (holder_of x c)) here) in
    let end : length (commands_to x k) + 1 ≡ length (commands_to x k) + j + 1 = omega arith in
    record { own = subst (λ n. n < table.cores) at low; there = holder ∙ ap (λ n. Some (placed x n)) to ∙ ap (λ n. Some (by k n)) end }

new_run : ActionIsOneMore → (s : Setting) (acts : List Action) (a : Action) → IsSafe s acts a → (k c j : ℕ) → slice_get (sends k (so_far s acts) a) j ≡ Some (Run c) →
    IsNew s.table (so_far s acts) a k c j
new_run more s acts (Grant core thread class) safe k c j e =
    granted more s.table (so_far s acts) core thread class (gives_free s.table (so_far s acts) core thread class safe.fits).low k c j (one_sent k (Some thread) (Run core) (Run c) j e)
new_run more s acts (Revoke core cause) safe k c j e = let no : Park ≡ Run c = (one_sent k (last_thread (so_far s acts) core) Park (Run c) j e).2 in cc
new_run more s acts (Free core) safe k c j e = let no : None ≡ Some (Run c) = e in cc
new_run more s acts (Unban core) safe k c j e = let no : None ≡ Some (Run c) = e in cc
new_run more s acts (Ban core thread started) safe k c j e = let no : None ≡ Some (Run c) = e in cc
new_run more s acts (Cap task cap) safe k c j e = let no : None ≡ Some (Run c) = e in cc

-- a Run that was sent stood before the action, or the action sends it
parts : ActionIsOneMore → (x : List Action) (a : Action) (k number c : ℕ) → IsRunOf (x ++ a ∷ []) k number c →
    IsRunOf x k number c ⊎ ((j : ℕ) × (number ≡ length (commands_to x k) + j + 1) × (slice_get (sends k x a) j ≡ Some (Run c)))
parts more x a k number c is = ⊎_elim
    (λ old. inl (record { place = is.place; numbered = is.numbered; sent = old }))
    (λ new. inr (new.0, (let at = new.1 in let n = is.numbered in omega arith), new.2))
    (slice_get_parts (commands_to x k) (sends k x a) is.place (Run c) (ap (λ cs. slice_get cs is.place) (sym ((more x a).commands k)) ∙ is.sent))

step : ActionIsOneMore → (table : Table) (history before : List PassEntry) (entry : PassEntry) (acts : List Action) (a : Action) →
    IsPlaced table history (setting_of table before entry) acts a → RunsStand table history (actions_of before ++ acts) → RunsStand table history ((actions_of before ++ acts) ++ a ∷ [])
step more table history before entry acts a is was = record {
  own = λ k number c run. ⊎_elim (λ old. was.own k number c old) (λ new. (new_run more s acts a is.safe k c new.0 new.2).own) (parts more x a k number c run);
  stand = λ k number c run. ⊎_elim (λ old. old_stands k number c (was.stand k number c old))
      (λ new. inl (subst (λ n. IsThereBy (x ++ a ∷ []) k n c) (sym new.1) (new_run more s acts a is.safe k c new.0 new.2).there))
      (parts more x a k number c run);
}
  where
    s : Setting
    s = setting_of table before entry

    x : List Action
    x = actions_of before ++ acts

    old_stands : (k number c : ℕ) → IsThereBy x k number c ⊎ WasLeft table history x k number c → IsThereBy (x ++ a ∷ []) k number c ⊎ WasLeft table history (x ++ a ∷ []) k number c
    old_stands k number c old = ⊎_elim
        (λ there. ⊎_elim (λ stays. inl stays) (λ freed. inr (freed_now table history s acts a is k number c there freed)) (stays more s acts a is.safe c (by k number) there))
        (λ left. inr (left_still table history x a k number c left))
        old

pub runs_start : (table : Table) (history : List PassEntry) → RunsStand table history []
runs_start table history = record {
  own = λ k number c run. let no : None ≡ Some (Run c) = run.sent in cc;
  stand = λ k number c run. let no : None ≡ Some (Run c) = run.sent in cc;
}

-- at each point of a safe history
pub runs_at : ActionIsOneMore → (here : Point) → IsSafePoint here → RunsStand here.table here.history (actions_at here)
runs_at more here is = always (IsPlaced here.table here.history) here (each_placed here.table here.history is.history) is.entry is.made (RunsStand here.table here.history)
    (runs_start here.table here.history) (step more here.table here.history)

-- after each number of passes of a safe history
pub runs_after : ActionIsOneMore → (table : Table) (history : List PassEntry) → IsSafeHistory table history → (p : ℕ) → p ≤ length history → RunsStand table history (actions_of (take p history))
runs_after more table history safe = after_passes (IsPlaced table history) table history (each_placed table history safe) (RunsStand table history)
    (runs_start table history) (step more table history)
