-- Each action of a pass keeps threads on one core each, by the last Run that was sent to them.
use Rattle.cal_laws.proofs.Common.{◌≡◌, ◌≢◌, ℕ, ◌<◌, ◌≤◌, Bool, true, false, cond, eqb, List, [], ◌∷◌, ◌++◌, length, take, Some, None, refl, sym, ap, ◌∙◌, arith, subst, append_assoc, option_map, append-nil, nat_tests, Command, Run, Park, Table, Action, Free, Unban, Ban, Revoke, Cap, Grant, Cause, PassEntry, Holder, actions_of, holder_of, last_placement, last_thread, commands_to, command_to, placed, left_by, is_with, cores_of_thread, placement_of, setting_of, IsSteady, ActionIsOneMore, LastThreadIsPlaced, Point, actions_at, IsSafe, IsSafeHistory, IsSafePoint, HaveOneCore, WasRun, IsByLastRun, unwrap_if}
use Rattle.cal_policy.specs.declared.board.holders.Placement as placements
use Rattle.cal_policy.specs.declared.board.holders.Holder.TheVariants as holders
use Rattle.cal_laws.proofs.PointLemmas.EachAction.{always, after_passes}
use Rattle.cal_laws.proofs.ListLemmas.Counted.{count_none}
use Rattle.cal_laws.proofs.CauseLemmas.Revoked.{TakesHeld, takes_held}
use Rattle.cal_laws.proofs.ChoiceLemmas.Granted.{gives_free}
use Rattle.cal_policy.proofs.PassLemmas.Steady.{free_place}
use Rattle.cal_policy.proofs.HistoryLemmas.FreshCores.{eqb_swap}

-- threads have one core each, by their last Run
pub record Excludes (table : Table) (x : List Action) : Type 0 where
  pub one : HaveOneCore table x
  pub runs : (c : ℕ) → c < table.cores → IsByLastRun x c (holder_of x c)

pub excludes_start : (table : Table) → Excludes table []
excludes_start table = record {
  one = λ c d p q lt low e f same. let no : None ≡ Some p = e in cc;
  runs = λ c lt. tt;
}

-- what was sent to others changes nothing
run_kept : (x y : List Action) (c : ℕ) (h : Holder) → ((p : placements.Placement) → placement_of h ≡ Some p → commands_to y p.thread ≡ commands_to x p.thread) →
    IsByLastRun x c h → IsByLastRun y c h
run_kept x y c holders.Free e r = tt
run_kept x y c (holders.Held p) e r = record { earlier = r.earlier; commands = e p refl ∙ r.commands; number = r.number }
run_kept x y c (holders.Leaving p cause) e r = record { earlier = r.earlier; commands = e p refl ∙ r.commands; number = r.number }

-- no core is with another thread than before
one_kept : (table : Table) (x y : List Action) → ((c : ℕ) (p : placements.Placement) → placement_of (holder_of y c) ≡ Some p → placement_of (holder_of x c) ≡ Some p) →
    HaveOneCore table x → HaveOneCore table y
one_kept table x y e one = λ c d p q lt low f g same. one c d p q lt low (e c p f) (e d q g) same

-- an action that changes no holder and sends nothing
quiet : (table : Table) (x y : List Action) → ((c : ℕ) → holder_of y c ≡ holder_of x c) → ((k : ℕ) → commands_to y k ≡ commands_to x k) → Excludes table x → Excludes table y
quiet table x y e f was = record {
  one = one_kept table x y (λ c p is. ap placement_of (sym (e c)) ∙ is) was.one;
  runs = λ c lt. let P : Holder → Type 0 = λ h. IsByLastRun y c h in
      subst P (sym (e c)) (run_kept x y c (holder_of x c) (λ p there. f p.thread) (was.runs c lt));
}

freed_run : (y : List Action) (c : ℕ) (b : Bool) (h : Holder) → IsByLastRun y c h → IsByLastRun y c (cond b holders.Free h)
freed_run y c true h r = tt
freed_run y c false h r = r

freed : ActionIsOneMore → (table : Table) (x : List Action) (core : ℕ) → Excludes table x → Excludes table (x ++ Free core ∷ [])
freed more table x core was =
    let y : List Action = x ++ Free core ∷ [] in
    let step = more x (Free core) in
    let holder : (c : ℕ) → holder_of y c ≡ cond (eqb core c) holders.Free (holder_of x c) = λ c. step.holder c ∙ unwrap_if (eqb core c) holders.Free (holder_of x c) in record {
      one = one_kept table x y (λ c p is. free_place (eqb core c) (holder_of x c) p (ap placement_of (sym (holder c)) ∙ is)) was.one;
      runs = λ c lt. let P : Holder → Type 0 = λ h. IsByLastRun y c h in
          subst P (sym (holder c)) (freed_run y c (eqb core c) (holder_of x c)
          (run_kept x y c (holder_of x c) (λ p there. step.commands p.thread ∙ append-nil (commands_to x p.thread)) (was.runs c lt)));
    }

-- what is sent to a thread is not sent to another
sent_elsewhere : (xs : List Command) (thread k : ℕ) (command : Command) → eqb thread k ≡ false → xs ++ command_to k (Some thread) command ≡ xs
sent_elsewhere xs thread k command e = ap (λ (b : Bool). xs ++ cond b (command ∷ []) []) e ∙ append-nil xs

sent_there : (xs : List Command) (thread : ℕ) (command : Command) → xs ++ command_to thread (Some thread) command ≡ xs ++ command ∷ []
sent_there xs thread command = let same : eqb thread thread ≡ true = grind (arith, nat_tests) in ap (λ (b : Bool). xs ++ cond b (command ∷ []) []) same

-- a core that is revoked
revoked_place : (x : List Action) (core c : ℕ) (loser : placements.Placement) (cause : Cause) → holder_of x core ≡ holders.Held loser → (b : Bool) → eqb core c ≡ b →
    (p : placements.Placement) → placement_of (cond b (holders.Leaving loser cause) (holder_of x c)) ≡ Some p → placement_of (holder_of x c) ≡ Some p
revoked_place x core c loser cause held true t p e =
    let same : core ≡ c = grind (arith, nat_tests) in ap (λ n. placement_of (holder_of x n)) (sym same) ∙ ap placement_of held ∙ e
revoked_place x core c loser cause held false t p e = e

revoked_run : (x y : List Action) (core c : ℕ) (loser : placements.Placement) (cause : Cause) → WasRun x core loser [] → commands_to y loser.thread ≡ commands_to x loser.thread ++ Park ∷ [] →
    (b : Bool) → eqb core c ≡ b → (eqb core c ≡ false → IsByLastRun y c (holder_of x c)) → IsByLastRun y c (cond b (holders.Leaving loser cause) (holder_of x c))
revoked_run x y core c loser cause run sent true t other =
    let same : core ≡ c = grind (arith, nat_tests) in
    let P : ℕ → Type 0 = λ n. WasRun y n loser (Park ∷ []) in
    subst P same (record {
      earlier = run.earlier;
      commands = sent ∙ ap (λ xs. xs ++ Park ∷ []) run.commands ∙ append_assoc run.earlier (Run core ∷ []) (Park ∷ []);
      number = run.number;
    })
revoked_run x y core c loser cause run sent false t other = other t

pub last_loser : (x : List Action) (core : ℕ) (loser : placements.Placement) → last_thread x core ≡ option_map (λ (p : placements.Placement). p.thread) (last_placement x core) →
    last_placement x core ≡ Some loser → last_thread x core ≡ Some loser.thread
last_loser x core loser e f = e ∙ ap (λ o. option_map (λ (p : placements.Placement). p.thread) o) f

revoked : ActionIsOneMore → LastThreadIsPlaced → (table : Table) (x : List Action) (core : ℕ) (cause : Cause) → IsSteady table x → TakesHeld table x core → Excludes table x →
    Excludes table (x ++ Revoke core cause ∷ [])
revoked more placed_last table x core cause steady takes was =
    let y : List Action = x ++ Revoke core cause ∷ [] in
    let step = more x (Revoke core cause) in
    let loser = takes.loser in
    let last : last_placement x core ≡ Some loser = steady.granted core loser (ap placement_of takes.held) in
    let holder : (c : ℕ) → holder_of y c ≡ cond (eqb core c) (holders.Leaving loser cause) (holder_of x c) =
    λ c. step.holder c ∙ unwrap_if (eqb core c) (left_by (last_placement x core) cause) (holder_of x c) ∙ ap (λ o. cond (eqb core c) (left_by o cause) (holder_of x c)) last in
    let commands : (k : ℕ) → commands_to y k ≡ commands_to x k ++ command_to k (Some loser.thread) Park =
    λ k. step.commands k ∙ ap (λ o. commands_to x k ++ command_to k o Park) (last_loser x core loser (placed_last x core) last) in
    let there : IsByLastRun x core (holders.Held loser) = (let P : Holder → Type 0 = λ h. IsByLastRun x core h in subst P takes.held (was.runs core takes.low)) in
    record {
      one = one_kept table x y (λ c p is. revoked_place x core c loser cause takes.held (eqb core c) refl p (ap placement_of (sym (holder c)) ∙ is)) was.one;
      runs = λ c lt. let P : Holder → Type 0 = λ h. IsByLastRun y c h in
          subst P (sym (holder c)) (revoked_run x y core c loser cause there (commands loser.thread ∙ sent_there (commands_to x loser.thread) loser.thread Park) (eqb core c) refl
          (λ off. run_kept x y c (holder_of x c)
          (λ p is. commands p.thread ∙ sent_elsewhere (commands_to x p.thread) loser.thread p.thread Park
          (other_thread table x core c loser p was.one takes.low lt (ap placement_of takes.held) is off)) (was.runs c lt)));
    }
  where
    other_thread : (table : Table) (x : List Action) (core c : ℕ) (loser p : placements.Placement) → HaveOneCore table x → core < table.cores → c < table.cores →
        placement_of (holder_of x core) ≡ Some loser → placement_of (holder_of x c) ≡ Some p → eqb core c ≡ false → eqb loser.thread p.thread ≡ false
    other_thread table x core c loser p one low lt e f off =
        let ne : core ≢ c = grind (arith, nat_tests) in
        let apart : loser.thread ≢ p.thread = λ same. ne (one core c loser p low lt e f same) in grind (arith, nat_tests)

-- a core that is granted
pub on_other : (k : ℕ) (h : Holder) (p : placements.Placement) → is_with k h ≡ false → placement_of h ≡ Some p → eqb p.thread k ≡ false
on_other k holders.Free p e is = cc
on_other k (holders.Held q) p e is = let same : q ≡ p = cc in let P : placements.Placement → Type 0 = λ q. eqb q.thread k ≡ false in subst P same e
on_other k (holders.Leaving q cause) p e is = let same : q ≡ p = cc in let P : placements.Placement → Type 0 = λ q. eqb q.thread k ≡ false in subst P same e

not_equal : (a b : ℕ) → eqb a b ≡ false → a ≡ b → ⊥
not_equal a b e same = grind (arith, nat_tests)

granted_one : (core c d : ℕ) (hc hd : Holder) (new p q : placements.Placement) (bc bd : Bool) → eqb core c ≡ bc → eqb core d ≡ bd →
    placement_of (cond bc (holders.Held new) hc) ≡ Some p → placement_of (cond bd (holders.Held new) hd) ≡ Some q → p.thread ≡ q.thread →
    (placement_of hc ≡ Some p → eqb p.thread new.thread ≡ false) → (placement_of hd ≡ Some q → eqb q.thread new.thread ≡ false) →
    (placement_of hc ≡ Some p → placement_of hd ≡ Some q → c ≡ d) → c ≡ d
granted_one core c d hc hd new p q true true t u e f same offc offd was = grind (arith, nat_tests)
granted_one core c d hc hd new p q true false t u e f same offc offd was =
    let is : new ≡ p = cc in
    let thread : placements.Placement → ℕ = λ r. r.thread in
    absurd (not_equal q.thread new.thread (offd f) (sym (ap thread is ∙ same)))
granted_one core c d hc hd new p q false true t u e f same offc offd was =
    let is : new ≡ q = cc in
    let thread : placements.Placement → ℕ = λ r. r.thread in
    absurd (not_equal p.thread new.thread (offc e) (same ∙ sym (ap thread is)))
granted_one core c d hc hd new p q false false t u e f same offc offd was = was e f

granted_run : (x y : List Action) (core thread c : ℕ) → commands_to y thread ≡ commands_to x thread ++ Run core ∷ [] → (b : Bool) → eqb core c ≡ b →
    IsByLastRun y c (holder_of x c) → IsByLastRun y c (cond b (holders.Held (placed x thread)) (holder_of x c))
granted_run x y core thread c sent true t other =
    let same : core ≡ c = grind (arith, nat_tests) in
    let P : ℕ → Type 0 = λ n. WasRun y n (placed x thread) [] in
    subst P same (record { earlier = commands_to x thread; commands = sent; number = refl })
granted_run x y core thread c sent false t other = other

granted : ActionIsOneMore → (table : Table) (x : List Action) (core thread class : ℕ) → cores_of_thread table x thread ≡ 0 → Excludes table x → Excludes table (x ++ Grant core thread class ∷ [])
granted more table x core thread class none was =
    let y : List Action = x ++ Grant core thread class ∷ [] in
    let new : placements.Placement = placed x thread in
    let step = more x (Grant core thread class) in
    let holder : (c : ℕ) → holder_of y c ≡ cond (eqb core c) (holders.Held new) (holder_of x c) = λ c. step.holder c ∙ unwrap_if (eqb core c) (holders.Held new) (holder_of x c) in
    let off : (c : ℕ) (p : placements.Placement) → c < table.cores → placement_of (holder_of x c) ≡ Some p → eqb p.thread thread ≡ false =
    λ c p lt is. on_other thread (holder_of x c) p (count_none (λ c. is_with thread (holder_of x c)) c table.cores lt none) is in
    record {
      one = λ c d p q lt low e f same. granted_one core c d (holder_of x c) (holder_of x d) new p q (eqb core c) (eqb core d) refl refl
          (ap placement_of (sym (holder c)) ∙ e) (ap placement_of (sym (holder d)) ∙ f) same (off c p lt) (off d q low) (λ i j. was.one c d p q lt low i j same);
      runs = λ c lt. let P : Holder → Type 0 = λ h. IsByLastRun y c h in
          subst P (sym (holder c)) (granted_run x y core thread c (step.commands thread ∙ sent_there (commands_to x thread) thread (Run core)) (eqb core c) refl
          (run_kept x y c (holder_of x c)
          (λ p is. step.commands p.thread ∙ sent_elsewhere (commands_to x p.thread) thread p.thread (Run core) (eqb_swap thread p.thread ∙ off c p lt is)) (was.runs c lt)));
    }

-- any action
step : ActionIsOneMore → LastThreadIsPlaced → (table : Table) (before : List PassEntry) (entry : PassEntry) (acts : List Action) (a : Action) →
    IsSafe (setting_of table before entry) acts a → Excludes table (actions_of before ++ acts) → Excludes table ((actions_of before ++ acts) ++ a ∷ [])
step more last table before entry acts (Free core) safe was = freed more table (actions_of before ++ acts) core was
step more last table before entry acts (Revoke core cause) safe was =
    revoked more last table (actions_of before ++ acts) core cause safe.steady (takes_held table (actions_of before ++ acts) core cause safe.fits) was
step more last table before entry acts (Grant core thread class) safe was =
    granted more table (actions_of before ++ acts) core thread class (gives_free table (actions_of before ++ acts) core thread class safe.fits).on_none was
step more last table before entry acts (Unban core) safe was =
    let x = actions_of before ++ acts in let one = more x (Unban core) in quiet table x _ one.holder (λ k. one.commands k ∙ append-nil (commands_to x k)) was
step more last table before entry acts (Ban core thread started) safe was =
    let x = actions_of before ++ acts in let one = more x (Ban core thread started) in quiet table x _ one.holder (λ k. one.commands k ∙ append-nil (commands_to x k)) was
step more last table before entry acts (Cap task cap) safe was =
    let x = actions_of before ++ acts in let one = more x (Cap task cap) in quiet table x _ one.holder (λ k. one.commands k ∙ append-nil (commands_to x k)) was

-- at each point threads have one core each, by their last Run
pub excludes_at : ActionIsOneMore → LastThreadIsPlaced → (here : Point) → IsSafePoint here → Excludes here.table (actions_at here)
excludes_at more last here is = always IsSafe here is.history.actions is.entry is.made (Excludes here.table) (excludes_start here.table) (step more last here.table)

-- and after each number of passes
pub excludes_after : ActionIsOneMore → LastThreadIsPlaced → (table : Table) (history : List PassEntry) → IsSafeHistory table history → (p : ℕ) → p ≤ length history →
    Excludes table (actions_of (take p history))
excludes_after more last table history safe = after_passes IsSafe table history safe.actions (Excludes table) (excludes_start table) (step more last table)
