-- What stands where a core is revoked: a thread with room holds it, whose task holds more than it
-- is guaranteed.
use Rattle.cal_laws.proofs.Common.{◌≡◌, ℕ, ◌<◌, ◌⊎◌, Bool, true, false, ◌&&◌, not, cond, eqb, ltb, nat_lt, List, [], ◌∷◌, ◌++◌, length, Option, Some, None, refl, sym, ap, ◌∙◌, arith, inl, inr, subst, append_assoc, ⊎_elim, MatchOption, and_parts, ltb-true, not-true, cases_lt, get_or_past, All-get_or, nat_tests, Table, IsTable, IsTask, sibling_of, owner_of, guaranteed_of, is_latency_critical, is_critical_kind, Action, Ban, Revoke, Cap, Cause, Candidate, CoreClass, Holder, actions_of, holder_of, is_banned, is_held, is_held_for, held_by, booked_by, is_over, Setting, so_far, has_room, is_held_with_room, may_ban_beside, may_be_emptied, too_long_on, can_lose, victim_of, victim_rank, task_misses, class_by, preempt_class, may_preempt, is_granted_in, none_leaves_for, class_of, fits_state, names_table, IsMade, IsRevokedForBan, IsRevokedForBandwidth, IsPreempted, ActionIsOneMore, ChosenIsOfLeastClass, VictimHasMostMisses, HasMostMisses, some_then}
use Rattle.cal_machine.specs.Tasks.{task_at, no_task}
use Rattle.cal_machine.specs.declared.task.Task.{Task}
use Rattle.cal_machine.specs.declared.task.Kind.{Kind}
use Rattle.cal_machine.specs.declared.task.Kind.TheVariants.{LatencyCritical, BestEffort}
use Rattle.cal_policy.specs.declared.history.action.Cause.TheVariants as causes
use Rattle.cal_policy.specs.declared.history.core_class.CoreClass.TheVariants as classes
use Rattle.cal_policy.specs.declared.board.holders.Placement as placements
use Rattle.cal_policy.specs.declared.board.holders.Holder.TheVariants as holders
use Rattle.cal_laws.proofs.ListLemmas.Below.{highest_is}
use Rattle.cal_laws.proofs.ChoiceLemmas.Chosen.{least_class}
use Rattle.cal_laws.proofs.ListLemmas.Counted.{count_some}
use Rattle.cal_laws.proofs.ExclusionLemmas.SameHolders.{held_same}
use Rattle.cal_policy.proofs.PassLemmas.RevokedStay.{held_by_one}

-- the core is held by a thread whose ring has room, and its task holds more than it is guaranteed
pub record IsRevocable (s : Setting) (x : List Action) (core : ℕ) : Type 0 where
  pub loser : placements.Placement
  pub held : holder_of x core ≡ holders.Held loser
  pub room : has_room s loser.thread ≡ true
  pub over : guaranteed_of s.table (owner_of s.table loser.thread) < held_by s.table x (owner_of s.table loser.thread)

-- a revocation that fits takes a core that is held
pub record TakesHeld (table : Table) (x : List Action) (core : ℕ) : Type 0 where
  pub low : core < table.cores
  pub loser : placements.Placement
  pub held : holder_of x core ≡ holders.Held loser

pub takes_held : (table : Table) (x : List Action) (core : ℕ) (cause : Cause) → fits_state table x (Revoke core cause) ≡ true → TakesHeld table x core
takes_held table x core cause fits =
    let both = and_parts (ltb core table.cores && names_table table cause) (is_held (holder_of x core)) fits in
    let first = and_parts (ltb core table.cores) (names_table table cause) both.0 in
    let place = held_by_one (holder_of x core) both.1 in
    record { low = ltb-true _ _ first.0; loser = place.0; held = place.1 }

-- a best-effort task is guaranteed nothing
kind_not_critical : (kind : Kind) → is_critical_kind kind ≡ false → kind ≡ BestEffort
kind_not_critical LatencyCritical e = cc
kind_not_critical BestEffort e = refl

pub nothing_guaranteed : (table : Table) (t : ℕ) → IsTable table → is_latency_critical table t ≡ false → guaranteed_of table t ≡ 0
nothing_guaranteed table t ok e = ⊎_elim
    (λ lt. (All-get_or IsTask table.tasks t no_task lt ok.each).best_effort (kind_not_critical (task_at table.tasks t).kind e))
    (λ ge. let kind_of : Task → Kind = λ task. task.kind in
    let none : is_latency_critical table t ≡ true = ap (λ task. is_critical_kind (kind_of task)) (get_or_past table.tasks t no_task ge) in cc)
    (cases_lt t (length table.tasks))

-- the holder's task holds the core
holds_for_owner : (table : Table) (h : Holder) (p : placements.Placement) → h ≡ holders.Held p → is_held_for table (owner_of table p.thread) h ≡ true
holds_for_owner table h p e =
    let same : eqb (owner_of table p.thread) (owner_of table p.thread) ≡ true = grind (arith, nat_tests) in
    ap (is_held_for table (owner_of table p.thread)) e ∙ same

-- so a best-effort task that holds a core is over
pub best_effort_over : (table : Table) (x : List Action) (core : ℕ) (p : placements.Placement) → IsTable table → core < table.cores → holder_of x core ≡ holders.Held p →
    is_latency_critical table (owner_of table p.thread) ≡ false → guaranteed_of table (owner_of table p.thread) < held_by table x (owner_of table p.thread)
best_effort_over table x core p ok low e best =
    let some = count_some (λ c. is_held_for table (owner_of table p.thread) (holder_of x c)) core table.cores low (holds_for_owner table (holder_of x core) p e) in
    omega (arith, some, nothing_guaranteed table (owner_of table p.thread) ok best)

after_ban : ActionIsOneMore → (s : Setting) (acts earlier : List Action) (core thread started : ℕ) → acts ≡ earlier ++ Ban core thread started ∷ [] → (c : ℕ) →
    holder_of (so_far s acts) c ≡ holder_of (so_far s earlier) c
after_ban more s acts earlier core thread started e c =
    ap (λ l. holder_of (so_far s l) c) e ∙ ap (λ l. holder_of l c) (sym (append_assoc (actions_of s.history) earlier (Ban core thread started ∷ [])))
    ∙ (more (so_far s earlier) (Ban core thread started)).holder c

pub after_cap : ActionIsOneMore → (s : Setting) (acts earlier : List Action) (task cap : ℕ) → acts ≡ earlier ++ Cap task cap ∷ [] → (c : ℕ) →
    holder_of (so_far s acts) c ≡ holder_of (so_far s earlier) c
after_cap more s acts earlier task cap e c =
    ap (λ l. holder_of (so_far s l) c) e ∙ ap (λ l. holder_of l c) (sym (append_assoc (actions_of s.history) earlier (Cap task cap ∷ [])))
    ∙ (more (so_far s earlier) (Cap task cap)).holder c

for_ban : ActionIsOneMore → (s : Setting) (acts : List Action) (core by : ℕ) → IsRevokedForBan s acts core by → TakesHeld s.table (so_far s acts) core → IsRevocable s (so_far s acts) core
for_ban more s acts core by m takes =
    let x : List Action = so_far s acts in
    let before : List Action = so_far s m.earlier in
    let same = after_ban more s acts m.earlier core m.thread _ m.just_before in
    let p = takes.loser in
    let t = owner_of s.table p.thread in
    let due = some_then (may_ban_beside s before by) (too_long_on s by (holder_of before by)) m.thread m.due.due in
    let may = and_parts (not (is_banned before by) && not (is_banned before (sibling_of by))) (may_be_emptied s before (holder_of before (sibling_of by))) due.0 in
    let there : holder_of before (sibling_of by) ≡ holders.Held p = ap (holder_of before) (sym m.beside) ∙ sym (same core) ∙ takes.held in
    let emptied : may_be_emptied s before (holders.Held p) ≡ true = ap (may_be_emptied s before) (sym there) ∙ may.1 in
    let both = and_parts (has_room s p.thread) (is_over s.table before t) emptied in
    record {
      loser = p;
      held = takes.held;
      room = both.0;
      over = omega (arith, ltb-true _ _ both.1, held_same s.table before x same t);
    }

room_of : (s : Setting) (h : Holder) (p : placements.Placement) → h ≡ holders.Held p → is_held_with_room s h ≡ true → has_room s p.thread ≡ true
room_of s h p e room = ap (is_held_with_room s) (sym e) ∙ room

held_for_owner : (table : Table) (t : ℕ) (h : Holder) (p : placements.Placement) → h ≡ holders.Held p → is_held_for table t h ≡ true → owner_of table p.thread ≡ t
held_for_owner table t h p e is =
    let same : eqb (owner_of table p.thread) t ≡ true = ap (is_held_for table t) (sym e) ∙ is in grind (arith, nat_tests)

-- the victim is a best-effort task
victim_best_effort : (s : Setting) (x : List Action) (o : Option (Candidate ℕ)) (victim : Candidate ℕ) → o ≡ Some victim →
    MatchOption o ((t : ℕ) → t < length s.table.tasks → victim_rank s x t ≡ None) (HasMostMisses s x) → is_latency_critical s.table victim.number ≡ false
victim_best_effort s x None victim e most = cc
victim_best_effort s x (Some v) victim e most =
    let same : v ≡ victim = cc in
    let P : Candidate ℕ → Type 0 = λ v. is_latency_critical s.table v.number ≡ false in
    let may = some_then _ (Some (task_misses s v.number)) v.rank most.may_be in
    subst P same (not-true _ (and_parts _ _ may.0).0)

for_bandwidth : ActionIsOneMore → VictimHasMostMisses → (s : Setting) (acts : List Action) (core : ℕ) → IsTable s.table → IsRevokedForBandwidth s acts core → TakesHeld s.table (so_far s acts) core →
    IsRevocable s (so_far s acts) core
for_bandwidth more most s acts core ok m takes =
    let before : List Action = so_far s m.earlier in
    let p = takes.loser in
    let there : holder_of before core ≡ holders.Held p = sym (after_cap more s acts m.earlier m.victim.number _ m.just_before core) ∙ takes.held in
    let loses = (highest_is (can_lose s before m.victim.number) s.table.cores core m.cut.highest).passes in
    let both = and_parts (is_held_for s.table m.victim.number (holder_of before core)) (is_held_with_room s (holder_of before core)) loses in
    let owner = held_for_owner s.table m.victim.number (holder_of before core) p there both.0 in
    let best = victim_best_effort s before (victim_of s before) m.victim m.cut.greatest (most s before) in
    record {
      loser = p;
      held = takes.held;
      room = room_of s (holder_of before core) p there both.1;
      over = best_effort_over s.table (so_far s acts) core p ok takes.low takes.held (ap (is_latency_critical s.table) owner ∙ best);
    }

-- a core with a class for which it may be revoked is of a best-effort task or of one that is over
pub preempt_over : (table : Table) (x : List Action) (t other : ℕ) (class : CoreClass) → preempt_class table x t other ≡ Some class →
    (is_latency_critical table other ≡ false) ⊎ (is_over table x other ≡ true)
preempt_over table x t other class e = choose (is_latency_critical table other) refl e
  where
    choose : (critical : Bool) → is_latency_critical table other ≡ critical →
        cond (not critical) (Some classes.BestEffortBurstable) (cond (nat_lt (booked_by table x t) (guaranteed_of table t) && not (eqb other t) && is_over table x other) (Some classes.LatencyCriticalBurstable) None) ≡ Some class →
        (is_latency_critical table other ≡ false) ⊎ (is_over table x other ≡ true)
    choose false is e = inl is
    choose true is e = inr (and_parts (nat_lt (booked_by table x t) (guaranteed_of table t) && not (eqb other t)) (is_over table x other)
        (some_then (nat_lt (booked_by table x t) (guaranteed_of table t) && not (eqb other t) && is_over table x other) (Some classes.LatencyCriticalBurstable) class e).0).1

-- what stands where a core is revoked for a task
pub record IsForTask (s : Setting) (acts : List Action) (core t : ℕ) (loser : placements.Placement) (class : CoreClass) : Type 0 where
  pub room : has_room s loser.thread ≡ true
  pub fresh : is_granted_in acts core ≡ false
  pub preempt : preempt_class s.table (so_far s acts) t (owner_of s.table loser.thread) ≡ Some class

is_for_task : ChosenIsOfLeastClass → (s : Setting) (acts : List Action) (core t : ℕ) → (m : IsPreempted s acts core t) → (takes : TakesHeld s.table (so_far s acts) core) →
    IsForTask s acts core t takes.loser m.choice.rank
is_for_task least s acts core t m takes =
    let x : List Action = so_far s acts in
    let p = takes.loser in
    let h : Holder = holders.Held p in
    let chosen : class_of s acts t core ≡ Some m.choice.rank =
    ap (class_of s acts t) m.number ∙ (least_class least s acts t m.choice m.chosen.least).class in
    let class : class_by s acts t core h ≡ Some m.choice.rank = ap (class_by s acts t core) (sym takes.held) ∙ chosen in
    let both = some_then (may_preempt s acts t core h) (preempt_class s.table x t (owner_of s.table p.thread)) m.choice.rank class in
    let third = and_parts (is_latency_critical s.table t && is_held_with_room s h && not (is_granted_in acts core)) (none_leaves_for s x t) both.0 in
    let second = and_parts (is_latency_critical s.table t && is_held_with_room s h) (not (is_granted_in acts core)) third.0 in
    let first = and_parts (is_latency_critical s.table t) (is_held_with_room s h) second.0 in
    record { room = first.1; fresh = not-true (is_granted_in acts core) second.1; preempt = both.1 }

-- a core that was granted in this pass is not revoked for a task
pub preempted_before_pass : ChosenIsOfLeastClass → (s : Setting) (acts : List Action) (core t : ℕ) → IsPreempted s acts core t → TakesHeld s.table (so_far s acts) core → is_granted_in acts core ≡ false
preempted_before_pass least s acts core t m takes = (is_for_task least s acts core t m takes).fresh

for_task : ChosenIsOfLeastClass → (s : Setting) (acts : List Action) (core t : ℕ) → IsTable s.table → IsPreempted s acts core t → TakesHeld s.table (so_far s acts) core → IsRevocable s (so_far s acts) core
for_task least s acts core t ok m takes =
    let x : List Action = so_far s acts in
    let p = takes.loser in
    let facts = is_for_task least s acts core t m takes in
    record {
      loser = p;
      held = takes.held;
      room = facts.room;
      over = ⊎_elim (λ best. best_effort_over s.table x core p ok takes.low takes.held best) (λ over. ltb-true _ _ over)
          (preempt_over s.table x t (owner_of s.table p.thread) m.choice.rank facts.preempt);
    }

-- wherever a core is revoked
pub revocable : ActionIsOneMore → ChosenIsOfLeastClass → VictimHasMostMisses → (s : Setting) (acts : List Action) (core : ℕ) (cause : Cause) → IsTable s.table →
    IsMade s acts (Revoke core cause) → TakesHeld s.table (so_far s acts) core → IsRevocable s (so_far s acts) core
revocable more least most s acts core (causes.Ban by) ok m takes = for_ban more s acts core by m takes
revocable more least most s acts core causes.Bandwidth ok m takes = for_bandwidth more most s acts core ok m takes
revocable more least most s acts core (causes.Preempt task) ok m takes = for_task least s acts core task ok m takes
