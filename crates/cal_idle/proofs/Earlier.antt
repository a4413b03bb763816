-- Where a pass of Caladan's policy does nothing, it does nothing at an earlier clock.
use Rattle.std.proofs.Common.{◌≡◌, ℕ, suc, zero, ◌-◌, ◌<◌, ◌≤◌, ◌&&◌, ◌||◌, Bool, true, false, not, cond, eqb, ltb, nat_lt, max, List, [], ◌∷◌, ◌++◌, length, Option, Some, None, refl, sym, ap, ◌∙◌, subst, arith, ⊎_elim}
use Rattle.std.proofs.lemmas.Bool.{and_from, and_parts, ltb-true, lt-ltb, cases_lt}
use Rattle.std.specs.Option.{is_some}
use Rattle.cal_machine.specs.declared.task.Kind.{Kind}
use Rattle.cal_machine.specs.declared.task.Kind.TheVariants as kinds
use Rattle.cal_machine.specs.Table.{Table}
use Rattle.cal_machine.specs.TableTasks.{owner_of, thread_of, limit_of, delay_of, request_of, is_latency_critical}
use Rattle.cal_signal.specs.declared.record.Record.{Record}
use Rattle.cal_signal.specs.Records.{shows_on}
use Rattle.cal_policy.specs.declared.board.holders.Holder.{Holder}
use Rattle.cal_policy.specs.declared.board.holders.Holder.TheVariants as holders
use Rattle.cal_policy.specs.declared.history.action.Action.{Action}
use Rattle.cal_policy.specs.declared.history.action.Action.TheVariants.{Revoke, Grant}
use Rattle.cal_policy.specs.declared.history.action.Cause.TheVariants as causes
use Rattle.cal_policy.specs.declared.history.core_class.CoreClass.{CoreClass}
use Rattle.cal_policy.specs.declared.history.entry.PassEntry.{PassEntry}
use Rattle.cal_policy.specs.declared.history.input.Input.{Input}
use Rattle.cal_policy.specs.declared.pass.choice.Candidate.{Candidate}
use Rattle.cal_policy.specs.declared.policy.Policy.TheVariants.{Caladan}
use Rattle.cal_policy.specs.History.{holder_of}
use Rattle.cal_policy.specs.History.CoreClasses.{class_number, is_idle}
use Rattle.cal_policy.specs.History.Lists.{in_turn}
use Rattle.cal_policy.specs.Board.Counts.{cores_of_thread}
use Rattle.cal_policy.specs.Pass.{pass_of, followed}
use Rattle.cal_policy.specs.Pass.Bandwidth.{bandwidth_part}
use Rattle.cal_policy.specs.Pass.Bans.{unbans, runs_too_long, too_long_on, may_ban_beside, ban_due, ban_for, bans_at, bans}
use Rattle.cal_policy.specs.Pass.Choice.{greatest_below, better, best_below}
use Rattle.cal_policy.specs.Pass.Frees.{frees}
use Rattle.cal_policy.specs.Pass.Grants.{waited, record_delay, thread_delay, task_delay, is_congested, may_book, thread_rank, thread_choice, choice_of, grant_of, grant_at, grant_of_kind_at, grants_of_kind}
use Rattle.cal_policy.specs.Setting.{Setting, setting, so_far, kept_now, has_room}
use Rattle.cal_policy.specs.Judgement.Judging.{IsInput}
use Rattle.cal_policy.proofs.PolicyLemmas.{pass_input, pass_actions, pass_from}
use Rattle.cal_idle.proofs.Going.{change_by, pass_there}
use Rattle.cal_idle.specs.Idle.{IsIdle, GoesByWhatIsLeft}
use Rattle.cal_idle.specs.Earlier.{at_clock, entry_at, DoesNothingEarlier, IdlePassesMayComeEarlier}

-- ---- lists of nothing ----

append_none : {X : Type 0} (xs ys : List X) → xs ++ ys ≡ [] → (xs ≡ []) × (ys ≡ [])
append_none [] ys e = (refl, e)
append_none (x ∷ xs) ys e = absurd (cc)

-- where all turns do nothing, each does nothing at the start, and the other way round
turns_none : (f : List Action → ℕ → List Action) (n : ℕ) → in_turn f [] n ≡ [] → (k : ℕ) → k < n → f [] k ≡ []
turns_none f zero e k lt = absurd (omega (arith, lt))
turns_none f (suc n) e k lt =
    let parts = append_none (in_turn f [] n) (f (in_turn f [] n) n) e in
    let last : f [] n ≡ [] = subst (λ l. f l n ≡ []) parts.0 parts.1 in
    ⊎_elim (λ low. turns_none f n parts.0 k low) (λ high. let same : k ≡ n = omega (arith, lt, high) in ap (f []) same ∙ last) (cases_lt k n)

none_turns : (f : List Action → ℕ → List Action) (n : ℕ) → ((k : ℕ) → k < n → f [] k ≡ []) → in_turn f [] n ≡ []
none_turns f zero each = refl
none_turns f (suc n) each = ap (λ l. l ++ f l n) (none_turns f n (λ k lt. each k (omega (arith, lt)))) ∙ each n (omega arith)

turns_too : (f g : List Action → ℕ → List Action) (n : ℕ) → ((k : ℕ) → f [] k ≡ [] → g [] k ≡ []) → in_turn f [] n ≡ [] → in_turn g [] n ≡ []
turns_too f g n too e = none_turns g n (λ k lt. too k (turns_none f n e k lt))

-- so it is with parts
part_none : (acts : List Action) (part : List Action → List Action) → followed acts part ≡ [] → (acts ≡ []) × (part [] ≡ [])
part_none acts part e = let parts = append_none acts (part acts) e in (parts.0, subst (λ l. part l ≡ []) parts.0 parts.1)

none_part : (acts : List Action) (part : List Action → List Action) → acts ≡ [] → part [] ≡ [] → followed acts part ≡ []
none_part acts part e f = ap (λ l. l ++ part l) e ∙ f

-- ---- choices ----

fewer : (a b c : Bool) → (b ≡ true → c ≡ true) → (a && c) ≡ false → (a && b) ≡ false
fewer true false c up e = refl
fewer false false c up e = refl
fewer a true c up e = subst (λ x. (a && x) ≡ false) (up refl) e

cond_too : {X : Type 0} (b : Bool) (o p : X) (none : X) → (o ≡ none → p ≡ none) → cond b o none ≡ none → cond b p none ≡ none
cond_too true o p none too e = too e
cond_too false o p none too e = refl

cond_else : {X : Type 0} (b : Bool) (o p : X) (none : X) → (o ≡ none → p ≡ none) → cond b none o ≡ none → cond b none p ≡ none
cond_else true o p none too e = refl
cond_else false o p none too e = too e

some_not : (b : Bool) (k : ℕ) → ◌≡◌ {A = Option ℕ} (cond b (Some k) None) None → b ≡ false
some_not true k e = absurd (cc)
some_not false k e = refl

better_some : {R : Type 0} (beats : R → R → Bool) (a : Option (Candidate R)) (o : Option R) (n : ℕ) → is_some (better beats a o n) ≡ (is_some a || is_some o)
better_some beats None None n = refl
better_some beats None (Some r) n = refl
better_some beats (Some a) None n = refl
better_some beats (Some a) (Some r) n = either (beats r a.rank)
  where
    either : (b : Bool) → is_some (cond b (Some (record { rank = r; number = n })) (Some a)) ≡ true
    either true = refl
    either false = refl

best_some : {R : Type 0} (beats : R → R → Bool) (f g : ℕ → Option R) (n : ℕ) → ((k : ℕ) → is_some (f k) ≡ is_some (g k)) → is_some (best_below beats f n) ≡ is_some (best_below beats g n)
best_some beats f g zero same = refl
best_some beats f g (suc n) same =
    better_some beats (best_below beats f n) (f n) n ∙ (λ i. best_some beats f g n same i || same n i) ∙ sym (better_some beats (best_below beats g n) (g n) n)

rank_some : (b : Bool) (u v : ℕ) → is_some (cond b (Some u) None) ≡ is_some (cond b (Some v) None)
rank_some true u v = refl
rank_some false u v = refl

-- ---- delays ----

waited_more : (now later : ℕ) (there : Bool) (came : ℕ) → now ≤ later → waited now there came ≤ waited later there came
waited_more now later there came le = go (there && ltb came now) refl
  where
    go : (b : Bool) → (there && ltb came now) ≡ b → cond b (now - came) 0 ≤ cond (there && ltb came later) (later - came) 0
    go false e = omega arith
    go true e =
        let both = and_parts there (ltb came now) e in
        let low : came < now = ltb-true came now both.1 in
        let still : (there && ltb came later) ≡ true = and_from there (ltb came later) both.0 (lt-ltb came later (omega (arith, low, le))) in
        subst (λ b. now - came ≤ cond b (later - came) 0) (sym still) (omega (arith, le))

greater : (a b c d : ℕ) → a ≤ c → b ≤ d → max a b ≤ max c d
greater a b c d e f = omega (arith, e, f)

delay_more : (now later : ℕ) (rec : Record) → now ≤ later → record_delay now rec ≤ record_delay later rec
delay_more now later rec le = greater (waited now (nat_lt 0 rec.queued) rec.oldest) (waited now (nat_lt 0 rec.paused) rec.since)
    (waited later (nat_lt 0 rec.queued) rec.oldest) (waited later (nat_lt 0 rec.paused) rec.since)
    (waited_more now later (nat_lt 0 rec.queued) rec.oldest le) (waited_more now later (nat_lt 0 rec.paused) rec.since le)

greatest_more : (f g : ℕ → ℕ) (n : ℕ) → ((k : ℕ) → f k ≤ g k) → greatest_below f n ≤ greatest_below g n
greatest_more f g zero each = omega arith
greatest_more f g (suc n) each = greater (greatest_below f n) (f n) (greatest_below g n) (g n) (greatest_more f g n each) (each n)

above_too : (d a b : ℕ) → a ≤ b → ltb d a ≡ true → ltb d b ≡ true
above_too d a b le e = let low : d < a = ltb-true d a e in lt-ltb d b (omega (arith, low, le))

-- ---- the parts ----

module _ (table : Table) (before : List PassEntry) (input : Input) (now : ℕ) (le : now ≤ input.now) where
  abbrev later : Setting
  later = setting table before input

  abbrev earlier : Setting
  earlier = setting table before (at_clock now input)

  runs_later : (rec : Record) (c limit : ℕ) → runs_too_long now rec c limit ≡ true → runs_too_long input.now rec c limit ≡ true
  runs_later rec c limit e =
      let long = and_parts (shows_on rec c && not (eqb rec.started 0) && ltb rec.started now) (ltb limit (now - rec.started)) e in
      let begun = and_parts (shows_on rec c && not (eqb rec.started 0)) (ltb rec.started now) long.0 in
      let low : rec.started < now = ltb-true rec.started now begun.1 in
      let over : limit < now - rec.started = ltb-true limit (now - rec.started) long.1 in
      and_from (shows_on rec c && not (eqb rec.started 0) && ltb rec.started input.now) (ltb limit (input.now - rec.started))
      (and_from (shows_on rec c && not (eqb rec.started 0)) (ltb rec.started input.now) begun.0 (lt-ltb rec.started input.now (omega (arith, low, le))))
      (lt-ltb limit (input.now - rec.started) (omega (arith, over, le)))

  too_long_none : (c : ℕ) (holder : Holder) → too_long_on later c holder ≡ None → too_long_on earlier c holder ≡ None
  too_long_none c holders.Free e = refl
  too_long_none c (holders.Leaving placement cause) e = refl
  too_long_none c (holders.Held placement) e =
      let own : Bool = is_latency_critical table (owner_of table placement.thread) in
      let limit : ℕ = request_of table (owner_of table placement.thread) in
      let rec : Record = kept_now later placement.thread in
      ap (λ b. cond b (Some placement.thread) None)
      (fewer own (runs_too_long now rec c limit) (runs_too_long input.now rec c limit) (runs_later rec c limit)
      (some_not (own && runs_too_long input.now rec c limit) placement.thread e))

  ban_none : (c : ℕ) (thread : Option ℕ) → ban_for later (so_far later []) c thread ≡ [] → thread ≡ None
  ban_none c None e = refl
  ban_none c (Some thread) e = absurd (cc)

  bans_too : (c : ℕ) → bans_at later [] c ≡ [] → bans_at earlier [] c ≡ []
  bans_too c e =
      let x : List Action = so_far later [] in
      let due : ban_due later x c ≡ None = ban_none c (ban_due later x c) e in
      let none : ban_due earlier x c ≡ None =
      cond_too (may_ban_beside later x c) (too_long_on later c (holder_of x c)) (too_long_on earlier c (holder_of x c)) None (too_long_none c (holder_of x c)) due in
      ap (ban_for earlier x c) none

  task_more : (t : ℕ) → task_delay earlier t ≤ task_delay later t
  task_more t = greatest_more (λ j. thread_delay earlier (thread_of table t j)) (λ j. thread_delay later (thread_of table t j)) (limit_of table t)
      (λ j. delay_more now input.now (kept_now later (thread_of table t j)) le)

  congested_later : (t : ℕ) → is_congested earlier t ≡ true → is_congested later t ≡ true
  congested_later t e = above_too (delay_of table t) (task_delay earlier t) (task_delay later t) (task_more t) e

  choice_some : (x : List Action) (t : ℕ) → is_some (thread_choice earlier x t) ≡ is_some (thread_choice later x t)
  choice_some x t = best_some (λ rank best. nat_lt best rank) (λ j. thread_rank earlier x (thread_of table t j)) (λ j. thread_rank later x (thread_of table t j)) (limit_of table t)
      (λ j. rank_some (eqb (cores_of_thread table x (thread_of table t j)) 0 && has_room later (thread_of table t j)) (thread_delay earlier (thread_of table t j)) (thread_delay later (thread_of table t j)))

  one_made : (b : Bool) (x y : Action) → cond b (x ∷ []) (y ∷ []) ≡ [] → ⊥
  one_made true x y e = cc
  one_made false x y e = cc

  grant_none : (t : ℕ) (one other : Option (Candidate ℕ)) (core : Option (Candidate CoreClass)) → is_some other ≡ is_some one → grant_of later t one core ≡ [] → grant_of earlier t other core ≡ []
  grant_none t one None core same e = refl
  grant_none t None (Some thread) core same e = absurd (cc)
  grant_none t (Some one) (Some other) None same e = refl
  grant_none t (Some one) (Some other) (Some core) same e =
      absurd (one_made (is_idle core.rank) (Grant core.number (thread_of table t one.number) (class_number core.rank)) (Revoke core.number (causes.Preempt t)) e)

  grant_too : (t : ℕ) → grant_at later [] t ≡ [] → grant_at earlier [] t ≡ []
  grant_too t e = go (is_congested earlier t && may_book later (so_far later []) t) refl
    where
      x : List Action
      x = so_far later []

      go : (b : Bool) → (is_congested earlier t && may_book later (so_far later []) t) ≡ b → cond b (grant_of earlier t (thread_choice earlier x t) (choice_of earlier [] t)) [] ≡ []
      go false f = refl
      go true f =
          let both = and_parts (is_congested earlier t) (may_book later (so_far later []) t) f in
          let is : (is_congested later t && may_book later (so_far later []) t) ≡ true = and_from (is_congested later t) (may_book later (so_far later []) t) (congested_later t both.0) both.1 in
          let none : grant_of later t (thread_choice later x t) (choice_of later [] t) ≡ [] =
          subst (λ b. cond b (grant_of later t (thread_choice later x t) (choice_of later [] t)) [] ≡ []) is e in
          grant_none t (thread_choice later x t) (thread_choice earlier x t) (choice_of later [] t) (choice_some x t) none

  kind_too : (kind : Kind) (t : ℕ) → grant_of_kind_at kind later [] t ≡ [] → grant_of_kind_at kind earlier [] t ≡ []
  kind_too kinds.LatencyCritical t e = cond_too (is_latency_critical table t) (grant_at later [] t) (grant_at earlier [] t) [] (grant_too t) e
  kind_too kinds.BestEffort t e = cond_else (is_latency_critical table t) (grant_at later [] t) (grant_at earlier [] t) [] (grant_too t) e

  grants_too : (kind : Kind) → grants_of_kind kind later [] ≡ [] → grants_of_kind kind earlier [] ≡ []
  grants_too kind e = turns_too (grant_of_kind_at kind later) (grant_of_kind_at kind earlier) (length table.tasks) (kind_too kind) e

  pass_too : pass_of later ≡ [] → pass_of earlier ≡ []
  pass_too e =
      let others = part_none _ (grants_of_kind kinds.BestEffort later) e in
      let critical = part_none _ (grants_of_kind kinds.LatencyCritical later) others.0 in
      let bounded = part_none _ (bandwidth_part later) critical.0 in
      let banned = part_none _ (bans later) bounded.0 in
      let unbanned = part_none _ (unbans later) banned.0 in
      let freed = part_none [] (frees later) unbanned.0 in
      none_part _ (grants_of_kind kinds.BestEffort earlier)
      (none_part _ (grants_of_kind kinds.LatencyCritical earlier)
      (none_part _ (bandwidth_part earlier)
      (none_part _ (bans earlier)
      (none_part _ (unbans earlier) (none_part [] (frees earlier) refl freed.1) unbanned.1)
      (turns_too (bans_at later) (bans_at earlier) table.cores bans_too banned.1))
      bounded.1)
      (grants_too kinds.LatencyCritical critical.1))
      (grants_too kinds.BestEffort others.1)

pub nothing_earlier : DoesNothingEarlier Caladan
nothing_earlier table before input now le e = pass_too table before input now le e

-- ---- in a history ----

pub come_earlier : GoesByWhatIsLeft Caladan → DoesNothingEarlier Caladan → IdlePassesMayComeEarlier Caladan
come_earlier goes none table before entry now after idle le legal =
    let pass = pass_there Caladan table before entry after legal in
    let is : IsInput table before entry.input = pass_input Caladan table before entry pass in
    let nothing : pass_of (setting table before entry.input) ≡ [] = sym (pass_actions Caladan table before entry pass) ∙ idle.nothing_done in
    let input : IsInput table before (at_clock now entry.input) = record {
      looks = record { looks = is.looks.looks; rooms = is.looks.rooms; fit = is.looks.fit };
      as_judged = is.as_judged;
    } in
    let once = pass_from Caladan table before (entry_at now entry) input (idle.nothing_done ∙ sym (none table before entry.input now le nothing)) in
    let still : IsIdle before (entry_at now entry) = record { nothing_done = idle.nothing_done; nothing_new = idle.nothing_new } in
    (change_by Caladan goes table before (entry_at now entry) (entry ∷ after) still).1 (once, legal)
