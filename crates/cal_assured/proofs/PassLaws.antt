-- Laws of one pass, each by what the policy makes at its place.
use Rattle.cal_assured.proofs.Common.{◌≡◌, ◌≢◌, ℕ, ◌+◌, ◌<◌, ◌⊎◌, Bool, true, false, not, ◌&&◌, ◌||◌, cond, eqb, ltb, leb, List, [], ◌∷◌, ◌++◌, length, Option, Some, None, inl, inr, refl, sym, ap, ◌∙◌, arith, subst, append_assoc, append-nil, ⊎_elim, option_or, is_some, and_parts, and_cases, not-true, not_from_false, leb-false, lt-ltb, ltb-false, ltb-true, ne_eqb, eqb-true, both_ways, sibling_of, owner_of, thread_of, is_latency_critical, guaranteed_of, IsTable, some_then, some_else, Action, Ban, Revoke, Grant, Candidate, CoreClass, class_number, holder_of, is_free, booked_by, in_turn, ban_due, thread_choice, grant_of, may_book, is_granted_in, preempt_class, followed, Setting, so_far, is_held_with_room, lowest_passes, thread_facts, may_act, act_of, act_in_place, turn_in_place, grants_of_first, pressing, coming, MayTakeWhatIsOwed, OwedCoresAreKept, NoCoreIsRevokedTwice, NoMoreIsTakenThanIsLacked, BansLeaveWhatIsLacked, NoneGrantedTo, made_before_turn, TheLaterComesFirst, TheFewestHeldComesFirst, RevocationsHaveCause, owed_to, owed_below, bounded_of, is_short, lacks, needs, lacking, open_cores, is_open, surplus, waits, waits_short, some_waits_short, are_lacked, is_kept_for, is_kept_for_short, is_kept, open_choice, fewer_come, may_take_from, held_class, more_press, may_preempt, held_choice, choice_for, place_lower, tasks_placed}
use Rattle.std.specs.List.{slice_get}
use Rattle.cal_policy.specs.Board.Counts.{held_by}
use Rattle.cal_policy.specs.Assured.Pass.{ComesTo}
use Rattle.cal_policy.specs.declared.history.action.Cause.TheVariants as causes
use Rattle.cal_policy.specs.declared.board.holders.Placement.{Placement}
use Rattle.cal_policy.specs.declared.board.holders.Holder.TheVariants.{Held}
use Rattle.cal_policy.proofs.PassLemmas.PartSoFar.{in_turn_more}
use Rattle.cal_policy.specs.Assured.Order.{group_of, is_rather, is_later, goes_before, place_of, task_in_place}
use Rattle.cal_policy.proofs.AssuredLemmas.Done.{IsGranted, open_taken, held_taken, comes_done}
use Rattle.cal_assured.proofs.OwnTurn.{acts_first_time}
use Rattle.cal_policy.proofs.AssuredLemmas.Walks.{first_turns, place_after}

-- a core that is granted may be taken by its thread's task, which waits
record IsGiven (s : Setting) (acts : List Action) (core thread : ℕ) : Type 0 where
  own : owner_of s.table thread < length s.table.tasks
  unkept : is_kept s (so_far s acts) (owner_of s.table thread) core ≡ false

given : (s : Setting) (acts : List Action) (core thread class : ℕ) → IsGranted s acts core thread class → IsGiven s acts core thread
given s acts core thread class m =
    let x : List Action = so_far s acts in
    let facts = thread_facts s x m.task m.chosen_thread m.own m.longest in
    let owner : m.task ≡ owner_of s.table thread = sym (ap (owner_of s.table) m.thread_chosen ∙ facts.owner) in
    let taken = open_taken s x m.task m.choice m.least in
    let both = and_parts (is_open x m.choice.number) (not (is_kept s x m.task m.choice.number)) taken.may in
    let unkept : is_kept s x m.task core ≡ false = ap (is_kept s x m.task) m.core_chosen ∙ not-true (is_kept s x m.task m.choice.number) both.1 in
    let P : ℕ → Type 0 = λ t. t < length s.table.tasks in
    let Q : ℕ → Type 0 = λ t. is_kept s x t core ≡ false in
    record { own = subst P owner m.own; unkept = subst Q owner unkept }

-- where cores are not lacked, no short task waits, or more are open than are lacking
not_lacked : (s : Setting) (x : List Action) → are_lacked s x ≡ false → (some_waits_short s x ≡ false) ⊎ (lacking s x < open_cores s.table x)
not_lacked s x e = ⊎_elim (λ none. inl none) (λ more. inr (leb-false (open_cores s.table x) (lacking s x) more)) (and_cases (some_waits_short s x) (leb (open_cores s.table x) (lacking s x)) e)

kept_from_other : (s : Setting) (x : List Action) (t core : ℕ) → is_short s.table x t ≡ false → is_kept s x t core ≡ false → is_kept_for s x t (owed_to x core) ≡ false
kept_from_other s x t core other e =
    sym (ap (λ (b : Bool). cond b (is_kept_for_short s x t core (owed_to x core)) (is_kept_for s x t (owed_to x core))) other) ∙ e

kept_from_short : (s : Setting) (x : List Action) (t core : ℕ) → is_short s.table x t ≡ true → is_kept s x t core ≡ false → is_kept_for_short s x t core (owed_to x core) ≡ false
kept_from_short s x t core short e =
    sym (ap (λ (b : Bool). cond b (is_kept_for_short s x t core (owed_to x core)) (is_kept_for s x t (owed_to x core))) short) ∙ e

-- what is owed to a task that is another one
owed_other : (s : Setting) (x : List Action) (t u core : ℕ) → t ≢ u → owed_to x core ≡ Some u → is_kept s x t core ≡ false → (b : Bool) → is_short s.table x t ≡ b → MayTakeWhatIsOwed s x t u core
owed_other s x t u core off owed e false short =
    let off2 : not (eqb u t) ≡ true = not_from_false (eqb u t) (ne_eqb u t (λ same. off (sym same))) in
    let kept : (not (eqb u t) && waits s x u) ≡ false = sym (ap (is_kept_for s x t) owed) ∙ kept_from_other s x t core short e in
    inl (⊎_elim (λ no. absurd (both_ways _ no off2)) (λ still. still) (and_cases (not (eqb u t)) (waits s x u) kept))
owed_other s x t u core off owed e true short =
    let off2 : not (eqb u t) ≡ true = not_from_false (eqb u t) (ne_eqb u t (λ same. off (sym same))) in
    let few = ltb (owed_below x u core) (needs s x u) in
    let kept : (not (eqb u t) && waits_short s x u && few) ≡ false = sym (ap (is_kept_for_short s x t core) owed) ∙ kept_from_short s x t core short e in
    ⊎_elim
    (λ no. ⊎_elim
    (λ never. absurd (both_ways _ never off2))
    (λ still. ⊎_elim (λ long. inr (short, inl long)) (λ idle. inl idle) (and_cases (is_short s.table x u) (waits s x u) still))
    (and_cases (not (eqb u t)) (waits_short s x u) no))
    (λ enough. inr (short, inr (ltb-false (owed_below x u core) (needs s x u) enough)))
    (and_cases (not (eqb u t) && waits_short s x u) few kept)

pub owed_kept : OwedCoresAreKept
owed_kept s acts core thread class u comes owed off =
    let x : List Action = so_far s acts in
    let t : ℕ = owner_of s.table thread in
    let is = given s acts core thread class (comes_done s acts (Grant core thread class) comes) in
    owed_other s x t u core off owed is.unkept (is_short s.table x t) refl

pub have_cause : RevocationsHaveCause
have_cause s acts core cause comes = comes_done s acts (Revoke core cause) comes

pub not_twice : NoCoreIsRevokedTwice
not_twice s acts core t comes =
    let x : List Action = so_far s acts in
    let m = comes_done s acts (Revoke core (causes.Preempt t)) comes in
    let first = and_parts (is_latency_critical s.table t && more_press s x t) _ m.may in
    let both = and_parts (is_latency_critical s.table t) (more_press s x t) first.0 in
    let more = ltb-true (coming s x t + surplus s x t) (pressing s x t) both.1 in omega (arith, more)

-- a core that is taken from its holder may be taken from the holder's task
taken_from : (s : Setting) (acts : List Action) (t core : ℕ) (class : CoreClass) (p : Placement) → held_class s acts t core (Held p) ≡ Some class →
    may_take_from s (so_far s acts) t (owner_of s.table p.thread) ≡ true
taken_from s acts t core class p e =
    let u : ℕ = owner_of s.table p.thread in
    let room = is_held_with_room s (Held p) && not (is_granted_in acts core) in
    let may = may_take_from s (so_far s acts) t u in
    let there = some_then (room && may) (preempt_class s.table (so_far s acts) t u) class e in
    let both = and_parts room may there.0 in both.1

pub no_more_taken : NoMoreIsTakenThanIsLacked
no_more_taken s acts core t p comes held critical =
    let x : List Action = so_far s acts in
    let u : ℕ = owner_of s.table p.thread in
    let m = comes_done s acts (Revoke core (causes.Preempt t)) comes in
    let taken = held_taken s acts t (record { rank = m.class; number = core }) m.least in
    let may = taken_from s acts t core m.class p (sym (ap (held_class s acts t core) held) ∙ taken.classed) in
    let few : fewer_come s x t ≡ true = sym (ap (λ (b : Bool). not b || fewer_come s x t) critical) ∙ may in
    ltb-true (coming s x t) (lacks s.table x t) few

pub bans_leave : BansLeaveWhatIsLacked
bans_leave s acts core thread started comes free wait =
    let x : List Action = so_far s acts in
    let m = comes_done s acts (Ban core thread started) comes in
    let there = some_else (is_free (holder_of x (sibling_of m.by)) && are_lacked s x) (ban_due s x m.by) thread m.due in
    let unheld : is_free (holder_of x (sibling_of m.by)) ≡ true = ap (λ c. is_free (holder_of x c)) (sym m.beside) ∙ free in
    let enough : are_lacked s x ≡ false = ⊎_elim (λ no. absurd (both_ways _ no unheld)) (λ e. e) (and_cases (is_free (holder_of x (sibling_of m.by))) (are_lacked s x) there.0) in
    ⊎_elim (λ none. absurd (both_ways _ none wait)) (λ more. more) (not_lacked s x enough)

-- of latency-critical tasks that are not short the later one goes before
group_one : (s : Setting) (x : List Action) (t : ℕ) → is_short s.table x t ≡ false → is_latency_critical s.table t ≡ true → group_of s x t ≡ 1
group_one s x t short critical =
    ap (λ (b : Bool). cond b 0 (cond (is_latency_critical s.table t) 1 2)) short ∙ ap (λ (b : Bool). cond b 1 2) critical

later_first : (s : Setting) (x : List Action) (u t : ℕ) → group_of s x u ≡ 1 → group_of s x t ≡ 1 → is_later s u t ≡ true → goes_before s x u t ≡ true
later_first s x u t gu gt later =
    ap (λ g. cond (ltb g (group_of s x t)) true (cond (ltb (group_of s x t) g) false (cond (is_rather s x g u t) true (cond (is_rather s x g t u) false (ltb u t))))) gu
    ∙ ap (λ g. cond (ltb 1 g) true (cond (ltb g 1) false (cond (is_rather s x 1 u t) true (cond (is_rather s x 1 t u) false (ltb u t))))) gt
    ∙ ap (λ (b : Bool). cond b true (cond (is_rather s x 1 t u) false (ltb u t))) later

-- at the turn of a task that waits and may take a core, one is granted to a thread of it
record MakesGrant (s : Setting) (acts : List Action) (t : ℕ) : Type 0 where
  core : ℕ
  thread : ℕ
  class : ℕ
  is : act_of s acts t ≡ Grant core thread class ∷ []
  own : owner_of s.table thread ≡ t

makes_by : (s : Setting) (acts : List Action) (t : ℕ) → t < length s.table.tasks → waits s (so_far s acts) t ≡ true → may_act s acts t ≡ true → (thread : Option (Candidate ℕ)) → thread_choice s (so_far s acts) t ≡ thread →
    (core : Candidate CoreClass) → open_choice s (so_far s acts) t ≡ Some core → MakesGrant s acts t
makes_by s acts t own wait may None e core f =
    let x : List Action = so_far s acts in
    let both = and_parts (ltb (surplus s x t) (pressing s x t) && may_book s x t) (is_some (thread_choice s x t)) wait in
    let no : false ≡ true = sym (ap is_some e) ∙ both.1 in cc
makes_by s acts t own wait may (Some thread) e core f =
    let x : List Action = so_far s acts in
    let k : ℕ = thread_of s.table t thread.number in
    let rest : Option (Candidate CoreClass) = cond (may_preempt s acts t) (held_choice s acts t) None in
    let chosen : List Action = grant_of s t (thread_choice s x t) (choice_for s acts t) in
    record {
      core = core.number;
      thread = k;
      class = class_number core.rank;
      is = ap (λ (b : Bool). cond (b && may_act s acts t) chosen []) wait
          ∙ ap (λ (b : Bool). cond b chosen []) may
          ∙ ap (λ o. grant_of s t o (choice_for s acts t)) e
          ∙ ap (λ o. grant_of s t (Some thread) (option_or o rest)) f
          ∙ ap (λ (b : Bool). cond b (Grant core.number k (class_number core.rank) ∷ []) (Revoke core.number (causes.Preempt t) ∷ [])) (open_taken s x t core f).idle;
      own = (thread_facts s x t thread own e).owner;
    }

-- a turn that came before this place granted no core to the task
none_made : (s : Setting) (acts more : List Action) (u place : ℕ) → IsTable s.table → u < length s.table.tasks → place_of s (so_far s (bounded_of s)) u < place →
    acts ≡ followed (bounded_of s) (grants_of_first place s) ++ more → NoneGrantedTo s.table acts u → MakesGrant s (made_before_turn s u) u → ⊥
none_made s acts more u place ok own low before none made =
    let b : List Action = bounded_of s in
    let p : ℕ = place_of s (so_far s b) u in
    let f : List Action → ℕ → List Action = λ made place. turn_in_place s made (task_in_place s (so_far s b) place) in
    let g : List Action → ℕ → List Action = λ made act. act_in_place s made (Some u) in
    let first = first_turns f b (p + 1) place (omega (arith, low)) in
    let before_u : List Action = made_before_turn s u in
    let grant : Action = Grant made.core made.thread made.class in
    let least = ok.machine.least in
    let acts_first = first_turns g before_u 1 s.table.cores (omega (arith, least)) in
    let one : in_turn g before_u 1 ≡ grant ∷ [] = ap (λ l. act_of s l u) (append-nil before_u) ∙ made.is in
    let of_u : turn_in_place s before_u (Some u) ≡ grant ∷ acts_first.0 = acts_first.1 ∙ ap (λ l. l ++ acts_first.0) one in
    let turn : in_turn f b (p + 1) ≡ in_turn f b p ++ grant ∷ acts_first.0 =
    in_turn_more f b p ∙ ap (λ l. in_turn f b p ++ l) (ap (turn_in_place s before_u) (tasks_placed s (so_far s b) u own).own ∙ of_u) in
    let rest : List Action = (acts_first.0 ++ first.0) ++ more in
    let whole : acts ≡ before_u ++ grant ∷ rest =
    before ∙ ap (λ l. (b ++ l) ++ more) (first.1 ∙ ap (λ l. l ++ first.0) turn ∙ append_assoc (in_turn f b p) (grant ∷ acts_first.0) first.0)
    ∙ ap (λ l. l ++ more) (sym (append_assoc b (in_turn f b p) (grant ∷ acts_first.0 ++ first.0)))
    ∙ append_assoc before_u (grant ∷ acts_first.0 ++ first.0) more in
    none (length before_u) made.core made.thread made.class (ap (λ l. slice_get l (length before_u)) whole ∙ place_after before_u rest grant) made.own

-- a task that goes before one which is granted a core
goes_first : (s : Setting) (acts : List Action) (core thread class u : ℕ) → ComesTo s acts (Grant core thread class) → u < length s.table.tasks →
    goes_before s (so_far s (bounded_of s)) u (owner_of s.table thread) ≡ true → NoneGrantedTo s.table acts u →
    (waits s (so_far s (made_before_turn s u)) u ≡ false) ⊎ (open_choice s (so_far s (made_before_turn s u)) u ≡ None)
goes_first s acts core thread class u comes own order none =
    let m = comes_done s acts (Grant core thread class) comes in
    let x : List Action = so_far s (bounded_of s) in
    let facts = thread_facts s (so_far s acts) m.task m.chosen_thread m.own m.longest in
    let owner : owner_of s.table thread ≡ m.task = ap (owner_of s.table) m.thread_chosen ∙ facts.owner in
    let first : goes_before s x u m.task ≡ true = ap (goes_before s x u) (sym owner) ∙ order in
    let lower = place_lower s x u m.task own first in
    let there = lowest_passes (λ t. eqb (place_of s x t) m.place) (length s.table.tasks) m.task m.turn in
    let at : place_of s x m.task ≡ m.place = eqb-true (place_of s x m.task) m.place there.1 in
    let low : place_of s x u < m.place = omega (arith, lower, at) in
    let turn : List Action = made_before_turn s u in
    decide s acts _ u m.place comes.table own low m.before none (waits s (so_far s turn) u) refl (open_choice s (so_far s turn) u) refl
  where
    decide : (s : Setting) (acts more : List Action) (u place : ℕ) → IsTable s.table → u < length s.table.tasks → place_of s (so_far s (bounded_of s)) u < place →
        acts ≡ followed (bounded_of s) (grants_of_first place s) ++ more → NoneGrantedTo s.table acts u →
        (b : Bool) → waits s (so_far s (made_before_turn s u)) u ≡ b → (o : Option (Candidate CoreClass)) → open_choice s (so_far s (made_before_turn s u)) u ≡ o →
        (waits s (so_far s (made_before_turn s u)) u ≡ false) ⊎ (open_choice s (so_far s (made_before_turn s u)) u ≡ None)
    decide s acts more u place ok own low before none false e o f = inl e
    decide s acts more u place ok own low before none true e None f = inr f
    decide s acts more u place ok own low before none true e (Some core) f =
        absurd (none_made s acts more u place ok own low before none
        (makes_by s (made_before_turn s u) u own e (acts_first_time s u own) (thread_choice s (so_far s (made_before_turn s u)) u) refl core f))

pub later_comes_first : TheLaterComesFirst
later_comes_first s acts core thread class u comes later none =
    let x : List Action = so_far s (bounded_of s) in
    goes_first s acts core thread class u comes later.own
    (later_first s x u (owner_of s.table thread) (group_one s x u later.not_short later.critical) (group_one s x (owner_of s.table thread) later.other_not_short later.other_critical) later.later) none

-- of best-effort tasks the one goes before that holds fewer cores
group_two : (s : Setting) (x : List Action) (t : ℕ) → is_latency_critical s.table t ≡ false → group_of s x t ≡ 2
group_two s x t burstable =
    ap (λ (b : Bool). cond (b && ltb (booked_by s.table x t) (guaranteed_of s.table t)) 0 (cond b 1 2)) burstable

fewer_first : (s : Setting) (x : List Action) (u t : ℕ) → group_of s x u ≡ 2 → group_of s x t ≡ 2 → held_by s.table x u < held_by s.table x t → goes_before s x u t ≡ true
fewer_first s x u t gu gt fewer =
    ap (λ g. cond (ltb g (group_of s x t)) true (cond (ltb (group_of s x t) g) false (cond (is_rather s x g u t) true (cond (is_rather s x g t u) false (ltb u t))))) gu
    ∙ ap (λ g. cond (ltb 2 g) true (cond (ltb g 2) false (cond (is_rather s x 2 u t) true (cond (is_rather s x 2 t u) false (ltb u t))))) gt
    ∙ ap (λ (b : Bool). cond b true (cond (is_rather s x 2 t u) false (ltb u t))) (lt-ltb (held_by s.table x u) (held_by s.table x t) fewer)

pub fewest_comes_first : TheFewestHeldComesFirst
fewest_comes_first s acts core thread class u comes few none =
    let x : List Action = so_far s (bounded_of s) in
    goes_first s acts core thread class u comes few.own
    (fewer_first s x u (owner_of s.table thread) (group_two s x u few.burstable) (group_two s x (owner_of s.table thread) few.other_burstable) few.fewer) none
