-- What one event makes of what is known of a thread.
use Rattle.cal_world.proofs.Common.{◌≡◌, ℕ, ◌+◌, zero, suc, Bool, true, false, cond, eqb, List, [], ◌∷◌, ◌++◌, length, set, Option, Some, None, refl, sym, ap, ◌∙◌, arith, subst, ⊎_elim, unwrap_or, nat_tests, Command, Record, last_of_push, unwrap_or_or, Yielded, Published, State, state_after, core_after, Event, Take, Yield, Publish, Read, Watch, actions_in, entries_for, is_take_by, next_command, took, takes_in, publishes_in, state_in, read_floor, watch_floor, place_read, place_watched, IsOf, StandingsAreOf, slice_get, cases_eq, eq-eqb, slice_get_within, slice_get_cases, commands_to, HasCommand, slice_get_parts}
use Rattle.cal_policy.specs.History.Lists.{last_of}
use Rattle.cal_world.specs.declared.world.standing.Standing.{Standing}
use Rattle.cal_world.proofs.ListLemmas.OneMore.{slice_get_set_same, slice_get_set_other}
use Rattle.cal_world.proofs.ScheduleLemmas.Journals as standings
use Rattle.cal_world.proofs.ScheduleLemmas.Moves.{standing_in, journal_same, takes_same, nothing_more, takes_one, yields_one, publishes_one}
use Rattle.cal_world.proofs.ScheduleLemmas.SinceDecide.{floor_same, floor_here}

-- the watch floor, one event more
pub watch_more : (before : List Event) (event : Event) (k : ℕ) → watch_floor (before ++ event ∷ []) k ≡ unwrap_or (place_watched k before event) (watch_floor before k)
watch_more before event k = ap (λ o. unwrap_or o 0) (last_of_push (place_watched k) before event) ∙ unwrap_or_or (place_watched k before event) (last_of (place_watched k) before) 0

pub watch_same : (before : List Event) (event : Event) (k : ℕ) → place_watched k before event ≡ None → watch_floor (before ++ event ∷ []) k ≡ watch_floor before k
watch_same before event k e = watch_more before event k ∙ ap (λ o. unwrap_or o (watch_floor before k)) e

watch_here : (before : List Event) (k number : ℕ) → watch_floor (before ++ Watch k number ∷ []) k ≡ number
watch_here before k number = watch_more before (Watch k number) k ∙ ap (λ (b : Bool). unwrap_or (cond b (Some number) None) (watch_floor before k)) (eq-eqb k k refl)

-- from where the thread stands
is_of : (s : Standing) (after : List Event) (k : ℕ) (t : standings.Standing) → standing_in after k ≡ t → s.taken ≡ t.state.taken → s.taken ≡ t.takes → s.core ≡ t.state.core →
    s.read_floor ≡ read_floor after k → s.watch_floor ≡ watch_floor after k → IsOf s after k
is_of s after k t at taken takes core read watch = record {
  taken = taken ∙ ap (λ (t : standings.Standing). t.state.taken) (sym at);
  takes = takes ∙ ap (λ (t : standings.Standing). t.takes) (sym at);
  core = core ∙ ap (λ (t : standings.Standing). t.state.core) (sym at);
  read_floor = read;
  watch_floor = watch;
}

-- an event that says nothing of the thread
pub of_other : (s : Standing) (before : List Event) (event : Event) (k : ℕ) → entries_for k before event ≡ [] → is_take_by k event ≡ false → place_read k before event ≡ None →
    place_watched k before event ≡ None → IsOf s before k → IsOf s (before ++ event ∷ []) k
of_other s before event k entries untaken unread unwatched was = record {
  taken = was.taken ∙ ap (λ (t : State). t.taken) (sym state);
  takes = was.takes ∙ sym (takes_same before event k untaken);
  core = was.core ∙ ap (λ (t : State). t.core) (sym state);
  read_floor = was.read_floor ∙ sym (floor_same before event k unread);
  watch_floor = was.watch_floor ∙ sym (watch_same before event k unwatched);
}
  where
    state : state_in (before ++ event ∷ []) k ≡ state_in before k
    state = ap state_after (journal_same before event k entries)

apart : (j k : ℕ) → (j ≡ k → ⊥) → eqb j k ≡ false
apart j k off = grind (arith, nat_tests)

pub of_other_take : (s : Standing) (before : List Event) (thread k : ℕ) → (thread ≡ k → ⊥) → IsOf s before k → IsOf s (before ++ Take thread ∷ []) k
of_other_take s before thread k off was =
    of_other s before (Take thread) k (ap (λ (b : Bool). cond b (took (takes_in before k + 1) (next_command before k)) []) (apart thread k off)) (apart thread k off) refl refl was

pub of_other_yield : (s : Standing) (before : List Event) (thread k : ℕ) → (thread ≡ k → ⊥) → IsOf s before k → IsOf s (before ++ Yield thread ∷ []) k
of_other_yield s before thread k off was = of_other s before (Yield thread) k (ap (λ (b : Bool). cond b (Yielded ∷ []) []) (apart thread k off)) refl refl refl was

pub of_other_read : (s : Standing) (before : List Event) (thread k number : ℕ) → (thread ≡ k → ⊥) → IsOf s before k → IsOf s (before ++ Read thread number ∷ []) k
of_other_read s before thread k number off was = of_other s before (Read thread number) k refl refl (ap (λ (b : Bool). cond b (Some number) None) (apart thread k off)) refl was

pub of_other_watch : (s : Standing) (before : List Event) (thread k number : ℕ) → (thread ≡ k → ⊥) → IsOf s before k → IsOf s (before ++ Watch thread number ∷ []) k
of_other_watch s before thread k number off was = of_other s before (Watch thread number) k refl refl refl (ap (λ (b : Bool). cond b (Some number) None) (apart thread k off)) was

-- a Publish says nothing of where a thread stands but its page
pub of_publish : (s : Standing) (before : List Event) (thread k : ℕ) (rec : Record) → IsOf s before k → IsOf s (before ++ Publish thread rec ∷ []) k
of_publish s before thread k rec was = here (eqb thread k) refl
  where
    here : (b : Bool) → eqb thread k ≡ b → IsOf s (before ++ Publish thread rec ∷ []) k
    here false is = of_other s before (Publish thread rec) k (ap (λ (b : Bool). cond b (Published (publishes_in before k + 1) rec ∷ []) []) is) refl refl refl was
    here true is =
        is_of s (before ++ Publish thread rec ∷ []) k _ (publishes_one before thread k rec is) was.taken was.takes was.core
        (was.read_floor ∙ sym (floor_same before (Publish thread rec) k refl)) (was.watch_floor ∙ sym (watch_same before (Publish thread rec) k refl))

pub of_take : (s : Standing) (command : Command) (core : Option ℕ) (before : List Event) (k : ℕ) → next_command before k ≡ Some command → core ≡ core_after command → IsOf s before k →
    IsOf (record s { taken = s.taken + 1; core = core }) (before ++ Take k ∷ []) k
of_take s command core before k next e was =
    is_of _ (before ++ Take k ∷ []) k _ (takes_one before k k (eq-eqb k k refl) command next) (ap (λ n. n + 1) was.taken) (ap (λ n. n + 1) was.takes) e
    (was.read_floor ∙ sym (floor_same before (Take k) k refl)) (was.watch_floor ∙ sym (watch_same before (Take k) k refl))

pub of_yield : (s : Standing) (before : List Event) (k : ℕ) → IsOf s before k → IsOf (record s { core = None }) (before ++ Yield k ∷ []) k
of_yield s before k was =
    is_of _ (before ++ Yield k ∷ []) k _ (yields_one before k k (eq-eqb k k refl)) was.taken was.takes refl
    (was.read_floor ∙ sym (floor_same before (Yield k) k refl)) (was.watch_floor ∙ sym (watch_same before (Yield k) k refl))

pub of_read : (s : Standing) (number : ℕ) (before : List Event) (k : ℕ) → IsOf s before k → IsOf (record s { read_floor = number }) (before ++ Read k number ∷ []) k
of_read s number before k was =
    is_of _ (before ++ Read k number ∷ []) k _ (nothing_more before (Read k number) k refl refl refl) was.taken was.takes was.core
    (sym (floor_here before k number)) (was.watch_floor ∙ sym (watch_same before (Read k number) k refl))

pub of_watch : (s : Standing) (number : ℕ) (before : List Event) (k : ℕ) → IsOf s before k → IsOf (record s { watch_floor = number }) (before ++ Watch k number ∷ []) k
of_watch s number before k was =
    is_of _ (before ++ Watch k number ∷ []) k _ (nothing_more before (Watch k number) k refl refl refl) was.taken was.takes was.core
    (was.read_floor ∙ sym (floor_same before (Watch k number) k refl)) (sym (watch_here before k number))

-- the standings, one of them changed
pub standings_set : (ss : List Standing) (k : ℕ) (old new : Standing) (before after : List Event) → slice_get ss k ≡ Some old → StandingsAreOf ss before → (IsOf old before k → IsOf new after k) →
    ((j : ℕ) (t : Standing) → (k ≡ j → ⊥) → IsOf t before j → IsOf t after j) → StandingsAreOf (set ss k new) after
standings_set ss k old new before after there was here others j t at = ⊎_elim
    (λ (same : k ≡ j). one same)
    (λ (off : k ≡ j → ⊥). others j t off (was j t (slice_get_set_other ss k j new t off at)))
    (cases_eq k j)
  where
    one : k ≡ j → IsOf t after j
    one same =
        let P : ℕ → Type 0 = λ n. slice_get (set ss k new) n ≡ Some t in
        let found : slice_get (set ss k new) k ≡ Some t = subst P (sym same) at in
        let is : new ≡ t = slice_get_set_same ss k new t (slice_get_within ss k old there) found in
        let Q : ℕ → Type 0 = λ n. IsOf t after n in
        subst Q same (subst (λ u. IsOf u after k) is (here (was k old there)))

-- the standings, none changed
pub standings_kept : (ss : List Standing) (before after : List Event) → StandingsAreOf ss before → ((k : ℕ) (s : Standing) → IsOf s before k → IsOf s after k) → StandingsAreOf ss after
standings_kept ss before after was more k s at = more k s (was k s at)

-- each of a list, and one more
pub each_push : {X : Type 0} (P : ℕ → X → Type 0) (xs : List X) (y : X) → ((k : ℕ) (x : X) → slice_get xs k ≡ Some x → P k x) → ((k : ℕ) → P k y) →
    (k : ℕ) (x : X) → slice_get (xs ++ y ∷ []) k ≡ Some x → P k x
each_push {X} P xs y was here k x at = ⊎_elim (λ old. was k x old) (λ new. last new.0 new.2) (slice_get_parts xs (y ∷ []) k x at)
  where
    last : (j : ℕ) → slice_get (y ∷ []) j ≡ Some x → P k x
    last zero is = let same : y ≡ x = cc in subst (P k) same (here k)
    last (suc j) is = let none : None ≡ Some x = is in cc

-- the next command, as the plain data have it
pub next_is : (s : Standing) (before : List Event) (k : ℕ) (commands : List Command) → commands ≡ commands_to (actions_in before) k → IsOf s before k →
    next_command before k ≡ slice_get commands s.taken
next_is s before k commands sent of = ap (λ n. slice_get (commands_to (actions_in before) k) n) (sym of.takes) ∙ ap (λ cs. slice_get cs s.taken) (sym sent)

pub has_next : (s : Standing) (before : List Event) (k : ℕ) (commands : List Command) → commands ≡ commands_to (actions_in before) k → IsOf s before k → HasCommand before (Take k) →
    slice_get commands s.taken ≡ None → ⊥
has_next s before k commands sent of has none = ⊎_elim
    (λ found. let no : None ≡ Some found.0 = sym none ∙ found.2 in cc)
    (λ past. let ge = past.0 in let size = ap length sent in let taken = of.taken in let low = has in omega arith)
    (slice_get_cases commands s.taken).1
