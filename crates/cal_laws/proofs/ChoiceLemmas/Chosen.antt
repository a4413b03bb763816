-- What is chosen for a task, in words of its own.
use Rattle.cal_laws.proofs.Common.{◌≡◌, ℕ, ◌<◌, true, ◌&&◌, eqb, List, length, Some, None, refl, ap, arith, inl, inr, ⊎_elim, eqb-true, eq-eqb, and_parts, and_from, cond-true, cases_lt, MatchOption-at_some, cond_some, ThreadsAreOfTheirTask, limit_of, thread_of, owner_of, Action, Candidate, CoreClass, class_number, is_idle, cores_of_thread, Setting, so_far, has_room, thread_delay, thread_rank, thread_choice, class_of, choice_of, HasWaitedLongest, IsOfLeastClass, ChosenHasWaitedLongest, ChosenIsOfLeastClass, IsChosen, IsGranted}
use Rattle.cal_laws.specs.Choice.{IsFreeWithRoom, HasGreatestDelay, HasThread, IsPossible, IsLessPair, IsLeastPossible, IsBestGrant}
use Rattle.cal_laws.proofs.ChoiceLemmas.Classes.{of_its_class, class_from}
use Rattle.cal_machine.proofs.ThreadNumbers.{next_le}

-- a thread that is ranked is free with room, and its rank is its delay
record IsRanked (s : Setting) (x : List Action) (k delay : ℕ) : Type 0 where
  free : IsFreeWithRoom s x k
  is : thread_delay s k ≡ delay

ranked : (s : Setting) (x : List Action) (k delay : ℕ) → thread_rank s x k ≡ Some delay → IsRanked s x k delay
ranked s x k delay e =
    let parts = cond_some (eqb (cores_of_thread s.table x k) 0 && has_room s k) (thread_delay s k) delay e in
    let both = and_parts (eqb (cores_of_thread s.table x k) 0) (has_room s k) parts.0 in
    record { free = record { free = eqb-true (cores_of_thread s.table x k) 0 both.0; room = both.1 }; is = parts.1 }

rank_of_free : (s : Setting) (x : List Action) (k : ℕ) → IsFreeWithRoom s x k → thread_rank s x k ≡ Some (thread_delay s k)
rank_of_free s x k f = cond-true (eqb (cores_of_thread s.table x k) 0 && has_room s k) (Some (thread_delay s k)) None
    (and_from _ _ (eq-eqb (cores_of_thread s.table x k) 0 f.free) f.room)

-- the law on the thread that is chosen, where one is
pub longest : ChosenHasWaitedLongest → (s : Setting) (x : List Action) (t : ℕ) (thread : Candidate ℕ) → thread_choice s x t ≡ Some thread → HasWaitedLongest s x t thread
longest law s x t thread e =
    MatchOption-at_some ((j : ℕ) → j < limit_of s.table t → thread_rank s x (thread_of s.table t j) ≡ None) (HasWaitedLongest s x t) thread e (law s x t)

pub greatest_delay : (s : Setting) (x : List Action) (t : ℕ) (thread : Candidate ℕ) → HasWaitedLongest s x t thread → HasGreatestDelay s x t (thread_of s.table t thread.number)
greatest_delay s x t thread h =
    let best = ranked s x (thread_of s.table t thread.number) thread.rank h.may_have in record {
      number = thread.number;
      own = h.own;
      numbered = refl;
      candidate = best.free;
      none_greater = λ j lt f. let less = h.none_longer j _ lt (rank_of_free s x (thread_of s.table t j) f) in omega (arith, less, best.is);
      none_lesser = λ j lt f same. ⊎_elim
          (λ before. let less = h.earlier_less j _ before (rank_of_free s x (thread_of s.table t j) f) in absurd (omega (arith, less, best.is, same)))
          (λ after. after)
          (cases_lt j thread.number);
    }

pub has_thread : (s : Setting) (x : List Action) (t : ℕ) (thread : Candidate ℕ) → HasWaitedLongest s x t thread → HasThread s x t
has_thread s x t thread h = record {
  number = thread.number;
  own = h.own;
  candidate = (ranked s x (thread_of s.table t thread.number) thread.rank h.may_have).free;
}

-- the law on the core that is chosen, where one is
pub least_class : ChosenIsOfLeastClass → (s : Setting) (acts : List Action) (t : ℕ) (core : Candidate CoreClass) → choice_of s acts t ≡ Some core → IsOfLeastClass s acts t core
least_class law s acts t core e =
    MatchOption-at_some ((c : ℕ) → c < s.table.cores → class_of s acts t c ≡ None) (IsOfLeastClass s acts t) core e (law s acts t)

not_less : (s : Setting) (acts : List Action) (t : ℕ) (core : Candidate CoreClass) → IsOfLeastClass s acts t core → (class : CoreClass) (c : ℕ) → IsPossible s acts t class c →
    IsLessPair class c core.rank core.number → ⊥
not_less s acts t core h class c p (inl less) = let least = h.none_less c class p.own (class_from s acts t class c p.applies) in omega arith
not_less s acts t core h class c p (inr same) = let greater = h.lower_greater c class same.1 (class_from s acts t class c p.applies) in omega (arith, greater, ap class_number same.0)

pub least_possible : (s : Setting) (acts : List Action) (t : ℕ) (core : Candidate CoreClass) → IsOfLeastClass s acts t core → IsLeastPossible s acts t core.rank core.number
least_possible s acts t core h = record {
  possible = record { own = h.own; applies = of_its_class s acts t core.rank core.number h.class };
  none_less = not_less s acts t core h;
}

best_of : ChosenIsOfLeastClass → ChosenHasWaitedLongest → (s : Setting) (acts : List Action) (t : ℕ) (thread : Candidate ℕ) (core : Candidate CoreClass) → IsChosen s acts t thread core → is_idle core.rank ≡ true →
    owner_of s.table (thread_of s.table t thread.number) ≡ t → IsBestGrant s acts core.number (thread_of s.table t thread.number) (class_number core.rank)
best_of least waited s acts t thread core c idle owner = record {
  task = t;
  own = c.task;
  owner = owner;
  congested = c.congested;
  room = c.room;
  class = core.rank;
  numbered = refl;
  idle = idle;
  least = least_possible s acts t core (least_class least s acts t core c.least);
  longest = greatest_delay s (so_far s acts) t thread (longest waited s (so_far s acts) t thread c.longest);
}

-- the chosen thread is of the task that it was chosen for
pub chosen_owner : ThreadsAreOfTheirTask → ChosenHasWaitedLongest → (s : Setting) (x : List Action) (t : ℕ) (thread : Candidate ℕ) → t < length s.table.tasks →
    thread_choice s x t ≡ Some thread → owner_of s.table (thread_of s.table t thread.number) ≡ t
chosen_owner numbered waited s x t thread lt e =
    let own = (longest waited s x t thread e).own in
    (numbered s.table.tasks t (thread_of s.table t thread.number) lt (omega (arith, own, next_le s.table.tasks t lt))).1 (omega arith, omega (arith, own))

pub best_grant : ThreadsAreOfTheirTask → ChosenIsOfLeastClass → ChosenHasWaitedLongest → (s : Setting) (acts : List Action) (core thread class : ℕ) → IsGranted s acts core thread class →
    IsBestGrant s acts core thread class
best_grant numbered least waited s acts core thread class g =
    let owner = chosen_owner numbered waited s (so_far s acts) g.task g.chosen_thread g.chosen.task g.chosen.longest in
    rw (g.core_chosen, g.thread_chosen, g.class_chosen) (best_of least waited s acts g.task g.chosen_thread g.choice g.chosen g.granted owner)
