-- Why a core is preempted for a task, in words of its own.
use Rattle.cal_laws.proofs.Common.{ℕ, nat_lt, List, sym, subst, ltb-true, and_parts, limit_of, Action, booked_by, Setting, so_far, ChosenIsOfLeastClass, IsPreempted, IsForTask}
use Rattle.cal_laws.proofs.ChoiceLemmas.Chosen.{least_class, least_possible}
use Rattle.cal_laws.proofs.ChoiceLemmas.Classes.{of_its_class, preemptible_of}

pub task_cause : ChosenIsOfLeastClass → (s : Setting) (acts : List Action) (core t : ℕ) → IsPreempted s acts core t → IsForTask s acts core t
task_cause law s acts core t r =
    let best = least_class law s acts t r.choice r.chosen.least in
    let P : ℕ → Type 0 = λ c. IsForTask s acts c t in
    subst P (sym r.number) (record {
      own = r.chosen.task;
      congested = r.chosen.congested;
      below_limit = ltb-true _ _ (and_parts (nat_lt (booked_by s.table (so_far s acts) t) (limit_of s.table t)) _ r.chosen.room).0;
      class = r.choice.rank;
      least = least_possible s acts t r.choice best;
      preemptible = preemptible_of s acts t r.choice.rank r.choice.number (of_its_class s acts t r.choice.rank r.choice.number best.class) r.class;
    })
