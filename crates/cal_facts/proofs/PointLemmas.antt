-- What a pass found of a task and left it with.
use Rattle.cal_facts.proofs.Common.{◌≡◌, ◌∙◌, ◌++◌, ◌∷◌, [], ℕ, List, Option, length, nat_lt, ap, map-append, Table, actions_of, looks_of, PassEntry, cap_if_any, point_of}
use Rattle.cal_machine.specs.TableTasks.{delay_of, limit_of}
use Rattle.cal_measure.specs.States.{delay_after}
use Rattle.cal_policy.specs.Board.Counts.{booked_by, held_by}
use Rattle.cal_policy.specs.Pass.Grants.{task_delay}
use Rattle.cal_policy.specs.Setting.{setting_of}
use Rattle.cal_policy.specs.declared.history.look.Seen.{Seen}

-- the delay by the looks of a pass too
pub delay_found : (table : Table) (before : List PassEntry) (entry : PassEntry) (clock t delay : ℕ) → clock ≡ entry.input.now
    → delay ≡ delay_after table (looks_of (before ++ entry ∷ [])) clock t → delay ≡ task_delay (setting_of table before entry) t
delay_found table before entry clock t delay now h =
    h ∙ ap (λ (looks : List (List Seen)). delay_after table looks clock t) (map-append (λ (e : PassEntry). e.input.seen) before (entry ∷ []))
    ∙ ap (λ (n : ℕ). delay_after table (looks_of before ++ entry.input.seen ∷ []) n t) now

pub point_found : (table : Table) (before : List PassEntry) (entry : PassEntry) (t pass clock bandwidth delay threshold held booked limit : ℕ) (cap : Option ℕ)
    → pass ≡ length before → clock ≡ entry.input.now → bandwidth ≡ entry.input.bandwidth → delay ≡ task_delay (setting_of table before entry) t → threshold ≡ delay_of table t
    → held ≡ held_by table (actions_of (before ++ entry ∷ [])) t → booked ≡ booked_by table (actions_of (before ++ entry ∷ [])) t → cap ≡ cap_if_any table (before ++ entry ∷ []) t
    → limit ≡ limit_of table t
    → record {
      pass = pass;
      clock = clock;
      bandwidth = bandwidth;
      task = t;
      delay = delay;
      congested = nat_lt threshold delay;
      held = held;
      booked = booked;
      cap = cap;
      limit = limit;
    } ≡ point_of table before entry t
point_found table before entry t pass clock bandwidth delay threshold held booked limit cap e1 e2 e3 e4 e5 e6 e7 e8 e9 = cc
