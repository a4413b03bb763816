-- The passes of the runs, each after those before it: what they do, that they are the policy's, and that the
-- second task waits in them. After the revocations a pass in which no thread has left changes nothing.
use Rattle.cal_guarantee.proofs.Common.{◌≡◌, ℕ, ◌<◌, true, false, List, [], ◌∷◌, take, Some, slice_get, refl, sym, subst, arith, zero, suc, All, IsTable, IsTask, task_of, PassEntry, actions_of, looks_of, setting_of, so_far, bounded_of, pass_of, IsLegal, IsPass, waits_short, slice_index_or, needs_at}
use Rattle.std.proofs.lemmas.List.Elements.{All-cons}
use Rattle.cal_signal.specs.declared.record.Record.{Record}
use Rattle.cal_signal.specs.Records.{IsLater, IsShaped}
use Rattle.cal_signal.specs.Shown.{IsFitShown}
use Rattle.cal_policy.specs.declared.history.look.Seen.{Seen}
use Rattle.cal_policy.specs.History.Looks.{last_shown, look_of}
use Rattle.cal_policy.specs.Judgement.Judging.{IsFitLook, IsInput, judged}
use Rattle.cal_idle.specs.Idle.{IsIdle}
use Rattle.cal_idle.proofs.AtSight.{same_looks}
use Rattle.cal_guarantee.specs.Example.{first_task, second_task, two_tasks, shown, first_pass, second_pass, third_pass, waiting_pass, last_pass}

-- the first two, and the first three
abbrev pub two_passes : List PassEntry
two_passes = first_pass ∷ second_pass ∷ []

abbrev pub three_passes : List PassEntry
three_passes = first_pass ∷ second_pass ∷ third_pass ∷ []

-- each pass does what it says
first_actions : pass_of (setting_of two_tasks [] first_pass) ≡ first_pass.actions
unfolding task_of
first_actions = refl

second_actions : pass_of (setting_of two_tasks (first_pass ∷ []) second_pass) ≡ second_pass.actions
unfolding task_of
second_actions = refl

third_actions : pass_of (setting_of two_tasks two_passes third_pass) ≡ third_pass.actions
unfolding task_of
third_actions = refl

waiting_actions : pass_of (setting_of two_tasks three_passes waiting_pass) ≡ waiting_pass.actions
unfolding task_of
waiting_actions = refl

last_actions : pass_of (setting_of two_tasks three_passes last_pass) ≡ last_pass.actions
unfolding task_of
last_actions = refl

-- what threads show may be shown
fit_new : (n m : ℕ) (a b : Record) → n < m → IsLater a b → IsShaped b → IsFitShown (record { number = n; rec = a }) (record { number = m; rec = b })
fit_new n m a b lt later shaped = (shaped, record { not_below = omega (arith, lt); same = λ e. absurd (omega (arith, lt, e)); later = λ l. later })

fit_same : (n : ℕ) (a : Record) → IsShaped a → IsFitShown (record { number = n; rec = a }) (record { number = n; rec = a })
fit_same n a shaped = (shaped, record { not_below = omega arith; same = λ e. refl; later = λ l. absurd (omega (arith, l)) })

shaped : (taken queued : ℕ) → IsShaped (shown taken queued)
shaped taken queued = (omega arith, omega arith)

four : (P : ℕ → Seen → Type 0) (a b c d : Seen) → P 0 a → P 1 b → P 2 c → P 3 d → (k : ℕ) (seen : Seen) → slice_get (a ∷ b ∷ c ∷ d ∷ []) k ≡ Some seen → P k seen
four P a b c d pa pb pc pd zero seen e = let same : a ≡ seen = cc in subst (λ x. P 0 x) same pa
four P a b c d pa pb pc pd (suc zero) seen e = let same : b ≡ seen = cc in subst (λ x. P 1 x) same pb
four P a b c d pa pb pc pd (suc (suc zero)) seen e = let same : c ≡ seen = cc in subst (λ x. P 2 x) same pc
four P a b c d pa pb pc pd (suc (suc (suc zero))) seen e = let same : d ≡ seen = cc in subst (λ x. P 3 x) same pd
four P a b c d pa pb pc pd (suc (suc (suc (suc k)))) seen e = cc

-- a look fits after these passes, and says what is judged of it
abbrev Fits : List PassEntry → ℕ → Seen → Type 0
Fits before k seen = IsFitLook (last_shown (looks_of before) k) seen

abbrev IsAsJudged : List PassEntry → ℕ → Seen → Type 0
IsAsJudged before k seen = seen ≡ judged 2 (actions_of before) k (look_of seen)

first_input : IsInput two_tasks [] first_pass.input
first_input = record {
  looks = record {
    looks = refl;
    rooms = refl;
    fit = four (Fits []) _ _ _ _
        (fit_new 0 1 _ (shown 0 1) (omega arith) (omega arith, omega arith, omega arith) (shaped 0 1))
        (fit_new 0 1 _ (shown 0 1) (omega arith) (omega arith, omega arith, omega arith) (shaped 0 1))
        (fit_new 0 1 _ (shown 0 0) (omega arith) (omega arith, omega arith, omega arith) (shaped 0 0))
        (fit_new 0 1 _ (shown 0 0) (omega arith) (omega arith, omega arith, omega arith) (shaped 0 0));
  };
  as_judged = four (IsAsJudged []) _ _ _ _ refl refl refl refl;
}

second_input : IsInput two_tasks (first_pass ∷ []) second_pass.input
second_input = record {
  looks = record {
    looks = refl;
    rooms = refl;
    fit = four (Fits (first_pass ∷ [])) _ _ _ _ (fit_same 1 (shown 0 1) (shaped 0 1)) (fit_same 1 (shown 0 1) (shaped 0 1))
        (fit_same 1 (shown 0 0) (shaped 0 0)) (fit_same 1 (shown 0 0) (shaped 0 0));
  };
  as_judged = four (IsAsJudged (first_pass ∷ [])) _ _ _ _ refl refl refl refl;
}

third_input : IsInput two_tasks two_passes third_pass.input
third_input = record {
  looks = record {
    looks = refl;
    rooms = refl;
    fit = four (Fits two_passes) _ _ _ _ (fit_same 1 (shown 0 1) (shaped 0 1)) (fit_same 1 (shown 0 1) (shaped 0 1))
        (fit_new 1 2 (shown 0 0) (shown 0 1) (omega arith) (omega arith, omega arith, omega arith) (shaped 0 1))
        (fit_new 1 2 (shown 0 0) (shown 0 1) (omega arith) (omega arith, omega arith, omega arith) (shaped 0 1));
  };
  as_judged = four (IsAsJudged two_passes) _ _ _ _ refl refl refl refl;
}

waiting_input : IsInput two_tasks three_passes waiting_pass.input
waiting_input = record {
  looks = record {
    looks = refl;
    rooms = refl;
    fit = four (Fits three_passes) _ _ _ _ (fit_same 1 (shown 0 1) (shaped 0 1)) (fit_same 1 (shown 0 1) (shaped 0 1))
        (fit_same 2 (shown 0 1) (shaped 0 1)) (fit_same 2 (shown 0 1) (shaped 0 1));
  };
  as_judged = four (IsAsJudged three_passes) _ _ _ _ refl refl refl refl;
}

last_input : IsInput two_tasks three_passes last_pass.input
last_input = record {
  looks = record {
    looks = refl;
    rooms = refl;
    fit = four (Fits three_passes) _ _ _ _
        (fit_new 1 2 (shown 0 1) (shown 2 0) (omega arith) (omega arith, omega arith, omega arith) (shaped 2 0))
        (fit_new 1 2 (shown 0 1) (shown 2 0) (omega arith) (omega arith, omega arith, omega arith) (shaped 2 0))
        (fit_same 2 (shown 0 1) (shaped 0 1)) (fit_same 2 (shown 0 1) (shaped 0 1));
  };
  as_judged = four (IsAsJudged three_passes) _ _ _ _ refl refl refl refl;
}

-- so the run without a waiting pass is legal
shortest_by : (p : ℕ) (entry : PassEntry) → slice_get (first_pass ∷ second_pass ∷ third_pass ∷ last_pass ∷ []) p ≡ Some entry →
    IsPass two_tasks (take p (first_pass ∷ second_pass ∷ third_pass ∷ last_pass ∷ [])) entry
shortest_by zero entry e =
    let same : first_pass ≡ entry = cc in
    subst (λ (one : PassEntry). IsPass two_tasks [] one) same (record { input = first_input; actions = sym first_actions })
shortest_by (suc zero) entry e =
    let same : second_pass ≡ entry = cc in
    subst (λ (one : PassEntry). IsPass two_tasks (first_pass ∷ []) one) same (record { input = second_input; actions = sym second_actions })
shortest_by (suc (suc zero)) entry e =
    let same : third_pass ≡ entry = cc in
    subst (λ (one : PassEntry). IsPass two_tasks two_passes one) same (record { input = third_input; actions = sym third_actions })
shortest_by (suc (suc (suc zero))) entry e =
    let same : last_pass ≡ entry = cc in
    subst (λ (one : PassEntry). IsPass two_tasks three_passes one) same (record { input = last_input; actions = sym last_actions })
shortest_by (suc (suc (suc (suc p)))) entry e = cc

pub shortest_legal : IsLegal two_tasks (first_pass ∷ second_pass ∷ third_pass ∷ last_pass ∷ [])
shortest_legal = record { passes = shortest_by }

-- and a waiting pass is one of the policy after the revocations, and idle
pub waiting_is_pass : IsPass two_tasks three_passes waiting_pass
waiting_is_pass = record { input = waiting_input; actions = sym waiting_actions }

pub waiting_is_idle : IsIdle three_passes waiting_pass
waiting_is_idle = same_looks three_passes waiting_pass
    (record { earlier = two_passes; last = third_pass; after = refl; looks = refl; nothing_done = refl })

-- the table is an accepted one
first_is : IsTask first_task
first_is = record { some_limit = omega arith; limit = omega arith; guaranteed = omega arith; delay = omega arith; request = omega arith; best_effort = λ e. refl }

second_is : IsTask second_task
second_is = record { some_limit = omega arith; limit = omega arith; guaranteed = omega arith; delay = omega arith; request = omega arith; best_effort = λ e. cc }

none_is : All IsTask []
none_is k d lt = absurd (omega (arith, lt))

pub accepted : IsTable two_tasks
accepted = record {
  machine = record { even = refl; least = omega arith; most = omega arith };
  bandwidth_limit = omega arith;
  some_task = omega arith;
  tasks = omega arith;
  each = All-cons IsTask first_task (second_task ∷ []) first_is (All-cons IsTask second_task [] second_is none_is);
  guarantees = omega arith;
  threads = omega arith;
}

-- every ring has room
pub rooms_of : (k : ℕ) → k < 4 → slice_index_or (true ∷ true ∷ true ∷ true ∷ []) k false ≡ true
rooms_of zero lt = refl
rooms_of (suc zero) lt = refl
rooms_of (suc (suc zero)) lt = refl
rooms_of (suc (suc (suc zero))) lt = refl
rooms_of (suc (suc (suc (suc k)))) lt = absurd (omega (arith, lt))

-- from the third on the second task waits in each, and needs two cores
pub third_waits : waits_short (setting_of two_tasks two_passes third_pass)
    (so_far (setting_of two_tasks two_passes third_pass) (bounded_of (setting_of two_tasks two_passes third_pass))) 1 ≡ true
unfolding task_of
third_waits = refl

pub third_needs : needs_at (setting_of two_tasks two_passes third_pass) 1 ≡ 2
unfolding task_of
third_needs = refl

pub waiting_waits : waits_short (setting_of two_tasks three_passes waiting_pass)
    (so_far (setting_of two_tasks three_passes waiting_pass) (bounded_of (setting_of two_tasks three_passes waiting_pass))) 1 ≡ true
unfolding task_of
waiting_waits = refl

pub waiting_needs : needs_at (setting_of two_tasks three_passes waiting_pass) 1 ≡ 2
unfolding task_of
waiting_needs = refl

pub last_waits : waits_short (setting_of two_tasks three_passes last_pass)
    (so_far (setting_of two_tasks three_passes last_pass) (bounded_of (setting_of two_tasks three_passes last_pass))) 1 ≡ true
unfolding task_of
last_waits = refl

pub last_needs : needs_at (setting_of two_tasks three_passes last_pass) 1 ≡ 2
unfolding task_of
last_needs = refl
