-- The rule of a queue: what all its ends pushed is what they took and what the queue holds.
use Rattle.std.specs.Prelude.{◌≡◌, ℕ, ◌+◌, ◌≤◌, List, [], ◌∷◌}
use mathlib.Core.Option.{some}
use lib.ListN.{get_elem?}
use Rattle.cal_machine.specs.declared.task_table.TheConstants.{MOST_LIMIT}
use Rattle.cal_kthread.specs.declared.queue.knowledge.Knowledge.{Knowledge}
use Rattle.cal_kthread.specs.declared.queue.waiting.Waiting.{Waiting}

-- the shares of a queue, which its own end and its thieves have together: one for each thread that
-- a task can have
abbrev pub queue_shares : ℕ
queue_shares = MOST_LIMIT

-- the weights of the members of a list, added up
abbrev pub weigh : {T : Type 0} → (T → ℕ) → List T → ℕ
weigh h [] = 0
weigh h (x ∷ xs) = h x + weigh h xs

abbrev pub knows : ℕ → List Waiting → List Waiting → List Waiting → Knowledge
knows shares pushed had handed =
    record { shares = shares; pushed = pushed; had = had; handed = handed }

-- what an end pushed, and what it took from the queue, by weight
abbrev pub pushed_weight : (Waiting → ℕ) → Knowledge → ℕ
pushed_weight h v = weigh h v.pushed

abbrev pub taken_weight : (Waiting → ℕ) → Knowledge → ℕ
taken_weight h v = weigh h v.had + weigh h v.handed

-- an end without shares has empty lists
abbrev pub IdleIsEmpty : List Knowledge → Type 0
IdleIsEmpty views = (port : ℕ) (v : Knowledge) → get_elem? views port ≡ some v → v.shares ≡ 0
    → (v.pushed ≡ []) × (v.had ≡ []) × (v.handed ≡ [])

-- All ends have the queue's shares together. What was pushed is, each as often, what was taken and
-- what the queue holds: so it is however requests are weighed.
pub record Balanced (items : List Waiting) (views : List Knowledge) : Type 0 where
  pub shares : weigh (λ v. v.shares) views ≡ queue_shares
  pub account : (h : Waiting → ℕ) →
      weigh (pushed_weight h) views ≡ weigh (taken_weight h) views + weigh h items
  pub idle : IdleIsEmpty views

-- what was pushed was taken or handed out, each as often
abbrev pub AllTaken : List Waiting → List Waiting → List Waiting → Type 0
AllTaken pushed had handed = (h : Waiting → ℕ) → weigh h pushed ≡ weigh h had + weigh h handed

-- what was taken and handed out had come into the queue, each no more often than it came
abbrev pub TookWhatCame : List Waiting → List Waiting → List Waiting → Type 0
TookWhatCame pushed had handed = (h : Waiting → ℕ) → weigh h had + weigh h handed ≤ weigh h pushed
