-- What a scheduler needs of each policy: its histories are permitted, so the laws of permitted
-- histories hold of them.
use Rattle.cal_sched.proofs.Common.{◌≡◌, ◌<◌, ◌≤◌, ◌+◌, ℕ, true, List, length, take, Some, Table, IsTable, Action, PassEntry, Policy, actions_of, holder_of, sends, sent_to, SettledAreNoNews, IsLegalBy, Point, setting_at, actions_at, next_at, IsPointBy}
use Rattle.cal_policy.specs.declared.policy.Policy.TheVariants.{Caladan, Assured}
use Rattle.cal_policy.specs.Setting.{has_room}
use Rattle.cal_laws.specs.Exclusion.{IsByLastRun}
use Rattle.cal_guard.specs.Histories.{EachPolicyIsPermitted, IsPermittedPoint}
use Rattle.cal_guard.specs.Laws.{CommandsGoWhereIsRoom, HoldersAreOfTheirLastRun, ThreadsAreSentOneCommand}
use Rattle.cal_guard.specs.Settled.{PermittedSettledIsNoNews}

-- a point in a pass of a history of the policy is one of a permitted history
permitted_point : EachPolicyIsPermitted → (policy : Policy) (here : Point) → IsPointBy policy here → IsPermittedPoint here
permitted_point each Caladan here is = record { permitted = each Caladan here.table here.history is.table is.legal; entry = is.entry; made = is.made }
permitted_point each Assured here is = record { permitted = each Assured here.table here.history is.table is.legal; entry = is.entry; made = is.made }

-- a settled look is no news
pub no_news_by : EachPolicyIsPermitted → PermittedSettledIsNoNews → (policy : Policy) (table : Table) (h : List PassEntry) → IsTable table → IsLegalBy policy table h → SettledAreNoNews table h
no_news_by each law policy table h ok legal = law table h (each policy table h ok legal)

-- a command is sent only to a thread whose ring has room
abbrev pub GoWhereIsRoom : Policy → Type 0
GoWhereIsRoom policy = (here : Point) → IsPointBy policy here → (action : Action) → next_at here ≡ Some action → (k : ℕ)
    → 0 < length (sends k (actions_at here) action) → has_room (setting_at here) k ≡ true

pub room_by : EachPolicyIsPermitted → CommandsGoWhereIsRoom → (policy : Policy) → GoWhereIsRoom policy
room_by each law policy here is = law here (permitted_point each policy here is)

-- at every point a pass has sent each thread at most one command
abbrev pub AreSentOneCommand : Policy → Type 0
AreSentOneCommand policy = (here : Point) → IsPointBy policy here → (k : ℕ)
    → sent_to (actions_at here) k ≤ sent_to (actions_of (take here.pass here.history)) k + 1

pub one_command_by : EachPolicyIsPermitted → ThreadsAreSentOneCommand → (policy : Policy) → AreSentOneCommand policy
one_command_by each law policy here is = law here (permitted_point each policy here is)

-- who has a core has it by the last Run that was sent for it
abbrev pub AreOfTheirLastRun : Policy → Type 0
AreOfTheirLastRun policy = (here : Point) → IsPointBy policy here → (c : ℕ) → c < here.table.cores
    → IsByLastRun (actions_at here) c (holder_of (actions_at here) c)

pub last_run_by : EachPolicyIsPermitted → HoldersAreOfTheirLastRun → (policy : Policy) → AreOfTheirLastRun policy
last_run_by each law policy here is = law here (permitted_point each policy here is)
