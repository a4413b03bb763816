-- Which events may happen after which, and legal lists, told so that one more event is one step.
use Rattle.cal_linear.proofs.Common.{◌≡◌, ℕ, ◌<◌, ◌≤◌, List, [], ◌∷◌, ◌++◌, length, IsSome, Table, Record, last_published, MayFollow, running_word, threads_of_table, actions_of, sent_to, Policy, State, state_after, Event, Take, Yield, Publish, Read, Skip, Decide, Watch, history_in, KeepsNone}
use Rattle.cal_policy.specs.Policies.{IsPassBy}
use Rattle.cal_linear.proofs.Along.{journal_along, published_along, floor_along, watch_floor_along, looks_along}

-- how many commands thread k has taken after these events, and its core
abbrev pub state_along : List Event → ℕ → State
state_along events k = state_after (journal_along events k)

-- a record shows that state, and may be published after these ones
abbrev pub MayBePublished : State → List Record → Record → Type 0
MayBePublished state published rec = (rec.taken ≡ state.taken) × (rec.running ≡ running_word state.core) × MayFollow (last_published published) rec

-- after these events the scheduler looks at thread k next
abbrev pub IsTurnOf : List Event → ℕ → Type 0
IsTurnOf before k = length (looks_along before) ≡ k

-- An event may happen after these ones. A Take: a command was sent and not taken. A Yield: the
-- thread is on a core. A Publish: the record shows its state, and may follow on its page. A Read:
-- the place is not below the floor, and is published. Looks come one a thread, in thread order,
-- between two Decides. A Decide: its entry has those looks, and is a pass. A Watch: as a Read, at
-- any place in the list, with a floor of its own.
abbrev pub IsAllowedAlong : Policy → Table → List Event → Event → Type 0
IsAllowedAlong policy table before (Take k) = (k < threads_of_table table) × ((state_along before k).taken < sent_to (actions_of (history_in before)) k)
IsAllowedAlong policy table before (Yield k) = (k < threads_of_table table) × IsSome (state_along before k).core
IsAllowedAlong policy table before (Publish k rec) = (k < threads_of_table table) × MayBePublished (state_along before k) (published_along before k) rec
IsAllowedAlong policy table before (Read k place) = (k < threads_of_table table) × (floor_along before k ≤ place) × (place ≤ length (published_along before k)) × IsTurnOf before k
IsAllowedAlong policy table before (Skip k seen) = (k < threads_of_table table) × IsTurnOf before k × KeepsNone seen
IsAllowedAlong policy table before (Decide entry) = IsTurnOf before (threads_of_table table) × (looks_along before ≡ entry.input.seen) × IsPassBy policy table (history_in before) entry
IsAllowedAlong policy table before (Watch k place) = (k < threads_of_table table) × (watch_floor_along before k ≤ place) × (place ≤ length (published_along before k))

-- each of the events is allowed after those before it, which begin with `before`
abbrev pub AllowedAfter : Policy → Table → List Event → List Event → Type 0
AllowedAfter policy table before [] = Unit {0}
AllowedAfter policy table before (event ∷ events) = IsAllowedAlong policy table before event × AllowedAfter policy table (before ++ event ∷ []) events

-- a legal list
abbrev pub IsLegalAlong : Policy → Table → List Event → Type 0
IsLegalAlong policy table events = AllowedAfter policy table [] events
