-- What all actions so far say of cores, threads and tasks. The actions are a list from the first
-- pass on; nothing is carried along.
pub mod Lists
pub mod CoreClasses
pub mod Looks
pub mod Found
use Rattle.std.specs.Prelude.{ℕ, ◌+◌, ◌-◌, ◌==◌, Bool, List, [], ◌∷◌, length, take}
use Rattle.std.specs.Prelude.{map, Option, Some, None, if◌then◌else◌}
use Rattle.std.specs.Option.{unwrap_or, is_some}
use Rattle.std.specs.List.{flat_map}
use Rattle.cal_machine.specs.declared.command.Command.{Command}
use Rattle.cal_machine.specs.declared.command.Command.TheVariants.{Run, Park}
use Rattle.cal_policy.specs.declared.history.action.Action.{Action}
use Rattle.cal_policy.specs.declared.history.action.Action.TheVariants.{Free, Unban, Ban}
use Rattle.cal_policy.specs.declared.history.action.Action.TheVariants.{Revoke, Cap, Grant}
use Rattle.cal_policy.specs.declared.history.action.Cause.{Cause}
use Rattle.cal_policy.specs.declared.board.holders.Holder.{Holder}
use Rattle.cal_policy.specs.declared.board.holders.Holder.TheVariants as holders
use Rattle.cal_policy.specs.declared.board.holders.Placement as placements
use Rattle.cal_policy.specs.declared.board.bans.BannedFor.{BannedFor}
use Rattle.cal_policy.specs.declared.history.entry.PassEntry.{PassEntry}
use Rattle.cal_policy.specs.declared.history.look.Seen.{Seen}
use Rattle.cal_policy.specs.History.Lists.{last_of, each_of}

-- the actions of all passes of a history, end to end
abbrev pub actions_of : List PassEntry → List Action
actions_of history = flat_map (λ entry. entry.actions) history

-- the looks of all passes of a history, pass by pass
abbrev pub looks_of : List PassEntry → List (List Seen)
looks_of history = map (λ entry. entry.input.seen) history

-- the same of all passes but the last
abbrev pub looks_before : List PassEntry → List (List Seen)
looks_before history = looks_of (take (length history - 1) history)

-- an action as a grant of core c: the thread
abbrev pub thread_granted : ℕ → List Action → Action → Option ℕ
thread_granted c before (Grant core thread class) = if core == c then Some thread else None
thread_granted c before (Free core) = None
thread_granted c before (Unban core) = None
thread_granted c before (Ban core thread started) = None
thread_granted c before (Revoke core cause) = None
thread_granted c before (Cap task cap) = None

-- the thread to which the last grant of core c went
abbrev pub last_thread : List Action → ℕ → Option ℕ
last_thread x c = last_of (thread_granted c) x

-- a command, where it is to thread k
abbrev pub command_to : ℕ → Option ℕ → Command → List Command
command_to k None command = []
command_to k (Some thread) command = if thread == k then command ∷ [] else []

-- what of a command and the thread that it goes to is sent to thread k
abbrev pub addressed_to : ℕ → Option (ℕ × Command) → List Command
addressed_to k None = []
addressed_to k (Some sent) = command_to k (Some sent.0) sent.1

-- what an action sends to thread k: a grant to it sends Run, a revocation of a core whose last
-- grant before went to it sends Park
abbrev pub sends : ℕ → List Action → Action → List Command
sends k before (Grant core thread class) = command_to k (Some thread) (Run core)
sends k before (Revoke core cause) = command_to k (last_thread before core) Park
sends k before (Free core) = []
sends k before (Unban core) = []
sends k before (Ban core thread started) = []
sends k before (Cap task cap) = []

-- the commands to thread k, in order; they are numbered from 1
abbrev pub commands_to : List Action → ℕ → List Command
commands_to x k = each_of (sends k) x

-- how many commands were sent to thread k
abbrev pub sent_to : List Action → ℕ → ℕ
sent_to x k = length (commands_to x k)

-- a thread on a core, by its next command after these actions
abbrev pub placed : List Action → ℕ → placements.Placement
placed before thread = record { thread = thread; number = sent_to before thread + 1 }

-- an action as a grant of core c: the thread, and the number of its command
abbrev pub placement_made : ℕ → List Action → Action → Option placements.Placement
placement_made c before (Grant core thread class) =
    if core == c then Some (placed before thread) else None
placement_made c before (Free core) = None
placement_made c before (Unban core) = None
placement_made c before (Ban core thread started) = None
placement_made c before (Revoke core cause) = None
placement_made c before (Cap task cap) = None

-- the last grant of core c
abbrev pub last_placement : List Action → ℕ → Option placements.Placement
last_placement x c = last_of (placement_made c) x

-- a core that is revoked is being left by the thread of the grant before
abbrev pub left_by : Option placements.Placement → Cause → Holder
left_by None cause = holders.Free
left_by (Some placement) cause = holders.Leaving placement cause

-- what an action that names core c makes of its holder
abbrev pub holder_made : ℕ → List Action → Action → Option Holder
holder_made c before (Free core) = if core == c then Some holders.Free else None
holder_made c before (Grant core thread class) =
    if core == c then Some (holders.Held (placed before thread)) else None
holder_made c before (Revoke core cause) =
    if core == c then Some (left_by (last_placement before core) cause) else None
holder_made c before (Unban core) = None
holder_made c before (Ban core thread started) = None
holder_made c before (Cap task cap) = None

-- who has core c: the last Free, Revoke or Grant that names it says so, and without one it is free
abbrev pub holder_of : List Action → ℕ → Holder
holder_of x c = unwrap_or (last_of (holder_made c) x) holders.Free

-- what an action that names core c makes of its ban
abbrev pub ban_made : ℕ → List Action → Action → Option (Option BannedFor)
ban_made c before (Ban core thread started) =
    if core == c then Some (Some (record { thread = thread; started = started })) else None
ban_made c before (Unban core) = if core == c then Some None else None
ban_made c before (Free core) = None
ban_made c before (Revoke core cause) = None
ban_made c before (Cap task cap) = None
ban_made c before (Grant core thread class) = None

-- the ban on core c: the last Ban or Unban that names it, where that is a Ban
abbrev pub ban_of : List Action → ℕ → Option BannedFor
ban_of x c = unwrap_or (last_of (ban_made c) x) None

-- core c is banned
abbrev pub is_banned : List Action → ℕ → Bool
is_banned x c = is_some (ban_of x c)

-- an action as a cap of task t
abbrev pub cap_made : ℕ → List Action → Action → Option ℕ
cap_made t before (Cap task cap) = if task == t then Some cap else None
cap_made t before (Free core) = None
cap_made t before (Unban core) = None
cap_made t before (Ban core thread started) = None
cap_made t before (Revoke core cause) = None
cap_made t before (Grant core thread class) = None

-- the last cap of task t
abbrev pub last_cap : List Action → ℕ → Option ℕ
last_cap x t = last_of (cap_made t) x
