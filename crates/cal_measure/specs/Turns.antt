-- The turns of a kernel thread, as its journal tells of them. A turn ends with its publication.
use Rattle.std.specs.Prelude.{ℕ, ◌&&◌, ◌||◌, nat_lt, Bool, List, [], ◌∷◌, Option, Some, None}
use Rattle.std.specs.Option.{is_some, unwrap_or}
use Rattle.cal_signal.specs.declared.record.Record.{Record}
use Rattle.cal_kthread.specs.declared.journal.entry.Entry.{Entry}
use Rattle.cal_kthread.specs.declared.journal.entry.Entry.TheVariants.{Arrived, Took, Stole}
use Rattle.cal_kthread.specs.declared.journal.entry.Entry.TheVariants.{Served, Yielded, Published}
use Rattle.cal_policy.specs.History.Lists.{each_of, last_of}
use Rattle.cal_measure.specs.declared.turns.Turn.{Turn}

-- one thing, if there is one
abbrev pub one_of : {X : Type 0} → Option X → List X
one_of None = []
one_of (Some x) = x ∷ []

-- what an entry says of the request that the turn served: a Served names it, and after a
-- publication, which ends the turn, there is none
abbrev pub served_told : List Entry → Entry → Option (Option ℕ)
served_told before (Served id) = Some (Some id)
served_told before (Published number rec) = Some None
served_told before (Arrived request) = None
served_told before (Took number command) = None
served_told before (Stole from id) = None
served_told before Yielded = None

-- the request that was served since the last publication, if one was
abbrev pub served_since : List Entry → Option ℕ
served_since entries = unwrap_or (last_of served_told entries) None

-- A turn that served this was at work, where it published this record: the thread is on a core, and
-- is at a request or has just served one. (One that finds no request gives up its core; only in a
-- turn without work it may stay on it.)
abbrev pub was_at_work : Option ℕ → Record → Bool
was_at_work served rec = nat_lt 0 rec.running && (nat_lt 0 rec.started || is_some served)

-- the turn that an entry ends, told the entries before it: a publication ends one
abbrev pub turn_by : List Entry → Entry → List Turn
turn_by before (Published number rec) = record {
  served = served_since before;
  stamp = rec.stamp;
  at_work = was_at_work (served_since before) rec;
  suspended = nat_lt 0 rec.paused;
} ∷ []
turn_by before (Arrived request) = []
turn_by before (Took number command) = []
turn_by before (Stole from id) = []
turn_by before (Served id) = []
turn_by before Yielded = []

-- the turns of a journal
abbrev pub turns_of : List Entry → List Turn
turns_of entries = each_of turn_by entries
