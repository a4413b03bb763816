-- What C is told of a core: for whom it is banned, and who was granted it last.
use Rattle.std.specs.Prelude.{ℕ, Option, Some, None}
use Rattle.cal_machine.specs.Table.{Table}
use Rattle.cal_machine.specs.TableTasks.{owner_of}
use Rattle.cal_policy.specs.declared.board.bans.BannedFor.{BannedFor}
use Rattle.caladan_c.specs.declared.told.cores.ToldBan.{ToldBan}
use Rattle.caladan_c.specs.declared.told.cores.ToldLast.{ToldLast}

-- a ban in numbers; of a core that is not banned all is 0
abbrev pub told_ban_of : Option BannedFor → ToldBan
told_ban_of (Some ban) = record { banned = 1; thread = ban.thread; started = ban.started }
told_ban_of None = record { banned = 0; thread = 0; started = 0 }

-- the thread of the last grant, with its task; of a core that was granted to nobody all is 0
abbrev pub told_last_of : Table → Option ℕ → ToldLast
told_last_of table (Some thread) =
    record { granted = 1; thread = thread; task = owner_of table thread }
told_last_of table None = record { granted = 0; thread = 0; task = 0 }
