-- What a turn hands out, and the entries for which it stands.
use Rattle.std.specs.Prelude.{Option, option_map, option_to_list, List, [], ◌∷◌, ◌++◌}
use Rattle.cal_kthread.specs.declared.journal.entry.Entry.{Entry}
use Rattle.cal_kthread.specs.declared.journal.entry.Entry.TheVariants as entry
use Rattle.cal_kthread.specs.declared.turn.done.Publication.{Publication}
use Rattle.cal_kthread.specs.declared.turn.done.Taken.{Taken}
use Rattle.cal_kthread.specs.declared.turn.done.Theft.{Theft}
use Rattle.cal_kthread.specs.declared.turn.done.Worked.{Worked}
use Rattle.cal_kthread.specs.declared.turn.done.Worked.TheVariants.{Served, Yielded}
use Rattle.cal_kthread.specs.declared.turn.entries.TurnEntries.{TurnEntries}

-- the entry of a command that was taken
abbrev pub entry_of_taken : Taken → Entry
entry_of_taken taken = entry.Took taken.number taken.command

-- of a request that was stolen
abbrev pub entry_of_theft : Theft → Entry
entry_of_theft theft = entry.Stole theft.from theft.id

-- of a request that was served, or of a core that was given up
abbrev pub entry_of_work : Worked → Entry
entry_of_work (Served id) = entry.Served id
entry_of_work Yielded = entry.Yielded

-- and of a record that was published
abbrev pub entry_of_publication : Publication → Entry
entry_of_publication publication = entry.Published publication.place publication.shown

-- the entry of each step of a turn, if it did something
abbrev pub arrival : TurnEntries → Option Entry
arrival e = option_map entry.Arrived e.arrived

abbrev pub taking : TurnEntries → Option Entry
taking e = option_map entry_of_taken e.took

abbrev pub theft : TurnEntries → Option Entry
theft e = option_map entry_of_theft e.stole

abbrev pub work : TurnEntries → Option Entry
work e = option_map entry_of_work e.worked

abbrev pub publication : TurnEntries → Entry
publication e = entry_of_publication e.published

-- one after the other, in the order of the steps
abbrev pub entries_of : TurnEntries → List Entry
entries_of e = option_to_list (arrival e) ++ option_to_list (taking e)
    ++ option_to_list (theft e) ++ option_to_list (work e) ++ publication e ∷ []
