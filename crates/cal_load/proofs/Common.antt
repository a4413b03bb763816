-- The names from outside these proofs that several of them cite, passed on from one place. Declares nothing.
pub use Rattle.cal_came.specs.declared.came.Came.{Came}
pub use Rattle.cal_load.specs.Built.{AreBuilt, AreBuiltTo, HasIdTo, HasMoreFor, IsBefore}
pub use Rattle.cal_load.specs.Clocks.{ArePassesOf, AreTurnsOf, IsTiming, clock_to, turn_clock}
pub use Rattle.cal_load.specs.Comings.{IsComing, IsComingTo, IsEarlier, IsQueue, IsSlot, slots_in, taken_in}
pub use Rattle.cal_load.specs.Counts.{came_in, count_of}
pub use Rattle.cal_load.specs.Logs.{AreGiven, AreOfTasks, IsLogCount, IsLogRow, rows_for}
pub use Rattle.cal_load.specs.Made.{AreCountedBy, AreCountsOf, AreGathered, HasCount, IsCountOf, IsLoadCount, IsLoadOf, IsPut, IsTimedBy}
pub use Rattle.cal_load.specs.declared.clocks.Timing.{Timing}
pub use Rattle.cal_load.specs.declared.log.LogRow.{LogRow}
pub use Rattle.cal_load.specs.declared.made.Count.{Count}
pub use Rattle.cal_load.specs.declared.made.Gathered.{Gathered}
pub use Rattle.cal_load.specs.declared.made.TheConstants.{MOST_REQUESTS}
pub use Rattle.cal_load.specs.declared.making.Coming.{Coming}
pub use Rattle.cal_load.specs.declared.making.Queue.{Queue}
pub use Rattle.cal_load.specs.declared.making.TaskLoad.{TaskLoad}
pub use Rattle.cal_machine.proofs.Last.{last_or_before, slice_get-last, slice_get-other, some_same, take_next}
pub use Rattle.cal_machine.specs.Table.{IsTask, Table}
pub use Rattle.cal_machine.specs.Tasks.{first_thread, no_task, task_at, threads_in}
pub use Rattle.cal_trace.proofs.ListLemmas.EachOne.{each_cons, each_first, each_none, each_other, each_push}
pub use Rattle.cal_trace.specs.Arrivals.FitsTable.{ComesBefore, EachLater, FitsTable, HaveTwoIds, IsArrival}
pub use Rattle.cal_trace.specs.History.Ranges.{Each, IsWord}
pub use Rattle.cal_trace.specs.declared.arrivals.Arrival.{Arrival}
pub use Rattle.cal_trace.specs.declared.arrivals.GivenPass.{GivenPass}
pub use Rattle.std.proofs.Common.{All, List, None, Option, Some, [], ap, append_assoc, arith, cond, eqb, get_or, inl, inr, length, length-append, map, not, refl, slice_get, subst, suc, sym, take, take_all, zero, ℕ, ⊎_elim, ◌*◌, ◌++◌, ◌+◌, ◌-◌, ◌<◌, ◌^◌, ◌∙◌, ◌∷◌, ◌≡◌, ◌≢◌, ◌≤◌, ◌⊎◌}
pub use Rattle.std.proofs.lemmas.List.{append-nil, length-take, map-append, take_more}
pub use Rattle.std.proofs.lemmas.List.Elements.{All-get_or, All-push, All-set, filter_more}
pub use Rattle.std.proofs.lemmas.List.Sums.{sum_by-set, sum_by_more, sum_by_push}
pub use Rattle.std.proofs.lemmas.Option.{get_or_from_slice_get, slice_get-get_or, slice_get_within}
