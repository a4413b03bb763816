-- The names from outside these proofs that several of them cite, passed on from one place. Declares nothing.
pub use Rattle.cal_command.specs.Rings.{SenderView}
pub use Rattle.cal_kthread.specs.End.Account.{IsAccounted, KeepsItsWork, names_of, times}
pub use Rattle.cal_kthread.specs.End.HandingOut.{HandedOutNothing, RunView, run_of}
pub use Rattle.cal_kthread.specs.End.Rest.{EndView}
pub use Rattle.cal_kthread.specs.Journal.{IsJournal, arrivals_of, commands_of, record_in, records_of}
pub use Rattle.cal_kthread.specs.Team.{IsTeam, Place, place_of, place_of_rest}
pub use Rattle.cal_kthread.specs.Turn.Thread.{KernelView}
pub use Rattle.cal_kthread.specs.Turn.Turns.{AreTurns, Given, IsOneTurn, OneTurnMore, TurnsAddUp}
pub use Rattle.cal_kthread.specs.declared.journal.entry.Entry.{Entry}
pub use Rattle.cal_linear.specs.Runs.{AreFirst, AreOfOneRunBy, AreWatched, page_at}
pub use Rattle.cal_linear.specs.Steps.{journal_at}
pub use Rattle.cal_machine.proofs.Last.{last_or_before, take_next}
pub use Rattle.cal_machine.proofs.Places.{slice_get_at, slice_get_seam}
pub use Rattle.cal_machine.specs.Table.{Table}
pub use Rattle.cal_machine.specs.TableTasks.{threads_of_table}
pub use Rattle.cal_machine.specs.declared.request.Request.{Request}
pub use Rattle.cal_policy.proofs.PolicyLemmas.{legal_none_by, pass_at_by, pass_input}
pub use Rattle.cal_policy.specs.Policies.{IsLegalBy}
pub use Rattle.cal_policy.specs.declared.history.entry.PassEntry.{PassEntry}
pub use Rattle.cal_policy.specs.declared.policy.Policy.{Policy}
pub use Rattle.cal_run.specs.Closing.{AreClosed, AreEndsOf, AreOtherEnds, HaveClosed, IsClosed, IsEndOf, IsWholeRun, pages_of_runs, rings_of_runs}
pub use Rattle.cal_run.specs.Order.{Made, a_pass, then_round, turn_of}
unfoldable pub use Rattle.cal_run.specs.Order.{then_passes, then_rounds, then_turns}
pub use Rattle.cal_run.specs.Outcome.{IsRunBy, IsRunEndBy, figures_of, outcome_of}
pub use Rattle.cal_run.specs.Outcome.Headline.{HeadlineBy, NeverFall}
pub use Rattle.cal_run.specs.Parts.{AreFirstPasses, AreOfOneTeam, AreParts, HasPassed, MayBeEnded, SchedulerSeat, WatchSeat, filled, rounds_of, scheduler_seat_of, unread_round, watch_seat_of}
pub use Rattle.cal_run.specs.Workers.{FitSomeTable, HasMade, HaveMade, HaveMadeNoTurn, IsBefore, IsFrom, IsNext, MadeNoTurn, Seat, journals_of, pages_of_seats, rings_of_seats, seat_of, seats_of}
pub use Rattle.cal_run.specs.Workers.GivenTurns.{IsGiven, coming_to, request_at, turns_from, turns_given}
pub use Rattle.cal_run.specs.declared.outcome.RunEnd.{RunEnd}
pub use Rattle.cal_run.specs.declared.parts.Parts.{Parts}
pub use Rattle.cal_run.specs.declared.workers.worker.Worker.{Worker}
pub use Rattle.cal_sched.specs.Scheduler.{HaveSeenNothing, HaveSentNothing, IsKept, SchedulerView}
pub use Rattle.cal_sched.specs.Watching.{HaveWatched, IsRoundMore, WatchView, new_watch}
pub use Rattle.cal_signal.specs.Ends.{ObserverView}
pub use Rattle.cal_signal.specs.Pages.{FitsFrom, FitsPage, last_published, page_of}
pub use Rattle.cal_signal.specs.declared.look.Look.{Look}
pub use Rattle.cal_signal.specs.declared.record.Record.{Record}
pub use Rattle.cal_trace.specs.Arrivals.FitsTable.{ComesBefore, EachLater, Fits, FitsTable}
pub use Rattle.cal_trace.specs.Report.Summary.{IsTallyOf}
pub use Rattle.cal_trace.specs.declared.arrivals.Arrival.{Arrival}
pub use Rattle.cal_trace.specs.declared.arrivals.Arrivals.{Arrivals}
pub use Rattle.cal_trace.specs.declared.arrivals.GivenPass.{GivenPass}
pub use Rattle.cal_trace.specs.declared.report.tally.TheConstants.Tally.{NONE}
pub use Rattle.std.proofs.Common.{Bool, List, None, Option, Some, [], ap, append-nil, append_assoc, arith, drop, false, get_or, if◌then◌else◌, inl, inr, length, length-append, map, max, min, nat_eq, nat_lt, refl, replicate, rules, slice_index_or, subst, suc, sym, take, true, zero, ℕ, ⊎_elim, ◌&&◌, ◌*◌, ◌++◌, ◌+◌, ◌-◌, ◌<◌, ◌^◌, ◌∙◌, ◌∷◌, ◌≡◌, ◌≤◌, ◌⊎◌}
pub use Rattle.std.proofs.Math.ListN.{set}
pub use Rattle.std.proofs.lemmas.Bool.{cases_lt, eq-eqb, eqb-true, ltb-true}
pub use Rattle.std.proofs.lemmas.Bool.Decides.{nat_tests}
pub use Rattle.std.proofs.lemmas.List.{append_cancel_left, get_or_past, length-map, length-replicate, length-take, map-append, map-set, replicate_more, take_min, with_items_is}
pub use Rattle.std.proofs.lemmas.Option.{get_or_from_slice_get, slice_get-get_or, slice_get-map, slice_get_past, slice_get_within}
pub use Rattle.std.proofs.lemmas.Result.{IfOk-weaker}
pub use Rattle.std.specs.List.{AllZip, cons_option, filter_map, slice_get}
pub use Rattle.std.specs.Prelude.{IfOk, IsTrue, MatchBool, option_map, option_to_list, ◌==◌, ◌↔◌}
pub use Rattle.std.specs.Vec.Iter.{into_iter_items, into_iter_len}
pub use mathlib.Core.Option.{some, some-ne-none}
