-- The names from outside these proofs that several of them cite, passed on from one place. Declares nothing.
pub use Rattle.cal_came.specs.declared.came.Came.{Came}
pub use Rattle.cal_kthread.specs.declared.journal.entry.Entry.{Entry}
pub use Rattle.cal_machine.proofs.Last.{last_or_before, slice_get-last, some_same}
pub use Rattle.cal_machine.specs.Table.{Table}
pub use Rattle.cal_machine.specs.TableTasks.{delay_of, limit_of, owner_of, thread_of, threads_of_table}
pub use Rattle.cal_measure.specs.Actions.{AreActionsOf, IsNothingTo, if_such, many_of}
pub use Rattle.cal_measure.specs.Clocks.{AreClocksOf, run_end}
pub use Rattle.cal_measure.specs.Cores.{AreCoresOf, AreMachineCores, MakeTheWhole, bandwidth_in, core_time, held_after, in_state_after, is_over_limit, left_after}
pub use Rattle.cal_measure.specs.Ends.{ticks_of, timed_at, timed_by, timed_of}
pub use Rattle.cal_measure.specs.Joined.{joined_below}
pub use Rattle.cal_measure.specs.Requests.{AreOfServices, AreRequestsOf, AreTimesOf, given_to, left_at, left_of_task, request_within, requests_within, response_of, service_within, services_at, services_within, slowdown_by, slowdowns_of, so_far_of, wait_of, worked_of}
pub use Rattle.cal_measure.specs.Services.{any_serves, begun_since, clocked, first_at_work, service_by, services_of, since_service, worked_in, worked_since}
pub use Rattle.cal_measure.specs.Spans.{Move, actions_in, begun_by, begun_of, ended, ended_by, ending, granted, made_in, moves_from, moves_of, open_of, span_at, span_by, spans_of, told_by}
pub use Rattle.cal_measure.specs.States.{AreAtMost, AreStateCounts, clock_at, clock_in, count_in_state, delay_after, found_congested, is_congested_at, is_in_state, lasts_at}
pub use Rattle.cal_measure.specs.ThreadWork.{AreTotalsOf, AreTotalsOfEach, AreTurnsSoFar, IsThreadWorkOf, IsWithin, IsWorkOf, IsWorkOfEnded, ended_of, latest_of}
pub use Rattle.cal_measure.specs.Turns.{one_of, served_since, served_told, turn_by, turns_of}
pub use Rattle.cal_measure.specs.Walk.{EachTask, IsOpenFor, IsTimeOf, IsWalkOf, clock_of, last_clock, since, until_next}
pub use Rattle.cal_measure.specs.Work.{AreWorkOf, journal_of, stolen_at, stolen_by, suspension_at, suspension_by, suspensions_at, suspensions_in, time_worked, worked_at}
pub use Rattle.cal_measure.specs.declared.cores.TaskActions.{TaskActions}
pub use Rattle.cal_measure.specs.declared.ends.TimedTurn.{TimedTurn}
pub use Rattle.cal_measure.specs.declared.services.Service.{Service}
pub use Rattle.cal_measure.specs.declared.spans.span.Span.{Span}
pub use Rattle.cal_measure.specs.declared.states.CoreState.{CoreState}
pub use Rattle.cal_measure.specs.declared.thread_work.totals.ThreadTotals.{ThreadTotals}
pub use Rattle.cal_measure.specs.declared.walk.task_time.TaskTime.{TaskTime}
pub use Rattle.cal_policy.proofs.HistoryLemmas.OneMore.{ban_push, holder_push, last_placement_push}
pub use Rattle.cal_policy.proofs.ListLemmas.OneMore.{each_of_append, each_of_push, get_or_same, last_of_push, or_if, unwrap_or_or}
pub use Rattle.cal_policy.proofs.ListLemmas.OneNumberMore.{count_more, greatest_more, greatest_past, one_at_most}
pub use Rattle.cal_policy.specs.Board.{NamesTable, kept_holder, placement_of}
pub use Rattle.cal_policy.specs.Board.Counts.{booked_by, held_by, is_free, is_held}
pub use Rattle.cal_policy.specs.History.{actions_of, ban_made, ban_of, holder_made, holder_of, is_banned, last_placement, left_by, looks_of, placement_made}
pub use Rattle.cal_policy.specs.History.Lists.{each_after, each_of, last_of}
pub use Rattle.cal_policy.specs.History.Looks.{kept_by}
pub use Rattle.cal_policy.specs.Pass.Choice.{count_below, greatest_below, sum_below}
pub use Rattle.cal_policy.specs.Pass.Grants.{record_delay}
pub use Rattle.cal_policy.specs.State.{Agrees, IsReady, IsStateAfter, KeepingAgrees}
pub use Rattle.cal_policy.specs.declared.board.holders.Holder.{Holder}
pub use Rattle.cal_policy.specs.declared.history.action.Action.{Action}
pub use Rattle.cal_policy.specs.declared.history.action.Action.TheVariants.{Ban, Cap, Free, Grant, Revoke, Unban}
pub use Rattle.cal_policy.specs.declared.history.action.Cause.{Cause}
pub use Rattle.cal_policy.specs.declared.history.entry.PassEntry.{PassEntry}
pub use Rattle.std.proofs.Common.{Bool, Err, IfSome, IsTrue, List, None, Ok, Option, Result, Some, [], add-one, add-zero, ap, append_assoc, arith, cond, drop, false, get_or, if◌then◌else◌, inl, inr, length, length-append, length-take-le, ltb, map, max, min, nat_eq, option_map, refl, replicate, rules, set, slice_get, slice_set, subst, suc, sym, take, take_all, true, zero, ℕ, ⊎_elim, ◌%◌, ◌&&◌, ◌*◌, ◌++◌, ◌+◌, ◌-◌, ◌/◌, ◌<◌, ◌==◌, ◌^◌, ◌||◌, ◌∙◌, ◌∷◌, ◌≡◌, ◌≢◌, ◌≤◌, ◌⊎◌}
pub use Rattle.std.proofs.lemmas.Bool.{and_left, and_parts, cases_eq, ne_eqb}
pub use Rattle.std.proofs.lemmas.Bool.Decides.{eqb_tells, nat_tests}
pub use Rattle.std.proofs.lemmas.List.{append-nil, get_or-set_other, get_or-set_same, map-append, replicate_more, take_more, with_items_is}
pub use Rattle.std.proofs.lemmas.Option.{get_or_from_slice_get, slice_get-get_or, slice_get_cases, slice_get_past, slice_get_read, slice_get_within}
pub use Rattle.std.specs.List.{All, AllZip, Contains}
pub use Rattle.std.specs.Option.{is_some, option_or, unwrap_or}
pub use Rattle.std.specs.Prelude.{IfOk, OnOk, nat_lt, sum}
