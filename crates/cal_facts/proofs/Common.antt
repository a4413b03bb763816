-- The names from outside these proofs that several of them cite, passed on from one place. Declares nothing.
pub use Rattle.cal_facts.specs.Bans.{bans_of, lifted_in, lifted_of, open_bans}
pub use Rattle.cal_facts.specs.PassAt.{IsPassAt}
pub use Rattle.cal_facts.specs.RequestRows.{AreClocksTold, arrival_text, came_in, request_line, served_text, text_of_requests}
pub use Rattle.cal_facts.specs.Series.{IsSeriesOfRun, cap_if_any, point_line, point_of, points_below, points_of, series_of, series_text, text_of_series}
pub use Rattle.cal_facts.specs.Served.{AreServed, served_by, served_from, service_of, told_of}
pub use Rattle.cal_facts.specs.Stretches.{AreSpanFacts, Gathers, IsRunOfSpans, ban_line, span_columns, span_lines, spans_text, text_of_facts, text_of_spans}
pub use Rattle.cal_facts.specs.Telling.{IsAskedRequests, IsAskedRun, IsAskedText, IsAskedTurns, IsRunText, IsTurnsText, came_told}
pub use Rattle.cal_facts.specs.WorkTurns.{AreTurnsOfRun, all_served, first_unserved, served_in, text_of_turns, turn_line, work_in, works_below, works_by, works_of}
pub use Rattle.cal_facts.specs.declared.requests.served.Served.{Served}
pub use Rattle.cal_facts.specs.declared.series.point.Point.{Point}
pub use Rattle.cal_facts.specs.declared.turns.work.WorkTurn.{WorkTurn}
pub use Rattle.cal_input.specs.Parts.{RunInput, parts_of, run_input_of}
pub use Rattle.cal_input.specs.declared.fault.RunFault.{RunFault}
pub use Rattle.cal_machine.specs.Table.{IsTable, Table}
pub use Rattle.cal_measure.proofs.Steps.{each_grown, grown, joined_more}
pub use Rattle.cal_measure.specs.Clocks.{run_end}
pub use Rattle.cal_measure.specs.Spans.{Move, ended_of, made_in, moves_from, moves_of, open_of, spans_of}
pub use Rattle.cal_measure.specs.ThreadWork.{AreTotalsOfEach, IsThreadWorkOf}
pub use Rattle.cal_measure.specs.declared.thread_work.totals.ThreadTotals.{ThreadTotals}
pub use Rattle.cal_policy.proofs.ListLemmas.OneMore.{each_of_push, last_of_push, or_if}
pub use Rattle.cal_policy.specs.History.{actions_of, looks_of}
pub use Rattle.cal_policy.specs.State.{Agrees, IsReady, IsStateAfter, KeepingAgrees}
pub use Rattle.cal_policy.specs.declared.history.action.Action.{Action}
pub use Rattle.cal_policy.specs.declared.history.entry.PassEntry.{PassEntry}
pub use Rattle.cal_tables.proofs.Planning.{failed_by, may_go, on_given}
pub use Rattle.cal_tables.specs.Asked.{Subject, asked_by, asked_run, of_history, of_run}
pub use Rattle.cal_trace.specs.History.Reading.{extent_of}
pub use Rattle.cal_trace.specs.declared.arrivals.GivenPass.{GivenPass}
pub use Rattle.std.proofs.Common.{Err, List, None, Ok, Option, Result, Some, [], add-one, add-zero, ap, append_assoc, arith, cond, get_or, length, map, nat_eq, nat_lt, refl, replicate, rules, slice_get, subst, sym, take, ℕ, ◌++◌, ◌+◌, ◌-◌, ◌<◌, ◌^◌, ◌∙◌, ◌∷◌, ◌≡◌, ◌≤◌}
pub use Rattle.std.proofs.KnownBytes.{Appends-trans}
pub use Rattle.std.proofs.Math.Seq.{take-length}
pub use Rattle.std.proofs.lemmas.List.{append-nil, length-append, length-map, length-take, length-take-le, map-append, take_more}
pub use Rattle.std.proofs.lemmas.Option.{get_or_from_slice_get, slice_get-get_or, slice_get_read, slice_get_within}
pub use Rattle.std.proofs.lemmas.Result.{on_ok_weaker}
pub use Rattle.std.specs.Io.KnownBytes.{Appends}
pub use Rattle.std.specs.List.{All, AllZip, flat_map}
