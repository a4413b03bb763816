-- The names from outside these proofs that several of them cite, passed on from one place. Declares nothing.
pub use Rattle.cal_guard.specs.Histories.{EachPolicyIsPermitted, PermittedIsSafe, PermittedIsSteady}
pub use Rattle.cal_guard.specs.Permitted.{ArePermitted, IsPermittedHistory, IsPermittedPass}
pub use Rattle.cal_kthread.specs.Journal.{IsJournal, MayStand, StandAfter, State, changed_by, command_in, commands_of, core_after, first_state, record_in, records_of, state_after}
pub use Rattle.cal_kthread.specs.declared.journal.entry.Entry.{Entry}
pub use Rattle.cal_kthread.specs.declared.journal.entry.Entry.TheVariants.{Published, Took, Yielded}
pub use Rattle.cal_machine.proofs.Places.{slice_get_parts, slice_get_seam}
pub use Rattle.cal_machine.specs.Table.{IsTable, Table}
pub use Rattle.cal_machine.specs.TableTasks.{owner_of, threads_of_table}
pub use Rattle.cal_machine.specs.declared.command.Command.{Command}
pub use Rattle.cal_machine.specs.declared.command.Command.TheVariants.{Park, Run}
pub use Rattle.cal_policy.proofs.BoardLemmas.Replayed.{actions_push, looks_push}
pub use Rattle.cal_policy.proofs.ListLemmas.OneMore.{each_of_push, get_or_same, last_of_push, or_if, set_says, unwrap_or_or}
pub use Rattle.cal_policy.proofs.PolicyLemmas.{legal_more_by, legal_none_by, pass_from}
pub use Rattle.cal_policy.specs.Board.{core_changed, placement_of}
pub use Rattle.cal_policy.specs.History.{actions_of, addressed_to, commands_to, holder_made, holder_of, last_placement, last_thread, left_by, looks_of, placed, sends, sent_to, thread_granted}
pub use Rattle.cal_policy.specs.Laws.{ActionIsOneMore, LookIsOneMore}
pub use Rattle.cal_policy.specs.Pass.Frees.{has_left, shows_left}
pub use Rattle.cal_policy.specs.Policies.{IsLegalBy, pass_by}
pub use Rattle.cal_policy.specs.Setting.{Setting, kept_now, setting_of, so_far}
pub use Rattle.cal_policy.specs.declared.board.holders.Holder.{Holder}
pub use Rattle.cal_policy.specs.declared.history.action.Action.{Action}
pub use Rattle.cal_policy.specs.declared.history.entry.PassEntry.{PassEntry}
pub use Rattle.cal_policy.specs.declared.history.look.Seen.{Seen}
pub use Rattle.cal_policy.specs.declared.history.look.Seen.TheVariants.{Ahead, Busy, Foreign, Whole}
pub use Rattle.cal_policy.specs.declared.policy.Policy.{Policy}
pub use Rattle.cal_signal.specs.Pages.{Chain, last_from, last_published, page_of}
pub use Rattle.cal_signal.specs.Records.{IsLater, IsShaped, MayFollow, running_word, zero_record}
pub use Rattle.cal_signal.specs.declared.record.Record.{Record}
pub use Rattle.cal_world.specs.Looks.{decided_at, look_made, looks_since, record_at, since_decide}
pub use Rattle.cal_world.specs.Projections.{actions_in, entries_for, entry_in, history_in, is_publish_by, is_take_by, journal_in, next_command, publishes_in, takes_in, took}
pub use Rattle.cal_world.specs.Safe.{IsPermittedDecide, IsSafeEvent, IsSafeList, LegalListsAreSafe, OfLegalLists, OfSafeLists}
pub use Rattle.cal_world.specs.Schedules.{AreByTheirLastRun, AreWithinLimits, IsByItsLastRun, KeepsBans, NoCoreRunsTwo, RunsWithinLimit, TakenWereSent}
pub use Rattle.cal_world.specs.Threads.{last_run, last_run_of, page_in, place_read, place_watched, published_by, read_floor, run_number, running_on, runs_for, state_in, watch_floor}
pub use Rattle.cal_world.specs.World.{HasCommand, IsAllowedBy, IsInTurn, IsItsState, IsLegalListBy, IsRefusalBy, KeepsNone, NamesThread, Past}
pub use Rattle.cal_world.specs.World.Present.{IsPresent, KeepsThread, KeepsThreadOf, LooksGoOn, looks_with}
pub use Rattle.cal_world.specs.World.Sending.{AreGranted, AreSent, HaveRoom}
pub use Rattle.cal_world.specs.World.Standing.{IsOf, PagesAreOf, StandingsAreOf}
pub use Rattle.cal_world.specs.declared.event.Event.{Event}
pub use Rattle.cal_world.specs.declared.event.Event.TheVariants.{Decide, Publish, Read, Skip, Take, Watch, Yield}
pub use Rattle.cal_world.specs.declared.illegal.Illegal.TheVariants.{NoSuchPlace, NoThread, NotItsState, NotThePass, NothingSent, OutOfTurn}
pub use Rattle.std.proofs.Common.{Bool, List, None, Option, Some, [], ap, append_assoc, arith, cond, drop, eqb, false, get_or, inl, inr, leb, length, length-append, ltb, not, refl, replicate, set, slice_index_or, subst, suc, sym, take, true, zero, ℕ, ⊎_elim, ◌&&◌, ◌++◌, ◌+◌, ◌-◌, ◌<◌, ◌==◌, ◌∙◌, ◌∷◌, ◌≡◌, ◌≢◌, ◌≤◌, ◌⊎◌}
pub use Rattle.std.proofs.Math.ListN.{drop_of_length-le, length-replicate, length-set}
pub use Rattle.std.proofs.Math.Seq.{get_or-append_seam, take-append_seam, take-length}
pub use Rattle.std.proofs.lemmas.Bool.{and_parts, cases_eq, cases_lt, eq-eqb, eqb-true, leb-true}
pub use Rattle.std.proofs.lemmas.Bool.Decides.{Decides-eqb, nat_tests}
pub use Rattle.std.proofs.lemmas.List.{append-nil, drop-append-le, get_or-set_other, get_or-set_same, get_or_append_left, get_or_past, take-append-le, take_more}
pub use Rattle.std.proofs.lemmas.List.Elements.{filter_map-append}
pub use Rattle.std.proofs.lemmas.Option.{get_or_from_slice_get, slice_get-get_or, slice_get_cases, slice_get_read, slice_get_within}
pub use Rattle.std.specs.List.{filter_map, slice_get}
pub use Rattle.std.specs.Option.{IsSome, is_some, option_and_then, option_or, unwrap_or}
