-- The names from outside these proofs that several of them cite, passed on from one place. Declares nothing.
pub use Rattle.cal_kthread.proofs.JournalLemmas.OneEntryMore.{filter_map-push, state_after-push}
pub use Rattle.cal_kthread.proofs.JournalLemmas.Parts.{others-change-nothing, record-shows-taken, taken-all}
pub use Rattle.cal_kthread.specs.Journal.{IsJournal, MayStand, StandAfter, State, changed_by, command_in, commands_of, record_in, records_of, state_after}
pub use Rattle.cal_kthread.specs.Journal.Entries.{is_step, past, steps_of, still_after, up_to}
pub use Rattle.cal_kthread.specs.declared.journal.entry.Entry.{Entry}
pub use Rattle.cal_kthread.specs.declared.journal.entry.Entry.TheVariants.{Arrived, Published, Served, Stole, Took, Yielded}
pub use Rattle.cal_linear.specs.Fronts.{AreFronts, IsFront, front_at, no_front, places_in}
pub use Rattle.cal_linear.specs.Law.{FittingLooksArePublications, IsLinearisedBy}
pub use Rattle.cal_linear.specs.Linear.{linear, look_events, looks_from, pass_events, passes_and_rests, rests_from, watch_events, whole_looks_from, whole_looks_of}
pub use Rattle.cal_linear.specs.Reads.{after_looks, further, furthest, greatest, place_found, place_in, places_read}
pub use Rattle.cal_linear.specs.Runs.{AreOfOneRunBy, AreWatched, IsPublication, page_at}
pub use Rattle.cal_linear.specs.Steps.{between, event_of, events_of, journal_at}
pub use Rattle.cal_machine.proofs.Places.{slice_get_front, slice_get_seam}
pub use Rattle.cal_machine.specs.Table.{Table}
pub use Rattle.cal_machine.specs.TableTasks.{threads_of_table}
pub use Rattle.cal_machine.specs.declared.command.Command.{Command}
pub use Rattle.cal_policy.proofs.ListLemmas.OneMore.{each_after_append, each_of_push, get_or_same, last_of_push, unwrap_or_or}
pub use Rattle.cal_policy.specs.History.{actions_of, commands_to, looks_of, sends, sent_to}
pub use Rattle.cal_policy.specs.History.Lists.{each_after, each_of, last_of}
pub use Rattle.cal_policy.specs.declared.history.entry.PassEntry.{PassEntry}
pub use Rattle.cal_policy.specs.declared.history.look.Seen.{Seen}
pub use Rattle.cal_policy.specs.declared.history.look.Seen.TheVariants.{Ahead, Busy, Foreign, Whole}
pub use Rattle.cal_policy.specs.declared.policy.Policy.{Policy}
pub use Rattle.cal_signal.specs.Pages.{Chain, FitsFrom, floor_from, last_from, last_published, page_of}
pub use Rattle.cal_signal.specs.Records.{MayFollow, running_word, zero_record}
pub use Rattle.cal_signal.specs.declared.record.Record.{Record}
pub use Rattle.cal_world.specs.Projections.{entries_for, entry_in, history_in, is_publish_by, is_take_by, journal_in, next_command, publishes_in, takes_in, took}
pub use Rattle.cal_world.specs.Watches.{watch_in, watches_in}
pub use Rattle.cal_world.specs.World.{HasCommand, IsAllowedBy, IsLegalListBy, KeepsNone, PassesBy}
pub use Rattle.cal_world.specs.declared.event.Event.{Event}
pub use Rattle.cal_world.specs.declared.event.Event.TheVariants.{Decide, Publish, Read, Skip, Take, Watch, Yield}
pub use Rattle.std.proofs.Common.{Bool, List, None, Option, Some, [], ap, append-nil, append_assoc, arith, cond, drop, eqb, false, get_or, get_or-set_other, get_or-set_same, length, length-append, length-drop, ltb, max, refl, replicate, rules, set, subst, suc, sym, take, true, zero, ℕ, ⊎_elim, ◌++◌, ◌+◌, ◌-◌, ◌<◌, ◌∙◌, ◌∷◌, ◌≡◌, ◌≢◌, ◌≤◌}
pub use Rattle.std.proofs.lemmas.Bool.{cases_lt, eq-eqb, eqb-true}
pub use Rattle.std.proofs.lemmas.Bool.Decides.{nat_tests}
pub use Rattle.std.proofs.lemmas.List.{get_or_append_left, map-append, take_more}
pub use Rattle.std.proofs.lemmas.List.Elements.{filter-append, filter_map-append}
pub use Rattle.std.proofs.lemmas.Option.{slice_get-get_or, slice_get_within}
pub use Rattle.std.specs.List.{cons_option, count_by, filter_map, slice_get}
pub use Rattle.std.specs.Option.{option_and_then, unwrap_or}
pub use Rattle.std.specs.Prelude.{IfOk, IsSome, if◌then◌else◌, option_map, option_to_list, ◌==◌}
