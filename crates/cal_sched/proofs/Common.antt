-- The names from outside these proofs that several of them cite, passed on from one place. Declares nothing.
pub use Rattle.cal_command.specs.Rings.{HasRoom, SenderView}
pub use Rattle.cal_laws.specs.Point.{Point, actions_at, next_at, setting_at}
pub use Rattle.cal_laws.specs.Policies.{IsPointBy}
pub use Rattle.cal_machine.proofs.Last.{last_or_before, slice_get-last, some_same, take_next}
pub use Rattle.cal_machine.proofs.Places.{slice_get_at, slice_get_front}
pub use Rattle.cal_machine.specs.Table.{IsTable, Table}
pub use Rattle.cal_machine.specs.TableTasks.{threads_of_table}
pub use Rattle.cal_policy.specs.Book.{IsSentBy, RunsOnTable, board_in}
pub use Rattle.cal_policy.specs.History.{actions_of, addressed_to, command_to, commands_to, holder_of, looks_of, sends, sent_to}
pub use Rattle.cal_policy.specs.Judgement.Judging.{IsFitLook, IsInput, is_foreign, judged}
pub use Rattle.cal_policy.specs.Judgement.OpenInput.{judged_input, judged_looks, rooms_found}
pub use Rattle.cal_policy.specs.Judgement.OpenPass.{IsOpenAt}
pub use Rattle.cal_policy.specs.Judgement.Settled.{SettledAreNoNews}
pub use Rattle.cal_policy.specs.Policies.{IsLegalBy}
pub use Rattle.cal_policy.specs.State.{IsStateAfter}
pub use Rattle.cal_policy.specs.declared.history.action.Action.{Action}
pub use Rattle.cal_policy.specs.declared.history.entry.PassEntry.{PassEntry}
pub use Rattle.cal_policy.specs.declared.judgement.open_input.FoundLook.{FoundLook}
pub use Rattle.cal_policy.specs.declared.policy.Policy.{Policy}
pub use Rattle.cal_sched.specs.Finding.{HaveFoundSo}
pub use Rattle.cal_sched.specs.Looking.{HasLooked, HaveLooked}
pub use Rattle.cal_sched.specs.Passing.{HasAsked, HaveFound, HaveSent, IsPassed, pass_on}
pub use Rattle.cal_sched.specs.Past.{AreLast, entry_of, history_after, history_of}
pub use Rattle.cal_sched.specs.Scheduler.{IsKept, SchedulerView}
pub use Rattle.cal_sched.specs.Sending.{MaySend}
pub use Rattle.cal_sched.specs.Watching.{HaveWatched, WatchView}
pub use Rattle.cal_signal.specs.Ends.{ObserverView}
pub use Rattle.cal_signal.specs.Looks.{whole_of}
pub use Rattle.cal_signal.specs.declared.look.Look.{Look}
pub use Rattle.cal_signal.specs.declared.record.Record.{Record}
pub use Rattle.std.proofs.Common.{Bool, List, None, Option, Some, [], add-one, ap, append_assoc, arith, drop, eqb, false, get_or, if◌then◌else◌, inl, inr, length, length-append, lit<, map, nat_lt, option_map, refl, rules, set, slice_get, slice_index_or, subst, suc, sym, take, true, zero, ℕ, ◌++◌, ◌+◌, ◌-◌, ◌<◌, ◌^◌, ◌∙◌, ◌∷◌, ◌≡◌, ◌≢◌, ◌≤◌, ◌⊎◌}
pub use Rattle.std.proofs.lemmas.List.{append-nil, length-map, take-append-le, take_all}
pub use Rattle.std.proofs.lemmas.Option.{slice_get-get_or, slice_get-map, slice_get_read, slice_get_within, unwrap_or-slice_get}
pub use Rattle.std.specs.Vec.{vec_capacity}
