-- The names from outside these proofs that several of them cite, passed on from one place. Declares nothing.
pub use Rattle.cal_engine.specs.CommandWords.{Explains, FlagSays, FlagsAsk, IsAsked, Names, answer_of, asking, job_of, policy_asked, policy_of, program}
unfoldable pub use Rattle.cal_engine.specs.CommandWords.{AsksBy, with_among}
pub use Rattle.cal_engine.specs.Deciding.{HasDecided, HasDecidedIn, HasDecidedRun, HasLines, HasRows, decided_on, decided_run_by, input_of}
unfoldable pub use Rattle.cal_engine.specs.Deciding.{decided_after, decided_pass}
pub use Rattle.cal_engine.specs.Front.{front_of, table_text}
pub use Rattle.cal_engine.specs.Outcome.{Reported, Reports, audit_text, report_of, run_report, text_of}
pub use Rattle.cal_engine.specs.Running.{Begins, FailedInThreads, IsBegunTold, IsTextOfRun, IsTold, Runs, RunsInThreads, Tells, TellsRun, WritesRun, is_told, run_front}
pub use Rattle.cal_engine.specs.declared.jobs.running.RunAnswer.{RunAnswer}
pub use Rattle.cal_input.proofs.WholeInput.{answered, failed, refused}
pub use Rattle.cal_input.specs.Parts.{Parts, RunInput, parts_of, run_input_of, with_table}
pub use Rattle.cal_input.specs.Recorded.{Run, recorded_on, recorded_run_of}
pub use Rattle.cal_input.specs.declared.fault.RunFault.{RunFault}
pub use Rattle.cal_machine.specs.Table.{Table}
pub use Rattle.cal_machine.specs.Tasks.{threads_in}
pub use Rattle.cal_policy.proofs.PolicyLemmas.{legal_more_by, legal_none_by, pass_from}
pub use Rattle.cal_policy.specs.Judgement.Judging.{IsFitLook, IsInput, is_foreign, judged}
pub use Rattle.cal_policy.specs.Policies.{IsAuditBy, IsLegalBy, IsPassBy, IsVerdictBy, pass_by}
pub use Rattle.cal_policy.specs.declared.history.entry.PassEntry.{PassEntry}
pub use Rattle.cal_policy.specs.declared.policy.Policy.{Policy}
pub use Rattle.cal_policy.specs.declared.policy.Policy.TheVariants.{Assured, Caladan}
pub use Rattle.cal_run.specs.Outcome.{IsRunBy, IsRunEndBy, figures_of, outcome_of}
pub use Rattle.cal_trace.proofs.HistoryLemmas.Lines.{begun_ends, begun_more}
pub use Rattle.cal_trace.specs.History.Reading.{extent_of}
pub use Rattle.cal_trace.specs.History.Text.{begun_text, end_fields, entry_rows, header_row, history_text, lines_of}
pub use Rattle.cal_trace.specs.Rows.{rows_of}
pub use Rattle.cal_trace.specs.Rows.Text.{line_of}
pub use Rattle.cal_trace.specs.Signals.Reading.{HasGiven}
pub use Rattle.clap.specs.Built.{AddsArg, AddsSubcommand}
pub use Rattle.clap.specs.Simple.{App, app_of, app_of_fields, is_simple, on_top, subcommand_of, subcommand_rows_of, with_rule, with_subcommand}
pub use Rattle.clap.specs.Walk.{Row, Rule, Text, first_of, one_of, rule_of}
pub use Rattle.std.proofs.Common.{Bool, Bor, Err, IfErr, IfOk, IsOk, List, None, Ok, OnOk, Option, Result, Some, [], ap, append_assoc, ap₂, arith, codes, cond, false, if◌then◌else◌, inl, inr, length, length-append, map, nat_lt, option_map, refl, rules, slice_get, subst, sym, true, ℕ, ◌++◌, ◌+◌, ◌<◌, ◌==◌, ◌^◌, ◌∙◌, ◌∷◌, ◌≡◌, ◌≤◌, ◌⊎◌}
pub use Rattle.std.proofs.lemmas.Bool.{false≢true}
pub use Rattle.std.proofs.lemmas.List.{append-nil, get_or-map, length-map, map-append}
pub use Rattle.std.proofs.lemmas.Result.{IfErr-weaker, IfOk-weaker, on_ok_weaker}
pub use Rattle.std.specs.Io.KnownBytes.{Appends}
pub use Rattle.std.specs.List.{concat, enumerate_from, flat_map}
pub use Rattle.std.specs.Prelude.{Contains, Decides, bytes_eq, get_or, unwrap_or}
