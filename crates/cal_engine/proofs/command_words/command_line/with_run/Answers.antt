use Rattle.cal_engine.proofs.Common.{ap, ◌∙◌, IfOk-weaker, AddsSubcommand, App, app_of, with_subcommand}
use Rattle.cal_engine.proofs.command_words.command_line.with_run.Goals as goal

pub returns : goal.returns
returns c = IfOk-weaker c.subcommand.result _ _ (λ whole (adds : AddsSubcommand c.args.program c.in_ok-run_word.field-0 whole).
    adds.shape c.in_ok-run_word.ensures.local
    ∙ ap (λ (a : App). with_subcommand (app_of c.args.program) a.top) c.in_ok-run_word.ensures.shape) c.subcommand.ensures
