use Rattle.cal_engine.proofs.Common.{true, ap, ◌∙◌, IfOk-weaker, app_of_fields, on_top}
use Rattle.clap.specs.declared.builder.command.Command.{Command}
use Rattle.clap.specs.declared.builder.command.Command.TheOpen.{Command-F}
use Rattle.cal_engine.proofs.command_words.command_line.bare_program.Goals as goal

pub returns : goal.returns
returns c =
    IfOk-weaker c.bin_name.result _ _ (λ command named.
    ap app_of_fields named.0
    ∙ ap app_of_fields c.no_binary_name.ensures
    ∙ ap (λ (f : Command-F Command). app_of_fields (record f { no_binary_name = true })) c.version.ensures
    ∙ ap (on_top (λ s. record s { has_version = true; no_binary_name = true })) c.plain_word.ensures.shape) c.bin_name.ensures
