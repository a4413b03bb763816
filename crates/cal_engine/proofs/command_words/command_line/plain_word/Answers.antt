use Rattle.cal_engine.proofs.Common.{ap, ◌∙◌, app_of_fields}
use Rattle.clap.specs.declared.builder.command.Command.{Command}
use Rattle.clap.specs.declared.builder.command.Command.TheOpen.{Command-F}
use Rattle.cal_engine.proofs.command_words.command_line.plain_word.Goals as goal

pub returns : goal.returns
returns c = record {
  shape = ap app_of_fields c.after_long_help.ensures ∙ ap app_of_fields c.about.ensures ∙ c.new.ensures.app;
  local = ap (λ (f : Command-F Command). f.has_globals) c.after_long_help.ensures
      ∙ ap (λ (f : Command-F Command). f.has_globals) c.about.ensures ∙ c.new.ensures.local;
}
