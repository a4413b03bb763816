use Rattle.cal_engine.proofs.Common.{Some, ap, ◌∙◌, Rule, rule_of}
use Rattle.clap.specs.declared.builder.action.ArgAction.TheVariants.{SetTrue}
use Rattle.clap.specs.declared.builder.arg.Arg.{Arg}
use Rattle.cal_engine.proofs.command_words.command_line.flag.Goals as goal

pub returns : goal.returns
returns c = record {
  shape = ap rule_of c.help.ensures
      ∙ ap (λ (a : Arg). rule_of a) c.action.ensures
      ∙ ap (λ (a : Arg). record (rule_of a) { action = Some SetTrue }) c.long.ensures
      ∙ ap (λ (r : Rule). record r { long = Some c.args.name.now; action = Some SetTrue }) c.new.ensures.rule;
  local = ap (λ (a : Arg). a.global) c.help.ensures ∙ ap (λ (a : Arg). a.global) c.action.ensures
      ∙ ap (λ (a : Arg). a.global) c.long.ensures ∙ c.new.ensures.optional.1;
}
