use Rattle.cal_engine.proofs.Common.{Some, ap, codes, ◌∙◌, Rule, rule_of}
use Rattle.clap.specs.declared.builder.action.ArgAction.TheVariants.{Set}
use Rattle.clap.specs.declared.builder.arg.Arg.{Arg}
use Rattle.cal_engine.proofs.command_words.command_line.policy_word.Goals as goal

pub returns : goal.returns
returns c = record {
  shape = ap rule_of c.help.ensures
      ∙ ap (λ (a : Arg). rule_of a) c.value_name.ensures
      ∙ ap (λ (a : Arg). record (rule_of a) { value_names = 1 }) c.action.ensures
      ∙ ap (λ (a : Arg). record (rule_of a) { action = Some Set; value_names = 1 }) c.long.ensures
      ∙ ap (λ (r : Rule). record r { long = Some (codes "policy"); action = Some Set; value_names = 1 }) c.new.ensures.rule;
  local = ap (λ (a : Arg). a.global) c.help.ensures ∙ ap (λ (a : Arg). a.global) c.value_name.ensures
      ∙ ap (λ (a : Arg). a.global) c.action.ensures ∙ ap (λ (a : Arg). a.global) c.long.ensures ∙ c.new.ensures.optional.1;
}
