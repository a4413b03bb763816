use Rattle.cal_engine.proofs.Common.{ap₂, ◌∙◌, IfOk-weaker, AddsArg, with_rule}
use Rattle.cal_engine.proofs.command_words.command_line.lone_word.Goals as goal

pub returns : goal.returns
returns c =
    let first = c.in_ok-arg.ensures in
    record {
      shape = IfOk-weaker c.arg-2.result _ _ (λ whole (adds : AddsArg c.in_ok-arg.field-0 c.flag.result whole).
          adds.shape c.flag.ensures.local
          ∙ ap₂ with_rule (first.shape c.policy_word.ensures.local ∙ ap₂ with_rule c.plain_word.ensures.shape c.policy_word.ensures.shape)
          c.flag.ensures.shape) c.arg-2.ensures;
      local = IfOk-weaker c.arg-2.result _ _ (λ whole (adds : AddsArg c.in_ok-arg.field-0 c.flag.result whole).
          rw (adds.globals, first.globals, c.plain_word.ensures.local, c.policy_word.ensures.local, c.flag.ensures.local)) c.arg-2.ensures;
    }
