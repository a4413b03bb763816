use Rattle.cal_engine.proofs.Common.{ap₂, ◌∙◌, IfOk-weaker, AddsArg, with_rule}
use Rattle.cal_engine.proofs.command_words.command_line.run_word.Goals as goal

pub returns : goal.returns
returns c =
    let first = c.in_ok-arg.ensures in
    let second = c.in_ok-arg-2.ensures in
    let third = c.in_ok-arg-3.ensures in
    let fourth = c.in_ok-arg-4.ensures in
    record {
      shape = IfOk-weaker c.arg-5.result _ _ (λ whole (adds : AddsArg c.in_ok-arg-4.field-0 c.flag-4.result whole).
          adds.shape c.flag-4.ensures.local
          ∙ ap₂ with_rule (fourth.shape c.policy_word.ensures.local
          ∙ ap₂ with_rule (third.shape c.flag-3.ensures.local
          ∙ ap₂ with_rule (second.shape c.flag-2.ensures.local
          ∙ ap₂ with_rule (first.shape c.flag.ensures.local ∙ ap₂ with_rule c.plain_word.ensures.shape c.flag.ensures.shape) c.flag-2.ensures.shape)
          c.flag-3.ensures.shape)
          c.policy_word.ensures.shape)
          c.flag-4.ensures.shape) c.arg-5.ensures;
      local = IfOk-weaker c.arg-5.result _ _ (λ whole (adds : AddsArg c.in_ok-arg-4.field-0 c.flag-4.result whole).
          rw (
            adds.globals,
            fourth.globals,
            third.globals,
            second.globals,
            first.globals,
            c.plain_word.ensures.local,
            c.flag.ensures.local,
            c.flag-2.ensures.local,
            c.flag-3.ensures.local,
            c.policy_word.ensures.local,
            c.flag-4.ensures.local,
          )) c.arg-5.ensures;
    }
