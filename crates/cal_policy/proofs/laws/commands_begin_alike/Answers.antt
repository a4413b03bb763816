use Rattle.cal_policy.proofs.Common.{List, take, sym, ap, ◌∙◌, flat_map-append, take-append_seam, Action, PassEntry, actions_of, commands_to, sent_to, sends, each_after}
use Rattle.cal_policy.proofs.ListLemmas.OneMore.{each_of_append}
use Rattle.cal_policy.proofs.laws.commands_begin_alike.Goals as goal

pub returns : goal.returns
returns c = λ history more k.
    let x : List Action = actions_of history in
    sym (ap (λ (y : List Action). take (sent_to x k) (commands_to y k)) (flat_map-append (λ (entry : PassEntry). entry.actions) history more)
    ∙ ap (λ cs. take (sent_to x k) cs) (each_of_append (sends k) x (actions_of more))
    ∙ take-append_seam (commands_to x k) (each_after (sends k) x (actions_of more)))
