use Rattle.cal_run.proofs.Common.{◌∙◌, List, subst, IfOk, IsAccounted, Entry}
use Rattle.cal_run.proofs.ClosingLemmas.Ends.{same_journals}
use Rattle.cal_run.proofs.closing.thread_ends.settle_and_hand_out.Goals as goal

pub returns-clause-account : goal.returns-clause-account
returns-clause-account c =
    subst (λ (journals : List (List Entry)). IfOk c.hand_out_all.result (λ lefts. IsAccounted journals lefts.items))
    (same_journals _ _ (c.hand_out_all.ensures.same ∙ c.settle.ensures.runs)) c.hand_out_all.ensures.account
