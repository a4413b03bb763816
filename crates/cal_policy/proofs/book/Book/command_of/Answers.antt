use Rattle.std.proofs.Common.{◌∙◌}
use Rattle.cal_policy.proofs.PassLemmas.Commands.{action_sends}
use Rattle.cal_policy.proofs.PolicyLemmas.{last_fits}
use Rattle.cal_policy.proofs.book.Book.command_of.Goals as goal

pub returns : goal.returns
returns c = λ policy table h entry ok legal agrees i at.
    action_sends c.args.self.now.board.value table h entry i c.args.action c.thread_granted.result c.command_for.result ok (last_fits policy table h entry ok legal) agrees.actions at
    (λ core changes. rw c.deref.ensures at (c.thread_granted.ensures core (c.core_changed_by-core.ensures.changed ∙ changes))) c.command_for.ensures
