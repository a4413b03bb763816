use Rattle.cal_policy.proofs.Common.{◌≡◌, [], refl, Table, Policy, Caladan, Assured, Legal, IsAuditBy, IsStateAfter}
use Rattle.cal_policy.specs.declared.book.Book.{Book}
use Rattle.cal_policy.specs.declared.history.action_list.Actions.{Actions}
use Rattle.cal_policy.specs.Book.{board_in}
use Rattle.cal_policy.proofs.PassLemmas.Legality.{legal_none_by}
use Rattle.cal_policy.proofs.auditor.Auditor.open_by.Goals as goal

-- the empty history is every policy's
opens : (policy : Policy) (table : Table) (book : Book) (actions : Actions) → book.policy ≡ policy → IsStateAfter (board_in book) []
    → IsAuditBy policy table [] (record { book = book; actions = actions; passes = 0; verdict = Legal })
opens Caladan table book actions is agrees = record { policy = is; right = legal_none_by Caladan table; keeps_up = (agrees, refl) }
opens Assured table book actions is agrees = record { policy = is; right = legal_none_by Assured table; keeps_up = (agrees, refl) }

pub returns-clause-audits : goal.returns-clause-audits
returns-clause-audits c = opens c.args.policy c.args.config.now c.in_ok-book.book c.in_ok-actions.actions c.in_ok-book.ensures.policy c.in_ok-book.ensures.agrees
