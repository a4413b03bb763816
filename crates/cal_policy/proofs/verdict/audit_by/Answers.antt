-- The passes before are the policy's own, and so orderly; a pass after them is one more.
use Rattle.cal_policy.proofs.Common.{◌≡◌, ℕ, ◌≤◌, List, length, take, sym, subst, ◌∙◌, arith, both_ways, take_all, get_or_from_slice_get, PassEntry, IsPassBy, IsLegalBy}
use Rattle.cal_policy.proofs.ListLemmas.Each.{each_more_item}
use Rattle.cal_policy.proofs.PolicyLemmas.{legal_upto_by, orderly_by, verdict_illegal, verdict_legal}
use Rattle.cal_policy.proofs.verdict.audit_by.Goals as goal

pub is_pass_by-requires : goal.is_pass_by-requires
is_pass_by-requires c =
    let history = c.args.history.now in
    let here : c.loop-p.p ≤ length history = omega arith in
    orderly_by c.args.policy c.args.config.now (take c.loop-p.p history) c.limits.ensures (legal_upto_by c.args.policy c.args.config.now history c.loop-p.p here c.loop-p.invariant)

pub loop-p-preserved : goal.loop-p-preserved
loop-p-preserved c =
    let history = c.args.history.now in
    let P : ℕ → PassEntry → Type 0 = λ q entry. IsPassBy c.args.policy c.args.config.now (take q history) entry in
    each_more_item P history c.loop-p.p c.index-history-p.result c.index-history-p.is c.loop-p.invariant (c.is_pass_by.ensures.0 c.if-not-is_pass_by.false)

pub returns-then-not-is_pass_by : goal.returns-then-not-is_pass_by
returns-then-not-is_pass_by c =
    let history = c.args.history.now in
    let here : c.loop-p.p ≤ length history = omega arith in
    verdict_illegal c.args.policy c.args.config.now history c.loop-p.p c.loop-p-test.true (legal_upto_by c.args.policy c.args.config.now history c.loop-p.p here c.loop-p.invariant)
    (λ entry e pass.
    let same : c.index-history-p.result ≡ entry = c.index-history-p.is ∙ get_or_from_slice_get history c.loop-p.p entry c.index-history-p.result e in
    let P : PassEntry → Type 0 = λ item. IsPassBy c.args.policy c.args.config.now (take c.loop-p.p history) item in
    both_ways c.is_pass_by.result c.if-not-is_pass_by.true (c.is_pass_by.ensures.1 (subst P (sym same) pass)))

pub returns : goal.returns
returns c =
    let history = c.args.history.now in
    let here : c.loop-p.p ≤ length history = omega arith in
    let L : List PassEntry → Type 0 = λ h. IsLegalBy c.args.policy c.args.config.now h in
    verdict_legal c.args.policy c.args.config.now history
    (subst L (take_all c.loop-p.p history c.loop-p-test.false) (legal_upto_by c.args.policy c.args.config.now history c.loop-p.p here c.loop-p.invariant))
