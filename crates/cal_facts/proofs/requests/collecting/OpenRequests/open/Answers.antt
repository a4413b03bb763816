use Rattle.cal_facts.proofs.Common.{[], ℕ, replicate, subst, AllZip, IsThreadWorkOf}
use Rattle.cal_facts.proofs.requests.collecting.OpenRequests.open.Goals as goal

pub returns : goal.returns
returns c = subst (λ (n : ℕ). AllZip IsThreadWorkOf (replicate n []) c.in_ok-works.works.items) c.threads.ensures.count c.in_ok-works.ensures
