use Rattle.cal_tables.proofs.Common.{[], ℕ, replicate, subst, sym, AllZip, Table, IsThreadWorkOf, IsWalkOf}
use Rattle.cal_tables.proofs.collecting.OpenNumbers.open.Goals as goal

pub returns-clause-nothing : goal.returns-clause-nothing
returns-clause-nothing c = record {
  walk = subst (λ (t : Table). IsWalkOf t [] c.in_ok-walk.walk) (sym c.in_ok-config.ensures) c.in_ok-walk.ensures.walk;
  threads = subst (λ (n : ℕ). AllZip IsThreadWorkOf (replicate n []) c.in_ok-threads.threads.items) c.threads.ensures.count c.in_ok-threads.ensures;
}
