use Rattle.cal_guard.proofs.Common.{List, Table, IsTable, PassEntry, LegalIsPermitted, IsPermittedHistory}
use Rattle.cal_policy.specs.declared.policy.Policy.{Policy}
use Rattle.cal_policy.specs.declared.policy.Policy.TheVariants.{Caladan, Assured}
use Rattle.cal_policy.specs.Policies.{IsLegalBy}
use Rattle.cal_guard.proofs.AssuredLemmas.Between.{passes_permitted}
use Rattle.cal_guard.proofs.AssuredLemmas.Permitting.{Laws}
use Rattle.cal_guard.proofs.legality.each_policy_is_permitted.Goals as goal

by : LegalIsPermitted → Laws → (policy : Policy) (table : Table) (history : List PassEntry) → IsTable table → IsLegalBy policy table history → IsPermittedHistory table history
by law laws Caladan = law
by law laws Assured = passes_permitted laws

pub returns : goal.returns
returns c = by c.legal_is_permitted.ensures (record {
  more = c.action_is_one_more.ensures;
  least = c.chosen_is_of_least_class.ensures;
  most = c.victim_has_most_misses.ensures;
})
