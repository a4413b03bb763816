-- Points in the passes of each policy.
use Rattle.cal_laws.proofs.Common.{◌≡◌, ◌≤◌, length, Some, IsTable, Point}
use Rattle.std.proofs.Common.{slice_get}
use Rattle.cal_policy.specs.declared.policy.Policy.{Policy}
use Rattle.cal_policy.specs.declared.policy.Policy.TheVariants.{Caladan, Assured}
use Rattle.cal_policy.specs.Policies.{IsLegalBy}
use Rattle.cal_laws.specs.Policies.{IsPointBy}

-- a point in a pass of a history of the policy
pub is_point_by : (policy : Policy) (here : Point) → IsTable here.table → IsLegalBy policy here.table here.history → slice_get here.history here.pass ≡ Some here.entry
    → here.made ≤ length here.entry.actions → IsPointBy policy here
is_point_by Caladan here ok legal entry made = record { table = ok; legal = legal; entry = entry; made = made }
is_point_by Assured here ok legal entry made = record { table = ok; legal = legal; entry = entry; made = made }
