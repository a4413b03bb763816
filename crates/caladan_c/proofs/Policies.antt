-- A pass more, whatever the policy.
use Rattle.caladan_c.proofs.Common.{◌≡◌, ◌≤◌, ◌++◌, ◌∷◌, [], List, length, arith, Table, IsTable, Action, PassEntry, Input, IsInput, pass_by, IsLegalBy}
use Rattle.cal_machine.proofs.Last.{slice_get-last}
use Rattle.cal_policy.specs.declared.policy.Policy.{Policy}
use Rattle.cal_policy.specs.Setting.{setting}
use Rattle.cal_policy.proofs.PolicyLemmas.{legal_more_by, pass_from}
use Rattle.cal_laws.specs.Point.{Point}
use Rattle.cal_guard.specs.Histories.{EachPolicyIsPermitted}
use Rattle.cal_guard.specs.Laws.{PassesAreShort}

-- with its pass a history is its own, and the pass has no more actions than there is room for
pub one_more_by : (policy : Policy) (table : Table) (h : List PassEntry) (input : Input) (acts : List Action)
    → EachPolicyIsPermitted → PassesAreShort → IsTable table → IsLegalBy policy table h → IsInput table h input
    → acts ≡ pass_by policy (setting table h input)
    → IsLegalBy policy table (h ++ record { input = input; actions = acts } ∷ []) × (length acts ≤ 338)
one_more_by policy table h input acts each short is_table was is made =
    let entry : PassEntry = record { input = input; actions = acts } in
    let legal : IsLegalBy policy table (h ++ entry ∷ []) = legal_more_by policy table h entry was (pass_from policy table h entry is made) in
    let here : Point = record { table = table; history = h ++ entry ∷ []; pass = length h; entry = entry; made = 0 } in
    (legal, short here (record { permitted = each policy table (h ++ entry ∷ []) is_table legal; entry = slice_get-last h entry; made = omega arith }))
