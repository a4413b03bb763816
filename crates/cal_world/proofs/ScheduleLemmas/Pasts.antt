-- A legal list, one event more.
use Rattle.cal_world.proofs.Common.{List, [], ◌∷◌, ◌++◌, Table, Policy, Event, IsAllowedBy, IsLegalListBy}
use Rattle.cal_world.proofs.ListLemmas.OneMore.{each_more}

pub list_more : (policy : Policy) (table : Table) (events : List Event) (event : Event) → IsLegalListBy policy table events → IsAllowedBy policy table events event → IsLegalListBy policy table (events ++ event ∷ [])
list_more policy table events event legal allowed = record { each = each_more (IsAllowedBy policy table) events event legal.each allowed }
