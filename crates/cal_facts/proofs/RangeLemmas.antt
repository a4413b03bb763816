-- What a history that a file can hold names, the table has.
use Rattle.cal_facts.proofs.Common.{List, get_or, arith, All, slice_get-get_or, Table, IsTable, Action, extent_of}
use Rattle.cal_policy.specs.Board.{NamesTable}
use Rattle.cal_policy.specs.declared.history.action.Action.TheVariants.{Free, Unban, Ban, Revoke, Cap, Grant}
use Rattle.cal_trace.specs.History.Ranges.{Each, IsActionInRange}

names_in_range : (table : Table) (action : Action) → IsTable table → IsActionInRange (extent_of table) action → NamesTable table action
names_in_range table (Free core) ok h = h
names_in_range table (Unban core) ok h = h
names_in_range table (Ban core thread started) ok h = h
names_in_range table (Revoke core cause) ok h = h.0
names_in_range table (Cap task cap) ok h = let few = ok.tasks in let low = h.0 in omega (arith, few, low)
names_in_range table (Grant core thread class) ok h = (h.0, h.1)

pub names_of_range : (table : Table) (actions : List Action) → IsTable table → Each (IsActionInRange (extent_of table)) actions → All (NamesTable table) actions
names_of_range table actions ok each k d low = names_in_range table (get_or actions k d) ok (each.at k (get_or actions k d) (slice_get-get_or actions k d low))
