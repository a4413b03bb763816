use Rattle.caladan_c.proofs.Common.{◌≡◌, take, map, told_of}
use Rattle.caladan_c.proofs.recorded.read_actions.Given as goal

abbrev pub invariant-loop-one : goal.invariant-loop-one
invariant-loop-one l = record {
  actions : map told_of l.actions.items ≡ take l.one-index l.told;
}
