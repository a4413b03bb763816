use Rattle.caladan_c.proofs.Common.{◌≡◌, List, take, map, IsStateAfter, IsOpenAt, PassEntry, found_of}
use Rattle.cal_policy.specs.Judgement.Settled.{SettledAreNoNews}
use Rattle.caladan_c.proofs.walk.take_looks.Given as goal

abbrev pub invariant-loop-one : goal.invariant-loop-one
invariant-loop-one l = record {
  count : l.came.count ≡ l.one-index;
  taken : (h : List PassEntry) → SettledAreNoNews l.on.config.now h → IsStateAfter l.on.board.now h →
      IsOpenAt l.on.config.now h (map found_of (take l.one-index l.looks)) l.came;
}
