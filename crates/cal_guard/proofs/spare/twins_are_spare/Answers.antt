use Rattle.cal_policy.specs.Setting.{so_far}
use Rattle.cal_guard.proofs.Twins.{ready_alike}
use Rattle.cal_guard.proofs.spare.twins_are_spare.Goals as goal

pub returns : goal.returns
returns c = λ twins ready spare. record {
  twins = twins;
  ready = λ table is. ready_alike c.args.config.now table c.args.passing.now.board c.args.spare.now.board (so_far twins.setting twins.acts) c.board_has_places.ensures c.board_has_places-2.ensures
      twins.one.stands.agrees twins.other.stands.agrees ready spare is;
}
