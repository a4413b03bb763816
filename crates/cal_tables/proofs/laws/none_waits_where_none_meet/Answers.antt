use Rattle.cal_tables.proofs.Moving.Same.{none_waits}
use Rattle.cal_tables.proofs.laws.none_waits_where_none_meet.Goals as goal

pub returns : goal.returns
returns c = none_waits
