use Rattle.cal_guard.proofs.Groups.{groups}
use Rattle.cal_guard.proofs.group_laws.groups_make_a_pass.Goals as goal

pub returns : goal.returns
returns c = groups
