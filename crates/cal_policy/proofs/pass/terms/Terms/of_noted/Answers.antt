use Rattle.cal_policy.proofs.Common.{sym, Caladan}
use Rattle.cal_policy.proofs.PassLemmas.Rooms.{noted_setting}
use Rattle.cal_policy.proofs.pass.terms.Terms.of_noted.Goals as goal

pub returns : goal.returns
returns c = λ h found is. sym (noted_setting Caladan c.args.config.now h c.args.now c.args.bandwidth found c.args.looks.now is c.requires.all)
