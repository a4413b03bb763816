use Rattle.std.proofs.Common.{◌∙◌, ap, not}
use Rattle.cal_policy.proofs.JudgementLemmas.OpenPass.{room_came}
use Rattle.cal_policy.proofs.judgement.open_pass.OpenPass.has_room.Goals as goal

pub returns : goal.returns
returns c = λ table h looks is lt. ap not c.has.ensures ∙ room_came table h looks c.args.self.now is c.args.k lt
