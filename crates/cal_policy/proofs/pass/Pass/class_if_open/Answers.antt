use Rattle.cal_policy.proofs.pass.Pass.class_if_open.Goals as goal

pub returns : goal.returns
returns c = λ h acts st. c.open_class.ensures h acts st
