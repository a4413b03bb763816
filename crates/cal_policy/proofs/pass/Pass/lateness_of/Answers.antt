use Rattle.cal_policy.proofs.pass.Pass.lateness_of.Goals as goal

pub returns : goal.returns
returns c = λ h acts st. record {
  is_late = c.is_late.ensures h acts st;
  is_in_flight = c.is_in_flight.ensures h acts st;
}
