use Rattle.cal_linear.proofs.Shown.{looks_are_publications}
use Rattle.cal_linear.proofs.law.fitting_looks_are_publications.Goals as goal

pub returns : goal.returns
returns c = looks_are_publications
