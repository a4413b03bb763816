use Rattle.std.proofs.Common.{◌∙◌, sym}
use Rattle.cal_tables.proofs.collecting.OpenNumbers.end.Goals as goal

pub returns-clause-ended : goal.returns-clause-ended
returns-clause-ended c = λ outcome held left. record {
  walk = held.walk;
  threads = c.in_ok-run.ensures.threads outcome.journals held.threads;
  left = left ∙ sym c.in_ok-run.ensures.left;
}
