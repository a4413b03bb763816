use Rattle.cal_measure.proofs.Whole.{make_whole}
use Rattle.cal_measure.proofs.walk.Walk.machine.Goals as goal

pub returns-clause-whole : goal.returns-clause-whole
returns-clause-whole c = λ table h walk. make_whole table h _ walk.machine.numbers.are
