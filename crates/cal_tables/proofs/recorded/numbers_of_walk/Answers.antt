use Rattle.cal_tables.proofs.recorded.numbers_of_walk.Goals as goal

pub returns : goal.returns
returns c = λ table h ready walk. record {
  cores = c.in_ok-cores.ensures table h ready walk;
  machine = c.machine.ensures.numbers table h walk;
  whole = c.machine.ensures.whole table h walk;
}
