use Rattle.std.proofs.Common.{◌∙◌, sym}
use Rattle.cal_tables.proofs.measuring.numbers_of_run.Goals as goal

pub numbers_of_walk-requires : goal.numbers_of_walk-requires
numbers_of_walk-requires c = let ready = c.requires.open in ready.times ∙ sym ready.actions

pub returns : goal.returns
returns c = λ outcome are.
    let table = c.args.ended.now.config in
    let cores = c.in_ok-cores.ensures table outcome.history c.requires.open are.walk in
    record {
      requests = c.in_ok-requests.ensures outcome are;
      cores = cores.cores;
      machine = cores.machine;
      whole = cores.whole;
      turns = c.turns_last.ensures;
    }
