use Rattle.std.proofs.Common.{codes}
use Rattle.cal_engine.proofs.CommandWords.{flag_read, is_explained}
use Rattle.cal_engine.proofs.command_words.command_line.is_explained.Goals as goal

pub returns-in-Some : goal.returns-in-Some
returns-in-Some c =
    let read = c.get_flag.ensures in
    is_explained c.args.matches.now c.in-Some.flags.now c.get_flag.result c.in-Some.ensures.rows
    (flag_read c.in-Some.flags.now (codes "explain") c.get_flag.result read.none read.value read.other)
