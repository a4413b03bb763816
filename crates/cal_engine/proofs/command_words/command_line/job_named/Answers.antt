use Rattle.std.proofs.Common.{◌∙◌}
use Rattle.cal_engine.proofs.CommandWords.{named_job}
use Rattle.cal_engine.proofs.command_words.command_line.job_named.Goals as goal

pub returns-in-Some : goal.returns-in-Some
returns-in-Some c = λ named names. c.job_of.ensures
    ∙ named_job c.args.matches.now c.in-Some.flags.now c.in-Some.word.now c.flags_ask.result
    c.in-Some.ensures.name c.in-Some.ensures.rows c.flags_ask.ensures named names
