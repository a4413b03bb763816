use Rattle.std.proofs.Common.{◌∙◌}
use Rattle.cal_engine.proofs.CommandWords.{policy_is_asked}
use Rattle.cal_engine.proofs.command_words.command_line.policy_asked.Goals as goal

pub returns-in-Some : goal.returns-in-Some
returns-in-Some c = c.policy_of.ensures
    ∙ policy_is_asked c.args.matches.now c.in-Some.own.now _ c.in-Some.ensures.rows c.get_str.ensures
