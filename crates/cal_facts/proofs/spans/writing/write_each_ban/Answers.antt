use Rattle.cal_facts.proofs.LineLemmas.{one_more_line}
use Rattle.cal_facts.specs.Stretches.{ban_line}
use Rattle.cal_facts.proofs.spans.writing.write_each_ban.Goals as goal

pub loop-ban-preserved : goal.loop-ban-preserved
loop-ban-preserved g c =
    one_more_line (ban_line c.args.config.now c.args.clocks.now) _ _ _ c.args.bans.now c.loop-ban.ban-index _ c.loop-ban-test.true c.loop-ban.invariant c.in_ok-write_ban.ensures
