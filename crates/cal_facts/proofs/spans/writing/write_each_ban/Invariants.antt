use Rattle.cal_facts.proofs.Common.{take, Appends, flat_map, ban_line}
use Rattle.cal_facts.proofs.spans.writing.write_each_ban.Given as goal

abbrev pub invariant-loop-ban : goal.invariant-loop-ban
invariant-loop-ban g l =
    Appends (g.W.Write.contents l.initial.writer) (g.W.Write.contents l.writer) (flat_map (ban_line l.config l.clocks) (take l.ban-index l.bans))
