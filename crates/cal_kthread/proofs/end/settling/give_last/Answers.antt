use Rattle.std.proofs.Common.{rules}
use Rattle.cal_kthread.proofs.TeamLemmas.Gathering.{keeper-within, keeper-queue, gathers, others-stay, one-fewer}
use Rattle.cal_kthread.proofs.ListSums.{at-within}
use Rattle.cal_kthread.proofs.end.settling.give_last.Goals as goal

pub bounds-ends-number : goal.bounds-ends-number
bounds-ends-number g c = keeper-within _ _ _ c.give_back.new.self c.in-Some.field-0 c.requires.team (at-within _ _ _ c.requires.thread) c.in-Some.ensures.0 c.in-Some.ensures.1

pub offset_bounds-ends-number : goal.offset_bounds-ends-number
offset_bounds-ends-number g c =
    let within = keeper-within _ _ _ c.give_back.new.self c.in-Some.field-0 c.requires.team (at-within _ _ _ c.requires.thread) c.in-Some.ensures.0 c.in-Some.ensures.1 in
    search rules

pub absorb-requires : goal.absorb-requires
absorb-requires g c = keeper-queue _ _ _ c.give_back.new.self c.in-Some.field-0 c.requires.team (at-within _ _ _ c.requires.thread) c.in-Some.ensures.0 c.in-Some.ensures.1 _

pub returns-clause-gathered : goal.returns-clause-gathered
returns-clause-gathered g c _ = gathers _ _ _ c.give_back.new.self c.in-Some.field-0 c.requires.team (at-within _ _ _ c.requires.thread) c.in-Some.ensures.0 c.in-Some.ensures.1 _ c.absorb.new.self
    (at-within _ _ _ (keeper-within _ _ _ c.give_back.new.self c.in-Some.field-0 c.requires.team (at-within _ _ _ c.requires.thread) c.in-Some.ensures.0 c.in-Some.ensures.1)) c.absorb.ensures

pub returns-clause-fewer : goal.returns-clause-fewer
returns-clause-fewer g c _ = one-fewer _ _ _ c.give_back.new.self c.in-Some.field-0 c.requires.team (at-within _ _ _ c.requires.thread) c.in-Some.ensures.0 c.in-Some.ensures.1 _ c.absorb.new.self
    (at-within _ _ _ (keeper-within _ _ _ c.give_back.new.self c.in-Some.field-0 c.requires.team (at-within _ _ _ c.requires.thread) c.in-Some.ensures.0 c.in-Some.ensures.1)) c.absorb.ensures

pub returns-clause-others : goal.returns-clause-others
returns-clause-others g c = others-stay _ _ _ c.give_back.new.self c.in-Some.field-0 c.requires.team (at-within _ _ _ c.requires.thread) c.in-Some.ensures.0 c.in-Some.ensures.1 _ c.absorb.new.self
    (at-within _ _ _ (keeper-within _ _ _ c.give_back.new.self c.in-Some.field-0 c.requires.team (at-within _ _ _ c.requires.thread) c.in-Some.ensures.0 c.in-Some.ensures.1)) c.absorb.ensures
