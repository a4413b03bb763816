use Rattle.cal_world.proofs.ScheduleLemmas.Kept.{pages_set}
use Rattle.cal_world.proofs.world.present.publish.Goals as goal

pub returns-clause-ok : goal.returns-clause-ok
returns-clause-ok c = λ before was. pages_set c.args.pages.now.items c.args.k c.index_mut.result.now c.publish.new.self c.args.rec before c.requires c.index_mut.ensures.value c.in_ok-publish.ensures.ok was
