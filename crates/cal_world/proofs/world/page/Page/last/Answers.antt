use Rattle.std.proofs.Common.{◌≡◌, ◌-◌, length, get_or, ap, subst, arith}
use Rattle.cal_world.proofs.ScheduleLemmas.Kept.{last_place}
use Rattle.cal_world.proofs.world.page.Page.last.Goals as goal

pub returns : goal.returns
returns c = λ published is. last_place c.args.self.now published c.index.result.now c.len.result is (let size = c.len.ensures in let view = ap length c.self.view_is in omega arith) (subst (λ page. c.index.result.now ≡ get_or page (c.len.result - 1) c.index.result.now) c.self.view_is c.index.ensures)
