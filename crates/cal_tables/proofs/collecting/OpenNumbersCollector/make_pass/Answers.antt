use Rattle.cal_tables.proofs.Common.{◌∙◌, subst, sym, AllZip, Table, IsThreadWorkOf, IsOpenFor, IsWalkOf}
use Rattle.std.specs.declared.alloc.Global.{Global}
use Rattle.std.specs.declared.vec.Vec.{Vec}
use Rattle.cal_measure.specs.declared.thread_work.ThreadWork.{ThreadWork}
use Rattle.cal_tables.proofs.collecting.OpenNumbersCollector.make_pass.Goals as goal

pub pass-requires-clause-open : goal.pass-requires-clause-open
pass-requires-clause-open c = subst (λ (t : Table). IsOpenFor t c.args.self.now.walk) (sym c.requires.suits.0) c.requires.suits.1

pub returns-clause-suits : goal.returns-clause-suits
returns-clause-suits c = (
  c.pass.ensures.table ∙ c.requires.suits.0,
  subst (λ (t : Table). IsOpenFor t c.pass.new.self.walk) c.requires.suits.0 c.pass.ensures.open,
)

pub returns-clause-collected : goal.returns-clause-collected
returns-clause-collected c = λ journals held.
    let walk = c.pass.new.self.walk in
    record {
      walk = subst (λ (t : Table). IsWalkOf t c.pass.new.scheduler.history walk) (sym c.pass.ensures.table)
          (c.pass.ensures.walk held.walk);
      threads = subst (λ (v : Vec ThreadWork Global). AllZip IsThreadWorkOf journals v.items) (sym c.pass.ensures.threads) held.threads;
    }
