use Rattle.std.proofs.Common.{◌∙◌, Some, refl, inl, arith, ap, length}
use Rattle.cal_trace.proofs.RowLemmas.RowsLeft.{takes_first, takes_none}
use Rattle.cal_trace.proofs.RowLemmas.Stopping.{refused_by}
use Rattle.cal_trace.proofs.rows.Rows.step.Goals as goal

pub returns-then-found : goal.returns-then-found
returns-then-found c =
    let r = rw c.if-found.true at (c.in-Ok.ensures.reads c.requires.untrimmed c.requires.ready) in
    let t = takes_first c.args.self.now.reader c.read_byte_record.new.self _ c.requires.plain c.requires.going c.requires.between r in
    rw c.if-found.true (record {
      steps = (
        t.0,
        refl,
        record {
          untrimmed = r.3 ∙ c.requires.untrimmed;
          flexible = c.in-Ok.ensures.flexible ∙ c.requires.flexible;
          ready = inl (c.in-Ok.ensures.ready c.requires.untrimmed);
          plain = r.2 ∙ c.requires.plain;
          between = t.1;
          going = c.in-Ok.ensures.goes ∙ c.requires.going;
          numbered = let n = c.requires.numbered in let l = ap length t.0 in omega arith;
        },
      );
      refused = tt;
      row = tt;
      stopped = tt;
    })

pub returns-else-found : goal.returns-else-found
returns-else-found c =
    let r = rw c.if-found.false at (c.in-Ok.ensures.reads c.requires.untrimmed c.requires.ready) in
    let t = takes_none c.args.self.now.reader c.read_byte_record.new.self _ c.requires.plain c.requires.going r in
    rw c.if-found.false (record { steps = (t, refl); refused = tt; row = tt; stopped = tt })

pub returns-in-Err-clause-refused : goal.returns-in-Err-clause-refused
returns-in-Err-clause-refused c =
    let after = record c.args.self.now { reader = c.read_byte_record.new.self } in
    rw c.kind_of.ensures (refused_by (λ s. Some s.now) c.in-Err.e.kind c.args.self.now after c.requires (c.in-Err.ensures.why c.requires.ready) c.in-Err.ensures.fails)
