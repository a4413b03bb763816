use Rattle.std.proofs.Common.{◌∙◌, refl, inr, arith}
use Rattle.cal_trace.proofs.RowLemmas.RowsLeft.{few_rows}
use Rattle.cal_trace.proofs.rows.Rows.open.Goals as goal

pub returns-clause-reading : goal.returns-clause-reading
returns-clause-reading c =
    let fr = c.from_reader-reader.ensures in
    let e = c.flexible.ensures in
    let h = c.has_headers.ensures in
    record {
      untrimmed = rw (e, h) at fr.trim ∙ c.new.ensures.trim;
      flexible = rw e at fr.flexible;
      ready = inr (inr (rw (e, h) at fr.has_headers, fr.headers));
      plain = rw (e, h) at fr.config ∙ c.new.ensures.config;
      between = rw fr.state refl;
      going = fr.fresh;
      numbered = rw (fr.state, fr.source) (let f = few_rows c.args.text.now in omega arith);
    }
