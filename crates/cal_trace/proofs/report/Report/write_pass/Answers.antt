use Rattle.cal_trace.proofs.Common.{subst, sym, List, ℕ, Appends, Appends-trans, pass_text}
use Rattle.cal_trace.proofs.ListLemmas.Numbered.{text-end}
use Rattle.cal_trace.proofs.report.Report.write_pass.Goals as goal

pub returns-clause-text : goal.returns-clause-text
returns-clause-text g c = λ start h of text.
    let written = rw of.passes at c.in_ok-write_pass.ensures in
    subst (λ (t : List ℕ). Appends start (g.W.Write.contents c.write_pass.new.writer) t) (sym (text-end pass_text h c.args.entry.now)) (Appends-trans start _ _ _ _ text written)
