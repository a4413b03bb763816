use Rattle.cal_facts.proofs.Common.{◌++◌, ℕ, List, subst, Appends-trans, on_ok_weaker, Appends, flat_map, ban_line, span_columns, span_lines}
use Rattle.cal_measure.specs.declared.spans.bans.BanSpan.{BanSpan}
use Rattle.cal_measure.specs.declared.spans.span.Span.{Span}
use Rattle.cal_facts.proofs.spans.writing.write_facts.Goals as goal

pub returns : goal.returns
returns g c =
    let table = c.args.config.now in
    let facts = c.args.facts.now in
    let old = g.W.Write.contents c.args.writer.now in
    let begun = g.W.Write.contents c.write_columns.new.writer in
    let mid = g.W.Write.contents c.write_each_span.new.writer in
    let new = g.W.Write.contents c.write_each_ban.new.writer in
    let S : List ℕ → List Span → Type 0 = λ clocks spans. Appends begun mid (flat_map (span_lines table clocks) spans) in
    let B : List ℕ → List BanSpan → Type 0 = λ clocks bans. Appends mid new (flat_map (ban_line table clocks) bans) in
    let told = c.as_slice-clocks.ensures.value in
    let spans : S facts.clocks.items facts.spans.items =
    subst (λ (clocks : List ℕ). S clocks facts.spans.items) told (subst (λ (l : List Span). S c.as_slice-clocks.result.now l) c.as_slice.ensures.value c.in_ok-write_each_span.ensures) in
    on_ok_weaker c.write_each_ban.result
    (λ last.
    let bans : B facts.clocks.items facts.bans.items =
    subst (λ (clocks : List ℕ). B clocks facts.bans.items) told (subst (λ (l : List BanSpan). B c.as_slice-clocks.result.now l) c.as_slice-2.ensures.value last) in
    Appends-trans old begun new span_columns (flat_map (span_lines table facts.clocks.items) facts.spans.items ++ flat_map (ban_line table facts.clocks.items) facts.bans.items)
    c.in_ok-write_columns.ensures
    (Appends-trans begun mid new (flat_map (span_lines table facts.clocks.items) facts.spans.items) (flat_map (ban_line table facts.clocks.items) facts.bans.items) spans bans))
    c.write_each_ban.ensures
