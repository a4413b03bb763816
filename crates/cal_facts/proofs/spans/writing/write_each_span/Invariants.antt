use Rattle.cal_facts.proofs.Common.{take, Appends, flat_map, span_lines}
use Rattle.cal_facts.proofs.spans.writing.write_each_span.Given as goal

abbrev pub invariant-loop-span : goal.invariant-loop-span
invariant-loop-span g l =
    Appends (g.W.Write.contents l.initial.writer) (g.W.Write.contents l.writer) (flat_map (span_lines l.config l.clocks) (take l.span-index l.spans))
