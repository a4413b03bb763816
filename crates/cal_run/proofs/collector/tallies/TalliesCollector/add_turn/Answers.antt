use Rattle.cal_run.proofs.Common.{◌≡◌, ◌<◌, ◌+◌, ◌^◌, ◌++◌, ℕ, length, get_or, sym, subst, arith, length-append, slice_get_within, IsTallyOf}
use Rattle.std.proofs.lemmas.Slice.Zip.{AllZip-long}
use Rattle.cal_kthread.specs.Turn.Entries.{entries_of}
use Rattle.cal_trace.specs.declared.report.tally.Tally.{Tally}
use Rattle.cal_run.proofs.CollectorLemmas.HeldOfEach.{held_after, held_at}
use Rattle.cal_run.proofs.collector.tallies.TalliesCollector.add_turn.Goals as goal

-- there is a tally for each journal
pub returns-then-k-len-clause-collected : goal.returns-then-k-len-clause-collected
returns-then-k-len-clause-collected c = λ history journals journal held at few. absurd (
    let low = slice_get_within journals c.args.k journal at in
    let many = AllZip-long IsTallyOf journals c.args.self.now.tallies.items held in
    let size = c.len.ensures in
    let own = c.args.self.now.tallies.ok.0 in
    let past = c.if-k-len.true in
    omega (arith, low, many, size, own, past))

pub returns-clause-collected : goal.returns-clause-collected
returns-clause-collected c = λ history journals journal held at few.
    let tallies = c.args.self.now.tallies.items in
    let k : ℕ = c.args.k in
    let was = c.index_mut.result.now in
    let value : was ≡ get_or tallies k was = c.index_mut.ensures.value in
    let P : Tally → Type 0 = λ t. IsTallyOf journal t in
    let its : IsTallyOf journal was = subst P (sym value) (held_at IsTallyOf journals tallies k journal was held at) in
    let more = length-append journal (entries_of c.args.entries.now) in
    let short : length journal + 5 < 2 ^ 64 = omega (arith, few, more) in
    held_after IsTallyOf journals tallies k (journal ++ entries_of c.args.entries.now) c.add_turn.new.self held (c.add_turn.ensures journal short its)
