use Rattle.cal_tables.proofs.Common.{◌≡◌, ◌++◌, ℕ, get_or, sym, subst, arith, slice_get_within, IsThreadWorkOf}
use Rattle.std.proofs.lemmas.Slice.Zip.{AllZip-long}
use Rattle.cal_kthread.specs.Turn.Entries.{entries_of}
use Rattle.cal_measure.specs.declared.thread_work.ThreadWork.{ThreadWork}
use Rattle.cal_run.proofs.CollectorLemmas.HeldOfEach.{held_after, held_at}
use Rattle.cal_tables.proofs.collecting.OpenNumbers.turn.Goals as goal

-- there is a place for each journal
pub returns-then-k-len-clause-threads : goal.returns-then-k-len-clause-threads
returns-then-k-len-clause-threads c = λ journals journal held at few. absurd (
    let low = slice_get_within journals c.args.k journal at in
    let many = AllZip-long IsThreadWorkOf journals c.args.self.now.threads.items held in
    let size = c.len.ensures in
    let own = c.args.self.now.threads.ok.0 in
    let past = c.if-k-len.true in
    omega (arith, low, many, size, own, past))

pub returns-clause-threads : goal.returns-clause-threads
returns-clause-threads c = λ journals journal held at few.
    let threads = c.args.self.now.threads.items in
    let k : ℕ = c.args.k in
    let was = c.index_mut.result.now in
    let value : was ≡ get_or threads k was = c.index_mut.ensures.value in
    let P : ThreadWork → Type 0 = λ work. IsThreadWorkOf journal work in
    let its : IsThreadWorkOf journal was = subst P (sym value) (held_at IsThreadWorkOf journals threads k journal was held at) in
    held_after IsThreadWorkOf journals threads k (journal ++ entries_of c.args.entries.now) c.take.new.self held (c.in_ok-take.ensures journal its few)
