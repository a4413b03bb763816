use Rattle.cal_kthread.proofs.Common.{◌≡◌, ◌+◌, ◌≤◌, ◌++◌, ◌∙◌, Some, length, sym, ap, arith, record_in, records_of, noted, entries_of}
use Rattle.std.specs.Vec.{vec_len}
use Rattle.cal_kthread.proofs.JournalLemmas.OneEntryMore.{length-filter_map}
use Rattle.cal_kthread.proofs.TurnLemmas.Turns.{noted-turn}
use Rattle.cal_kthread.proofs.kernel_thread.KernelThread.turn.Goals as goal

pub turn-requires-clause-room : goal.turn-requires-clause-room
turn-requires-clause-room c =
    let short = length-filter_map record_in c.self.inside.journal.items in
    let same : length (records_of c.self.inside.journal.items) ≡ length (records_of c.self.inside.bare.journal) = ap (λ l. length (records_of l)) c.self.invariant.0 in
    let few = c.self.invariant.1 in omega arith

-- what was handed out is what went into the journal
noting : (c : goal.After-note-5) → c.note-5.new.journal.items ≡ c.self.inside.journal.items ++ entries_of c.in_ok-entries.entries
noting c =
    let before : c.reserve.new.self.items ≡ c.self.inside.journal.items = c.in_ok-reserve.ensures.items in
    let first = c.note.ensures.items ∙ ap (λ l. noted l c.arrival.result) before in
    let second = c.note-2.ensures.items ∙ ap (λ l. noted l c.taking.result) first in
    let third = c.note-3.ensures.items ∙ ap (λ l. noted l c.theft.result) second in
    let fourth = c.note-4.ensures.items ∙ ap (λ l. noted l c.work.result) third in
    c.note-5.ensures.items ∙ ap (λ l. noted l (Some c.publication.result)) fourth
    ∙ noted-turn c.self.inside.journal.items c.in_ok-entries.entries
    c.arrival.ensures c.taking.ensures c.theft.ensures c.work.ensures c.publication.ensures

pub invariant_of-self-2 : goal.invariant_of-self-2
invariant_of-self-2 c =
    let before = c.self.inside.journal.ok.0 in
    let reserved : vec_len c.reserve.new.self ≡ vec_len c.self.inside.journal = c.in_ok-reserve.ensures.len in
    let few = c.if-len.false in
    let counted = c.len.ensures in
    let a : vec_len c.note.new.journal ≤ vec_len c.reserve.new.self + 1 = c.note.ensures.len in
    let b : vec_len c.note-2.new.journal ≤ vec_len c.note.new.journal + 1 = c.note-2.ensures.len in
    let d : vec_len c.note-3.new.journal ≤ vec_len c.note-2.new.journal + 1 = c.note-3.ensures.len in
    let e : vec_len c.note-4.new.journal ≤ vec_len c.note-3.new.journal + 1 = c.note-4.ensures.len in
    let f : vec_len c.note-5.new.journal ≤ vec_len c.note-4.new.journal + 1 = c.note-5.ensures.len in
    let after = c.note-5.new.journal.ok.0 in (
      noting c ∙ ap (λ l. l ++ entries_of c.in_ok-entries.entries) c.self.invariant.0 ∙ sym c.in_ok-entries.ensures.handed,
      omega arith,
    )
