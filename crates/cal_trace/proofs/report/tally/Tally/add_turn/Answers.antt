use Rattle.cal_trace.proofs.Common.{◌≤◌, ◌+◌, List, length, arith, subst, Entry, IsTallyOf}
use Rattle.cal_kthread.specs.Turn.{noted}
use Rattle.cal_kthread.proofs.TurnLemmas.Turns.{noted-turn}
use Rattle.cal_trace.proofs.Tallies.{noted_short}
use Rattle.cal_trace.proofs.report.tally.Tally.add_turn.Goals as goal

pub returns : goal.returns
returns c = λ journal few so_far.
    let first : List Entry = noted journal c.arrival.result in
    let second : List Entry = noted first c.taking.result in
    let third : List Entry = noted second c.theft.result in
    let fourth : List Entry = noted third c.work.result in
    let short : length first ≤ length journal + 1 = noted_short journal c.arrival.result in
    let shorter : length second ≤ length journal + 2 = let n = noted_short first c.taking.result in omega (arith, n, short) in
    let shortest : length third ≤ length journal + 3 = let n = noted_short second c.theft.result in omega (arith, n, shorter) in
    let last : length fourth ≤ length journal + 4 = let n = noted_short third c.work.result in omega (arith, n, shortest) in
    let P : List Entry → Type 0 = λ l. IsTallyOf l c.note.new.self in
    subst P (noted-turn journal c.args.entries.now c.arrival.ensures c.taking.ensures c.theft.ensures c.work.ensures c.publication.ensures)
    (c.note.ensures fourth (omega (arith, few, last))
    (c.note_step-4.ensures third (omega (arith, few, shortest))
    (c.note_step-3.ensures second (omega (arith, few, shorter))
    (c.note_step-2.ensures first (omega (arith, few, short))
    (c.note_step.ensures journal (omega (arith, few)) so_far)))))
