use Rattle.cal_measure.proofs.Common.{◌≤◌, List, Some, length, arith, subst, ap, OnOk, Entry, IsThreadWorkOf}
use Rattle.cal_kthread.specs.Turn.{noted}
use Rattle.cal_kthread.specs.declared.kernel_thread.TheConstants.{MOST_ENTRIES}
use Rattle.cal_kthread.proofs.TurnLemmas.Turns.{noted-turn}
use Rattle.cal_measure.proofs.ThreadTurns.{noted_long}
use Rattle.cal_measure.proofs.thread_work.ThreadWork.take.Goals as goal

pub returns : goal.returns
returns c = λ journal so_far short.
    let first : List Entry = noted journal c.arrival.result in
    let second : List Entry = noted first c.taking.result in
    let third : List Entry = noted second c.theft.result in
    let fourth : List Entry = noted third c.work.result in
    let all = noted-turn journal c.args.entries.now c.arrival.ensures c.taking.ensures c.theft.ensures c.work.ensures c.publication.ensures in
    let fifth : length (noted fourth (Some c.publication.result)) ≤ MOST_ENTRIES = let many = ap (λ (l : List Entry). length l) all in omega (arith, short, many) in
    let with_four : length fourth ≤ MOST_ENTRIES = let n = noted_long fourth (Some c.publication.result) in omega (arith, n, fifth) in
    let with_three : length third ≤ MOST_ENTRIES = let n = noted_long third c.work.result in omega (arith, n, with_four) in
    let with_two : length second ≤ MOST_ENTRIES = let n = noted_long second c.theft.result in omega (arith, n, with_three) in
    let with_one : length first ≤ MOST_ENTRIES = let n = noted_long first c.taking.result in omega (arith, n, with_two) in
    subst (λ (l : List Entry). OnOk c.take_entry.result (IsThreadWorkOf l c.take_entry.new.self)) all
    (c.take_entry.ensures fourth (c.in_ok-take_step-4.ensures third (c.in_ok-take_step-3.ensures second (c.in_ok-take_step-2.ensures first (c.in_ok-take_step.ensures journal so_far with_one) with_two) with_three) with_four) fifth)
