use Rattle.std.proofs.Common.{◌<◌, length, sym, ap, ◌∙◌, arith}
use mathlib.Core.Option.{some}
use Rattle.cal_kthread.proofs.ListSums.{at-within}
use Rattle.test_runtime.proofs.kernel_threads.turn_of.Goals as goal

within : (c : goal.After-eq) → c.args.k < length c.args.threads.now.items
within c = let w = c.if-k-len.false in let l = c.len.ensures in let o = c.args.threads.now.ok.0 in omega arith

pub returns-clause-team : goal.returns-clause-team
returns-clause-team c = c.same_place_keeps_team.ensures c.args.threads.now.items c.args.k c.index_mut.result.now c.turn.new.thread c.requires
    (at-within c.args.threads.now.items c.args.k c.index_mut.result.now (within c) ∙ ap some (sym c.index_mut.ensures.value)) c.turn.ensures
