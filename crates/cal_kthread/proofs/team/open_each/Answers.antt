use Rattle.std.proofs.Common.{sym, ◌∙◌, arith}
use Rattle.cal_kthread.proofs.TeamLemmas.Opened.{one-more, more-fresh}
use Rattle.cal_kthread.proofs.team.open_each.Goals as goal

pub loop-number-preserved : goal.loop-number-preserved
loop-number-preserved c = (
  rw c.in_ok-push.ensures.items (rw c.in_ok-push-2.ensures.items (rw c.in_ok-push-3.ensures.items (rw c.in_ok-push-4.ensures.items
      (one-more _ _ _ _ _ _ _ _ c.loop-number.invariant.0 (c.in_ok-thread.ensures.number ∙ sym c.loop-number.invariant.2) c.in_ok-thread.ensures.fresh c.in_ok-thread.ensures.page
      c.in_ok-thread.ensures.unseen c.in_ok-thread.ensures.ring)))),
  rw c.in_ok-push.ensures.items (more-fresh _ _ c.loop-number.invariant.1 c.in_ok-thread.ensures.fresh),
  (let a = c.in_ok-push.ensures.len in let b = c.loop-number.invariant.2 in omega (arith, a, b)),
)
