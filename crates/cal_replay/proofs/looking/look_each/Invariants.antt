use Rattle.std.proofs.Common.{◌≡◌, ℕ, Bool, Some, slice_get}
use Rattle.cal_command.specs.Rings.{SenderView}
use Rattle.cal_policy.specs.declared.history.look.Seen.{Seen}
use Rattle.cal_signal.specs.Ends.{ObserverView}
use Rattle.cal_sched.specs.Passing.{HasAsked}
use Rattle.cal_replay.specs.Passes.{IsLookGiven}
use Rattle.cal_replay.proofs.Going.{GoneTo}
use Rattle.cal_replay.proofs.looking.look_each.Given as goal

abbrev pub invariant-loop-thread : goal.invariant-loop-thread
invariant-loop-thread l = record {
  pages : GoneTo (λ (j : ℕ) (was is : ObserverView). (told : Seen) → slice_get l.input.seen j ≡ Some told → IsLookGiven told was is) l.thread l.initial.observers.items l.observers.items;
  rings : GoneTo (λ (j : ℕ) (was is : SenderView). (told : Bool) → slice_get l.input.rooms j ≡ Some told → HasAsked was is told) l.thread l.initial.senders.items l.senders.items;
}
