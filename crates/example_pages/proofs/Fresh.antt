-- Ends of which nothing was seen or sent, with one more of them.
use Rattle.std.proofs.Common.{◌≡◌, ◌++◌, ◌∷◌, [], List, inl, inr, ap, sym, ◌∙◌}
use Rattle.cal_signal.specs.Ends.{ObserverView}
use Rattle.cal_command.specs.Rings.{SenderView}
use Rattle.cal_sched.specs.Scheduler.{HaveSeenNothing, HaveSentNothing}
use Rattle.cal_machine.proofs.Last.{last_or_before}

pub one_more_unseen : (observers : List ObserverView) (one : ObserverView) → HaveSeenNothing observers → one.looks ≡ [] →
    HaveSeenNothing (observers ++ one ∷ [])
one_more_unseen observers one unseen nothing k observer at = elim (last_or_before observers one observer k at) [
  | inl before ↦ unseen k observer before.1
  | inr last ↦ ap (λ (o : ObserverView). o.looks) (sym last.1) ∙ nothing
]

pub one_more_unsent : (senders : List SenderView) (one : SenderView) → HaveSentNothing senders → one.sent ≡ [] →
    HaveSentNothing (senders ++ one ∷ [])
one_more_unsent senders one unsent nothing k sender at = elim (last_or_before senders one sender k at) [
  | inl before ↦ unsent k sender before.1
  | inr last ↦ ap (λ (s : SenderView). s.sent) (sym last.1) ∙ nothing
]
