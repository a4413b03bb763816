use Rattle.cal_guard.proofs.Bridging.{legal_right}
use Rattle.cal_guard.proofs.legality.legal_is_right.Goals as goal

pub returns : goal.returns
returns c = legal_right c.legal_is_permitted.ensures (record {
  revoked = c.revocations_have_cause.ensures;
  due = c.bans_are_due.ensures;
  ended = c.bans_end_unshown.ensures;
  capped = c.caps_are_due.ensures;
})
