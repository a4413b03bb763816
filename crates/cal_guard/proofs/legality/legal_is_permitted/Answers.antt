use Rattle.cal_guard.proofs.Bridging.{legal_permitted}
use Rattle.cal_guard.proofs.legality.legal_is_permitted.Goals as goal

pub returns : goal.returns
returns c = legal_permitted (record {
  sound = c.legal_is_sound.ensures;
  last = c.last_thread_is_placed.ensures;
  room = c.commands_go_where_is_room.ensures;
  one = c.threads_are_sent_one_command.ensures;
  short = c.passes_are_short.ensures;
  leaves = c.revocations_leave_guarantees.ensures;
  caps = c.grants_keep_to_caps.ensures;
  unbanned = c.no_banned_is_granted.ensures;
  emptied = c.banned_are_emptied_at_once.ensures;
  empty = c.banned_are_empty_after_passes.ensures;
  capped = c.tasks_keep_to_caps.ensures;
})
