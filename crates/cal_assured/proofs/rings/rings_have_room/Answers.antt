use Rattle.cal_assured.proofs.RingLemmas as lemmas
use Rattle.cal_assured.proofs.rings.rings_have_room.Goals as goal

pub returns : goal.returns
returns c = lemmas.rings_have_room c.each_policy_is_permitted.ensures c.threads_are_sent_one_command.ensures
