use Rattle.std.proofs.Common.{refl, rules}
use Rattle.cal_kthread.proofs.EndLemmas.Account.{ended}
use Rattle.cal_kthread.proofs.bare_thread.BareThread.end.Goals as goal

pub returns : goal.returns
returns c = record {
  number = search rules;
  journal = search rules;
  ends = search rules;
  is_journal = search rules;
  page = search rules;
  ring = search rules;
  rest = search rules;
  place = search rules;
  work = ended _ c.self.inside.past c.self.inside.thread _ c.waiting_of.result c.self.invariant c.thread.view_is refl c.waiting_of.ensures c.new.ensures.rest c.new.ensures.none_handed;
}
