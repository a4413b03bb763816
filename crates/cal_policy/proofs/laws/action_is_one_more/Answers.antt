use Rattle.cal_policy.proofs.HistoryLemmas.OneMore.{holder_push, last_placement_push, commands_push, ban_push, last_cap_push}
use Rattle.cal_policy.proofs.laws.action_is_one_more.Goals as goal

pub returns : goal.returns
returns c = λ x action. record {
  holder = holder_push x action;
  placement = last_placement_push x action;
  commands = commands_push x action;
  ban = ban_push x action;
  cap = last_cap_push x action;
}
