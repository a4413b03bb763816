use Rattle.cal_laws.proofs.Common.{refl, sibling_of, is_banned, actions_at}
use Rattle.cal_laws.proofs.BanLemmas.NoneDue.{beside_banned}
use Rattle.cal_laws.proofs.bans.long_requests_have_banned_siblings.Goals as goal

pub returns : goal.returns
returns c = λ here is end core thread long empty.
    beside_banned c.no_ban_is_left_due.ensures.none c.banned_are_emptied_at_once.ensures here is end core thread long empty (is_banned (actions_at here) (sibling_of core)) refl
