use Rattle.cal_facts.proofs.Common.{◌∙◌, ◌++◌, ap, open_of, open_bans}
use Rattle.cal_facts.proofs.spans.gathering.Gathering.into_lists.Goals as goal

pub returns-clause-spans : goal.returns-clause-spans
returns-clause-spans c = λ moves h. c.in_ok-put_open.ensures moves h.tracker ∙ ap (λ ys. ys ++ open_of moves c.args.cores) h.ended

pub returns-clause-bans : goal.returns-clause-bans
returns-clause-bans c = λ moves h. c.in_ok-put_open_bans.ensures moves h.bans ∙ ap (λ ys. ys ++ open_bans moves c.args.cores) h.lifted
