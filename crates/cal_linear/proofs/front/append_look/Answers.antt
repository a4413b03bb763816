use Rattle.cal_linear.proofs.Order.{rest_of, reached, read_part}
use Rattle.cal_linear.proofs.front.append_look.Goals as goal

pub returns-in_ok-push-in-Whole-clause-appended : goal.returns-in_ok-push-in-Whole-clause-appended
returns-in_ok-push-in-Whole-clause-appended c =
    read_part c.args.thread c.args.journal.now _ c.args.front.place c.in-Whole.number c.args.front.entries c.saturating_sub.result c.in-Whole.rec c.args.seen c.args.events.now.items
    c.append_upto.new.events.items c.push.new.self.items (rest_of c.args.journal.now c.args.front.entries) c.requires.count c.saturating_sub.ensures c.in-Whole.is c.in_ok-count-in-Whole.ensures.appended
    c.in_ok-push-in-Whole.ensures.items

pub returns-in_ok-push-in-Whole-clause-listed : goal.returns-in_ok-push-in-Whole-clause-listed
returns-in_ok-push-in-Whole-clause-listed c =
    reached c.args.journal.now _ c.args.front.place c.in-Whole.number c.args.front.entries c.in_ok-count-in-Whole.count c.saturating_sub.result c.max.result c.max.ensures (rest_of c.args.journal.now c.args.front.entries)
    c.requires.count c.requires.within c.saturating_sub.ensures c.in_ok-count-in-Whole.ensures.count c.in_ok-count-in-Whole.ensures.within
