use Rattle.cal_linear.proofs.Common.{List, ◌≡◌, ◌++◌, subst, IfOk, Entry, events_of}
use Rattle.cal_linear.proofs.Order.{past_is_rest}
use Rattle.cal_linear.proofs.front.append_rest.Goals as goal

pub returns : goal.returns
returns c =
    let P : List Entry → Type 0 = λ l. IfOk c.append_all.result (λ done. c.append_all.new.events.items ≡ c.args.events.now.items ++ events_of c.args.thread l) in
    subst P (past_is_rest c.args.journal.now c.args.front.place c.args.front.entries c.requires.count) c.append_all.ensures
