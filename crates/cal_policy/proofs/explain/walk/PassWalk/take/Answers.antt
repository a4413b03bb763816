-- What the turn makes stands after the actions before it, and the next turn after that.
use Rattle.cal_policy.proofs.Common.{refl, sym, subst, ◌∙◌, Setting, Stands}
use Rattle.cal_policy.specs.Explain.Walks.{setting_of}
use Rattle.cal_policy.proofs.ExplainLemmas.Assured.{due_here, order_here, taken_by}
use Rattle.cal_policy.proofs.explain.walk.PassWalk.take.Goals as goal

pub returns-clause-goes_on : goal.returns-clause-goes_on
returns-clause-goes_on c = λ h w.
    let policy = c.args.self.now.terms.policy in
    let s = setting_of c.args.self.now h in
    let made = c.args.self.now.made.items in
    let turn = c.args.self.now.turn in
    let due = due_here _ policy _ s turn made _ c.args.self.now.order c.pass.ensures.policy (c.pass.ensures.setting h) w.order
    (c.due_by-both.ensures.due h made (rw c.deref.ensures (c.pass.ensures.stands h w)) c.deref-2.ensures.value) in
    let now = taken_by policy s turn made _ _ w.made due c.in_ok-make_both.ensures.made in
    let stands = c.in_ok-make_both.ensures.stands s (rw c.deref_mut.ensures.value w.stands) in
    let P : Setting → Type 0 = λ t. Stands c.make_both.new.board t c.make_both.new.made.items in
    let there = subst P (sym (c.pass-2.ensures.setting h)) stands in
    record {
      made = now ∙ sym (c.turn_after_by-self.ensures.follows s refl);
      stands = stands;
      order = order_here _ policy _ s _ s.table turn _ _ c.args.self.now.order _ c.pass-2.ensures.policy (c.pass-2.ensures.setting h)
          c.pass-2.ensures.config c.turn_after_by-self.ensures.next now w.order
          (c.order_after-order.ensures.keeps h c.make_both.new.made.items (rw c.deref-3.ensures there));
    }
