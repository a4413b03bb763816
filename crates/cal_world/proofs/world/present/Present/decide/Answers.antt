use Rattle.cal_world.proofs.Common.{[], ◌∷◌, ◌++◌, refl, ap, ◌∙◌, subst, actions_in, AreSent, AreGranted}
use Rattle.cal_world.proofs.WorldLemmas.Present.{present_decided}
use Rattle.cal_world.proofs.world.present.Present.decide.Goals as goal

pub returns-clause-ok : goal.returns-clause-ok
returns-clause-ok c = λ table before was.
    let x = actions_in before in
    present_decided table before c.args.entry.now c.args.self.now _ was (record {
      standings = refl;
      pages = refl;
      sent = subst (λ acts. AreSent c.send_all.new.sent.items (x ++ acts)) c.as_slice-2.ensures (c.send_all.ensures.sent x was.granted (c.in_ok-make_room.ensures.same x was.sent));
      granted = subst (λ acts. AreGranted c.send_all.new.granted (x ++ acts)) c.as_slice-2.ensures (c.send_all.ensures.granted x was.granted);
      looks = c.clear.ensures.items;
      history = c.in_ok-push.ensures.items ∙ ap (λ entry. c.args.self.now.history.items ++ entry ∷ []) c.in_ok-pass.ensures;
      all_sent = c.send_all.ensures.length ∙ c.in_ok-make_room.ensures.length;
    })
