use Rattle.cal_guard.proofs.Common.{[], sym, ◌∙◌, Input, next_setting}
use Rattle.cal_guard.proofs.Twins.{some_looks}
use Rattle.cal_guard.proofs.spare.begin_both.Goals as goal

pub returns-clause-spare : goal.returns-clause-spare
returns-clause-spare c =
    let looks = some_looks c.args.looks in
    let input : Input = record { now = 0; bandwidth = 0; seen = looks.0; rooms = [] } in
    let was = c.requires.spare.twins in
    c.twins_are_spare.ensures
    (record {
      setting = next_setting was.setting was.acts input;
      acts = [];
      one = c.begin.ensures.after was.setting was.acts input looks.1 was.one;
      other = c.begin-2.ensures.after was.setting was.acts input looks.1 was.other;
      made = c.begin-2.ensures.made ∙ sym c.begin.ensures.made;
    })
    (c.begin.ensures.ready c.args.config.now c.requires.ready)
    (c.begin-2.ensures.ready c.args.config.now (c.requires.spare.ready c.args.config.now c.requires.ready))
