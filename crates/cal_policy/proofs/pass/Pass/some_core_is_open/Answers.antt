use Rattle.cal_policy.proofs.Common.{arith, so_far, setting_in}
use Rattle.cal_policy.proofs.PassLemmas.NoneOpen.{none_chosen}
use Rattle.cal_policy.proofs.pass.Pass.some_core_is_open.Goals as goal

pub returns-in-None : goal.returns-in-None
returns-in-None c = λ none h acts st task there.
    let p = c.requires.at_hand in
    let s = setting_in c.args.self.now h in
    none_chosen c.args.board.now s acts task p.accepted.machine.most st p.ready
    (λ core lt. c.in-None.ensures.none core (omega arith) lt)
    (λ other below. c.some_is_over.ensures.secure none (so_far s acts) st.agrees other below)
