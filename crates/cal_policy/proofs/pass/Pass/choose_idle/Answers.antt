-- Each class is looked for by itself, the least first.
use Rattle.cal_policy.proofs.Common.{None, cond, ap, sym, arith, so_far, comes_before, class_among, class_of, setting_in}
use Rattle.cal_policy.proofs.BoardLemmas.TwoSets.{best_none}
use Rattle.cal_policy.proofs.PassLemmas.IdleCores.{chosen_beside, chosen_again, chosen_other}
use Rattle.cal_policy.proofs.pass.Pass.choose_idle.Goals as goal

pub returns-in-Some-clause-choice : goal.returns-in-Some-clause-choice
returns-in-Some-clause-choice c = λ h acts s.
    let p = c.requires.at_hand in
    let at = setting_in c.args.self.now h in
    chosen_beside c.args.board.now at acts c.args.task c.args.self.now.config.now.cores c.in-Some.beside p.accepted.machine.most s p.ready.opens
    (c.in-Some.ensures.lowest (so_far at acts) s.agrees)

pub returns-in-Some-idle_again-clause-choice : goal.returns-in-Some-idle_again-clause-choice
returns-in-Some-idle_again-clause-choice c = λ h acts s.
    let p = c.requires.at_hand in
    let at = setting_in c.args.self.now h in
    chosen_again c.args.board.now at acts c.args.task c.args.self.now.config.now.cores c.in-Some-idle_again.again p.accepted.machine.most s p.ready.opens
    (c.in_default.ensures.lowest (so_far at acts) s.agrees) (c.in-Some-idle_again.ensures.lowest (so_far at acts) s.agrees)

pub returns-in-Some-next_core-clause-choice : goal.returns-in-Some-next_core-clause-choice
returns-in-Some-next_core-clause-choice c = λ h acts s.
    let p = c.requires.at_hand in
    let at = setting_in c.args.self.now h in
    chosen_other c.args.board.now at acts c.args.task c.args.self.now.config.now.cores c.in-Some-next_core.other p.accepted.machine.most s p.ready.opens
    (c.in_default.ensures.lowest (so_far at acts) s.agrees) (c.in_default-idle_again.ensures.lowest (so_far at acts) s.agrees)
    c.in-Some-next_core.ensures.next.1 c.in-Some-next_core.ensures.member (λ k lt. c.in-Some-next_core.ensures.between k (omega arith) lt)

pub returns-in-None-clause-choice : goal.returns-in-None-clause-choice
returns-in-None-clause-choice c = λ h acts s.
    let at = setting_in c.args.self.now h in
    sym (best_none comes_before (class_among c.args.board.now.open_cores.idle at acts c.args.task) c.args.self.now.config.now.cores
    (λ k lt. ap (λ w. cond w (class_of at acts c.args.task k) None) (c.in-None.ensures.none k (omega arith) lt)))
