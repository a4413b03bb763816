-- The set of open cores has those that are open, as far as the machine has cores.
use Rattle.cal_policy.proofs.Common.{◌≡◌, ℕ, ◌<◌, zero, suc, Bool, refl, ◌∙◌, arith, CoreSet, is_open, count_below}
use Rattle.cal_machine.specs.CoreSet as sets
use Rattle.cal_policy.proofs.AssuredLemmas.AsKept.{open_as_kept}
use Rattle.cal_policy.proofs.pass.Pass.open_cores.Goals as goal

-- a set is counted by a test that its cores alone pass
counted : (set : CoreSet) (passes : ℕ → Bool) (n : ℕ) → ((k : ℕ) → k < n → sets.has set k ≡ passes k) → sets.count_below set n ≡ count_below passes n
unfolding sets.count_below
counted set passes zero same = refl
counted set passes (suc n) same = rw (counted set passes n (λ k lt. same k (omega (arith, lt))), same n (omega arith)) refl

pub returns : goal.returns
returns c = λ x a.
    let board = c.args.board.now in
    let table = c.args.self.now.config.now in
    let p = c.requires.at_hand in
    c.count_below.ensures ∙ rw (c.cores-cores.ensures.value, c.machine.ensures.machine) (counted board.open_cores.idle (is_open x) table.cores (λ k lt.
    open_as_kept table board x p.ready a k (omega (arith, p.accepted.machine.most, lt))))
