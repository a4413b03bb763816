use Rattle.std.proofs.Common.{◌≡◌, ℕ, ◌-◌, ◌%◌, ◌^◌, zero, suc, refl, ◌∙◌, count_ones, arith}
use Rattle.cal_machine.specs.CoreSet.{has, count_below}
use Rattle.cal_machine.specs.declared.core_set.CoreSet.{CoreSet}
use Rattle.cal_machine.proofs.Bits.{ones_of_none, ones_one_more, ones_shifted}
use Rattle.cal_machine.proofs.core_set.CoreSet.count_below.Goals as goal

-- the bits below n, counted one by one
counted : (set : CoreSet) (n : ℕ) → count_ones (set.bits % 2 ^ n) ≡ count_below set n
unfolding has count_below
counted set zero = ones_of_none set.bits
counted set (suc n) = rw (ones_one_more set.bits n, counted set n) refl

pub returns-then-end-eq0 : goal.returns-then-end-eq0
unfolding count_below
returns-then-end-eq0 c = rw (c.if-end-eq0.true) refl

pub returns : goal.returns
returns c =
    let set = c.args.self.now in
    let end = c.args.end in
    ones_shifted set.bits end (128 - end) 128 (omega (arith, c.requires)) ∙ counted set end
