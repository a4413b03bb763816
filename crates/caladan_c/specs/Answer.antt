-- What a call answers, as a number. 0 is none of these: the call did what it was asked.
use Rattle.std.specs.Prelude.{ℕ}
use Rattle.caladan_c.specs.declared.answer.Finding.{Finding}
use Rattle.caladan_c.specs.declared.answer.Finding.TheVariants.{Stopped, Illegal}
use Rattle.caladan_c.specs.declared.answer.Refusal.{Refusal}
use Rattle.caladan_c.specs.declared.answer.Refusal.TheVariants.{Memory, Closed, Open, WrongCount}
use Rattle.caladan_c.specs.declared.answer.Refusal.TheVariants.{NoRoom, Unfit, NoSuch, NoAction}
use Rattle.caladan_c.specs.declared.answer.Refusal.TheVariants.{NoJudgement, Lost, NoPolicy}

-- why a call did nothing
abbrev pub refusal_number : Refusal → ℕ
refusal_number Memory = 9
refusal_number Closed = 10
refusal_number Open = 11
refusal_number WrongCount = 13
refusal_number NoRoom = 14
refusal_number Unfit = 15
refusal_number NoSuch = 16
refusal_number NoAction = 17
refusal_number NoJudgement = 19
refusal_number Lost = 21
refusal_number NoPolicy = 22

-- what a call found wrong in what it was given
abbrev pub finding_number : Finding → ℕ
finding_number Stopped = 18
finding_number Illegal = 20
