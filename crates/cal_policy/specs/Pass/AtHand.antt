-- A pass as the code has it at hand: its board stands for the passes before it.
use Rattle.std.specs.Prelude.{List}
use Rattle.cal_policy.specs.declared.board.Board.{Board}
use Rattle.cal_policy.specs.declared.history.action.Action.{Action}
use Rattle.cal_policy.specs.declared.pass.Pass.{Pass}
use Rattle.cal_policy.specs.Setting.{Setting, Begun, setting_at}
use Rattle.cal_policy.specs.State.{Stands}

-- what the pass goes by, where it has begun as this one
abbrev pub setting_in : Pass → Begun → Setting
setting_in pass begun = setting_at pass.config.now pass.terms.now begun

-- it is so wherever the board stands within the pass: of what the pass goes by, and of the actions
-- of it so far
abbrev pub Within : Pass → Board → (Setting → List Action → Type 0) → Type 0
Within pass board is = (begun : Begun) (acts : List Action) →
    Stands board (setting_in pass begun) acts → is (setting_in pass begun) acts
