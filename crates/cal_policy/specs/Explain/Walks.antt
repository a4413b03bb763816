-- Where a walk over a pass stands.
use Rattle.std.specs.Prelude.{◌≡◌, List}
use Rattle.cal_policy.specs.declared.history.action.Action.{Action}
use Rattle.cal_policy.specs.declared.history.entry.PassEntry.{PassEntry}
use Rattle.cal_policy.specs.declared.history.input.Input.{Input}
use Rattle.cal_policy.specs.declared.explain.walk.PassWalk.{PassWalk}
use Rattle.cal_policy.specs.Setting.{Begun, Setting, setting_at, so_far}
use Rattle.cal_policy.specs.State.{IsOfTable, Stands}
use Rattle.cal_policy.specs.Explain.PolicyTurns.{made_before_by, KeepsOrder, NamesTasks}
use Rattle.cal_policy.specs.Explain.Turns.{IsTurn}

-- the pass on this input after these passes, as begun
abbrev pub begun_on : List PassEntry → Input → Begun
begun_on history input = record { history = history; seen = input.seen }

-- what the walk's pass goes by
abbrev pub setting_of : PassWalk → Begun → Setting
setting_of walk begun = setting_at walk.config.now walk.terms begun

-- its board is of its table, and its turn and its order name what the table has
pub record IsWalk (walk : PassWalk) : Type 0 where
  pub table : IsOfTable walk.config.now walk.board.value
  pub turn : IsTurn walk.config.now walk.turn
  pub order : NamesTasks walk.config.now walk.order

-- the walk goes over the pass of its policy that has begun as this one: it has made the actions that
-- come before its turn, its state is the one after them, and it has the order of the tasks
pub record Walks (walk : PassWalk) (begun : Begun) : Type 0 where
  pub made : walk.made.items ≡ made_before_by walk.terms.policy (setting_of walk begun) walk.turn
  pub stands : Stands walk.board.value (setting_of walk begun) walk.made.items
  pub order : KeepsOrder walk.terms.policy (setting_of walk begun) walk.turn walk.order

-- all actions so far, those that the walk has made of this pass included
abbrev pub actions_so_far : PassWalk → Begun → List Action
actions_so_far walk begun = so_far (setting_of walk begun) walk.made.items
