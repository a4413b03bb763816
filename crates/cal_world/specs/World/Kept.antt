-- What a world keeps of its events.
use Rattle.std.specs.Prelude.{◌≡◌, ◌⊎◌, ◌<◌, List, Some, length, take, slice_get}
use Rattle.cal_machine.specs.Table.{Table, IsTable}
use Rattle.cal_policy.specs.declared.policy.Policy.{Policy}
use Rattle.cal_policy.specs.declared.policy.Policy.TheVariants.{Caladan}
use Rattle.cal_world.specs.declared.event.Event.{Event}
use Rattle.cal_world.specs.declared.world.present.Present.{Present}
use Rattle.cal_world.specs.declared.illegal.Illegal.TheVariants.{Memory}
use Rattle.cal_world.specs.declared.world.replay.Stopped.{Stopped}
use Rattle.cal_world.specs.World.{IsLegalListBy, IsRefusedForBy}
use Rattle.cal_world.specs.World.Present.{IsPresent}

-- the events are a legal list, and the plain data are what they say
pub record IsWorld (policy : Policy) (table : Table) (events : List Event) (present : Present) :
    Type 0 where
  pub ok : IsTable table
  pub legal : IsLegalListBy policy table events
  pub kept : IsPresent table events present

-- the events before this one are a legal list, and it is refused for this cause, or memory was;
-- where there is no such event, memory was refused before the first
pub record IsStoppedBy (policy : Policy) (table : Table) (events : List Event)
    (stopped : Stopped) : Type 0 where
  pub before : IsLegalListBy policy table (take stopped.at events)
  pub place : (stopped.at < length events) ⊎ ((stopped.at ≡ 0) × (stopped.why ≡ Memory))
  pub refused : (stopped.why ≡ Memory)
      ⊎ ((event : Event) × (slice_get events stopped.at ≡ Some event)
      × IsRefusedForBy policy table (take stopped.at events) event stopped.why)

abbrev pub IsStopped : Table → List Event → Stopped → Type 0
IsStopped table events stopped = IsStoppedBy Caladan table events stopped
