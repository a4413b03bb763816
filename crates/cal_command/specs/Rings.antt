-- What a contract sees of the two ends of a ring.
use Rattle.std.specs.Prelude.{ℕ, ◌<◌, List, length}
use denote.RawPtr.{Ptr}
use Rattle.rtrb.specs.Shared.{Names}
use Rattle.rtrb.specs.declared.producer.Producer.{Producer}
use Rattle.rtrb.specs.declared.consumer.Consumer.{Consumer}
use Rattle.cal_machine.specs.declared.command.Command.{Command}
use Rattle.cal_command.specs.declared.rule.TheConstants.{MOST_COMMANDS}

-- which ring it is: both ends of a ring name the same one
pub record RingId : Type 0 where
  pub words : Ptr
  pub slots : Ptr
  pub names : Names

-- the ring that an end of `rtrb` belongs to
module _ {A P : Type 0} where
  abbrev pub ring_of_producer : Producer Command A P → RingId
  ring_of_producer p = record { words = p.end.words; slots = p.end.slots; names = p.end.names }

  abbrev pub ring_of_consumer : Consumer Command A P → RingId
  ring_of_consumer c = record { words = c.end.words; slots = c.end.slots; names = c.end.names }

-- the sending end: every command sent so far, oldest first, and how many places are known to be
-- free
pub record SenderView : Type 0 where
  pub ring : RingId
  pub sent : List Command
  pub free : ℕ

-- room for one more command is known: a place is known to be free, and fewer than MOST_COMMANDS
-- were sent
abbrev pub HasRoom : SenderView → Type 0
HasRoom s = (0 < s.free) × (length s.sent < MOST_COMMANDS)

-- the taking end: every command taken so far, oldest first
pub record TakerView : Type 0 where
  pub ring : RingId
  pub taken : List Command
