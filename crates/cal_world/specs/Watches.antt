-- The Watches of a list of events.
use Rattle.std.specs.Prelude.{ℕ, List, Option, Some, None}
use Rattle.std.specs.List.{filter_map}
use Rattle.cal_world.specs.declared.event.Event.{Event}
use Rattle.cal_world.specs.declared.event.Event.TheVariants.{Watch}

-- the thread and the place of a Watch
abbrev pub watch_in : Event → Option (ℕ × ℕ)
watch_in (Watch thread place) = Some (thread, place)
watch_in _ = None

-- the Watches, in order
abbrev pub watches_in : List Event → List (ℕ × ℕ)
watches_in = filter_map watch_in
