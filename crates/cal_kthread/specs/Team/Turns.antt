-- What turns leave of a team: each thread keeps its place.
use Rattle.std.specs.Prelude.{◌≡◌, ℕ, Option, List, map, slice_set}
use mathlib.Core.Option.{some}
use lib.ListN.{get_elem?}
use Rattle.cal_machine.specs.declared.request.Request.{Request}
use Rattle.cal_kthread.specs.Team.{IsTeam, place_of}
use Rattle.cal_kthread.specs.Turn.Thread.{KernelView}
use Rattle.cal_kthread.specs.Turn.{Answers, turned}

-- The law of a turn: it leaves the thread its place in its team, whatever the turn's calls
-- answered.
abbrev pub TurnKeepsPlace : Type 0
TurnKeepsPlace = (now : ℕ) (request : Option Request) (answers : Answers) (k : KernelView) →
    place_of (turned now request answers k).thread ≡ place_of k.thread

-- The law of a team's turns: when one of its threads changes and keeps its place, as by a turn,
-- they are a team still.
abbrev pub SamePlaceKeepsTeam : Type 0
SamePlaceKeepsTeam = (threads : List KernelView) (k : ℕ) (before after : KernelView) →
    IsTeam (map (λ t. place_of t.thread) threads)
    → get_elem? threads k ≡ some before → place_of after.thread ≡ place_of before.thread →
    IsTeam (map (λ t. place_of t.thread) (slice_set threads k after))
