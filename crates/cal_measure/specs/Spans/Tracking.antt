-- What is kept of the spans while a history is walked, and what it means.
use Rattle.std.specs.Prelude.{◌≡◌, ◌<◌, ℕ, List, Option, None, slice_index_or}
use Rattle.cal_measure.specs.Spans.{Move, span_at}
use Rattle.cal_measure.specs.declared.spans.span.Span.{Span}
use Rattle.cal_measure.specs.declared.spans.tracking.Tracker.{Tracker}

-- the span that each core is in is as the moves say
pub record AreStays (stays : List (Option Span)) (moves : List Move) : Type 0 where
  pub same : (c : ℕ) → c < 256 → slice_index_or stays c None ≡ span_at moves c

-- the tracker has come so far
abbrev pub Tracks : Tracker → List Move → Type 0
Tracks tracker moves = AreStays tracker.stays moves
