-- Who had which core from when to when, and which cores were banned: the rows of the word `spans`.
use Rattle.std.specs.Prelude.{◌≡◌, ◌++◌, ℕ, List, [], ◌∷◌, codes, decimal, slice_index_or}
use Rattle.std.specs.Prelude.{Option, Some, None, option_map}
use Rattle.std.specs.List.{concat, flat_map}
use Rattle.cal_machine.specs.Table.{Table}
use Rattle.cal_measure.specs.Spans.Bans.{TracksBans}
use Rattle.cal_measure.specs.Spans.Tracking.{Tracks}
use Rattle.cal_measure.specs.Spans.{Move, ended_of, spans_of}
use Rattle.cal_measure.specs.declared.spans.bans.BanSpan.{BanSpan}
use Rattle.cal_measure.specs.declared.spans.span.Left.{Left}
use Rattle.cal_measure.specs.declared.spans.span.Span.{Span}
use Rattle.cal_policy.specs.declared.history.entry.PassEntry.{PassEntry}
use Rattle.cal_policy.specs.declared.policy.Policy.{Policy}
use Rattle.cal_paced.specs.declared.plan.Plan.{Plan}
use Rattle.cal_tables.specs.Planned.{IsRunGiven}
use Rattle.cal_run.specs.declared.outcome.Outcome.{Outcome}
use Rattle.cal_trace.specs.declared.arrivals.Arrivals.{Arrivals}
use Rattle.cal_facts.specs.Bans.{bans_of, lifted_of}
use Rattle.cal_facts.specs.Cells.{cell, clocks_of, task_in}
use Rattle.cal_facts.specs.StateCells.{state_cells}
use Rattle.cal_facts.specs.declared.spans.gathering.Gathering.{Gathering}
use Rattle.cal_facts.specs.declared.spans.facts.SpanFacts.{SpanFacts}
use Rattle.cal_facts.specs.declared.spans.stretch.State.{State}
use Rattle.cal_facts.specs.declared.spans.stretch.State.TheVariants.{Held, Leaving, Banned}
use Rattle.cal_facts.specs.declared.spans.stretch.Stretch.{Stretch}

-- a stretch of a span: so long the thread is in this state on its core
abbrev pub stretch_of : Span → State → ℕ → Option ℕ → Stretch
stretch_of span state from to = record {
  core = span.core;
  thread = span.thread;
  state = state;
  from = from;
  to = to;
}

-- the stretch of a ban
abbrev pub banned_stretch : BanSpan → Stretch
banned_stretch ban = record {
  core = ban.core;
  thread = ban.thread;
  state = Banned ban.started;
  from = ban.from;
  to = ban.to;
}

-- the clock of a pass
abbrev pub clock_of : List ℕ → ℕ → ℕ
clock_of clocks p = slice_index_or clocks p 0

-- who is where, in which state
abbrev pub place_text : Table → Stretch → List ℕ
place_text table s =
    concat (decimal s.core ∷ codes "," ∷ decimal s.thread ∷ codes "," ∷
    cell (task_in table s.thread) ∷ codes "," ∷ state_cells s.state ∷ [])

-- from when to when, by passes and by their clocks
abbrev pub time_text : List ℕ → Stretch → List ℕ
time_text clocks s =
    concat (codes "," ∷ decimal s.from ∷ codes "," ∷ cell s.to ∷ codes "," ∷
    decimal (clock_of clocks s.from) ∷ codes "," ∷ cell (option_map (clock_of clocks) s.to) ∷
    codes "\n" ∷ [])

-- the row of a stretch
abbrev pub stretch_line : Table → List ℕ → Stretch → List ℕ
stretch_line table clocks s = place_text table s ++ time_text clocks s

-- the rows of a span that was left so: it is held until the pass that revoked it, and being left
-- from then on; where none did, it is held all the time
abbrev pub span_lines_left : Table → List ℕ → Span → Option Left → List ℕ
span_lines_left table clocks span None =
    stretch_line table clocks (stretch_of span (Held span.class) span.from span.to)
span_lines_left table clocks span (Some left) =
    stretch_line table clocks (stretch_of span (Held span.class) span.from (Some left.pass))
    ++ stretch_line table clocks
    (stretch_of span (Leaving span.class left.cause) left.pass span.to)

-- the rows of a span, and of a ban
abbrev pub span_lines : Table → List ℕ → Span → List ℕ
span_lines table clocks span = span_lines_left table clocks span span.left

abbrev pub ban_line : Table → List ℕ → BanSpan → List ℕ
ban_line table clocks ban = stretch_line table clocks (banned_stretch ban)

abbrev pub span_columns : List ℕ
span_columns =
    codes "core,thread,task,class,state,cause,by core,for task,started [ticks],"
    ++ codes "from pass,to pass,from clock [ticks],to clock [ticks]\n"

-- the text of these spans and bans, by the clocks of the passes
abbrev pub text_of_spans : Table → List ℕ → List Span → List BanSpan → List ℕ
text_of_spans table clocks spans bans =
    span_columns
    ++ (flat_map (span_lines table clocks) spans ++ flat_map (ban_line table clocks) bans)

abbrev pub text_of_facts : Table → SpanFacts → List ℕ
text_of_facts table facts =
    text_of_spans table facts.clocks.items facts.spans.items facts.bans.items

-- the text of the spans and the bans of a history
abbrev pub spans_text : Table → List PassEntry → List ℕ
spans_text table history = text_of_spans table (clocks_of history)
    (spans_of table.cores history) (bans_of table.cores history)

-- a walk has come so far: what it keeps of spans and bans, and those that ended
pub record Gathers (gathering : Gathering) (moves : List Move) : Type 0 where
  pub tracker : Tracks gathering.tracker moves
  pub bans : TracksBans gathering.bans moves
  pub ended : gathering.ended.items ≡ ended_of moves
  pub lifted : gathering.lifted.items ≡ lifted_of moves

-- these are the spans and bans of a history, and the clocks of its passes
pub record AreSpanFacts (cores : ℕ) (history : List PassEntry) (facts : SpanFacts) : Type 0 where
  pub spans : facts.spans.items ≡ spans_of cores history
  pub bans : facts.bans.items ≡ bans_of cores history
  pub clocks : facts.clocks.items ≡ clocks_of history

-- a run on these arrivals, by the plan or in lockstep, came to some outcome, and these are those of
-- its history
pub record IsRunOfSpans (plan : Option Plan) (policy : Policy) (table : Table)
    (arrivals : Arrivals) (facts : SpanFacts) : Type 0 where
  pub given : Arrivals
  pub outcome : Outcome
  pub run : IsRunGiven plan policy table arrivals given outcome
  pub are : AreSpanFacts table.cores outcome.history facts
