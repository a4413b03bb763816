-- What was written of what is asked for.
use Rattle.cal_facts.proofs.Common.{◌≡◌, ◌∙◌, ℕ, List, Option, Result, Ok, Err, refl, ap, RunInput, RunFault, Table, run_end, spans_of, PassEntry, Subject, asked_run, of_history, of_run, may_go, AreClocksTold, text_of_requests, AreServed, served_from, IsSeriesOfRun, series_of, series_text, text_of_series, AreSpanFacts, IsRunOfSpans, spans_text, text_of_facts, text_of_spans, IsAskedRequests, IsAskedRun, IsAskedText, IsRunText, came_told, Served, Point}
use Rattle.cal_came.specs.declared.came.Came.{Came}
use Rattle.cal_measure.specs.declared.spans.bans.BanSpan.{BanSpan}
use Rattle.cal_measure.specs.declared.spans.span.Span.{Span}
use Rattle.cal_paced.specs.declared.plan.Plan.{Plan}
use Rattle.cal_policy.specs.declared.policy.Policy.{Policy}
use Rattle.cal_policy.specs.declared.verdict.Verdict.TheVariants.{Legal}
use Rattle.cal_tables.specs.Measuring.{IsVerdictFor}
use Rattle.cal_tables.specs.Planned.{MayRunBy}
use Rattle.cal_tables.specs.declared.measuring.MeasuredInput.{MeasuredInput}
use Rattle.cal_trace.specs.declared.arrivals.Arrivals.{Arrivals}
use Rattle.cal_facts.specs.Cells.{clocks_of}
use Rattle.cal_facts.specs.declared.requests.writing.RunRequests.{RunRequests}
use Rattle.cal_facts.specs.declared.spans.facts.SpanFacts.{SpanFacts}

-- where there is a text of what is asked for, there is a run or a history
pub text_may_run : (plan : Option Plan) (policy : Policy) (text : Table → List PassEntry → List ℕ) (asked : Result Subject RunFault) (written : List ℕ)
    → IsAskedText plan policy text asked written → MayRunBy plan asked
text_may_run plan policy text (Err f) written h = absurd h
text_may_run plan policy text (Ok (of_history run)) written h = tt
text_may_run plan policy text (Ok (of_run input)) written h = may_go plan policy input.table input.arrivals h.given h.outcome h.run

-- the text of spans and bans
pub spans_written : (table : Table) (history : List PassEntry) (facts : SpanFacts) → AreSpanFacts table.cores history facts → text_of_facts table facts ≡ spans_text table history
spans_written table history facts are =
    ap (λ (clocks : List ℕ). text_of_spans table clocks facts.spans.items facts.bans.items) are.clocks
    ∙ ap (λ (spans : List Span). text_of_spans table (clocks_of history) spans facts.bans.items) are.spans
    ∙ ap (λ (bans : List BanSpan). text_of_spans table (clocks_of history) (spans_of table.cores history) bans) are.bans

-- of the history that was walked over
pub spans_of_history : (table : Table) (walked history : List PassEntry) (facts : SpanFacts) → walked ≡ history → AreSpanFacts table.cores walked facts → text_of_facts table facts ≡ spans_text table history
spans_of_history table walked history facts same are = spans_written table walked facts are ∙ ap (λ (h : List PassEntry). spans_text table h) same

pub spans_of_run : (plan : Option Plan) (policy : Policy) (table : Table) (arrivals : Arrivals) (facts : SpanFacts) → IsRunOfSpans plan policy table arrivals facts
    → IsRunText plan policy spans_text (record { table = table; arrivals = arrivals }) (text_of_facts table facts)
spans_of_run plan policy table arrivals facts of = record {
  given = of.given;
  outcome = of.outcome;
  run = of.run;
  same = spans_written table of.outcome.history facts of.are;
}

-- the text of a series
pub series_of_run : (plan : Option Plan) (policy : Policy) (table : Table) (arrivals : Arrivals) (points : List Point) → IsSeriesOfRun plan policy table arrivals points
    → IsRunText plan policy series_text (record { table = table; arrivals = arrivals }) (text_of_series table points)
series_of_run plan policy table arrivals points of = record {
  given = of.given;
  outcome = of.outcome;
  run = of.run;
  same = ap (λ (l : List Point). text_of_series table l) of.are;
}

pub series_of_history : (table : Table) (walked history : List PassEntry) (points : List Point) → walked ≡ history → points ≡ series_of table walked → text_of_series table points ≡ series_text table history
series_of_history table walked history points same are =
    ap (λ (l : List Point). text_of_series table l) are ∙ ap (λ (h : List PassEntry). series_text table h) same

-- what a run served that is asked for
pub served_asked : (asked : MeasuredInput) (input : Result RunInput RunFault) (run : RunRequests) → IsAskedRun asked input run
    → (came : Option (List Came)) × (all : List Served) × AreClocksTold came run.came × AreServed all run.served × IsAskedRequests asked input (text_of_requests run.config run.arrivals came all)
served_asked asked (Err f) run h = absurd h
served_asked asked (Ok input) run h =
    let of = h.served in
    let came = came_told h.told in
    let all = served_from (run_end run.arrivals) 0 of.outcome.journals in (
      came,
      all,
      h.came,
      of.are,
      record {
        told = h.told;
        counted = h.counted;
        given = run.arrivals;
        outcome = of.outcome;
        run = of.run;
        same = ap (λ (t : Table). text_of_requests t run.arrivals came all) h.config;
      },
    )

-- there is such a run
pub run_may : (asked : MeasuredInput) (input : Result RunInput RunFault) (run : RunRequests) → IsAskedRun asked input run → IsVerdictFor asked Legal (asked_run input)
run_may asked (Err f) run h = absurd h
run_may asked (Ok input) run h = (
  refl,
  record {
    counts = record { told = h.told; counted = h.counted };
    goes = may_go asked.plan asked.policy input.table input.arrivals run.arrivals h.served.outcome h.served.run;
  },
)
