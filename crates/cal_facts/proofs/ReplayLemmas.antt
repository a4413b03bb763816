-- What was written of a replay.
use Rattle.cal_facts.proofs.Common.{◌≡◌, ◌∙◌, ℕ, List, Option, ap, Table, run_end, PassEntry, text_of_requests, served_from, series_of, series_text, text_of_series, AreSpanFacts, spans_text, text_of_facts, came_told, Point}
use Rattle.cal_paced.specs.declared.plan.Plan.{Plan}
use Rattle.cal_tables.specs.declared.measuring.MeasuredInput.{MeasuredInput}
use Rattle.cal_trace.specs.declared.arrivals.Arrivals.{Arrivals}
use Rattle.cal_facts.proofs.WrittenLemmas.{spans_written}
use Rattle.cal_facts.specs.Replayed.{IsReplayedHistory, IsReplayedRequests, IsReplayedRows, IsReplayedText}
use Rattle.cal_facts.specs.declared.histories.RunHistory.{RunHistory}
use Rattle.cal_facts.specs.declared.requests.writing.RunRequests.{RunRequests}
use Rattle.cal_facts.specs.declared.spans.facts.SpanFacts.{SpanFacts}

-- the text of a history is that of the same history on the same table
text_replayed : (plan : Option Plan) (input rows : List ℕ) (is : RunHistory) (text : Table → List PassEntry → List ℕ) (written : List ℕ) → IsReplayedHistory plan input rows is
    → written ≡ text is.config is.passes.items → IsReplayedText plan input rows text written
text_replayed plan input rows is text written of same = record {
  run = of.run;
  asked = of.asked;
  history = of.history;
  told = of.told;
  given = of.given;
  journals = of.journals;
  left = of.left;
  replay = of.replay;
  holds = same ∙ ap (λ (t : Table). text t is.passes.items) of.holds.0 ∙ ap (λ (h : List PassEntry). text of.run.table h) of.holds.1;
}

pub spans_replayed : (plan : Option Plan) (input rows : List ℕ) (is : RunHistory) (facts : SpanFacts) → IsReplayedHistory plan input rows is
    → AreSpanFacts is.config.cores is.passes.items facts → IsReplayedText plan input rows spans_text (text_of_facts is.config facts)
spans_replayed plan input rows is facts of are =
    text_replayed plan input rows is spans_text (text_of_facts is.config facts) of (spans_written is.config is.passes.items facts are)

pub series_replayed : (plan : Option Plan) (input rows : List ℕ) (is : RunHistory) (points : List Point) → IsReplayedHistory plan input rows is
    → points ≡ series_of is.config is.passes.items → IsReplayedText plan input rows series_text (text_of_series is.config points)
series_replayed plan input rows is points of are =
    text_replayed plan input rows is series_text (text_of_series is.config points) of (ap (λ (l : List Point). text_of_series is.config l) are)

-- and so is the text of its requests
pub requests_written : (asked : MeasuredInput) (rows : List ℕ) (is : RunRequests) → (of : IsReplayedRequests asked rows is)
    → IsReplayedRows asked rows (text_of_requests is.config is.arrivals (came_told of.holds.told) (served_from (run_end of.given) 0 of.journals))
requests_written asked rows is of =
    let came = came_told of.holds.told in
    let all = served_from (run_end of.given) 0 of.journals in record {
      run = of.run;
      asked = of.asked;
      history = of.history;
      told = of.told;
      given = of.given;
      journals = of.journals;
      left = of.left;
      replay = of.replay;
      holds = record {
        told = of.holds.told;
        counted = of.holds.counted;
        holds = ap (λ (t : Table). text_of_requests t is.arrivals came all) of.holds.holds.0 ∙ ap (λ (a : Arrivals). text_of_requests of.run.table a came all) of.holds.holds.1;
      };
    }
