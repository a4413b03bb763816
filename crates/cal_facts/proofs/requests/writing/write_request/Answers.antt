use Rattle.cal_facts.proofs.Common.{◌≡◌, ◌-◌, ◌∙◌, ℕ, List, Option, ap, subst, Appends-trans, on_ok_weaker, Appends, run_end, arrival_text, came_in, served_text, service_of, Served}
use Rattle.cal_facts.proofs.requests.writing.write_request.Goals as goal

pub returns : goal.returns
returns g c = λ told all are_told are.
    let table = c.args.run.now.config in
    let arrivals = c.args.run.now.arrivals in
    let a = c.args.arrival in
    let clock = came_in told arrivals.turns a in
    let old = g.W.Write.contents c.args.writer.now in
    let mid = g.W.Write.contents c.write_arrival.new.writer in
    let new = g.W.Write.contents c.write_served.new.writer in
    let came : c.came_in-came.result ≡ clock = c.came_in-came.ensures told are_told in
    let waits : c.saturating_sub-waits.result ≡ run_end arrivals - clock = c.saturating_sub-waits.ensures
    ∙ ap (λ (n : ℕ). n - c.came_in-came.result) c.run_end.ensures ∙ ap (λ (n : ℕ). run_end arrivals - n) came in
    let served : c.of_request-served.result ≡ service_of all a.request.id = c.of_request-served.ensures all are in
    let first : Appends old mid (arrival_text table clock a) = subst (λ (n : ℕ). Appends old mid (arrival_text table n a)) came c.in_ok-write_arrival.ensures in
    let same = ap (λ (n : ℕ). served_text n c.of_request-served.result) waits ∙ ap (λ (o : Option Served). served_text (run_end arrivals - clock) o) served in
    on_ok_weaker c.write_served.result (λ second. Appends-trans old mid new _ _ first (subst (λ (t : List ℕ). Appends mid new t) same second)) c.write_served.ensures
