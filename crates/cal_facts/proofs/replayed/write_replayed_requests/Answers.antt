use Rattle.cal_facts.proofs.Common.{text_of_requests, run_end, served_from, came_told}
use Rattle.cal_facts.proofs.ReplayLemmas.{requests_written}
use Rattle.cal_facts.proofs.replayed.write_replayed_requests.Goals as goal

pub returns-in-Ok-clause-exact : goal.returns-in-Ok-clause-exact
returns-in-Ok-clause-exact g c =
    let run = c.in_ok-made.made in
    let of = c.in_ok-made.ensures in
    let told = of.holds in
    let came = came_told told.told in
    let all = served_from (run_end of.given) 0 of.journals in
    record {
      written = text_of_requests run.config run.arrivals came all;
      is_text = requests_written c.args.asked c.args.history.now run of;
      appended = c.in-Ok.ensures came all told.holds.2 told.holds.3;
    }
