use Rattle.cal_measure.proofs.Common.{◌≤◌, ◌^◌, ◌∙◌, length, arith, turns_of}
use Rattle.cal_kthread.specs.Limits.{most_entries-is}
use Rattle.cal_measure.proofs.ThreadTurns.{suspensions_few, thefts_few, timed_few, turns_few}
use Rattle.cal_measure.proofs.thread_work.ThreadWork.end.Goals as goal

pub returns : goal.returns
returns c = λ journal so_far.
    let turns = turns_of journal in
    let most : length journal ≤ 2 ^ 20 = let short = so_far.short in let most = most_entries-is in omega (arith, short, most) in
    let fewer = turns_few journal in
    let ended = c.in_ok-ended.ensures turns (omega (arith, most, fewer)) so_far.turns in
    let told = c.totals.ensures in
    let few = ended.few in
    let timed = timed_few c.args.last turns in
    let thefts = thefts_few journal in
    let suspensions = suspensions_few turns in
    let stole = so_far.thefts in
    let suspended = so_far.turns.suspensions in
    record {
      services = told.services ∙ ended.services;
      work = record { worked = told.worked ∙ ended.worked; thefts = told.thefts ∙ stole; suspensions = told.suspensions ∙ suspended };
      within = record {
        worked = let same = told.worked in omega (arith, same, few, timed, fewer, most);
        thefts = let same = told.thefts in omega (arith, same, stole, thefts, most);
        suspensions = let same = told.suspensions in omega (arith, same, suspended, suspensions, fewer, most);
      };
    }
