use Rattle.cal_facts.proofs.Common.{◌∙◌, ℕ, List, ap, run_end, works_below}
use Rattle.cal_kthread.specs.declared.journal.entry.Entry.{Entry}
use Rattle.cal_machine.specs.TableTasks.{threads_of_table}
use Rattle.cal_machine.specs.declared.request.Request.{Request}
use Rattle.cal_facts.proofs.turns.collecting.turns_of_replay.Goals as goal

pub returns : goal.returns
returns c =
    let given = c.replayed_by.new.given in
    let run = c.in_ok-left.ensures.replay in
    let threads = threads_of_table c.args.config.now in
    let last = run_end given in
    let journals = c.as_slice.ensures.value ∙ c.in_ok-journals.ensures.journals ∙ run.collected in
    record {
      given = given;
      journals = run.journals;
      left = c.in_ok-left.left;
      replay = record {
        planned = c.in_ok-given.given;
        by_plan = c.in_ok-given.ensures.planned;
        back = c.in_ok-left.ensures.given;
        replay = run.replay;
      };
      are = c.in_ok-works.ensures
          ∙ ap (λ (n : ℕ). works_below n c.run_end-last.result c.as_slice.result.now c.as_slice-2.result.now) c.threads-threads.ensures.count
          ∙ ap (λ (n : ℕ). works_below threads n c.as_slice.result.now c.as_slice-2.result.now) c.run_end-last.ensures
          ∙ ap (λ (l : List (List Entry)). works_below threads last l c.as_slice-2.result.now) journals
          ∙ ap (λ (l : List (List Request)). works_below threads last run.journals l) c.as_slice-2.ensures;
    }
