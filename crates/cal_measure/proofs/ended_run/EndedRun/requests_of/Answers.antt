use Rattle.cal_measure.proofs.Common.{◌∙◌, ◌<◌, ℕ, List, length, ap, subst, sym, get_or, threads_of_table, run_end, AreOfServices, AreRequestsOf, given_to, left_of_task, Entry, AreTotalsOfEach, AreWorkOf, Service, ThreadTotals}
use Rattle.cal_machine.specs.declared.request.Request.{Request}
use Rattle.cal_trace.specs.declared.arrivals.Arrival.{Arrival}
use Rattle.cal_measure.specs.declared.requests.TaskRequests.{TaskRequests}
use Rattle.cal_measure.specs.declared.work.TaskWork.{TaskWork}
use Rattle.cal_measure.proofs.AllOfOk.{all_of_ok}
use Rattle.cal_measure.proofs.GivenFit.{given_fit}
use Rattle.cal_measure.proofs.ended_run.EndedRun.requests_of.Goals as goal

pub given_to-requires : goal.given_to-requires
given_to-requires c =
    let P : List Arrival → Type 0 = λ l. (k : ℕ) (d : Arrival) → k < length l → (get_or l k d).thread < threads_of_table c.args.config.now in
    subst P (sym c.as_slice-requests.ensures) (given_fit c.args.config.now c.args.arrivals.now c.requires.fits)

pub returns : goal.returns
returns c =
    let table = c.args.config.now in
    let arrivals = c.args.arrivals.now in
    let counted = c.args.counted.now in
    let left = c.args.self.now.left in
    let t = c.args.task in
    let last = run_end arrivals in
    let given = c.given_to.ensures ∙ ap (λ (l : List Arrival). given_to table l t) c.as_slice-requests.ensures in
    let remaining = c.in_ok-task_left.ensures ∙ ap (λ (l : List (List Request)). left_of_task table l t) c.as_slice-left.ensures in
    all_of_ok c.requests_of_share.result _ _ _
    (λ (numbers : TaskRequests). (journals : List (List Entry)) → AreTotalsOfEach last journals c.args.self.now.threads.items → AreRequestsOf table arrivals counted journals left t numbers)
    (λ (numbers : TaskRequests) g a w journals each.
    let told : AreTotalsOfEach last journals c.as_slice-threads.result.now =
    subst (λ (l : List ThreadTotals). AreTotalsOfEach last journals l) (sym c.as_slice-threads.ensures.value) each in
    record {
      given = g ∙ given;
      are = subst (λ (l : List Service). AreOfServices counted last l (left_of_task table left t) numbers) (c.in_ok-services_of_threads.ensures last journals told)
          (subst (λ (l : List Request). AreOfServices counted last c.in_ok-services_of_threads.field-0.items l numbers) remaining a);
      work = subst (λ (of_task : TaskWork). AreWorkOf table last journals t of_task) (sym w) (c.work_of_threads.ensures last journals told);
    }) c.requests_of_share.ensures.given c.requests_of_share.ensures.are c.requests_of_share.ensures.work
