use Rattle.cal_measure.proofs.Common.{◌++◌, ◌∷◌, ◌∙◌, ℕ, List, [], ap, sym, arith, length-append, sum, each_of, each_of_push, service_by, services_of, one_of, time_worked, Service}
use Rattle.cal_measure.proofs.thread_work.ended.EndedTurns.take_ended.Goals as goal

pub returns : goal.returns
returns c = λ turns many so_far.
    let turn = c.args.turn in
    let times = each_of time_worked turns in
    let grown = length-append turns (turn ∷ []) in
    let few = so_far.few in
    record {
      begun = c.begun_after-self.ensures turns so_far.begun;
      so_far = c.worked_after-self.ensures turns so_far.so_far;
      services = c.in_ok-put_one.ensures ∙ ap (λ (l : List Service). l ++ one_of c.service_by.result) so_far.services
          ∙ ap (λ (l : List Service). services_of turns ++ l) (c.service_by.ensures turns so_far.begun so_far.so_far) ∙ sym (each_of_push service_by turns turn);
      worked = c.added-self.ensures.sum times so_far.worked (omega (arith, few, many))
          ∙ ap (λ (l : List ℕ). sum l) (ap (λ l. times ++ l) (c.time_worked.ensures turns) ∙ sym (each_of_push time_worked turns turn));
      few = let more = c.added-self.ensures.few in omega (arith, more, few, grown);
    }
