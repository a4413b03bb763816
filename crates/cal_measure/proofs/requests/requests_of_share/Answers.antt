use Rattle.cal_measure.proofs.Common.{◌≡◌, ◌∙◌, ℕ, List, length, ap, subst, rules, Came, AreTimesOf, requests_within, services_within, Service}
use Rattle.cal_machine.specs.declared.request.Request.{Request}
use Rattle.cal_measure.specs.declared.times.TaskTimes.{TaskTimes}
use Rattle.cal_measure.proofs.requests.requests_of_share.Goals as goal

same_times : (came : List Came) (end end' : ℕ) (services services' : List Service) (remaining remaining' : List Request) (times : TaskTimes) → end ≡ end' → services ≡ services' → remaining ≡ remaining'
    → AreTimesOf came end services remaining times → AreTimesOf came end' services' remaining' times
same_times came end end' services services' remaining remaining' times e s r are =
    subst (λ n. AreTimesOf came n services' remaining' times) e
    (subst (λ (l : List Service). AreTimesOf came end l remaining' times) s (subst (λ (l : List Request). AreTimesOf came end services l times) r are))

pub returns-clause-are : goal.returns-clause-are
returns-clause-are c =
    let counted = c.args.counted.now in
    let came = counted.came in
    let window = counted.window in
    let services = c.args.share.now.served.items in
    let remaining = c.args.share.now.left.items in
    let same : c.as_slice-served.result.now ≡ services = c.as_slice-served.ensures.value in
    let same_left : c.as_slice-left.result.now ≡ remaining = c.as_slice-left.ensures.value in
    let within = c.as_slice.ensures.value ∙ c.in_ok-counted_served.ensures came c.requires ∙ ap (λ (l : List Service). services_within window came l) same in
    let within_left = c.as_slice-2.ensures.value ∙ c.in_ok-counted_left.ensures came c.requires ∙ ap (λ (l : List Request). requests_within window came l) same_left in
    record {
      served = let h = ap (λ (l : List Service). length l) same in search (rules, h);
      left = let h = ap (λ (l : List Request). length l) same_left in search (rules, h);
      times = same_times came _ _ _ _ _ _ _ c.run_end-end.ensures within within_left (c.in_ok-times.ensures came c.requires);
    }
