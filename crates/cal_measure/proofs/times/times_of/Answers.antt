use Rattle.cal_measure.proofs.Common.{◌≡◌, ◌∙◌, ◌+◌, ℕ, List, [], map, ap, subst, sum, response_of}
use Rattle.cal_measure.specs.Spread.{IsSpread}
use Rattle.cal_measure.specs.declared.spread.Spread.{Spread}
use Rattle.cal_measure.proofs.times.times_of.Goals as goal

same_spread : (known pending known' pending' : List ℕ) (spread : Spread) → known ≡ known' → pending ≡ pending' → IsSpread known pending spread → IsSpread known' pending' spread
same_spread known pending known' pending' spread k p s = subst (λ (l : List ℕ). IsSpread known' l spread) p (subst (λ (l : List ℕ). IsSpread l pending spread) k s)

pub returns : goal.returns
returns c = λ came clocks.
    let services = c.args.served.now in
    let remaining = c.args.left.now in
    let end = c.args.end in
    let answered = c.in_ok-answered.ensures came clocks in
    let pending = c.in_ok-pending.ensures came clocks in
    let old = c.in_ok-oldest.ensures came clocks in
    record {
      response = same_spread _ _ _ _ _ answered pending c.spread_of-response.ensures;
      together = ap (λ n. n + c.total_of-2.result) (c.total_of.ensures.total ∙ ap (λ (l : List ℕ). sum l) (c.as_slice.ensures.value ∙ answered))
          ∙ ap (λ n. sum (map (response_of came) services) + n) (c.total_of-2.ensures.total ∙ ap (λ (l : List ℕ). sum l) (c.as_slice-2.ensures.value ∙ pending));
      wait = subst (λ (times : List ℕ). IsSpread times [] c.spread_of_known-wait.result) (c.in_ok-waits.ensures came clocks) c.spread_of_known-wait.ensures;
      service = subst (λ (times : List ℕ). IsSpread times [] c.spread_of_known-service.result) c.in_ok-works.ensures c.spread_of_known-service.ensures;
      slowdown = subst (λ (times : List ℕ). IsSpread times [] c.spread_of_known-slowdown.result) (c.in_ok-slowdowns.ensures came clocks) c.spread_of_known-slowdown.ensures;
      so_far = subst (λ (times : List ℕ). IsSpread times [] c.spread_of_known-so_far.result) old c.spread_of_known-so_far.ensures;
    }
