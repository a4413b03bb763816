use Rattle.cal_load.proofs.Common.{◌≡◌, ◌∙◌, ◌≤◌, ◌++◌, ◌∷◌, [], ℕ, List, Some, length, length-append, map, slice_get, take, ap, sym, subst, ⊎_elim, arith, map-append, Came, clock_to, last_or_before, some_same, take_next, Arrival}
use Rattle.cal_load.proofs.comings.came_of.Goals as goal

pub loop-place-preserved : goal.loop-place-preserved
loop-place-preserved c =
    let timing = c.args.timing in
    let xs = c.args.requests.now in
    let i : ℕ = c.loop-place.place in
    let before : List Came = c.loop-place.came.items in
    let now : Came = c.came_by-one.result in
    let request : Arrival = c.request_at-request.result.now in
    let at : slice_get xs i ≡ Some request = c.request_at-request.ensures in
    let more : c.push.new.self.items ≡ before ++ now ∷ [] = c.in_ok-push.ensures.items in
    let many : length before ≡ i = c.loop-place.invariant.many in
    let id_in : Came → ℕ = λ one. one.id in
    let id_of : Arrival → ℕ = λ arrival. arrival.request.id in
    let here : now.turn ≤ request.turn = c.came_by-one.ensures.turn in
    record {
      many = let e = ap (λ (l : List Came). length l) more in omega (arith, e, many, length-append before (now ∷ []));
      ids = ap (λ (l : List Came). map id_in l) more ∙ map-append id_in before (now ∷ []) ∙ ap (λ (l : List ℕ). l ++ now.id ∷ []) c.loop-place.invariant.ids
          ∙ ap (λ (n : ℕ). map id_of (take i xs) ++ n ∷ []) c.came_by-one.ensures.id
          ∙ sym (ap (λ (l : List Arrival). map id_of l) (take_next xs i request at) ∙ map-append id_of (take i xs) (request ∷ []));
      turns = λ j one arrival e f.
          ⊎_elim
          (λ was. c.loop-place.invariant.turns j one arrival was.1 f)
          (λ last.
          let same : request ≡ arrival = some_same request arrival (sym at ∙ ap (λ (n : ℕ). slice_get xs n) (sym (last.0 ∙ many)) ∙ f) in
          subst (λ (a : Arrival). one.turn ≤ a.turn) same (subst (λ (o : Came). o.turn ≤ request.turn) last.1 here))
          (last_or_before before now one j (subst (λ (l : List Came). slice_get l j ≡ Some one) more e));
      clocks = λ j one e.
          ⊎_elim
          (λ was. c.loop-place.invariant.clocks j one was.1)
          (λ last. subst (λ (o : Came). o.clock ≡ clock_to timing o.turn) last.1 c.came_by-one.ensures.clock)
          (last_or_before before now one j (subst (λ (l : List Came). slice_get l j ≡ Some one) more e));
    }
