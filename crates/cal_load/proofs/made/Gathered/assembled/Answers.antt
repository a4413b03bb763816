use Rattle.cal_load.proofs.Common.{◌≡◌, ◌∙◌, ℕ, List, Some, map, slice_get, ap, sym, subst, AreBuilt, ArePassesOf, AreTurnsOf, threads_in, Arrival, GivenPass}
use Rattle.cal_load.proofs.Assembled.{assembled_fits, assembled_spelled, came_at_turn, came_before}
use Rattle.cal_load.proofs.made.Gathered.assembled.Goals as goal

pub returns-clause-whole : goal.returns-clause-whole
returns-clause-whole c = λ table last made.
    let timing = c.args.timing in
    let threads = threads_in table.tasks in
    let passes = subst (λ (l : List GivenPass). ArePassesOf timing l) (sym c.new.ensures) c.in_ok-passes_of.ensures in
    let turns = subst (λ (l : List ℕ). AreTurnsOf timing l) (sym c.new-2.ensures) c.in_ok-turns_of.ensures in
    let built = subst (λ (l : List Arrival). AreBuilt threads timing.turns last l) (sym c.new-3.ensures) made in
    let shown : c.as_slice-requests.result.now ≡ c.new-3.result = c.as_slice-requests.ensures.value ∙ sym c.new-3.ensures in
    record {
      fits = assembled_fits table timing last c.new.result c.new-2.result c.new-3.result c.requires passes turns built;
      spelled = assembled_spelled threads timing last c.new.result c.new-2.result c.new-3.result c.requires passes turns built;
      came = record {
        ids = c.in_ok-came.ensures.ids ∙ ap (λ (l : List Arrival). map (λ (arrival : Arrival). arrival.request.id) l) shown;
        before = λ i one arrival e f.
            came_before table timing last c.new-2.result c.new-3.result arrival i one turns built f
            (c.in_ok-came.ensures.turns i one arrival e (subst (λ (l : List Arrival). slice_get l i ≡ Some arrival) (sym shown) f)) (c.in_ok-came.ensures.clocks i one e);
        turns = λ i one arrival e f. c.in_ok-came.ensures.turns i one arrival e (subst (λ (l : List Arrival). slice_get l i ≡ Some arrival) (sym shown) f);
        clocks = λ i one arrival e f.
            came_at_turn table timing last c.new-2.result c.new-3.result arrival i one turns built f
            (c.in_ok-came.ensures.turns i one arrival e (subst (λ (l : List Arrival). slice_get l i ≡ Some arrival) (sym shown) f)) (c.in_ok-came.ensures.clocks i one e);
      };
    }
