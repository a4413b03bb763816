use Rattle.cal_facts.proofs.Common.{◌≡◌, ◌++◌, ◌∷◌, ◌∙◌, [], ℕ, List, take, length, refl, ap, sym, subst, arith, take-length, length-take-le, slice_get_read, each_of_push, IsStateAfter, PassEntry, IsPassAt, points_of, series_of, Point}
use Rattle.cal_policy.proofs.ListLemmas.Each.{take_item}
use Rattle.cal_facts.proofs.RangeLemmas.{names_of_range}
use Rattle.cal_facts.proofs.series.replaying.series_of_history.Goals as goal

pub follow-requires-clause-looks : goal.follow-requires-clause-looks
follow-requires-clause-looks c =
    let h = c.args.history.now in
    let n = c.loop-pass.pass in
    let here = slice_get_read h (length h) n c.index-history-pass.result refl c.loop-pass-test.true c.index-history-pass.is in
    let looks = (c.requires.each.at n c.index-history-pass.result here).looks in
    let few = c.limits.ensures.threads in
    omega (arith, looks, few)

pub follow-requires-clause-names : goal.follow-requires-clause-names
follow-requires-clause-names c =
    let h = c.args.history.now in
    let n = c.loop-pass.pass in
    let here = slice_get_read h (length h) n c.index-history-pass.result refl c.loop-pass-test.true c.index-history-pass.is in
    names_of_range c.args.config.now c.index-history-pass.result.actions c.limits.ensures (c.requires.each.at n c.index-history-pass.result here).actions

pub loop-pass-preserved : goal.loop-pass-preserved
loop-pass-preserved c =
    let h = c.args.history.now in
    let n = c.loop-pass.pass in
    let e = c.index-history-pass.result in
    let table = c.args.config.now in
    let before = take n h in
    let longer = take_item h n e c.loop-pass-test.true c.index-history-pass.is in
    let low = c.loop-pass-test.true in
    let long = length-take-le n h (omega (arith, low)) in
    let state : IsStateAfter c.follow.new.board (before ++ e ∷ []) = c.follow.ensures.state before c.loop-pass.invariant.state in
    let at : IsPassAt before e c.follow.new.board (record { pass = n; given = c.given_of-given.result }) = record {
      state = state;
      number = sym long;
      now = c.given_of-given.ensures.now;
      bandwidth = c.given_of-given.ensures.bandwidth;
    } in
    record {
      ready = c.follow.ensures.ready;
      state = subst (λ (l : List PassEntry). IsStateAfter c.follow.new.board l) longer state;
      points = c.in_ok-put_points.ensures before e at
          ∙ ap (λ (l : List Point). l ++ points_of table before e) c.loop-pass.invariant.points
          ∙ sym (each_of_push (points_of table) before e)
          ∙ ap (λ (l : List PassEntry). series_of table l) longer;
    }

pub returns : goal.returns
returns c =
    let h = c.args.history.now in
    let past = c.loop-pass-test.false in
    let end = c.loop-pass.auto.pass-end in
    let all : c.loop-pass.pass ≡ length h = omega (arith, past, end) in
    let whole : take c.loop-pass.pass h ≡ h = ap (λ (n : ℕ). take n h) all ∙ take-length h in
    c.loop-pass.invariant.points ∙ ap (λ (l : List PassEntry). series_of c.args.config.now l) whole
