use Rattle.cal_measure.proofs.Common.{◌<◌, ◌≤◌, ◌++◌, ◌∷◌, [], List, length, length-take-le, take, take_all, ap, refl, subst, sym, arith, slice_get_read, All, NamesTable, actions_of, IsStateAfter, Action, PassEntry, IsWalkOf}
use Rattle.cal_policy.proofs.BoardLemmas.StateKept.{names_of_fitting}
use Rattle.cal_policy.proofs.ListLemmas.Each.{take_item}
use Rattle.cal_measure.proofs.walk.walked.Goals as goal

pub loop-pass-init : goal.loop-pass-init
loop-pass-init c = record {
  ready = c.new-state.ensures.ready c.args.config.now;
  state = record { actions = c.new-state.ensures.agrees; looks = c.new-state.ensures.keeping };
  is_open = c.in_ok-walk.ensures.open;
  walk = c.in_ok-walk.ensures.walk;
}

pub replay-requires-clause-looks : goal.replay-requires-clause-looks
replay-requires-clause-looks c =
    let h = c.args.history.now in
    let p = c.loop-pass.pass in
    let entry = c.index-history-pass.result in
    let orderly = c.requires.orderly in
    let fits = orderly.entries p entry (slice_get_read h (length h) p entry refl c.loop-pass-test.true c.index-history-pass.is) in
    omega (arith, fits.looks.looks, c.limits.ensures.threads)

pub replay-requires-clause-names : goal.replay-requires-clause-names
replay-requires-clause-names c =
    let table = c.args.config.now in
    let h = c.args.history.now in
    let p = c.loop-pass.pass in
    let entry = c.index-history-pass.result in
    let orderly = c.requires.orderly in
    let fits = orderly.entries p entry (slice_get_read h (length h) p entry refl c.loop-pass-test.true c.index-history-pass.is) in
    names_of_fitting table (actions_of (take p h)) entry.actions c.limits.ensures fits.actions

pub pass-requires-clause-names : goal.pass-requires-clause-names
pass-requires-clause-names c =
    let table = c.args.config.now in
    let h = c.args.history.now in
    let p = c.loop-pass.pass in
    let entry = c.index-history-pass.result in
    let orderly = c.requires.orderly in
    let fits = orderly.entries p entry (slice_get_read h (length h) p entry refl c.loop-pass-test.true c.index-history-pass.is) in
    subst (λ (l : List Action). All (NamesTable table) l) (sym c.as_slice.ensures)
    (names_of_fitting table (actions_of (take p h)) entry.actions c.limits.ensures fits.actions)

pub pass-requires-clause-few : goal.pass-requires-clause-few
pass-requires-clause-few c =
    let h = c.args.history.now in
    let p = c.loop-pass.pass in
    let entry = c.index-history-pass.result in
    let same = ap (λ (l : List Action). length l) c.as_slice.ensures in
    let few = c.requires.short p entry (slice_get_read h (length h) p entry refl c.loop-pass-test.true c.index-history-pass.is) in
    omega (arith, same, few)

pub loop-pass-preserved : goal.loop-pass-preserved
loop-pass-preserved c =
    let table = c.args.config.now in
    let h = c.args.history.now in
    let p = c.loop-pass.pass in
    let entry = c.index-history-pass.result in
    let lt = c.loop-pass-test.true in
    let orderly = c.requires.orderly in
    let here = orderly.entries p entry (slice_get_read h (length h) p entry refl lt c.index-history-pass.is) in
    let few : length h ≤ 1048576 = c.requires.few in
    let low : length (take p h) < 1048576 = omega (arith, few, lt, length-take-le p h (omega (arith, lt))) in
    let longer = take_item h p entry lt c.index-history-pass.is in
    let was = c.loop-pass.invariant.state in
    let state : IsStateAfter c.replay.new.board (take p h ++ entry ∷ []) = record {
      actions = c.replay.ensures.agrees (take p h) was.actions;
      looks = c.replay.ensures.keeping (take p h) was.looks here.looks.fit;
    } in
    record {
      ready = c.replay.ensures.ready;
      state = subst (λ (l : List PassEntry). IsStateAfter c.replay.new.board l) longer state;
      is_open = c.pass.ensures.open;
      walk = subst (λ (l : List PassEntry). IsWalkOf table l c.pass.new.self) longer
          (c.pass.ensures.walk (take p h) entry low state c.given_of-given.ensures.now c.given_of-given.ensures.bandwidth c.as_slice.ensures c.loop-pass.invariant.walk);
    }

pub returns-clause-open : goal.returns-clause-open
returns-clause-open c = c.loop-pass.invariant.is_open

pub returns-clause-walk : goal.returns-clause-walk
returns-clause-walk c =
    let h = c.args.history.now in
    let end = c.loop-pass-test.false in
    let all : length h ≤ c.loop-pass.pass = omega (arith, end) in
    subst (λ (l : List PassEntry). IsWalkOf c.args.config.now l c.loop-pass.walk) (take_all c.loop-pass.pass h all) c.loop-pass.invariant.walk
