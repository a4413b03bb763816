use Rattle.cal_facts.proofs.Common.{◌≡◌, ◌++◌, ◌∷◌, ◌∙◌, [], List, length, get_or, slice_get, subst, sym, ap, get_or_from_slice_get, Table, each_of_push, IsReady, IsStateAfter, PassEntry, GivenPass, IsPassAt, points_of, series_of, Point}
use Rattle.cal_run.specs.Outcome.{figures_of}
use Rattle.cal_run.specs.Parts.{SchedulerSeat}
use Rattle.cal_facts.proofs.MoveLemmas.{passed_count}
use Rattle.cal_facts.proofs.series.collecting.OpenSeriesCollector.make_pass.Goals as goal

-- the state is of the table
pub put_points-requires : goal.put_points-requires
put_points-requires c =
    let table : c.step_given.new.scheduler.table ≡ c.args.self.now.config = ap (λ (s : SchedulerSeat). s.table) c.step_given.ensures.seat ∙ sym c.requires.suits in
    subst (λ (t : Table). IsReady t c.board.result.now) table c.board.ensures.ready

pub returns-clause-collected : goal.returns-clause-collected
returns-clause-collected c = λ journals held.
    let h = c.args.scheduler.now.history in
    let acted = c.step_given.ensures.acted in
    let e = acted.0 in
    let p = c.args.p in
    let table = c.args.self.now.config in
    let entered : c.step_given.new.scheduler.history ≡ h ++ e ∷ [] = acted.1 in
    let count : length h ≡ p = passed_count h c.args.arrivals.now.passes p c.requires.given c.requires.passed in
    let all = c.as_slice.result.now in
    let given : GivenPass = get_or all p (record { now = 0; bandwidth = 0 }) in
    let is : given ≡ figures_of e = get_or_from_slice_get all p (figures_of e) _ (ap (λ (l : List GivenPass). slice_get l p) c.as_slice.ensures ∙ acted.2) in
    let at : IsPassAt h e c.board.result.now (record { pass = p; given = given }) = record {
      state = subst (λ (l : List PassEntry). IsStateAfter c.board.result.now l) entered c.board.ensures.agrees;
      number = sym count;
      now = ap (λ (g : GivenPass). g.now) is;
      bandwidth = ap (λ (g : GivenPass). g.bandwidth) is;
    } in
    c.in_ok-put_points.ensures h e at
    ∙ ap (λ (l : List Point). l ++ points_of table h e) held
    ∙ sym (each_of_push (points_of table) h e)
    ∙ ap (λ (l : List PassEntry). series_of table l) (sym entered)
