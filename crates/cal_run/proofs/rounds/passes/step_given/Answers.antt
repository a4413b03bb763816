use Rattle.cal_run.proofs.Common.{◌≡◌, ◌∙◌, ◌<◌, ◌∷◌, [], List, Option, Some, None, length, get_or, ap, subst, sym, append_cancel_left, slice_get-get_or, PassEntry, GivenPass, figures_of}
use Rattle.std.proofs.Common.{slice_get}
use Rattle.cal_run.proofs.RoundsLemmas.Passes.{seat_stays}
use Rattle.cal_run.proofs.rounds.passes.step_given.Goals as goal

-- clock and figure of the first of these passes
abbrev first_figures : List PassEntry → Option GivenPass
first_figures [] = None
first_figures (entry ∷ entries) = Some (figures_of entry)

pub returns-clause-acted : goal.returns-clause-acted
returns-clause-acted c =
    let passed = c.in-Ok.ensures.passed in
    let acted = c.in-Ok.ensures.acted in
    let h = c.args.scheduler.now.history in
    let passes = c.args.arrivals.now.passes in
    let entry = acted.0 in
    let same = append_cancel_left h _ (entry ∷ []) (sym passed.history ∙ acted.1) in
    let all = c.as_slice.result.now in
    let low : c.args.p < length all = subst (λ (l : List GivenPass). c.args.p < length l) (sym c.as_slice.ensures) c.requires.given in
    let given : GivenPass = get_or all c.args.p (record { now = 0; bandwidth = 0 }) in
    let at : slice_get passes c.args.p ≡ Some given = subst (λ (l : List GivenPass). slice_get l c.args.p ≡ Some given) c.as_slice.ensures (slice_get-get_or all c.args.p _ low) in
    (entry, acted.1, at ∙ ap first_figures same, acted.2)

pub returns-clause-seat : goal.returns-clause-seat
returns-clause-seat c = seat_stays _ _ c.args.scheduler.now c.step.new.self c.in-Ok.ensures.passed c.step.ensures.kept
