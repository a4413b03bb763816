use Rattle.cal_paced.proofs.Common.{◌≡◌, ℕ, List, length, map, get_or, refl, sym, ap, subst, ◌∙◌, arith, slice_index, get_or-map, GivenPass, HaveFigures, StandEvenly}
use Rattle.cal_paced.proofs.Evenly.{clock-next, evenly, passes_upto, upto-more, with-figures}
use Rattle.cal_paced.proofs.pacing.paced_passes.Goals as goal

pub loop-j-preserved : goal.loop-j-preserved
loop-j-preserved c =
    let passes = c.args.passes.now in
    let turns = c.args.turns.now in
    let j : ℕ = c.loop-j.j in
    let low = c.loop-j-test.true in
    let rows = c.requires.rows in
    let none : GivenPass = record { now = 0; bandwidth = 0 } in
    record {
      before = clock-next turns j;
      paced = upto-more c.args.pace turns (map (λ (pass : GivenPass). pass.bandwidth) passes) j c.loop-j.before (slice_index turns j) (get_or passes j none).bandwidth c.loop-j.paced.items _
          c.loop-j.invariant.paced c.loop-j.invariant.before refl (sym (get_or-map (λ (pass : GivenPass). pass.bandwidth) passes j none 0 (omega (arith, low, rows)))) c.in_ok-put_passes.ensures;
    }

pub returns-clause-clocks : goal.returns-clause-clocks
returns-clause-clocks c =
    let turns = c.args.turns.now in
    let figures = map (λ (pass : GivenPass). pass.bandwidth) c.args.passes.now in
    let end = c.loop-j-test.false in
    let high = c.loop-j.auto.j-end in
    let all : c.loop-j.j ≡ length turns = omega (arith, end, high) in
    let P : List GivenPass → Type 0 = λ l. StandEvenly c.args.pace turns l in
    subst P (sym (c.loop-j.invariant.paced ∙ ap (passes_upto c.args.pace turns figures) all)) (evenly c.args.pace turns figures)

pub returns-clause-figures : goal.returns-clause-figures
returns-clause-figures c =
    let turns = c.args.turns.now in
    let figures = map (λ (pass : GivenPass). pass.bandwidth) c.args.passes.now in
    let end = c.loop-j-test.false in
    let high = c.loop-j.auto.j-end in
    let all : c.loop-j.j ≡ length turns = omega (arith, end, high) in
    let P : List GivenPass → Type 0 = λ l. HaveFigures c.args.pace (slice_index figures) l in
    subst P (sym (c.loop-j.invariant.paced ∙ ap (passes_upto c.args.pace turns figures) all)) (with-figures c.args.pace turns figures)
