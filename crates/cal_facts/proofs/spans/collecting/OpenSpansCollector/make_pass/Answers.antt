use Rattle.cal_facts.proofs.Common.{◌≡◌, ◌++◌, ◌∙◌, List, map, length, subst, sym, ap, Move, made_in, moves_of, Action, PassEntry, Gathers}
use Rattle.cal_facts.proofs.MoveLemmas.{moves_passed, passed_count}
use Rattle.cal_facts.proofs.spans.collecting.OpenSpansCollector.make_pass.Goals as goal

pub returns-clause-collected : goal.returns-clause-collected
returns-clause-collected c = λ journals held.
    let h = c.args.scheduler.now.history in
    let acted = c.step_given.ensures.acted in
    let e = acted.0 in
    let p = c.args.p in
    let count : length h ≡ p = passed_count h c.args.arrivals.now.passes p c.requires.given c.requires.passed in
    let acts : c.as_slice.result.now ≡ e.actions = c.as_slice.ensures ∙ acted.3 in
    let more : moves_of c.step_given.new.scheduler.history ≡ moves_of h ++ map (made_in p) c.as_slice.result.now =
    ap (λ (l : List PassEntry). moves_of l) acted.1 ∙ moves_passed h e p count ∙ ap (λ (l : List Action). moves_of h ++ map (made_in p) l) (sym acts) in
    subst (λ (moves : List Move). Gathers c.note_pass.new.self moves) (sym more) (c.in_ok-note_pass.ensures (moves_of h) held)
