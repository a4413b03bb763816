use Rattle.cal_facts.proofs.Common.{◌≡◌, ◌+◌, ◌++◌, ◌∙◌, ℕ, List, map, take, get_or, length, ap, sym, subst, arith, take-length, Move, made_in, moves_of, spans_of, Action, PassEntry, bans_of, Gathers}
use Rattle.cal_measure.proofs.SpanLemmas.StaysKept.{moves-more}
use Rattle.cal_facts.proofs.spans.facts.SpanFacts.of_history.Goals as goal

pub loop-pass-preserved : goal.loop-pass-preserved
loop-pass-preserved c =
    let entry = c.index-history-pass.result in
    let h = c.args.history.now in
    let p = c.loop-pass.pass in
    let zero_p : 0 + p ≡ p = omega arith in
    let same : c.as_slice.result.now ≡ (get_or h p entry).actions = c.as_slice.ensures in
    let more : moves_of (take (p + 1) h) ≡ moves_of (take p h) ++ map (made_in p) c.as_slice.result.now =
    moves-more 0 h p entry c.loop-pass-test.true
    ∙ ap (λ (k : ℕ). moves_of (take p h) ++ map (made_in k) (get_or h p entry).actions) zero_p
    ∙ ap (λ (acts : List Action). moves_of (take p h) ++ map (made_in p) acts) (sym same) in
    subst (λ (moves : List Move). Gathers c.note_pass.new.self moves) (sym more) (c.in_ok-note_pass.ensures (moves_of (take p h)) c.loop-pass.invariant)

pub returns : goal.returns
returns c =
    let h = c.args.history.now in
    let past = c.loop-pass-test.false in
    let end = c.loop-pass.auto.pass-end in
    let all : c.loop-pass.pass ≡ length h = omega (arith, past, end) in
    let whole : take c.loop-pass.pass h ≡ h = ap (λ (n : ℕ). take n h) all ∙ take-length h in
    let gathers : Gathers c.loop-pass.gathering (moves_of h) = subst (λ (l : List PassEntry). Gathers c.loop-pass.gathering (moves_of l)) whole c.loop-pass.invariant in
    let cores = c.cores.ensures.value ∙ c.machine.ensures.machine in
    record {
      spans = c.in_ok-spans.ensures.spans (moves_of h) gathers ∙ ap (λ (n : ℕ). spans_of n h) cores;
      bans = c.in_ok-spans.ensures.bans (moves_of h) gathers ∙ ap (λ (n : ℕ). bans_of n h) cores;
      clocks = c.in_ok-clocks.ensures;
    }
