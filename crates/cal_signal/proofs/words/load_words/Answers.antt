use Rattle.cal_signal.proofs.Common.{◌≡◌, ℕ, ◌≤◌, List, [], ◌∷◌, ◌++◌, length, rules, sym, refl, ap, ◌∙◌, arith, length-set, take_more_set, take_all, length-take-le}
use Rattle.cal_signal.proofs.PageSteps.{M, peeks}
use Rattle.cal_signal.proofs.words.load_words.Goals as goal

pub load-requires : goal.load-requires
load-requires c = let e = c.loop-i.invariant.3 in let wide : length c.loop-i.words ≡ 9 = c.loop-i.invariant.2 in (
  search rules,
  search rules,
  peeks _ _ _ _ (let room : c.loop-i.i ≤ length c.loop-i.words = omega arith in sym (ap (λ (m : M). length m.0.read) e ∙ length-take-le c.loop-i.i c.loop-i.words room)) c.loop-i-test.true,
)

pub loop-i-init : goal.loop-i-init
loop-i-init c = (refl, refl, refl, λ i. (record c.args.seat.now.me.0 { read = c.requires.fresh i }, c.args.seat.now.me.1))

pub loop-i-preserved : goal.loop-i-preserved
loop-i-preserved c = let e = c.loop-i.invariant in let wide : length c.loop-i.words ≡ 9 = e.2 in (
  c.load.ensures.0 ∙ e.0,
  c.load.ensures.1 ∙ e.1,
  length-set c.loop-i.words c.loop-i.i c.load.result ∙ e.2,
  c.load.ensures.2 ∙ (ap (λ (m : M). (record m.0 { read = m.0.read ++ c.load.result ∷ [] }, m.1)) e.3
      ∙ ap (λ (l : List ℕ). (record c.args.seat.now.me.0 { read = l }, c.args.seat.now.me.1)) (sym (take_more_set c.loop-i.words c.loop-i.i c.load.result (omega arith)))),
)

pub returns : goal.returns
returns c = let e = c.loop-i.invariant in let wide : length c.loop-i.words ≡ 9 = e.2 in let all : c.loop-i.i ≡ 9 = omega arith in record {
  same = (e.0, e.1);
  view = e.3 ∙ ap (λ (l : List ℕ). (record c.args.seat.now.me.0 { read = l }, c.args.seat.now.me.1)) (take_all c.loop-i.i c.loop-i.words (omega arith));
}
