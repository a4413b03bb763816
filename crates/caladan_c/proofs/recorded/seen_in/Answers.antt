use Rattle.caladan_c.proofs.Common.{rules, ◌≡◌, ◌<◌, ◌++◌, ◌∷◌, [], length, arith, refl, ap, ◌∙◌, option_map, slice_get-get_or, slice_get-map, look_of, look_of_found, judgement_of}
use Rattle.caladan_c.proofs.NoneSuch.{none_such_both}
use Rattle.caladan_c.proofs.OneMore.{image_more, taken_more}
use Rattle.caladan_c.proofs.recorded.seen_in.Goals as goal

pub loop-k-preserved : goal.loop-k-preserved
loop-k-preserved c =
    let within : c.loop-k.k < length c.args.judged.now = omega (arith, c.requires, c.loop-k-test.true) in
    let pushed : c.push.new.self.items ≡ c.loop-k.seen.items ++ c.in-Some.look ∷ [] = search rules in
    record {
      looks = image_more look_of look_of_found c.args.looks.now c.loop-k.k _ _ _ c.in-Some.look c.loop-k-test.true c.loop-k.invariant.looks (c.in-Some.ensures.some).0 pushed;
      judged = taken_more judgement_of c.args.judged.now c.loop-k.k _ _ _ c.in-Some.look within c.loop-k.invariant.judged (c.in-Some.ensures.some).1 pushed;
    }

pub returns-in-None-clause-none : goal.returns-in-None-clause-none
returns-in-None-clause-none c = λ _ seen e d.
    let within : c.loop-k.k < length c.args.judged.now = omega (arith, c.requires, c.loop-k-test.true) in
    none_such_both look_of judgement_of seen _ c.args.judged.now c.loop-k.k _ _
    (slice_get-map look_of_found c.args.looks.now c.loop-k.k ∙ ap (option_map look_of_found) (slice_get-get_or c.args.looks.now c.loop-k.k _ c.loop-k-test.true))
    (slice_get-get_or c.args.judged.now c.loop-k.k _ within) (c.in-None.ensures.none refl) e d
