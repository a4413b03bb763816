use Rattle.cal_linear.proofs.Common.{arith, ◌<◌, ◌∙◌, ◌≡◌, ◌++◌, [], length, journal_at, looks_from, places_in}
use Rattle.cal_linear.proofs.Order.{look_step, get_default}
use Rattle.cal_linear.proofs.passes.append_looks.Goals as goal

pub loop-k-preserved : goal.loop-k-preserved
loop-k-preserved c =
    let k = c.loop-k.k in
    let journals = c.args.journals.now in
    let begun = places_in c.args.fronts.now in
    let low : k < length c.loop-k.fronts = omega arith in
    let there : k < length journals = omega arith in
    let own : c.as_slice-journal.result.now ≡ journal_at journals k = c.as_slice-journal.ensures ∙ c.index-journals-k.is ∙ get_default journals k _ [] there in
    let step = look_step journals begun c.loop-k.fronts k c.args.looks.now _ c.as_slice-journal.result.now c.in_ok-fronts.field-0 c.loop-k.events.items c.append_look.new.events.items
    (c.args.events.now.items ++ looks_from journals begun 0 c.args.looks.now) c.loop-k-test.true low own c.in_ok-fronts.ensures.appended c.in_ok-fronts.ensures.place c.in_ok-fronts.ensures.listed
    c.loop-k.invariant.appended c.loop-k.invariant.places c.loop-k.invariant.listed in
    record { appended = step.appended; places = step.places; listed = step.are }
