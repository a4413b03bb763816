use Rattle.cal_linear.proofs.Common.{◌∙◌, ap, ◌++◌, [], ◌∷◌, List, Decide, PassEntry, Seen, looks_from, after_looks, places_in}
use Rattle.cal_linear.proofs.Order.{pass_step}
use Rattle.cal_linear.proofs.passes.append_passes.Goals as goal

pub loop-entry-preserved : goal.loop-entry-preserved
loop-entry-preserved c =
    let journals = c.args.journals.now in
    let fronts = c.loop-entry.fronts in
    let entry = c.entry-item.result in
    let mid = c.append_looks.new.events.items in
    let seen = c.as_slice.ensures in
    let looked = c.in_ok-append_looks.ensures.appended ∙ ap (λ (l : List Seen). c.loop-entry.events.items ++ looks_from journals (places_in fronts) 0 l) seen in
    let after = c.in_ok-append_looks.ensures.places ∙ ap (λ (l : List Seen). after_looks (places_in fronts) l) seen in
    let decided = c.in_ok-push.ensures.items ∙ ap (λ (e : PassEntry). mid ++ Decide e ∷ []) c.in_ok-entry.ensures in
    let step = pass_step journals fronts c.append_looks.new.fronts c.args.history.now c.loop-entry.entry-index _ entry c.args.events.now.items c.loop-entry.events.items mid c.push.new.self.items c.loop-entry-test.true
    c.entry-item.is c.loop-entry.invariant.appended c.loop-entry.invariant.places looked after decided in
    record { appended = step.appended; places = step.places; listed = c.in_ok-append_looks.ensures.listed }
