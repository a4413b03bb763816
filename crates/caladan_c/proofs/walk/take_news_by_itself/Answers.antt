use Rattle.caladan_c.proofs.Common.{◌≡◌, Option, map, sym, ap, subst, ◌∙◌, if◌then◌else◌, List, is_some, FoundLook, actions_of, looks_of, last_shown, judged, IsFitLook, fault_of, refused_look, taken_look, taken_looks, IsOpenAt, found_of, look_of_found}
use Rattle.cal_policy.specs.declared.judgement.look_fault.LookFault.{LookFault}
use Rattle.cal_policy.proofs.JudgementLemmas.OneByOne.{taken_fits}
use Rattle.cal_signal.specs.declared.look.Look.{Look}
use Rattle.caladan_c.proofs.Walked.{taken_grows}
use Rattle.caladan_c.proofs.walk.take_news_by_itself.Goals as goal

pub returns-clause-taken : goal.returns-clause-taken
returns-clause-taken c = λ h looks agrees count is.
    let table = c.args.config.now in
    let cores = table.cores in
    let one = c.args.one.now in
    let k = c.args.came.now.count in
    let f : FoundLook = c.taken_of.result in
    let found_is : c.found_look-found.result ≡ found_of one = c.found_look-found.ensures in
    let look_is : c.found_look-found.result.look ≡ look_of_found one = ap (λ (g : FoundLook). g.look) found_is in
    let why : c.fault_of-fault.result ≡ fault_of cores h k (look_of_found one) = c.fault_of-fault.ensures h agrees ∙ ap (λ l. fault_of cores h k l) look_is in
    let look : f.look ≡ (if is_some c.fault_of-fault.result then refused_look else look_of_found one) =
    c.taken_of.ensures.look ∙ ap (λ (l : Look). if is_some c.fault_of-fault.result then refused_look else l) look_is in
    let room : f.room ≡ (found_of one).room = c.taken_of.ensures.room ∙ ap (λ (g : FoundLook). g.room) found_is in
    let taken : taken_look cores h k (look_of_found one) ≡ f.look =
    sym (look ∙ ap (λ (o : Option LookFault). if is_some o then refused_look else look_of_found one) why) in
    let Fits : Look → Type 0 = λ l. IsFitLook (last_shown (looks_of h) k) (judged cores (actions_of h) k l) in
    let At : List FoundLook → Type 0 = λ xs. IsOpenAt table h xs c.take.new.self in
    subst At (taken_grows table h looks one k f c.fault_of-fault.result count why look room)
    (c.take.ensures.taken h (taken_looks cores h (map found_of looks)) agrees is (subst Fits taken (taken_fits cores h k (look_of_found one))))
