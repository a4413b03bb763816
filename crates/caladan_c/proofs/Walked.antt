-- The looks of a pass that came in by one walk.
use Rattle.caladan_c.proofs.Common.{◌≡◌, ℕ, ◌+◌, ◌<◌, ◌≤◌, ◌++◌, ◌∷◌, [], Bool, true, false, List, Option, Some, None, length, map, take, slice_get, get_or, refl, sym, ap, subst, ◌∙◌, arith, if◌then◌else◌, ⊎_elim, is_some, option_map, unwrap_or, map-append, length-map, take_more, take_all, length-take-le, slice_get_cases, slice_get-map, slice_get_within, get_or_from_slice_get, Table, PassEntry, FoundLook, actions_of, looks_of, last_shown, judged, IsInput, fault_of, misfit_of, refused_look, taken_found, taken_looks, found_of, input_of_found, look_of_found, is_unfit, AreJudgements, judgement_at, judgement_of, Found}
use Rattle.cal_machine.proofs.Places.{slice_get_at}
use Rattle.cal_machine.specs.ThreadSet.{has_thread}
use Rattle.cal_policy.specs.declared.history.look.Seen.{Seen}
use Rattle.cal_policy.specs.declared.judgement.look_fault.LookFault.{LookFault}
use Rattle.cal_policy.specs.declared.judgement.open_pass.OpenPass.{OpenPass}
use Rattle.cal_policy.specs.Judgement.OpenInput.{judged_looks}
use Rattle.cal_policy.specs.Judgement.OpenPass.{IsOpenAt, look_in as look_at}
use Rattle.cal_policy.proofs.JudgementLemmas.OneByOne.{from_0, misfits_do_not_fit}
use Rattle.cal_policy.proofs.JudgementLemmas.OpenInput.{length-judged_looks}
use Rattle.cal_policy.proofs.JudgementLemmas.OpenPass.{judged_here}
use Rattle.caladan_c.proofs.OneByOne.{taken_more}

-- what holds of the first looks and the next one holds of one more
pub grown_to : {X : Type 0} (P : List X → Type 0) (xs : List X) (k : ℕ) (d : X) → k < length xs →
    (length (take k xs) ≡ k → P (take k xs ++ get_or xs k d ∷ [])) → P (take (k + 1) xs)
grown_to P xs k d lt given = subst P (sym (take_more xs k d lt)) (given (length-take-le k xs (let le : k ≤ length xs = omega arith in le)))

pub grown_all : {X : Type 0} (P : List X → Type 0) (xs : List X) (k : ℕ) → length xs ≤ k → P (take k xs) → P xs
grown_all P xs k le given = subst P (take_all k xs le) given

-- what is taken of one look more is what is taken of all of them
pub taken_grows : (table : Table) (h : List PassEntry) (looks : List Found) (one : Found) (k : ℕ) (f : FoundLook) (fault : Option LookFault) →
    length looks ≡ k → fault ≡ fault_of table.cores h k (look_of_found one) →
    f.look ≡ (if is_some fault then refused_look else look_of_found one) → f.room ≡ (found_of one).room →
    taken_looks table.cores h (map found_of looks) ++ f ∷ [] ≡ taken_looks table.cores h (map found_of (looks ++ one ∷ []))
taken_grows table h looks one k f fault count why look room =
    let cores = table.cores in
    let of_fault : f.look ≡ (if is_some (fault_of cores h k (look_of_found one)) then refused_look else look_of_found one) =
    look ∙ ap (λ (o : Option LookFault). if is_some o then refused_look else look_of_found one) why in
    let whole : f ≡ taken_found cores h (k, found_of one) = λ i. record { look = of_fault i; room = room i } in
    let place : k ≡ length (map found_of looks) = sym count ∙ sym (length-map looks found_of) in
    ap (λ (g : FoundLook). taken_looks cores h (map found_of looks) ++ g ∷ []) (whole ∙ ap (λ m. taken_found cores h (m, found_of one)) place)
    ∙ sym (taken_more cores h (map found_of looks) (found_of one))
    ∙ ap (λ xs. taken_looks cores h xs) (sym (map-append found_of looks (one ∷ [])))

-- a pass may not be given looks of which one does not fit
pub unfit_is_no_input : (table : Table) (h : List PassEntry) (now bandwidth : ℕ) (looks : List Found) (k : ℕ) (d : Found) (why : LookFault) →
    k < length looks → is_unfit h k (get_or looks k d) ≡ Some why → IsInput table h (input_of_found table h now bandwidth looks) → ⊥
unfit_is_no_input table h now bandwidth looks k d why lt unfit input =
    let f : ℕ × FoundLook → Seen = λ found. judged table.cores (actions_of h) found.0 found.1.look in
    let there = slice_get_at looks k lt in
    let same : get_or looks k d ≡ there.0 = get_or_from_slice_get looks k there.0 d there.1 in
    let at : slice_get (map found_of looks) k ≡ Some (found_of there.0) = slice_get-map found_of looks k ∙ ap (option_map found_of) there.1 in
    let fits = input.looks.fit k (judged table.cores (actions_of h) k (look_of_found there.0)) (from_0 f (map found_of looks) k (found_of there.0) at) in
    let none : misfit_of (last_shown (looks_of h) k) (look_of_found there.0) ≡ None = (misfits_do_not_fit (last_shown (looks_of h) k) table.cores (actions_of h) k (look_of_found there.0)).1 fits in
    let some : is_unfit h k there.0 ≡ Some why = ap (λ (o : Found). is_unfit h k o) (sym same) ∙ unfit in
    let bad : None ≡ Some why = sym none ∙ some in cc

-- what is told of each look that came in is what was judged of it
pub told_as_judged : (table : Table) (h : List PassEntry) (looks : List FoundLook) (came : OpenPass) (out : List ℕ) → IsOpenAt table h looks came →
    ((k : ℕ) → k < came.count → slice_get out k ≡ Some (judgement_at came k)) → AreJudgements (judged_looks table h looks) out
told_as_judged table h looks came out is told k seen at = ⊎_elim
    (λ there.
    let lt : k < came.count = omega (arith, is.count, there.1) in
    let here = judged_here table h looks came is k there.0 there.2 in
    let same : seen ≡ look_at (last_shown (looks_of h)) came k = ap (λ o. unwrap_or o seen) (sym at ∙ here) in
    told k lt ∙ ap (λ n. Some n) (by_set (has_thread came.listed k) refl ∙ ap judgement_of (sym same)))
    (λ past. absurd (omega (arith, past.0, within)))
    (slice_get_cases looks k).1
  where
    within : k < length looks
    within = omega (arith, slice_get_within (judged_looks table h looks) k seen at, length-judged_looks table h looks)

    by_set : (b : Bool) → has_thread came.listed k ≡ b → judgement_at came k ≡ judgement_of (look_at (last_shown (looks_of h)) came k)
    by_set true e = rw e refl
    by_set false e = rw e refl
