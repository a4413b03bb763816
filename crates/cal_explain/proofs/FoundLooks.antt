-- The looks of a pass that was found in a history.
use Rattle.std.proofs.Common.{◌≡◌, ℕ, List, get_or, take, subst, sym, ◌∙◌}
use Rattle.std.proofs.lemmas.Option.{get_or_from_slice_get}
use Rattle.cal_machine.specs.Table.{Table}
use Rattle.cal_policy.specs.Judgement.Judging.{IsInput}
use Rattle.cal_policy.specs.declared.history.entry.PassEntry.{PassEntry}
use Rattle.cal_explain.specs.Comes.{HasInput, LacksInput}

-- a pass that was found may be given its looks
pub has_input : (table : Table) (history : List PassEntry) (pass : ℕ) (found : PassEntry) → found ≡ get_or history pass found → IsInput table (take pass history) found.input
    → HasInput table history pass
has_input table history pass found is given = λ entry e.
    let same : found ≡ entry = is ∙ get_or_from_slice_get history pass entry found e in
    subst (λ (x : PassEntry). IsInput table (take pass history) x.input) same given

-- a pass that was found may not be given its looks
pub lacks_input : (table : Table) (history : List PassEntry) (pass : ℕ) (found : PassEntry) → found ≡ get_or history pass found
    → (¬ IsInput table (take pass history) found.input) → LacksInput table history pass
lacks_input table history pass found is not_given = λ entry e given.
    let same : found ≡ entry = is ∙ get_or_from_slice_get history pass entry found e in
    not_given (subst (λ (x : PassEntry). IsInput table (take pass history) x.input) (sym same) given)
