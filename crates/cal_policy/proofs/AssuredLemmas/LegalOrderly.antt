-- A legal history of the second policy is orderly.
use Rattle.cal_policy.proofs.Common.{◌≡◌, ℕ, ◌<◌, ◌≤◌, zero, suc, List, [], ◌∷◌, ◌++◌, length, take, Some, sym, arith, subst, append_assoc, ⊎_elim, append-nil, slice_get_cases, slice_get_within, Table, IsTable, Action, PassEntry, actions_of, IsOrderly, EachAfter, IsSteady, Setting, setting_of, so_far}
use Rattle.std.specs.List.{slice_get}
use Rattle.cal_policy.specs.Assured.Pass.{pass_of, IsPass, IsLegal}
use Rattle.cal_policy.proofs.AssuredLemmas.Done.{IsDone, pass_done}
use Rattle.cal_policy.proofs.AssuredLemmas.Fits.{done_fits, done_steady}
use Rattle.cal_policy.proofs.ListLemmas.EachAfter.{each_at}
use Rattle.cal_policy.proofs.PassLemmas.Fits.{so_far_push}
use Rattle.cal_policy.proofs.PassLemmas.LegalOrderly.{actions_more, start_steady, FitsSteady}
use Rattle.cal_policy.proofs.PassLemmas.Steady.{Steady_start}

-- each member of a list fits a steady state at its place, and the state after the list is steady
pub record AllFit (s : Setting) (acts xs : List Action) : Type 0 where
  pub each : EachAfter (FitsSteady s) acts xs
  pub after : IsSteady s.table (so_far s (acts ++ xs))

all_fit : (s : Setting) (acts xs : List Action) → IsTable s.table → IsSteady s.table (so_far s acts) → EachAfter (IsDone s) acts xs → AllFit s acts xs
all_fit s acts [] table steady m = record { each = tt; after = rw (append-nil acts) steady }
all_fit s acts (a ∷ xs) table steady m =
    let P : List Action → Type 0 = λ x. IsSteady s.table x in
    let next : IsSteady s.table (so_far s (acts ++ a ∷ [])) = subst P (sym (so_far_push s acts a)) (done_steady s acts a table steady m.0) in
    let rest = all_fit s (acts ++ a ∷ []) xs table next m.1 in
    record {
      each = (record { steady = steady; fits = done_fits s acts a table steady m.0 }, rest.each);
      after = rw (append_assoc acts (a ∷ []) xs) at rest.after;
    }

pass_fits : (table : Table) (before : List PassEntry) (entry : PassEntry) → IsTable table → IsSteady table (actions_of before) → IsPass table before entry →
    AllFit (setting_of table before entry) [] entry.actions
pass_fits table before entry ok steady pass =
    let P : List Action → Type 0 = λ xs. AllFit (setting_of table before entry) [] xs in
    subst P (sym pass.actions) (all_fit (setting_of table before entry) [] (pass_of (setting_of table before entry)) ok (start_steady table before entry steady) (pass_done (setting_of table before entry)))

after_pass : (table : Table) (history : List PassEntry) (p : ℕ) (entry : PassEntry) → IsTable table → IsSteady table (actions_of (take p history)) → IsPass table (take p history) entry →
    slice_get history p ≡ Some entry → p < length history → IsSteady table (actions_of (take (suc p) history))
after_pass table history p entry ok steady pass e lt =
    let P : List Action → Type 0 = λ x. IsSteady table x in
    subst P (sym (actions_more history p entry e lt)) (pass_fits table (take p history) entry ok steady pass).after

-- after each number of passes a legal history is steady
pub legal_steady : (table : Table) (history : List PassEntry) → IsTable table → IsLegal table history → (p : ℕ) → p ≤ length history → IsSteady table (actions_of (take p history))
legal_steady table history ok legal zero le = Steady_start table
legal_steady table history ok legal (suc p) le =
    ⊎_elim (λ found. after_pass table history p found.0 ok (legal_steady table history ok legal p (omega arith)) (legal.passes p found.0 found.2) found.2 found.1)
    (λ past. absurd (let no = past.0 in omega arith)) (slice_get_cases history p).1

-- each of its passes fits
pub legal_fits : (table : Table) (history : List PassEntry) → IsTable table → IsLegal table history → (p : ℕ) (entry : PassEntry) → slice_get history p ≡ Some entry →
    AllFit (setting_of table (take p history) entry) [] entry.actions
legal_fits table history ok legal p entry e =
    let lt = slice_get_within history p entry e in
    pass_fits table (take p history) entry ok (legal_steady table history ok legal p (omega arith)) (legal.passes p entry e)

-- and it is orderly
pub legal_orderly : (table : Table) (history : List PassEntry) → IsTable table → IsLegal table history → IsOrderly table history
legal_orderly table history ok legal = record {
  entries = λ p entry e.
      let fits = legal_fits table history ok legal p entry e in
      record {
        looks = (legal.passes p entry e).input.looks;
        actions = λ i action is. (each_at (FitsSteady (setting_of table (take p history) entry)) [] entry.actions i action fits.each is).fits;
      };
}
