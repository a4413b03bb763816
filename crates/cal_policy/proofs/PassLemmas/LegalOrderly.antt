-- A legal history is orderly, and steady at each point.
use Rattle.cal_policy.proofs.Common.{true, ◌≡◌, ℕ, ◌+◌, ◌<◌, ◌≤◌, zero, suc, List, [], ◌∷◌, ◌++◌, length, take, get_or, Some, sym, ap, ◌∙◌, arith, subst, append_assoc, ⊎_elim, take_more, append-nil, flat_map-append, slice_get_cases, slice_get_within, get_or_from_slice_get, Table, IsTable, Action, PassEntry, actions_of, Setting, setting_of, so_far, fits_state, IsOrderlyEntry, IsOrderly, pass_of, IsPass, IsLegal, EachAfter, IsMade, IsSteady, IsSound}
use Rattle.std.specs.List.{slice_get}
use Rattle.cal_policy.proofs.ListLemmas.EachAfter.{each_at}
use Rattle.cal_policy.proofs.PassLemmas.Made.{pass_made}
use Rattle.cal_policy.proofs.PassLemmas.Steady.{Steady_start}
use Rattle.cal_policy.proofs.PassLemmas.Fits.{so_far_push, made_fits, made_steady}

-- at a place the state is steady, and the action fits it
pub record FitsSteady (s : Setting) (acts : List Action) (a : Action) : Type 0 where
  pub steady : IsSteady s.table (so_far s acts)
  pub fits : fits_state s.table (so_far s acts) a ≡ true

-- so does each that is sound
pub sound_fits : (s : Setting) (acts xs : List Action) → EachAfter (IsSound s) acts xs → EachAfter (FitsSteady s) acts xs
sound_fits s acts [] e = tt
sound_fits s acts (a ∷ xs) e = (record { steady = e.0.steady; fits = e.0.fits }, sound_fits s (acts ++ a ∷ []) xs e.1)

-- each member of a list is so, and the state after the list is steady
pub record AllSound (s : Setting) (acts xs : List Action) : Type 0 where
  pub each : EachAfter (IsSound s) acts xs
  pub after : IsSteady s.table (so_far s (acts ++ xs))

sound_next : (s : Setting) (acts : List Action) (a : Action) → IsTable s.table → IsSteady s.table (so_far s acts) → IsMade s acts a → IsSteady s.table (so_far s (acts ++ a ∷ []))
sound_next s acts a table steady m = let P : List Action → Type 0 = λ x. IsSteady s.table x in subst P (sym (so_far_push s acts a)) (made_steady s acts a table steady m)

pub all_sound : (s : Setting) (acts xs : List Action) → IsTable s.table → IsSteady s.table (so_far s acts) → EachAfter (IsMade s) acts xs → AllSound s acts xs
all_sound s acts [] table steady m = record { each = tt; after = rw (append-nil acts) steady }
all_sound s acts (a ∷ xs) table steady m =
    let rest = all_sound s (acts ++ a ∷ []) xs table (sound_next s acts a table steady m.0) m.1 in
    record {
      each = (record { steady = steady; made = m.0; fits = made_fits s acts a table steady m.0 }, rest.each);
      after = rw (append_assoc acts (a ∷ []) xs) at rest.after;
    }

pub start_steady : (table : Table) (before : List PassEntry) (entry : PassEntry) → IsSteady table (actions_of before) → IsSteady table (so_far (setting_of table before entry) [])
start_steady table before entry steady = rw (append-nil (actions_of before)) steady

pub pass_sound : (table : Table) (before : List PassEntry) (entry : PassEntry) → IsTable table → IsSteady table (actions_of before) → IsPass table before entry →
    AllSound (setting_of table before entry) [] entry.actions
pass_sound table before entry ok steady pass =
    let P : List Action → Type 0 = λ xs. AllSound (setting_of table before entry) [] xs in
    subst P (sym pass.actions) (all_sound (setting_of table before entry) [] (pass_of (setting_of table before entry)) ok (start_steady table before entry steady) (pass_made (setting_of table before entry)))

pub actions_more : (history : List PassEntry) (p : ℕ) (entry : PassEntry) → slice_get history p ≡ Some entry → p < length history → actions_of (take (suc p) history) ≡ actions_of (take p history) ++ entry.actions
actions_more history p entry e lt =
    let one : suc p ≡ p + 1 = omega arith in
    let same : get_or history p entry ≡ entry = get_or_from_slice_get history p entry entry e in
    ap (λ n. actions_of (take n history)) one ∙ ap actions_of (take_more history p entry lt ∙ ap (λ x. take p history ++ x ∷ []) same)
    ∙ flat_map-append (λ (entry : PassEntry). entry.actions) (take p history) (entry ∷ []) ∙ ap (λ xs. actions_of (take p history) ++ xs) (append-nil entry.actions)

-- the state after a pass
after_pass : (table : Table) (history : List PassEntry) (p : ℕ) (entry : PassEntry) → IsTable table → IsSteady table (actions_of (take p history)) → IsPass table (take p history) entry →
    slice_get history p ≡ Some entry → p < length history → IsSteady table (actions_of (take (suc p) history))
after_pass table history p entry ok steady pass e lt =
    let P : List Action → Type 0 = λ x. IsSteady table x in
    subst P (sym (actions_more history p entry e lt)) (pass_sound table (take p history) entry ok steady pass).after

-- after each number of passes a legal history is steady
pub legal_steady : (table : Table) (history : List PassEntry) → IsTable table → IsLegal table history → (p : ℕ) → p ≤ length history → IsSteady table (actions_of (take p history))
legal_steady table history ok legal zero le = Steady_start table
legal_steady table history ok legal (suc p) le =
    ⊎_elim (λ found. after_pass table history p found.0 ok (legal_steady table history ok legal p (omega arith)) (legal.passes p found.0 found.2) found.2 found.1)
    (λ past. absurd (let no = past.0 in omega arith)) (slice_get_cases history p).1

-- each pass of a legal history is sound
pub legal_sound : (table : Table) (history : List PassEntry) → IsTable table → IsLegal table history → (p : ℕ) (entry : PassEntry) → slice_get history p ≡ Some entry →
    AllSound (setting_of table (take p history) entry) [] entry.actions
legal_sound table history ok legal p entry e =
    let lt = slice_get_within history p entry e in
    pass_sound table (take p history) entry ok (legal_steady table history ok legal p (omega arith)) (legal.passes p entry e)

orderly_entry : (table : Table) (before : List PassEntry) (entry : PassEntry) → IsPass table before entry → AllSound (setting_of table before entry) [] entry.actions → IsOrderlyEntry table before entry
orderly_entry table before entry pass sound = record {
  looks = pass.input.looks;
  actions = λ i action e. (each_at (IsSound (setting_of table before entry)) [] entry.actions i action sound.each e).fits;
}

-- a legal history is orderly
pub legal_orderly : (table : Table) (history : List PassEntry) → IsTable table → IsLegal table history → IsOrderly table history
legal_orderly table history ok legal = record {
  entries = λ p entry e. orderly_entry table (take p history) entry (legal.passes p entry e) (legal_sound table history ok legal p entry e);
}

-- each action of each pass is sound at its place
pub legal_made : (table : Table) (history : List PassEntry) → IsTable table → IsLegal table history → (p : ℕ) (entry : PassEntry) → slice_get history p ≡ Some entry →
    (i : ℕ) (action : Action) → slice_get entry.actions i ≡ Some action → IsSound (setting_of table (take p history) entry) (take i entry.actions) action
legal_made table history ok legal p entry e i action is =
    each_at (IsSound (setting_of table (take p history) entry)) [] entry.actions i action (legal_sound table history ok legal p entry e).each is
