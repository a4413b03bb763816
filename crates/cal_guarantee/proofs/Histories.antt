-- Legal histories of this policy, pass by pass.
use Rattle.cal_guarantee.proofs.Common.{◌≡◌, ℕ, ◌+◌, ◌<◌, ◌≤◌, true, List, [], ◌∷◌, ◌++◌, length, take, Some, slice_get, get_or, ap, sym, ◌∙◌, subst, arith, ⊎_elim, zero, suc, append-nil, take_more, take_all, Table, IsTable, Action, Free, PassEntry, actions_of, Setting, setting_of, so_far, frees, EachAfter, IsSteady, each_append, each_at, Steady_start, pass_of, IsLegal}
use Rattle.std.proofs.lemmas.Grind.{flat_map-append}
use Rattle.std.proofs.lemmas.Option.{slice_get_within, slice_get_cases, get_or_from_slice_get}
use Rattle.cal_guarantee.proofs.Steps.{IsStep}
use Rattle.cal_guarantee.proofs.KeptAlong.{along, steady_step}
use Rattle.cal_guarantee.proofs.Freed.{was_left, frees_left, later_left, FreesLeft, frees_steady}
use Rattle.cal_guarantee.proofs.PassTurns.{after_freed, pass_freed, after_steps, ToAny}

-- all actions of the first n passes
abbrev pub acts_to : List PassEntry → ℕ → List Action
acts_to history n = actions_of (take n history)

-- one pass more
pub acts_more : (history : List PassEntry) (q : ℕ) (entry : PassEntry) → slice_get history q ≡ Some entry → acts_to history (q + 1) ≡ acts_to history q ++ entry.actions
acts_more history q entry e =
    let lt = slice_get_within history q entry e in
    let same : get_or history q entry ≡ entry = get_or_from_slice_get history q entry entry e in
    ap actions_of (take_more history q entry lt ∙ ap (λ x. take q history ++ x ∷ []) same)
    ∙ flat_map-append (λ (one : PassEntry). one.actions) (take q history) (entry ∷ []) ∙ ap (λ xs. acts_to history q ++ xs) (append-nil entry.actions)

-- the setting of a pass
abbrev pub setting_in : Table → List PassEntry → ℕ → PassEntry → Setting
setting_in table history q entry = setting_of table (take q history) entry

pub after_pass : (table : Table) (history : List PassEntry) (q : ℕ) (entry : PassEntry) → IsLegal table history → slice_get history q ≡ Some entry →
    acts_to history (q + 1) ≡ so_far (setting_in table history q entry) (pass_of (setting_in table history q entry))
after_pass table history q entry legal e = acts_more history q entry e ∙ ap (λ xs. acts_to history q ++ xs) (legal.passes q entry e).actions

-- each pass leaves the state steady
pass_steady : (s : Setting) → IsTable s.table → IsSteady s.table (actions_of s.history) → IsSteady s.table (so_far s (pass_of s))
pass_steady s ok steady =
    let P : List Action → Type 0 = λ now. IsSteady s.table (so_far s now) in
    subst P (sym (pass_freed s)) (along s (IsStep (Unit {0}) ToAny s) (IsSteady s.table) (λ now a q was. steady_step (Unit {0}) ToAny s now a q was)
    (frees s []) (after_freed s) (after_steps s ok) (frees_steady s steady))

pub entry_at : (history : List PassEntry) (q : ℕ) → q < length history → (entry : PassEntry) × (slice_get history q ≡ Some entry)
entry_at history q lt = ⊎_elim
    (λ found. (found.0, found.2))
    (λ past. absurd (let over = past.0 in omega (arith, over, lt)))
    (slice_get_cases history q).1

pub steady_at : (table : Table) (history : List PassEntry) → IsTable table → IsLegal table history → (q : ℕ) → q ≤ length history → IsSteady table (acts_to history q)
steady_at table history ok legal zero le = Steady_start table
steady_at table history ok legal (suc q) le =
    let found = entry_at history q (omega (arith, le)) in
    let s = setting_in table history q found.0 in
    let one : q + 1 ≡ suc q = omega arith in
    let P : List Action → Type 0 = λ x. IsSteady table x in
    let Q : ℕ → Type 0 = λ n. IsSteady table (acts_to history n) in
    subst Q one (subst P (sym (after_pass table history q found.0 legal found.1)) (pass_steady s ok (steady_at table history ok legal q (omega (arith, le)))))

-- and so is a whole one
pub steady_after : (table : Table) (history : List PassEntry) → IsTable table → IsLegal table history → IsSteady table (actions_of history)
steady_after table history ok legal =
    let P : List PassEntry → Type 0 = λ passes. IsSteady table (actions_of passes) in
    subst P (take_all (length history) history (omega arith)) (steady_at table history ok legal (length history) (omega arith))

-- a Free of a pass is of a core that was left
pass_frees : (s : Setting) → IsTable s.table → EachAfter (FreesLeft s) [] (pass_of s)
pass_frees s ok =
    let P : List Action → Type 0 = λ all. EachAfter (FreesLeft s) [] all in
    subst P (sym (pass_freed s)) (each_append (FreesLeft s) [] (frees s []) (after_freed s) (frees_left s)
    (later_left (Unit {0}) ToAny s (frees s []) (after_freed s) (after_steps s ok)))

pub freed_was_left : (s : Setting) (place c : ℕ) → IsTable s.table → slice_get (pass_of s) place ≡ Some (Free c) → was_left s c ≡ true
freed_was_left s place c ok e = each_at (FreesLeft s) [] (pass_of s) place (Free c) (pass_frees s ok) e
