-- A pass that is decided on signals that fit is a legal one.
use Rattle.cal_engine.proofs.Common.{◌≡◌, ◌<◌, ◌≤◌, ◌+◌, nat_lt, ℕ, Bool, true, false, List, [], ◌∷◌, ◌++◌, length, Option, Some, None, slice_get, if◌then◌else◌, option_map, refl, sym, ap, subst, ◌∙◌, arith, map-append, length-map, enumerate_from, Table, PassEntry, judged, is_foreign, IsFitLook, IsInput, Policy, pass_by, IsLegalBy, IsPassBy, legal_more_by, legal_none_by, pass_from, input_of, decided_pass, decided_after}
use Rattle.std.proofs.lemmas.List.FromFn.{length-enumerate_from, get_or-enumerate_from}
use Rattle.std.proofs.lemmas.Option.{slice_get_past, slice_get-get_or, slice_get-map}
use Rattle.std.specs.Option.{unwrap_or, option_and_then}
use Rattle.cal_signal.specs.declared.record.Record.{Record}
use Rattle.cal_signal.specs.declared.look.Look.{Look}
use Rattle.cal_signal.specs.declared.look.Look.TheVariants.{Whole, Busy}
use Rattle.cal_signal.specs.declared.shown.Shown.{Shown}
use Rattle.cal_machine.proofs.Last.{some_same}
use Rattle.cal_policy.specs.declared.history.look.Seen.{Seen}
use Rattle.cal_policy.specs.declared.history.look.Seen.TheVariants as seen
use Rattle.cal_policy.specs.declared.history.action.Action.{Action}
use Rattle.cal_machine.specs.TableTasks.{threads_of_table}
use Rattle.cal_policy.specs.History.{actions_of, looks_of, sent_to}
use Rattle.cal_policy.specs.History.Looks.{last_shown, look_of, shown_at, shown_by}
use Rattle.cal_policy.specs.declared.history.input.Input.{Input}
use Rattle.cal_policy.proofs.HistoryLemmas.OneMore.{shown_push}
use Rattle.cal_policy.proofs.JudgementLemmas.Judged.{look_of-judged}
use Rattle.cal_policy.specs.Setting.{setting}
use Rattle.cal_trace.proofs.SignalLemmas.LastShown.{shown-push}
use Rattle.cal_trace.specs.Signals as signals
use Rattle.cal_trace.specs.Signals.Fitting.{IsFitting, IsFittingPass}
use Rattle.cal_policy.specs.declared.judgement.open_input.FoundLook.{FoundLook}
use Rattle.cal_trace.specs.declared.signals.SignalPass.{SignalPass}
use Rattle.cal_policy.specs.Judgement.OpenInput.{judged_looks}

-- one decided pass more
pub decided_after-append : (policy : Policy) (table : Table) (history : List PassEntry) (passes : List SignalPass) (pass : SignalPass)
    → decided_after policy table history (passes ++ pass ∷ []) ≡ decided_after policy table history passes ++ decided_pass policy table (decided_after policy table history passes) pass ∷ []
unfolding decided_after
decided_after-append policy table history [] pass = refl
decided_after-append policy table history (p ∷ passes) pass = decided_after-append policy table (history ++ decided_pass policy table history p ∷ []) passes pass

-- each with its number
slice_get-enumerate_from : {X : Type 0} (n : ℕ) (xs : List X) (k : ℕ) → slice_get (enumerate_from n xs) k ≡ option_map (λ x. (n + k, x)) (slice_get xs k)
slice_get-enumerate_from {X} n [] k = refl
slice_get-enumerate_from {X} n (d ∷ ds) k = go (nat_lt k (length (d ∷ ds))) refl
  where
    go : (b : Bool) → nat_lt k (length (d ∷ ds)) ≡ b → slice_get (enumerate_from n (d ∷ ds)) k ≡ option_map (λ x. (n + k, x)) (slice_get (d ∷ ds) k)
    go true h =
        let lt : k < length (d ∷ ds) = grind arith in
        let lt_too : k < length (enumerate_from n (d ∷ ds)) = omega (arith, lt, length-enumerate_from n (d ∷ ds)) in
        slice_get-get_or (enumerate_from n (d ∷ ds)) k (0, d) lt_too ∙ ap Some (get_or-enumerate_from n (d ∷ ds) k (0, d) lt)
        ∙ ap (λ o. option_map (λ x. (n + k, x)) o) (sym (slice_get-get_or (d ∷ ds) k d lt))
    go false h =
        let ge : length (d ∷ ds) ≤ k = grind arith in
        let ge_too : length (enumerate_from n (d ∷ ds)) ≤ k = omega (arith, ge, length-enumerate_from n (d ∷ ds)) in
        rw (slice_get_past (d ∷ ds) k ge, slice_get_past (enumerate_from n (d ∷ ds)) k ge_too) refl

-- the look of thread k, as judged
judged_at : (table : Table) (history : List PassEntry) (looks : List FoundLook) (k : ℕ)
    → slice_get (judged_looks table history looks) k ≡ option_map (λ found. judged table.cores (actions_of history) k found.look) (slice_get looks k)
judged_at table history looks k =
    let f : ℕ × FoundLook → Seen = λ found. judged table.cores (actions_of history) found.0 found.1.look in
    let zero : 0 + k ≡ k = omega arith in
    slice_get-map f (enumerate_from 0 looks) k ∙ ap (λ o. option_map f o) (slice_get-enumerate_from 0 looks k ∙ rw zero refl) ∙ fused (slice_get looks k)
  where
    fused : (o : Option FoundLook) → option_map (λ (p : ℕ × FoundLook). judged table.cores (actions_of history) p.0 p.1.look) (option_map (λ x. (k, x)) o)
        ≡ option_map (λ found. judged table.cores (actions_of history) k found.look) o
    fused None = refl
    fused (Some found) = refl

-- what a look carries does not depend on its judgement
shown_by-judged : (ahead foreign : Bool) (number : ℕ) (rec : Record)
    → shown_by (if ahead then seen.Ahead number rec else if foreign then seen.Foreign number rec else seen.Whole number rec) ≡ Some (record { number = number; rec = rec })
shown_by-judged true foreign number rec = refl
shown_by-judged false true number rec = refl
shown_by-judged false false number rec = refl

-- what each thread showed last is the same, by the looks as judged and by the signals
abbrev pub SameShown : List (List Seen) → List SignalPass → Type 0
SameShown looks passes = (k : ℕ) → last_shown looks k ≡ signals.last_shown k passes

pub SameShown-none : SameShown [] []
SameShown-none k = refl

-- the same, in one pass
shown_in_pass : (table : Table) (history : List PassEntry) (pass : SignalPass) (k : ℕ) → shown_at (judged_looks table history pass.looks) k ≡ signals.shown_in k pass
shown_in_pass table history pass k = rw (judged_at table history pass.looks k) (by (slice_get pass.looks k))
  where
    by_look : (look : Look) → shown_by (judged table.cores (actions_of history) k look) ≡ signals.shown_by look
    by_look (Busy first second) = refl
    by_look (Whole number rec) = shown_by-judged (nat_lt (sent_to (actions_of history) k) rec.taken) (is_foreign table.cores (actions_of history) k rec) number rec

    by : (found : Option FoundLook) → option_and_then shown_by (option_map (λ (f : FoundLook). judged table.cores (actions_of history) k f.look) found)
        ≡ option_and_then (λ (f : FoundLook). signals.shown_by f.look) found
    by None = refl
    by (Some found) = by_look found.look

-- and after one pass more
pub SameShown-append : (policy : Policy) (table : Table) (history : List PassEntry) (passes : List SignalPass) (pass : SignalPass) → SameShown (looks_of history) passes
    → SameShown (looks_of (history ++ decided_pass policy table history pass ∷ [])) (passes ++ pass ∷ [])
unfolding decided_pass
SameShown-append policy table history passes pass same k =
    let longer : looks_of (history ++ decided_pass policy table history pass ∷ []) ≡ looks_of history ++ judged_looks table history pass.looks ∷ [] =
    map-append (λ (entry : PassEntry). entry.input.seen) history (decided_pass policy table history pass ∷ []) in
    ap (λ looks. last_shown looks k) longer
    ∙ shown_push (looks_of history) (judged_looks table history pass.looks) k
    ∙ ap (λ o. unwrap_or o (last_shown (looks_of history) k)) (shown_in_pass table history pass k)
    ∙ ap (λ last. unwrap_or (signals.shown_in k pass) last) (same k)
    ∙ sym (shown-push k passes pass)

-- a look that fits the signals fits the looks as judged
fit_look : (last : Shown) (cores : ℕ) (x : List Action) (k : ℕ) (look : Look) → IsFitting last look → IsFitLook last (judged cores x k look)
fit_look last cores x k (Busy first second) fit = fit
fit_look last cores x k (Whole number rec) fit = go (nat_lt (sent_to x k) rec.taken) (is_foreign cores x k rec)
  where
    go : (ahead foreign : Bool) → IsFitLook last (if ahead then seen.Ahead number rec else if foreign then seen.Foreign number rec else seen.Whole number rec)
    go true foreign = fit
    go false true = fit
    go false false = fit

-- the look behind a judged one
found_at : (table : Table) (history : List PassEntry) (looks : List FoundLook) (k : ℕ) (one : Seen) → slice_get (judged_looks table history looks) k ≡ Some one
    → (found : FoundLook) × ((slice_get looks k ≡ Some found) × (judged table.cores (actions_of history) k found.look ≡ one))
found_at table history looks k one e = go (slice_get looks k) refl
  where
    whole : (o : Option FoundLook) → slice_get looks k ≡ o → option_map (λ found. judged table.cores (actions_of history) k found.look) o ≡ Some one
    whole o was = ap (λ x. option_map (λ (found : FoundLook). judged table.cores (actions_of history) k found.look) x) (sym was) ∙ sym (judged_at table history looks k) ∙ e

    go : (o : Option FoundLook) → slice_get looks k ≡ o → (found : FoundLook) × ((slice_get looks k ≡ Some found) × (judged table.cores (actions_of history) k found.look ≡ one))
    go None was = let bad : None ≡ Some one = whole None was in absurd (cc)
    go (Some found) was = (found, (was, some_same (judged table.cores (actions_of history) k found.look) one (whole (Some found) was)))

-- what is judged of signals that fit is an input that the pass may be given
pub judged_is_input : (table : Table) (history : List PassEntry) (passes : List SignalPass) (pass : SignalPass) → SameShown (looks_of history) passes
    → IsFittingPass (threads_of_table table) passes pass → IsInput table history (input_of table history pass)
judged_is_input table history passes pass same fits = record {
  looks = record {
    looks = length-map (enumerate_from 0 pass.looks) (λ (found : ℕ × FoundLook). judged table.cores (actions_of history) found.0 found.1.look) ∙ length-enumerate_from 0 pass.looks ∙ fits.looks;
    rooms = length-map pass.looks (λ (found : FoundLook). found.room) ∙ fits.looks;
    fit = λ k one e.
        let found = found_at table history pass.looks k one e in
        subst (λ (s : Seen). IsFitLook (last_shown (looks_of history) k) s) found.1.1
        (fit_look (last_shown (looks_of history) k) table.cores (actions_of history) k found.0.look
        (subst (λ (last : Shown). IsFitting last found.0.look) (sym (same k)) (fits.fit k found.0 found.1.0)));
  };
  as_judged = λ k one e.
      let found = found_at table history pass.looks k one e in
      sym found.1.1 ∙ ap (λ look. judged table.cores (actions_of history) k look) (sym (look_of-judged table.cores (actions_of history) k found.0.look) ∙ ap look_of found.1.1);
}

-- what a policy does on an input that the pass may be given is its pass
made_is_pass : (policy : Policy) (table : Table) (history : List PassEntry) (input : Input) → IsInput table history input
    → IsPassBy policy table history (record { input = input; actions = pass_by policy (setting table history input) })
made_is_pass policy table history input is = pass_from policy table history (record { input = input; actions = pass_by policy (setting table history input) }) is refl

-- and the pass decided on it is one
pub decided_is_pass : (policy : Policy) (table : Table) (history : List PassEntry) (passes : List SignalPass) (pass : SignalPass) → SameShown (looks_of history) passes
    → IsFittingPass (threads_of_table table) passes pass → IsPassBy policy table history (decided_pass policy table history pass)
unfolding decided_pass
decided_is_pass policy table history passes pass same fits = made_is_pass policy table history (input_of table history pass) (judged_is_input table history passes pass same fits)

-- what holds of a history that was decided on the first of these passes
pub record IsDecided (policy : Policy) (table : Table) (passes : List SignalPass) (history : List PassEntry) : Type 0 where
  pub legal : IsLegalBy policy table history
  pub shown : SameShown (looks_of history) passes
  pub done : history ≡ decided_after policy table [] passes

pub IsDecided-none : (policy : Policy) (table : Table) → IsDecided policy table [] []
unfolding decided_after
IsDecided-none policy table = record { legal = legal_none_by policy table; shown = SameShown-none; done = refl }

pub IsDecided-append : (policy : Policy) (table : Table) (passes : List SignalPass) (history : List PassEntry) (pass : SignalPass) → IsFittingPass (threads_of_table table) passes pass
    → IsDecided policy table passes history → IsDecided policy table (passes ++ pass ∷ []) (history ++ decided_pass policy table history pass ∷ [])
IsDecided-append policy table passes history pass fits so_far = record {
  legal = legal_more_by policy table history (decided_pass policy table history pass) so_far.legal (decided_is_pass policy table history passes pass so_far.shown fits);
  shown = SameShown-append policy table history passes pass so_far.shown;
  done =
      ap (λ h. h ++ decided_pass policy table h pass ∷ []) so_far.done ∙ sym (decided_after-append policy table [] passes pass);
}

-- the pass that was made on the judged input is the decided one
pub made_pass : (policy : Policy) (table : Table) (history : List PassEntry) (pass : SignalPass) (input : Input) (acts : List Action) → input ≡ input_of table history pass
    → acts ≡ pass_by policy (setting table history input) → ◌≡◌ {A = PassEntry} (record { input = input; actions = acts }) (decided_pass policy table history pass)
unfolding decided_pass
made_pass policy table history pass input acts same_input same_acts =
    let P : Input → Type 0 = λ (i : Input). ◌≡◌ {A = PassEntry} (record { input = i; actions = pass_by policy (setting table history i) }) (decided_pass policy table history pass) in
    let decided_one : P input = subst P (sym same_input) refl in
    ap (λ (made : List Action). let e : PassEntry = record { input = input; actions = made } in e) same_acts ∙ decided_one
