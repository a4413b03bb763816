-- What threads showed last, with one more pass and with one more look.
use Rattle.cal_trace.proofs.Common.{◌≡◌, ◌≢◌, ◌<◌, ◌≤◌, slice_get, ℕ, List, [], ◌∷◌, ◌++◌, length, Option, Some, None, Ok, Err, Bool, true, false, nat_lt, if◌then◌else◌, refl, sym, ap, ◌∙◌, arith, option_map, nothing_shown, Shown, ltb-true, SoFar, passes_of, with_more, next_thread, last_shown, shown_in, shown_by, with_look, looks_in, FoundLook, SignalPass}
use Rattle.std.proofs.lemmas.Option.{slice_get_past}
use Rattle.std.specs.Option.{option_to_list, option_and_then, unwrap_or}
use Rattle.cal_policy.specs.History.Lists.{last_of}
use Rattle.cal_policy.proofs.ListLemmas.OneMore.{last_of_push, unwrap_or_or}
use Rattle.cal_machine.proofs.Last.{slice_get-last, slice_get-other}
use Rattle.cal_trace.specs.declared.fault.FaultKind.TheVariants as kind

-- what a pass showed of thread k, by the look at it
abbrev shown_by_look : Option FoundLook → Option Shown
shown_by_look look = option_and_then (λ (l : FoundLook). shown_by l.look) look

-- one pass more
pub shown-push : (k : ℕ) (passes : List SignalPass) (pass : SignalPass) → last_shown k (passes ++ pass ∷ []) ≡ unwrap_or (shown_in k pass) (last_shown k passes)
shown-push k passes pass =
    ap (λ o. unwrap_or o nothing_shown) (last_of_push (λ before p. shown_in k p) passes pass)
    ∙ unwrap_or_or (shown_in k pass) (last_of (λ before p. shown_in k p) passes) nothing_shown

-- a pass without looks shows nothing
pub shown-begun : (k : ℕ) (passes : List SignalPass) (now bandwidth : ℕ) → last_shown k (passes ++ record { now = now; bandwidth = bandwidth; looks = [] } ∷ []) ≡ last_shown k passes
shown-begun k passes now bandwidth = shown-push k passes (record { now = now; bandwidth = bandwidth; looks = [] })

-- a pass without a look at thread k changes nothing of what it showed last
pub last_shown-silent : (k : ℕ) (passes : List SignalPass) (pass : SignalPass) → length pass.looks ≤ k → last_shown k (passes ++ pass ∷ []) ≡ last_shown k passes
last_shown-silent k passes pass le =
    let none : slice_get pass.looks k ≡ None = slice_get_past pass.looks k le in
    let silent : shown_in k pass ≡ None = rw none refl in
    shown-push k passes pass ∙ ap (λ o. unwrap_or o (last_shown k passes)) silent

-- another thread's look
pub shown-other : (k : ℕ) (before : List SignalPass) (pass : SignalPass) (seen : FoundLook) → k ≢ length pass.looks
    → last_shown k (before ++ with_look seen pass ∷ []) ≡ last_shown k (before ++ pass ∷ [])
shown-other k before pass seen ne =
    shown-push k before (with_look seen pass)
    ∙ ap (λ s. unwrap_or (shown_by_look s) (last_shown k before)) (slice_get-other pass.looks seen k ne)
    ∙ sym (shown-push k before pass)

-- the thread's own look
own_look : (before : List SignalPass) (pass : SignalPass) (seen : FoundLook)
    → last_shown (length pass.looks) (before ++ with_look seen pass ∷ []) ≡ unwrap_or (shown_by seen.look) (last_shown (length pass.looks) (before ++ pass ∷ []))
own_look before pass seen =
    let k = length pass.looks in
    shown-push k before (with_look seen pass)
    ∙ ap (λ s. unwrap_or (shown_by_look s) (last_shown k before)) (slice_get-last pass.looks seen)
    ∙ ap (unwrap_or (shown_by seen.look)) (sym (last_shown-silent k before pass (omega arith)))

-- where a look can stand
record CanStand (threads thread : ℕ) (at_hand : Option SignalPass) : Type 0 where
  pub pass : SignalPass
  pub is : at_hand ≡ Some pass
  pub next : thread ≡ length pass.looks
  pub below : length pass.looks < threads

stands : (threads thread : ℕ) (at_hand : Option SignalPass) → next_thread looks_in threads at_hand ≡ Ok thread → CanStand threads thread at_hand
stands threads thread None h = cc
stands threads thread (Some pass) h = by (nat_lt (length pass.looks) threads) refl h
  where
    by : (b : Bool) → nat_lt (length pass.looks) threads ≡ b → (if b then Ok (length pass.looks) else Err kind.Order) ≡ Ok thread → CanStand threads thread (Some pass)
    by true e h = record { pass = pass; is = refl; next = cc; below = ltb-true _ _ e }
    by false e h = cc

pub next_below : (threads thread : ℕ) (at_hand : Option SignalPass) → next_thread looks_in threads at_hand ≡ Ok thread → thread < threads
next_below threads thread at_hand h = let s = stands threads thread at_hand h in rw s.next s.below

own : (before : List SignalPass) (at_hand : Option SignalPass) (thread : ℕ) (pass : SignalPass) (seen : FoundLook) → at_hand ≡ Some pass → thread ≡ length pass.looks
    → last_shown thread (before ++ option_to_list (option_map (with_look seen) at_hand)) ≡ unwrap_or (shown_by seen.look) (last_shown thread (before ++ option_to_list at_hand))
own before at_hand thread pass seen is next = rw (is, next) (own_look before pass seen)

other : (before : List SignalPass) (at_hand : Option SignalPass) (thread k : ℕ) (pass : SignalPass) (seen : FoundLook)
    → at_hand ≡ Some pass → thread ≡ length pass.looks → k ≢ thread
    → last_shown k (before ++ option_to_list (option_map (with_look seen) at_hand)) ≡ last_shown k (before ++ option_to_list at_hand)
other before at_hand thread k pass seen is next ne = rw is (shown-other k before pass seen (λ e. ne (e ∙ sym next)))

-- what a look shows is what its thread showed last
pub kept-own : (so_far : SoFar SignalPass) (threads thread : ℕ) (seen : FoundLook) → next_thread looks_in threads so_far.at_hand ≡ Ok thread
    → last_shown thread (passes_of (with_more (with_look seen) so_far)) ≡ unwrap_or (shown_by seen.look) (last_shown thread (passes_of so_far))
kept-own so_far threads thread seen h =
    let s = stands threads thread so_far.at_hand h in
    own so_far.before so_far.at_hand thread s.pass seen s.is s.next

-- and leaves what the others showed
pub kept-other : (so_far : SoFar SignalPass) (threads thread k : ℕ) (seen : FoundLook) → next_thread looks_in threads so_far.at_hand ≡ Ok thread → k ≢ thread
    → last_shown k (passes_of (with_more (with_look seen) so_far)) ≡ last_shown k (passes_of so_far)
kept-other so_far threads thread k seen h ne =
    let s = stands threads thread so_far.at_hand h in
    other so_far.before so_far.at_hand thread k s.pass seen s.is s.next ne
