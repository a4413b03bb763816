-- When what a walk over the pages finds is the next pass's.
use Rattle.std.specs.Prelude.{◌≡◌, ℕ, List, Some, slice_get}
use Rattle.cal_signal.specs.Ends.{ObserverView}
use Rattle.cal_policy.specs.declared.history.entry.PassEntry.{PassEntry}
use Rattle.cal_policy.specs.History.Found.{looks_at}

-- what each observer found so far is, in order, what these passes found of its thread
abbrev pub HaveFoundSo : List PassEntry → List ObserverView → Type 0
HaveFoundSo history observers = (k : ℕ) (observer : ObserverView) →
    slice_get observers k ≡ Some observer → observer.looks ≡ looks_at history k
