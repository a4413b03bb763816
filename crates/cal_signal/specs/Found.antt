-- What a look has loaded, from what its observer knew before and knows after. What it adds to the
-- looks is `whole_of` it.
use Rattle.std.specs.Prelude.{◌≡◌, ◌≢◌, ℕ, ◌*◌, ◌%◌, ◌<◌, List, [], ◌∷◌, ◌++◌}
use Rattle.cal_signal.specs.declared.look.Look.{Look}
use Rattle.cal_signal.specs.declared.look.Look.TheVariants.{Whole, Busy}
use Rattle.cal_signal.specs.Pages.{FitsSomePage}
use Rattle.cal_signal.specs.Looks.{IsBusyPair}
use Rattle.cal_signal.specs.Ends.{ObserverView, LookView}

-- the versions that a busy look has loaded: an odd one alone, or both
abbrev pub BusyLoads : List ℕ → ℕ → ℕ → List ℕ → Type 0
BusyLoads before first second after =
    (first ≡ second → after ≡ before ++ first ∷ [])
    × (first ≢ second → after ≡ (before ++ first ∷ []) ++ second ∷ [])

-- a look in one call. Whole: two equal versions were loaded, and the looks fit some page. Busy: an
-- odd version or a busy pair was loaded
abbrev pub Found : ObserverView → ObserverView → Look → Type 0
Found v w (Whole number rec) =
    (w.loads ≡ (v.loads ++ 2 * number ∷ []) ++ 2 * number ∷ []) × FitsSomePage w.looks
Found v w (Busy first second) = IsBusyPair first second × BusyLoads v.loads first second w.loads

-- a look that its first version load ended: it is busy by the one odd version that was loaded
abbrev pub RefusedAtOnce : ObserverView → ObserverView → Look → Type 0
RefusedAtOnce v w (Whole number rec) = ⊥
RefusedAtOnce v w (Busy first second) =
    (first % 2 ≡ 1) × (second ≡ first) × (w.loads ≡ v.loads ++ first ∷ [])

-- the last step of a look, which has its first version in its loads: that version was loaded again,
-- or a greater one
abbrev pub Finished : LookView → ObserverView → Look → Type 0
Finished v w (Whole number rec) =
    (v.first ≡ 2 * number) × (w.loads ≡ v.loads ++ 2 * number ∷ []) × FitsSomePage w.looks
Finished v w (Busy first second) =
    (first ≡ v.first) × IsBusyPair first second × (first < second)
    × (w.loads ≡ v.loads ++ second ∷ [])
