-- What one look at each page comes to.
use Rattle.std.specs.Prelude.{◌≡◌, ℕ, ◌++◌, List, length, Some, slice_get}
use Rattle.cal_signal.specs.declared.look.Look.{Look}
use Rattle.cal_signal.specs.Looks.{whole_of}
use Rattle.cal_signal.specs.Ends.{ObserverView}
use Rattle.cal_signal.specs.Found.{Found}

-- one look: the observer stays at its page, its looks gain a whole one and no other, and the look
-- is what it loaded
pub record HasLooked (before after : ObserverView) (look : Look) : Type 0 where
  pub page : after.page ≡ before.page
  pub looks : after.looks ≡ before.looks ++ whole_of look
  pub found : Found before after look

-- one look at each page, in order: what each observer was, what it is then, and what it found
pub record HaveLooked (before after : List ObserverView) (looks : List Look) : Type 0 where
  pub observers : length after ≡ length before
  pub one_each : length looks ≡ length before
  pub each : (k : ℕ) (was is : ObserverView) (look : Look) → slice_get before k ≡ Some was
      → slice_get after k ≡ Some is → slice_get looks k ≡ Some look → HasLooked was is look
