-- What a contract sees of a watch, and what its rounds are to its observers.
use Rattle.std.specs.Prelude.{◌≡◌, ℕ, ◌++◌, List, [], ◌∷◌, length, Some, slice_get}
use Rattle.cal_signal.specs.declared.look.Look.{Look}
use Rattle.cal_signal.specs.Rounds.{found_at}
use Rattle.cal_signal.specs.Ends.{ObserverView}
use Rattle.cal_sched.specs.Looking.{HaveLooked}

-- the observers as given and as they are, the rounds so far, and how many rounds there may be
pub record WatchView : Type 0 where
  pub given : List ObserverView
  pub observers : List ObserverView
  pub rounds : List (List Look)
  pub most : ℕ

-- a watch that was just made of these observers
abbrev pub new_watch : List ObserverView → ℕ → WatchView
new_watch observers most = record {
  given = observers;
  observers = observers;
  rounds = [];
  most = most;
}

-- one round more: one look at each page, in order
pub record IsRoundMore (before after : WatchView) : Type 0 where
  pub round : List Look
  pub rounds : after.rounds ≡ before.rounds ++ round ∷ []
  pub looked : HaveLooked before.observers after.observers round
  pub given : after.given ≡ before.given
  pub most : after.most ≡ before.most

-- each round has a look at each page; each observer stays at its page, and what it found since it
-- was given is, in order, what the rounds found
pub record HaveWatched (given observers : List ObserverView)
    (rounds : List (List Look)) : Type 0 where
  pub same_many : length observers ≡ length given
  pub one_each : (i : ℕ) (round : List Look) → slice_get rounds i ≡ Some round →
      length round ≡ length given
  pub each : (k : ℕ) (was is : ObserverView) → slice_get given k ≡ Some was →
      slice_get observers k ≡ Some is
      → (is.page ≡ was.page) × (is.looks ≡ was.looks ++ found_at rounds k)
