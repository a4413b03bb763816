-- Actions that are taken one by one.
use Rattle.cal_guard.proofs.Common.{◌≡◌, ℕ, ◌<◌, List, [], ◌++◌, length, take, Some, None, arith, length-append, slice_get, length-take-le, Action, Setting, Passing, IsPermitted, ArePermitted, MayEndWith, wrong_with, IsInside}
use Rattle.cal_guard.proofs.Wrong.{right_back}

-- the first n of these are taken: each was permitted at its place
pub record IsRun (s : Setting) (acts actions : List Action) (n : ℕ) (passing : Passing) : Type 0 where
  pub each : (i : ℕ) → i < n → (a : Action) → slice_get actions i ≡ Some a → IsPermitted s (acts ++ take i actions) a
  pub inside : IsInside passing s (acts ++ take n actions)

-- of actions that may follow, none is wrong
pub none_wrong : (s : Setting) (acts actions : List Action) (n : ℕ) (a : Action) → n < length actions → MayEndWith s acts actions → IsPermitted s (acts ++ take n actions) a →
    wrong_with s (acts ++ take n actions) a ≡ None
none_wrong s acts actions n a lt may p =
    let sum = length-append acts (take n actions) in
    let taken = length-take-le n actions (omega (arith, lt)) in
    let short = may.short in
    right_back s (acts ++ take n actions) a (omega (arith, sum, taken, short, lt)) p

-- actions that may follow none are a pass's
pub whole : (s : Setting) (actions : List Action) → MayEndWith s [] actions → ArePermitted s actions
whole s actions may = record { each = may.each; short = (let short = may.short in omega (arith, short)); settled = may.settled }

pub whole_back : (s : Setting) (actions : List Action) → ArePermitted s actions → MayEndWith s [] actions
whole_back s actions all = record { each = all.each; short = (let short = all.short in omega (arith, short)); settled = all.settled }
