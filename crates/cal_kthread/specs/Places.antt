-- What holds of each member of a list, or of one of them.
use Rattle.std.specs.Prelude.{◌≡◌, ℕ, Bool, true, false, List}
use mathlib.Core.Option.{some}
use lib.ListN.{get_elem?}

abbrev pub Each : {X : Type 0} → (X → Type 0) → List X → Type 0
Each {X} P xs = (k : ℕ) (x : X) → get_elem? xs k ≡ some x → P x

abbrev pub Somewhere : {X : Type 0} → (X → Type 0) → List X → Type 0
Somewhere {X} P xs = (k : ℕ) × (x : X) × (get_elem? xs k ≡ some x) × P x

-- 1 where a test passes, else 0: to count by adding up
abbrev pub one_if : Bool → ℕ
one_if true = 1
one_if false = 0
