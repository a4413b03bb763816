-- What is said of things that happened one after another, each given all that came before it.
use Rattle.std.specs.Prelude.{ℕ, ◌+◌, ◌*◌, suc, zero, List, [], ◌∷◌, ◌++◌, Option, None}
use Rattle.std.specs.Option.{option_or}

-- the last answer that f gives to a member of xs; f is told what came before it, which begins with
-- `before`
abbrev pub last_after : {X Y : Type 0} → (List X → X → Option Y) → List X → List X → Option Y
last_after f before [] = None
last_after f before (x ∷ xs) = option_or (last_after f (before ++ x ∷ []) xs) (f before x)

-- the last answer that f gives to a member of xs
abbrev pub last_of : {X Y : Type 0} → (List X → X → Option Y) → List X → Option Y
last_of f xs = last_after f [] xs

-- what f makes of each member of xs, end to end; f is told what came before it, which begins with
-- `before`
abbrev pub each_after : {X Y : Type 0} → (List X → X → List Y) → List X → List X → List Y
each_after f before [] = []
each_after f before (x ∷ xs) = f before x ++ each_after f (before ++ x ∷ []) xs

-- what f makes of each member of xs, end to end
abbrev pub each_of : {X Y : Type 0} → (List X → X → List Y) → List X → List Y
each_of f xs = each_after f [] xs

-- what f gives of 0, 1 and so on up to below n, end to end; f is told all that came before, which
-- begins with `before`
abbrev pub in_turn : {X : Type 0} → (List X → ℕ → List X) → List X → ℕ → List X
in_turn f before zero = []
in_turn f before (suc n) = in_turn f before n ++ f (before ++ in_turn f before n) n

-- what f gives of both cores of a pair, the lower one first
abbrev pub in_pair : {X : Type 0} → (List X → ℕ → List X) → List X → ℕ → List X
in_pair f before pair = f before (2 * pair) ++ f (before ++ f before (2 * pair)) (2 * pair + 1)
