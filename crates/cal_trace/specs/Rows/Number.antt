-- Numbers in plain decimal digits.
use Rattle.std.specs.Prelude.{◌==◌, ◌&&◌, ◌+◌, ◌-◌, ◌*◌, ◌^◌, nat_lt, ℕ, List, [], ◌∷◌, Option}
use Rattle.std.specs.Prelude.{Some, None, option_and_then, if◌then◌else◌}
use Rattle.std.specs.Char.{is_ascii_digit}

-- a number with one more digit, if it stays below 2 ^ 64
abbrev pub with_digit : ℕ → ℕ → Option ℕ
with_digit n b =
    if is_ascii_digit b && nat_lt (n * 10 + (b - 48)) (2 ^ 64) then Some (n * 10 + (b - 48))
    else None

-- a number with these digits after it
unfoldable pub digits_of : ℕ → List ℕ → Option ℕ
digits_of n [] = Some n
digits_of n (b ∷ bytes) = option_and_then (λ m. digits_of m bytes) (with_digit n b)

-- the number that a field spells: digits with no zero in front, below 2 ^ 64
abbrev pub spelled_number : List ℕ → Option ℕ
spelled_number [] = None
spelled_number (b ∷ []) = digits_of 0 (b ∷ [])
spelled_number (b ∷ c ∷ bytes) = if b == 48 then None else digits_of 0 (b ∷ c ∷ bytes)
