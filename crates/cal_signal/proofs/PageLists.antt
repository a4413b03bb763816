-- Pages and looks as lists.
use Rattle.cal_signal.proofs.Common.{◌≡◌, ℕ, zero, suc, ◌<◌, ◌≤◌, List, [], ◌∷◌, ◌++◌, length, sym, refl, arith, some, some-ne-none, get_elem?, at_longer, Chain, last_from, FitsFrom, floor_from}

module _ {T : Type 0} where
  -- one more record at the end is the last one
  pub last_snoc : (x : T) (l : List T) (y : T) → last_from x (l ++ y ∷ []) ≡ y
  last_snoc x [] y = refl
  last_snoc x (z ∷ zs) y = last_snoc z zs y

  -- the last record stands at the last place
  pub last_at : (x : T) (l : List T) → get_elem? (x ∷ l) (length l) ≡ some (last_from x l)
  last_at x [] = refl
  last_at x (y ∷ ys) = last_at y ys

  -- a record that follows the last one makes a longer page
  pub chain_snoc : (follows : T → T → Type 0) (x : T) (l : List T) (y : T) → Chain follows x l → follows (last_from x l) y → Chain follows x (l ++ y ∷ [])
  chain_snoc follows x [] y c f = (f, tt)
  chain_snoc follows x (z ∷ zs) y c f = (c.0, chain_snoc follows z zs y c.1 f)

  -- what is there is within the length
  pub at_below : (l : List T) (i : ℕ) (a : T) → get_elem? l i ≡ some a → i < length l
  at_below [] i a e = absurd (some-ne-none a (sym e))
  at_below (x ∷ xs) zero a e = omega arith
  at_below (x ∷ xs) (suc i) a e = let h = at_below xs i a e in omega arith

  -- looks that fit a page fit a longer one
  pub fits_more : (page more : List T) (f : ℕ) (ls : List (ℕ × T)) → FitsFrom page f ls → FitsFrom (page ++ more) f ls
  fits_more page more f [] h = tt
  fits_more page more f (l ∷ ls) h = (h.0, at_longer page more l.0 l.1 h.1, fits_more page more l.0 ls h.2)

  -- the floor of looks that fit is a place of the page
  pub fits_floor : (page : List T) (f : ℕ) (ls : List (ℕ × T)) → f < length page → FitsFrom page f ls → floor_from f ls < length page
  fits_floor page f [] inside h = inside
  fits_floor page f (l ∷ ls) inside h = fits_floor page l.0 ls (at_below page l.0 l.1 h.1) h.2

  -- one more look, at a place from the floor on
  pub fits_snoc : (page : List T) (f : ℕ) (ls : List (ℕ × T)) (i : ℕ) (x : T) → FitsFrom page f ls → floor_from f ls ≤ i → get_elem? page i ≡ some x → FitsFrom page f (ls ++ (i, x) ∷ [])
  fits_snoc page f [] i x h le at = (le, at, tt)
  fits_snoc page f (l ∷ ls) i x h le at = (h.0, h.1, fits_snoc page l.0 ls i x h.2 le at)

  -- its place is the new floor
  pub floor_snoc : (f : ℕ) (ls : List (ℕ × T)) (i : ℕ) (x : T) → floor_from f (ls ++ (i, x) ∷ []) ≡ i
  floor_snoc f [] i x = refl
  floor_snoc f (l ∷ ls) i x = floor_snoc l.0 ls i x
