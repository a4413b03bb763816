-- Looks that fit a page, by place.
use Rattle.cal_run.proofs.Common.{◌≡◌, ℕ, ◌≤◌, zero, suc, List, [], ◌∷◌, Some, map, arith, subst, slice_get, some, Record, FitsFrom, NeverFall}
use lib.ListN.{get_elem?}
use Rattle.cal_linear.proofs.Shown.{get_both}

-- each is the record of its place
pub fitting_published : (page : List Record) (floor : ℕ) (looks : List (ℕ × Record)) (i number : ℕ) (rec : Record) → FitsFrom page floor looks →
    slice_get looks i ≡ Some (number, rec) → slice_get page number ≡ Some rec
fitting_published page floor [] i number rec fits e = absurd (cc)
fitting_published page floor (look ∷ looks) zero number rec fits e =
    let same : look ≡ (number, rec) = cc in
    let P : (ℕ × Record) → Type 0 = λ x. get_elem? page x.0 ≡ some x.1 in
    get_both page number rec (subst P same fits.1)
fitting_published page floor (look ∷ looks) (suc i) number rec fits e = fitting_published page look.0 looks i number rec fits.2 e

-- none is below the floor
above_floor : (page : List Record) (floor : ℕ) (looks : List (ℕ × Record)) (j n : ℕ) → FitsFrom page floor looks →
    slice_get (map (λ look. look.0) looks) j ≡ Some n → floor ≤ n
above_floor page floor [] j n fits e = absurd (cc)
above_floor page floor (look ∷ looks) zero n fits e = let same : look.0 ≡ n = cc in let low = fits.0 in omega (arith, same, low)
above_floor page floor (look ∷ looks) (suc j) n fits e =
    let low = fits.0 in let next = above_floor page look.0 looks j n fits.2 e in omega (arith, low, next)

-- and their places do not fall
pub fitting_never_fall : (page : List Record) (floor : ℕ) (looks : List (ℕ × Record)) → FitsFrom page floor looks → NeverFall (map (λ look. look.0) looks)
fitting_never_fall page floor [] fits i j m n le e f = absurd (cc)
fitting_never_fall page floor (look ∷ looks) fits zero zero m n le e f = let same : look.0 ≡ m = cc in let other : look.0 ≡ n = cc in omega (arith, same, other)
fitting_never_fall page floor (look ∷ looks) fits zero (suc j) m n le e f =
    let same : look.0 ≡ m = cc in let next = above_floor page look.0 looks j n fits.2 f in omega (arith, same, next)
fitting_never_fall page floor (look ∷ looks) fits (suc i) zero m n le e f = absurd (omega arith)
fitting_never_fall page floor (look ∷ looks) fits (suc i) (suc j) m n le e f = fitting_never_fall page look.0 looks fits.2 i j m n (omega (arith, le)) e f
