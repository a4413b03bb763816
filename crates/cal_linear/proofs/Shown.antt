-- What an observer found of a page, as the looks of a history.
use Rattle.cal_linear.proofs.Common.{◌≡◌, ℕ, zero, suc, List, [], ◌∷◌, ◌++◌, Option, Some, ap, subst, ◌∙◌, option_map, slice_get, Record, FitsFrom, floor_from, page_of, Seen, Whole, PassEntry, FittingLooksArePublications, journal_at, records_of}
use mathlib.Core.Option.{some}
use lib.ListN.{get_elem?}
use Rattle.cal_policy.specs.History.Looks.{look_of}
use Rattle.cal_policy.specs.History.Found.{looks_at}
use Rattle.cal_signal.specs.Rounds.{found_by}

-- the two ways to read a place of a list
pub get_both : {X : Type 0} (xs : List X) (i : ℕ) (x : X) → get_elem? xs i ≡ some x → slice_get xs i ≡ Some x
get_both [] i x e = absurd (cc)
get_both (y ∷ xs) zero x e = let same : y ≡ x = cc in ap Some same
get_both (y ∷ xs) (suc i) x e = get_both xs i x e

-- looks that fit, past the first ones
fits_past : (page : List Record) (floor : ℕ) (xs ys : List (ℕ × Record)) → FitsFrom page floor (xs ++ ys) → FitsFrom page (floor_from floor xs) ys
fits_past page floor [] ys fits = fits
fits_past page floor (x ∷ xs) ys fits = fits_past page x.0 xs ys fits.2

found_there : (page : List Record) (floor : ℕ) (history : List PassEntry) (k p : ℕ) (entry : PassEntry) (number : ℕ) (rec : Record) → FitsFrom page floor (looks_at history k) → slice_get history p ≡ Some entry →
    slice_get entry.input.seen k ≡ Some (Whole number rec) → get_elem? page number ≡ some rec
found_there page floor [] k p entry number rec fits there e = absurd (cc)
found_there page floor (first ∷ history) k zero entry number rec fits there e =
    let same : first ≡ entry = cc in
    let at : slice_get first.input.seen k ≡ Some (Whole number rec) = ap (λ (x : PassEntry). slice_get x.input.seen k) same ∙ e in
    let P : Option Seen → Type 0 = λ o. FitsFrom page floor (found_by (option_map look_of o) ++ looks_at history k) in
    (subst P at fits).1
found_there page floor (first ∷ history) k (suc p) entry number rec fits there e =
    let found : List (ℕ × Record) = found_by (option_map look_of (slice_get first.input.seen k)) in
    found_there page (floor_from floor found) history k p entry number rec (fits_past page floor found (looks_at history k) fits) there e

pub looks_are_publications : FittingLooksArePublications
looks_are_publications history journals fits p entry there k number rec e =
    let page : List Record = page_of (records_of (journal_at journals k)) in
    get_both page number rec (found_there page 0 history k p entry number rec (fits k) there e)
