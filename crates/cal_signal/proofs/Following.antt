-- Looks that fit a page follow one another.
use Rattle.cal_signal.proofs.Common.{◌≡◌, ℕ, zero, suc, ◌≤◌, List, [], ◌∷◌, ◌++◌, sym, refl, ap, ◌∙◌, arith, some, some-injective, some-ne-none, get_elem?, Record, IsLater, IsShaped, MayFollow, zero_record, Chain, IsPage, FitsFrom, FitsSomePage, floor_from}
use Rattle.cal_signal.specs.declared.shown.Shown.{Shown}
use Rattle.cal_signal.specs.Shown.{IsFitShown, shown_of, found_from, nothing_shown, last_found}
use Rattle.cal_signal.specs.Laws.{IsOneLookMore}

-- a record is later than itself, and than what those before it are later than
pub later_refl : (a : Record) → IsLater a a
later_refl a = (omega arith, omega arith, omega arith)

pub later_trans : (a b c : Record) → IsLater a b → IsLater b c → IsLater a c
later_trans a b c h k = (omega arith, omega arith, omega arith)

-- each record of a page is later than the first
later_first : (a : Record) (page : List Record) → Chain MayFollow a page → (i : ℕ) (b : Record) → get_elem? (a ∷ page) i ≡ some b → IsLater a b
later_first a page chain zero b at = rw (some-injective a b at) (later_refl b)
later_first a [] chain (suc i) b at = absurd (some-ne-none b (sym at))
later_first a (x ∷ xs) chain (suc i) b at = later_trans a x b chain.0.0 (later_first x xs chain.1 i b at)

-- of two records of a page the one at the higher place is later
later_place : (a : Record) (page : List Record) → Chain MayFollow a page → (i j : ℕ) (b c : Record) → i ≤ j → get_elem? (a ∷ page) i ≡ some b → get_elem? (a ∷ page) j ≡ some c → IsLater b c
later_place a page chain zero j b c le at there = rw (sym (some-injective a b at)) (later_first a page chain j c there)
later_place a page chain (suc i) zero b c le at there = absurd (omega arith)
later_place a [] chain (suc i) (suc j) b c le at there = absurd (some-ne-none b (sym at))
later_place a (x ∷ xs) chain (suc i) (suc j) b c le at there = later_place x xs chain.1 i j b c (omega arith) at there

-- each record of a page is shaped, where the first is
shaped_at : (a : Record) (page : List Record) → IsShaped a → Chain MayFollow a page → (i : ℕ) (b : Record) → get_elem? (a ∷ page) i ≡ some b → IsShaped b
shaped_at a page shaped chain zero b at = rw (sym (some-injective a b at)) shaped
shaped_at a [] shaped chain (suc i) b at = absurd (some-ne-none b (sym at))
shaped_at a (x ∷ xs) shaped chain (suc i) b at = shaped_at x xs chain.0.1 chain.1 i b at

-- two places that are the same have the same record
same_place : (page : List Record) (i j : ℕ) (b c : Record) → i ≡ j → get_elem? page i ≡ some b → get_elem? page j ≡ some c → b ≡ c
same_place page i j b c is at there = some-injective b c (sym at ∙ (ap (get_elem? page) is ∙ there))

-- looks that fit a page: what the last but one found stands there, and the last is not below it
last_two : (page : List Record) (last : Shown) (looks : List (ℕ × Record)) (look : ℕ × Record) → get_elem? page last.number ≡ some last.rec → FitsFrom page last.number (looks ++ look ∷ [])
    → (get_elem? page (found_from last looks).number ≡ some (found_from last looks).rec) × ((found_from last looks).number ≤ look.0) × (get_elem? page look.0 ≡ some look.1)
last_two page last [] look at fits = (at, fits.0, fits.1)
last_two page last (l ∷ ls) look at fits = last_two page (shown_of l) ls look fits.1 fits.2

pub follows : (looks : List (ℕ × Record)) (look : ℕ × Record) → FitsSomePage (looks ++ look ∷ []) → IsFitShown (last_found looks) (shown_of look)
follows looks look (page, is, fits) = on page is fits
  where
    on : (page : List Record) → IsPage page → FitsFrom page 0 (looks ++ look ∷ []) → IsFitShown (last_found looks) (shown_of look)
    on [] is fits = absurd is
    on (x ∷ xs) is fits =
        let start : get_elem? (x ∷ xs) 0 ≡ some zero_record = ap some is.0 in
        let two = last_two (x ∷ xs) nothing_shown looks look start fits in
        let shaped : IsShaped x = rw is.0 (omega arith, omega arith) in
        let last : Shown = last_found looks in (
          shaped_at x xs shaped is.1 look.0 look.1 two.2,
          record {
            not_below = two.1;
            same = λ e. same_place (x ∷ xs) last.number look.0 last.rec look.1 e two.0 two.2;
            later = λ lt. later_place x xs is.1 last.number look.0 last.rec look.1 two.1 two.0 two.2;
          },
        )

-- the place of what was found last is the floor
floor_is : (last : Shown) (looks : List (ℕ × Record)) → floor_from last.number looks ≡ (found_from last looks).number
floor_is last [] = refl
floor_is last (l ∷ ls) = floor_is (shown_of l) ls

last_is : (last : Shown) (looks : List (ℕ × Record)) (look : ℕ × Record) → found_from last (looks ++ look ∷ []) ≡ shown_of look
last_is last [] look = refl
last_is last (l ∷ ls) look = last_is (shown_of l) ls look

pub one_more : (looks : List (ℕ × Record)) (look : ℕ × Record) → IsOneLookMore looks look
one_more looks look = record { floor = floor_is nothing_shown looks; last = last_is nothing_shown looks look }
