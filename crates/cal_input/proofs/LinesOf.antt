-- The lines of a text whose first line feed was found, or that has none.
use Rattle.std.proofs.Common.{◌≡◌, ◌≢◌, ◌<◌, ◌≤◌, ◌+◌, ◌-◌, ◌==◌, ◌&&◌, ℕ, bytes_eq, Bool, true, false, List, [], ◌∷◌, ◌++◌, length, take, drop, get_or, slice_range, Option, Some, None, option_map, if◌then◌else◌, codes, refl, sym, ap, ◌∙◌, arith, append_assoc, get_or-drop, length-drop}
use Rattle.std.specs.List.{concat}
use Rattle.std.proofs.Math.Seq.{take-add}
use Rattle.std.proofs.lemmas.List.{take_more, take_all, drop_more, drop_all, append-nil}
use Rattle.std.proofs.lemmas.List.Folds.{drop_split}
use Rattle.cal_input.specs.Input.{before_line, lines_of, is_separator, parts_at, input_parts}

-- no line ends in here
abbrev pub IsPlain : List ℕ → Type 0
IsPlain [] = Unit {0}
IsPlain (b ∷ text) = ((b == 10) ≡ false) × IsPlain text

IsPlain-append : (text : List ℕ) (b : ℕ) → IsPlain text → (b == 10) ≡ false → IsPlain (text ++ b ∷ [])
IsPlain-append [] b h e = (e, tt)
IsPlain-append (c ∷ text) b h e = (h.0, IsPlain-append text b h.1 e)

concat-before_line : (b : ℕ) (lines : List (List ℕ)) → concat (before_line b lines) ≡ b ∷ concat lines
concat-before_line b [] = refl
concat-before_line b (line ∷ lines) = refl

concat-one_more : (ends : Bool) (b : ℕ) (lines : List (List ℕ)) → concat (if ends then (b ∷ []) ∷ lines else before_line b lines) ≡ b ∷ concat lines
concat-one_more true b lines = refl
concat-one_more false b lines = concat-before_line b lines

-- the lines end to end are the text
pub concat-lines_of : (text : List ℕ) → concat (lines_of text) ≡ text
unfolding lines_of
concat-lines_of [] = refl
concat-lines_of (b ∷ text) = concat-one_more (b == 10) b (lines_of text) ∙ ap (λ t. b ∷ t) (concat-lines_of text)

-- the first line feed ends the first line
pub lines_of-first : (line text : List ℕ) → IsPlain line → lines_of (line ++ 10 ∷ text) ≡ (line ++ 10 ∷ []) ∷ lines_of text
unfolding lines_of
lines_of-first [] text h = refl
lines_of-first (b ∷ line) text h = rw (h.0, lines_of-first line text h.1) refl

-- without a line feed there is one line
lines_of-plain : (b : ℕ) (line : List ℕ) → IsPlain (b ∷ line) → lines_of (b ∷ line) ≡ (b ∷ line) ∷ []
unfolding lines_of
lines_of-plain b [] h = rw (h.0) refl
lines_of-plain b (c ∷ line) h = rw (h.0, lines_of-plain c line h.1) refl

bytes_eq-plain : (line mark : List ℕ) → IsPlain line → bytes_eq line (mark ++ 10 ∷ []) ≡ false
bytes_eq-plain [] [] h = refl
bytes_eq-plain [] (m ∷ mark) h = refl
bytes_eq-plain (b ∷ line) [] h = rw (h.0) refl
bytes_eq-plain (b ∷ line) (m ∷ mark) h = rw (bytes_eq-plain line mark h.1) (both (b == m))
  where
    both : (v : Bool) → (v && false) ≡ false
    both true = refl
    both false = refl

-- without a line feed there is no separator line
parts_at-plain : (text : List ℕ) → IsPlain text → parts_at (lines_of text) ≡ None
unfolding lines_of parts_at
parts_at-plain [] h = refl
parts_at-plain (b ∷ text) h =
    rw (lines_of-plain b text h, bytes_eq-plain (b ∷ text) (codes "---") h, bytes_eq-plain (b ∷ text) (codes "---\r") h) refl

-- the parts, where these bytes stand before them
abbrev pub in_front : List ℕ → List ℕ × List ℕ → List ℕ × List ℕ
in_front front parts = (front ++ parts.0, parts.1)

abbrev pub parts_behind : List ℕ → List ℕ → Option (List ℕ × List ℕ)
parts_behind front text = option_map (in_front front) (parts_at (lines_of text))

parts_behind-first : (front line text : List ℕ) → IsPlain line → is_separator (line ++ 10 ∷ []) ≡ true
    → parts_behind front (line ++ 10 ∷ text) ≡ Some (front, text)
unfolding parts_at
parts_behind-first front line text h e = rw (lines_of-first line text h, e, concat-lines_of text, append-nil front) refl

parts_behind-other : (front line text : List ℕ) → IsPlain line → is_separator (line ++ 10 ∷ []) ≡ false
    → parts_behind front (line ++ 10 ∷ text) ≡ parts_behind (front ++ (line ++ 10 ∷ [])) text
unfolding parts_at
parts_behind-other front line text h e = rw (lines_of-first line text h, e) (regroup (parts_at (lines_of text)))
  where
    regroup : (parts : Option (List ℕ × List ℕ))
        → option_map (in_front front) (option_map (in_front (line ++ 10 ∷ [])) parts) ≡ option_map (in_front (front ++ (line ++ 10 ∷ []))) parts
    regroup None = refl
    regroup (Some p) = ap (λ (x : List ℕ). Some (x, p.1)) (sym (append_assoc front (line ++ 10 ∷ []) p.0))

-- the line so far, one byte longer
slice_range-more : (text : List ℕ) (start at : ℕ) → start ≤ at → at < length text
    → slice_range text start (at + 1) ≡ slice_range text start at ++ get_or text at 0 ∷ []
slice_range-more text start at le lt =
    let there : at - start < length (drop start text) = omega (arith, length-drop start text) in
    let sum : at + 1 - start ≡ (at - start) + 1 = omega arith in
    let place : start + (at - start) ≡ at = omega arith in
    rw (sum, take_more (drop start text) (at - start) 0 there, get_or-drop start text (at - start) 0, place) refl

-- the text from the start of a line on: the line so far, a byte, and the rest
from_line : (text : List ℕ) (start at : ℕ) → start ≤ at → at < length text
    → drop start text ≡ slice_range text start at ++ get_or text at 0 ∷ drop (at + 1) text
from_line text start at le lt = drop_split text start at le ∙ ap (λ (x : List ℕ). slice_range text start at ++ x) (drop_more text at 0 lt)

up_to_line : (text : List ℕ) (start end : ℕ) → start ≤ end → take end text ≡ take start text ++ slice_range text start end
up_to_line text start end le = let sum : end ≡ start + (end - start) = omega arith in ap (λ n. take n text) sum ∙ take-add start (end - start) text

-- what was found so far: a line begins at `start`, and no line ends from there up to `at`
pub record Found (text : List ℕ) (start at : ℕ) : Type 0 where
  pub in_text : start ≤ at
  pub plain : IsPlain (slice_range text start at)
  pub so_far : input_parts text ≡ parts_behind (take start text) (drop start text)

is_plain : (b : ℕ) → b ≢ 10 → (b == 10) ≡ false
is_plain b ne = grind arith

pub goes_on : (text : List ℕ) (start at : ℕ) → at < length text → get_or text at 0 ≢ 10
    → Found text start at → Found text start (at + 1)
goes_on text start at lt ne f = record {
  in_text = omega (arith, f.in_text);
  plain = rw (slice_range-more text start at f.in_text lt) (IsPlain-append (slice_range text start at) (get_or text at 0) f.plain (is_plain (get_or text at 0) ne));
  so_far = f.so_far;
}

pub next_line : (text : List ℕ) (start at : ℕ) → at < length text → get_or text at 0 ≡ 10
    → is_separator (slice_range text start (at + 1)) ≡ false
    → Found text start at → Found text (at + 1) (at + 1)
next_line text start at lt e other f =
    let line : List ℕ = slice_range text start at in
    let whole : slice_range text start (at + 1) ≡ line ++ 10 ∷ [] = slice_range-more text start at f.in_text lt ∙ ap (λ b. line ++ b ∷ []) e in
    let from : drop start text ≡ line ++ 10 ∷ drop (at + 1) text = from_line text start at f.in_text lt ∙ ap (λ b. line ++ b ∷ drop (at + 1) text) e in
    let behind : take (at + 1) text ≡ take start text ++ (line ++ 10 ∷ []) =
    up_to_line text start (at + 1) (omega (arith, f.in_text)) ∙ ap (λ (x : List ℕ). take start text ++ x) whole in
    let no : is_separator (line ++ 10 ∷ []) ≡ false = rw whole at other in
    let nothing : (at + 1) - (at + 1) ≡ 0 = omega arith in
    record {
      in_text = omega arith;
      plain = rw nothing tt;
      so_far = f.so_far ∙ ap (λ (x : List ℕ). parts_behind (take start text) x) from
          ∙ parts_behind-other (take start text) line (drop (at + 1) text) f.plain no
          ∙ ap (λ (x : List ℕ). parts_behind x (drop (at + 1) text)) (sym behind);
    }

pub is_here : (text : List ℕ) (start at : ℕ) → at < length text → get_or text at 0 ≡ 10
    → is_separator (slice_range text start (at + 1)) ≡ true
    → Found text start at → Some (take start text, take (length text - (at + 1)) (drop (at + 1) text)) ≡ input_parts text
is_here text start at lt e here f =
    let line : List ℕ = slice_range text start at in
    let whole : slice_range text start (at + 1) ≡ line ++ 10 ∷ [] = slice_range-more text start at f.in_text lt ∙ ap (λ b. line ++ b ∷ []) e in
    let from : drop start text ≡ line ++ 10 ∷ drop (at + 1) text = from_line text start at f.in_text lt ∙ ap (λ b. line ++ b ∷ drop (at + 1) text) e in
    let yes : is_separator (line ++ 10 ∷ []) ≡ true = rw whole at here in
    let rest : take (length text - (at + 1)) (drop (at + 1) text) ≡ drop (at + 1) text = take_all (length text - (at + 1)) (drop (at + 1) text) (omega (arith, length-drop (at + 1) text)) in
    rw rest (sym (f.so_far ∙ ap (λ (x : List ℕ). parts_behind (take start text) x) from
    ∙ parts_behind-first (take start text) line (drop (at + 1) text) f.plain yes))

pub is_nowhere : (text : List ℕ) (start at : ℕ) → length text ≤ at → Found text start at → None ≡ input_parts text
is_nowhere text start at le f =
    let last : drop start text ≡ slice_range text start at =
    drop_split text start at f.in_text ∙ ap (λ (x : List ℕ). slice_range text start at ++ x) (drop_all at text le) ∙ append-nil (slice_range text start at) in
    let none : parts_at (lines_of (slice_range text start at)) ≡ None = parts_at-plain (slice_range text start at) f.plain in
    sym (f.so_far ∙ ap (λ (x : List ℕ). parts_behind (take start text) x) last ∙ rw none refl)
