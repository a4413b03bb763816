-- A list with an element that is no image is the image of no list.
use Rattle.caladan_c.proofs.Common.{◌≡◌, ℕ, List, Option, Some, None, map, slice_get, sym, ap, ◌∙◌, is_some, option_map, unwrap_or, slice_get-map}
use mathlib.Core.Bool.{true≢false}

-- what is kept of an element is an image of one
image_of : {A B : Type 0} (f : A → B) (x : Option A) (y : B) → option_map f x ≡ Some y → ((x : A) → f x ≡ y → ⊥) → ⊥
image_of f (Some x) y e never = never x (ap (λ o. unwrap_or o y) e)
image_of f None y e never = true≢false (sym (ap is_some e))

pub none_such : {A B : Type 0} (f : A → B) (xs : List A) (ys : List B) (k : ℕ) (y : B)
    → slice_get ys k ≡ Some y → ((x : A) → f x ≡ y → ⊥) → map f xs ≡ ys → ⊥
none_such f xs ys k y at never e = image_of f (slice_get xs k) y (sym (slice_get-map f xs k) ∙ ap (λ l. slice_get l k) e ∙ at) never

image_of_both : {A B C : Type 0} (f : A → B) (g : A → C) (x : Option A) (y : B) (z : C)
    → option_map f x ≡ Some y → option_map g x ≡ Some z → ((x : A) → f x ≡ y → g x ≡ z → ⊥) → ⊥
image_of_both f g (Some x) y z e d never = never x (ap (λ o. unwrap_or o y) e) (ap (λ o. unwrap_or o z) d)
image_of_both f g None y z e d never = true≢false (sym (ap is_some e))

-- two lists with elements at one place that are no images of one are the images of no list
pub none_such_both : {A B C : Type 0} (f : A → B) (g : A → C) (xs : List A) (ys : List B) (zs : List C) (k : ℕ) (y : B) (z : C)
    → slice_get ys k ≡ Some y → slice_get zs k ≡ Some z → ((x : A) → f x ≡ y → g x ≡ z → ⊥) → map f xs ≡ ys → map g xs ≡ zs → ⊥
none_such_both f g xs ys zs k y z at also never e d =
    image_of_both f g (slice_get xs k) y z (sym (slice_get-map f xs k) ∙ ap (λ l. slice_get l k) e ∙ at)
    (sym (slice_get-map g xs k) ∙ ap (λ l. slice_get l k) d ∙ also) never
