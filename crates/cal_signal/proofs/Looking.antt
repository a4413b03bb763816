-- The steps of an observer keep the rule of a page.
use Rattle.cal_signal.proofs.Common.{◌≡◌, ◌≢◌, ℕ, ◌+◌, ◌/◌, ◌%◌, ◌<◌, ◌≤◌, true, List, [], ◌∷◌, ◌++◌, length, get_or, sym, refl, ap, ◌∙◌, subst, arith, le_refl, get_or_append_left, get_or_push, ext_get_or, length_push, dite, none, some, get_elem?, State, Me, step, keeps, Allows, View, last_from, FitsFrom, floor_from, sees, Kept, started, peeked, ended}
use native.Mathlib.Decide.{ℕ_discrete}
use Rattle.cal_signal.proofs.PageLists.{last_at, fits_floor, fits_snoc}
use Rattle.cal_signal.proofs.Keeping as keeping

module _ {T : Type 0} (words : T → List ℕ) (of : List ℕ → T) (n : ℕ) (follows : T → T → Type 0) (first : T) where
  abbrev V : Type 0
  V = View T

  abbrev St : Type 0
  St = State (Unit {0}) V

  abbrev M : Type 0
  M = Me (Unit {0}) V

  abbrev Rule : St → Type 0
  Rule = Kept words n follows first

  abbrev version : St → ℕ
  version s = get_or s.words 0 0

  -- the first version load
  pub starts : (slots id : ℕ) (me : M) → Allows Rule slots id me 0 (λ x. x) (started (step slots 0 0 0 none) me)
  starts slots id me s r _ at _ = let x : ℕ = version s in let w : V = record me.0 { loads = me.0.loads ++ x ∷ []; first = x; read = [] } in let k = r.each_seat id me.0 at in (
    w,
    keeps,
    tt,
    keeping.unmoved words n follows first s r 0 id me.1 me.0 w at (refl, refl, refl) record {
      as_publisher = k.as_publisher;
      as_observer = λ h. let o = k.as_observer h in record {
        below = keeping.below_snoc words n follows first me.0.loads x x (le_refl x) o.below;
        first = le_refl x;
        short = omega arith;
        same = λ _ _ i l. absurd (omega arith);
        fits = o.fits;
      };
    },
    refl,
  )

  -- a word load
  pub peeks : (slots id : ℕ) (me : M) (i : ℕ) → i ≡ length me.0.read → i < n → Allows Rule slots id me (i + 1) (λ x. x) (peeked (step slots (i + 1) 0 0 none) me)
  peeks slots id me i is inside s r _ at _ = let x : ℕ = get_or s.words (i + 1) 0 in let w : V = record me.0 { read = me.0.read ++ x ∷ [] } in let k = r.each_seat id me.0 at in (
    w,
    keeps,
    tt,
    keeping.unmoved words n follows first s r (i + 1) id me.1 me.0 w at (refl, refl, refl) record {
      as_publisher = k.as_publisher;
      as_observer = λ h. let o = k.as_observer h in record {
        below = o.below;
        first = o.first;
        short = let e = length_push me.0.read x in omega arith;
        same = λ same even j l. let e = length_push me.0.read x in let none_stored : length r.stored ≡ 0 = r.at_rest even in dite (ℕ_discrete j i)
            (λ (t : j ≡ i). ap (λ (z : ℕ). get_or (me.0.read ++ x ∷ []) z 0) t ∙ (get_or_push me.0.read x 0 i (sym is) ∙ (r.unwritten i (omega arith) inside ∙ ap (λ (z : ℕ). get_or (words (last_from first r.published)) z 0) (sym t))))
            (λ (t : j ≢ i). get_or_append_left me.0.read (x ∷ []) 0 j (omega arith) ∙ o.same same even j (omega arith));
        fits = o.fits;
      };
    },
    refl,
  )

  -- the second version load
  pub ends : (slots id : ℕ) (me : M) → ((x : T) → of (words x) ≡ x) → ((x : T) → length (words x) ≡ n) → sees me.0 ≡ true → me.0.first % 2 ≡ 0 → length me.0.read ≡ n
      → Allows Rule slots id me 0 (λ x. x) (ended of follows first (step slots 0 0 0 none) me)
  ends slots id me back width part even all s r _ at _ = let x : ℕ = version s in let k = r.each_seat id me.0 at in let o = k.as_observer part in let up = o.first in
      dite (ℕ_discrete x me.0.first)
      (λ (hit : x ≡ me.0.first).
      let final : T = last_from first r.published in
      let w : V = record me.0 { loads = me.0.loads ++ x ∷ []; looks = me.0.looks ++ (x / 2, of me.0.read) ∷ [] } in
      let still : x % 2 ≡ 0 = ap (λ (z : ℕ). z % 2) hit ∙ even in
      let wide : length (words final) ≡ n = width final in
      let same : me.0.read ≡ words final = ext_get_or 0 me.0.read (words final) (all ∙ sym wide) (o.same (sym hit) still) in
      let whole : of me.0.read ≡ final = ap of same ∙ back final in
      let there : get_elem? (first ∷ r.published) (x / 2) ≡ some (of me.0.read) = subst (λ (z : ℕ × T). get_elem? (first ∷ r.published) z.0 ≡ some z.1) (λ i. (sym r.place i, sym whole i)) (last_at first r.published) in
      let floor : floor_from 0 me.0.looks < length (first ∷ r.published) = fits_floor (first ∷ r.published) 0 me.0.looks (omega arith) o.fits in
      let place : x / 2 ≡ length r.published = r.place in
      let low : floor_from 0 me.0.looks ≤ x / 2 = omega arith in
      let fits : FitsFrom (first ∷ r.published) 0 w.looks = fits_snoc (first ∷ r.published) 0 me.0.looks (x / 2) (of me.0.read) o.fits low there in (
        w,
        keeps,
        tt,
        keeping.unmoved words n follows first s r 0 id me.1 me.0 w at (refl, refl, refl) record {
          as_publisher = k.as_publisher;
          as_observer = λ _. record { below = keeping.below_snoc words n follows first me.0.loads x x (le_refl x) o.below; first = o.first; short = o.short; same = o.same; fits = fits };
        },
        (up, (λ _. (refl, (first ∷ r.published, (refl, r.page), fits), low)), λ miss. absurd (miss hit)),
      ))
      (λ (miss : x ≢ me.0.first).
      let w : V = record me.0 { loads = me.0.loads ++ x ∷ [] } in (
        w,
        keeps,
        tt,
        keeping.unmoved words n follows first s r 0 id me.1 me.0 w at (refl, refl, refl) record {
          as_publisher = k.as_publisher;
          as_observer = λ _. record { below = keeping.below_snoc words n follows first me.0.loads x x (le_refl x) o.below; first = o.first; short = o.short; same = o.same; fits = o.fits };
        },
        (up, (λ hit. absurd (miss hit)), λ _. refl),
      ))
