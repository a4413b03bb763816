-- A part stands in just one view, whatever the step.
use Rattle.cal_signal.proofs.Common.{◌≡◌, ◌≢◌, ℕ, zero, suc, ◌<◌, Bool, true, false, true≢false, ◌⊎◌, inl, inr, List, [], ◌∷◌, ◌++◌, length, set, sym, refl, ap, ◌∙◌, subst, ⊎_elim, arith, length-set, length_push, ◌↔◌, some, some-injective, some-ne-none, get_elem?, at_set, set_else, View, Sole}
use Rattle.cal_signal.proofs.PageLists.{at_below}
use Rattle.std.proofs.lemmas.Bool.{cases_Bool}

-- a member of a list with one more is an old one or the new one
pub at_grown : {A : Type 0} (l : List A) (a b : A) (j : ℕ) → get_elem? (l ++ a ∷ []) j ≡ some b → (get_elem? l j ≡ some b) ⊎ ((j ≡ length l) × (a ≡ b))
at_grown [] a b zero e = inr (refl, some-injective a b e)
at_grown [] a b (suc j) e = absurd (some-ne-none b (sym e))
at_grown (x ∷ xs) a b zero e = inl e
at_grown (x ∷ xs) a b (suc j) e = ⊎_elim (λ t. inl t) (λ t. inr (ap suc t.0, t.1)) (at_grown xs a b j e)

module _ {T : Type 0} where
  -- a view that is set keeps the part that it had, and gets no other
  pub sole_set : (part : View T → Bool) (vs : List (View T)) (me : ℕ) (v w : View T) → get_elem? vs me ≡ some v → part w ≡ part v → Sole part vs → Sole part (set vs me w)
  sole_set part vs me v w at same sole = (
    sole.0,
    subst (λ (k : ℕ). sole.0 < k) (sym (length-set vs me w)) sole.1,
    λ j d e. ⊎_elim
        (λ (t : (j ≡ me) × (w ≡ d)). subst (λ (x : ℕ × View T). (part x.1 ≡ true) ↔ (x.0 ≡ sole.0)) (λ i. (sym t.0 i, t.1 i)) (let old = sole.2 me v at in ((λ h. old.0 (sym same ∙ h)), (λ h. same ∙ old.1 h))))
        (λ (t : (j ≢ me) × (get_elem? vs j ≡ some d)). sole.2 j d t.1) (at_set vs me j w d e),
  )

  -- a new view gets no part
  pub sole_grown : (part : View T → Bool) (vs : List (View T)) (w : View T) → part w ≡ false → Sole part vs → Sole part (vs ++ w ∷ [])
  sole_grown part vs w none sole = (
    sole.0,
    let longer = length_push vs w in let inside = sole.1 in omega arith,
    λ j d e. ⊎_elim (λ t. sole.2 j d t)
        (λ (t : (j ≡ length vs) × (w ≡ d)). let inside = sole.1 in ((λ h. absurd (true≢false (sym h ∙ (sym (ap part t.1) ∙ none)))), (λ (h : j ≡ sole.0). let here : j ≡ length vs = t.0 in absurd (omega arith))))
        (at_grown vs w d j e),
  )

  -- the part goes from the view me to a new one
  pub sole_cut : (part : View T → Bool) (vs : List (View T)) (me : ℕ) (v left right : View T) → get_elem? vs me ≡ some v → part v ≡ true → part left ≡ false → part right ≡ true → Sole part vs → Sole part (set vs me left ++ right ∷ [])
  sole_cut part vs me v left right at had lost got sole = let mine : me ≡ sole.0 = (sole.2 me v at).0 had in let wide = length-set vs me left in (
    length (set vs me left),
    let longer = length_push (set vs me left) right in omega arith,
    λ j d e. ⊎_elim
        (λ (t : get_elem? (set vs me left) j ≡ some d). let inside = at_below (set vs me left) j d t in (
          (λ (h : part d ≡ true). ⊎_elim (λ (u : (j ≡ me) × (left ≡ d)). absurd (true≢false (sym h ∙ (sym (ap part u.1) ∙ lost))))
              (λ (u : (j ≢ me) × (get_elem? vs j ≡ some d)). absurd (u.0 ((sole.2 j d u.1).0 h ∙ sym mine))) (at_set vs me j left d t)),
          (λ (h : j ≡ length (set vs me left)). absurd (omega arith)),
        ))
        (λ (t : (j ≡ length (set vs me left)) × (right ≡ d)). ((λ _. t.0), (λ _. sym (ap part t.1) ∙ got)))
        (at_grown (set vs me left) right d j e),
  )

  -- a cut leaves a part that was not there where it was
  pub sole_cut_beside : (part : View T → Bool) (vs : List (View T)) (me : ℕ) (v left right : View T) → get_elem? vs me ≡ some v → part left ≡ part v → part right ≡ false → Sole part vs → Sole part (set vs me left ++ right ∷ [])
  sole_cut_beside part vs me v left right at same none sole = sole_grown part (set vs me left) right none (sole_set part vs me v left at same sole)

  -- the part goes from the view other to the view me
  pub sole_moved : (part : View T → Bool) (vs : List (View T)) (me other : ℕ) (v w both spent : View T) → get_elem? vs me ≡ some v → other ≢ me → get_elem? (set vs me both) other ≡ some w → part w ≡ true → part both ≡ true → part spent ≡ false → Sole part vs
      → Sole part (set (set vs me both) other spent)
  sole_moved part vs me other v w both spent at apart there had got lost sole =
      let theirs : other ≡ sole.0 = (sole.2 other w (sym (set_else vs me other both apart) ∙ there)).0 had in
      let wide = length-set (set vs me both) other spent in let wide' = length-set vs me both in (
        me,
        let inside = at_below vs me v at in omega arith,
        λ j d e. ⊎_elim
            (λ (t : (j ≡ other) × (spent ≡ d)). (
              (λ (h : part d ≡ true). absurd (true≢false (sym h ∙ (sym (ap part t.1) ∙ lost)))),
              (λ (h : j ≡ me). absurd (apart (sym t.0 ∙ h))),
            ))
            (λ (t : (j ≢ other) × (get_elem? (set vs me both) j ≡ some d)). ⊎_elim
            (λ (u : (j ≡ me) × (both ≡ d)). ((λ (h : part d ≡ true). u.0), (λ (h : j ≡ me). sym (ap part u.1) ∙ got)))
            (λ (u : (j ≢ me) × (get_elem? vs j ≡ some d)). ((λ (h : part d ≡ true). absurd (t.0 ((sole.2 j d u.1).0 h ∙ sym theirs))), (λ (h : j ≡ me). absurd (u.0 h)))) (at_set vs me j both d t.1))
            (at_set (set vs me both) other j spent d e),
      )

  -- a cut by which the new view gets the part, where there is one
  pub sole_split : (part : View T → Bool) (vs : List (View T)) (me : ℕ) (v left right : View T) → get_elem? vs me ≡ some v → part left ≡ false → part right ≡ part v → Sole part vs → Sole part (set vs me left ++ right ∷ [])
  sole_split part vs me v left right at lost got sole = ⊎_elim
      (λ (had : part v ≡ true). sole_cut part vs me v left right at had lost (got ∙ had) sole)
      (λ (none : part v ≡ false). sole_cut_beside part vs me v left right at (lost ∙ sym none) (got ∙ none) sole)
      (cases_Bool (part v))

  -- a join by which the view me gets the part that the other has, where there is one
  pub sole_joined : (part : View T → Bool) (vs : List (View T)) (me other : ℕ) (v w both spent : View T) → get_elem? vs me ≡ some v → other ≢ me → get_elem? (set vs me both) other ≡ some w → part v ≡ false → part both ≡ part w → part spent ≡ false → Sole part vs
      → Sole part (set (set vs me both) other spent)
  sole_joined part vs me other v w both spent at apart there without same lost sole = ⊎_elim
      (λ (had : part w ≡ true). sole_moved part vs me other v w both spent at apart there had (same ∙ had) lost sole)
      (λ (none : part w ≡ false). sole_set part (set vs me both) other w spent there (lost ∙ sym none) (sole_set part vs me v both at (same ∙ (none ∙ sym without)) sole))
      (cases_Bool (part w))

  -- a join by which the view me keeps the part
  pub sole_kept : (part : View T → Bool) (vs : List (View T)) (me other : ℕ) (v w both spent : View T) → get_elem? vs me ≡ some v → other ≢ me → get_elem? (set vs me both) other ≡ some w → part v ≡ true → part both ≡ true → part spent ≡ false → Sole part vs
      → Sole part (set (set vs me both) other spent)
  sole_kept part vs me other v w both spent at apart there had keeps lost sole = ⊎_elim
      (λ (too : part w ≡ true). absurd (apart ((sole.2 other w (sym (set_else vs me other both apart) ∙ there)).0 too ∙ sym ((sole.2 me v at).0 had))))
      (λ (none : part w ≡ false). sole_set part (set vs me both) other w spent there (lost ∙ sym none) (sole_set part vs me v both at (keeps ∙ sym had) sole))
      (cases_Bool (part w))
