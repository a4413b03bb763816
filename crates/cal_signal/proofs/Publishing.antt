-- The steps of a publisher keep the rule of a page.
use Rattle.cal_signal.proofs.Common.{◌≡◌, ◌≢◌, ℕ, ◌+◌, ◌/◌, ◌%◌, ◌<◌, true, List, [], ◌∷◌, ◌++◌, length, get_or, set, sym, refl, ap, ◌∙◌, subst, arith, length-set, get_or-set_other, get_or-set_same, get_or_append_left, get_or_push, length_push, dite, none, some, get_elem?, State, Me, step, keeps, Allows, View, last_from, FitsFrom, Knows, Kept, opened, wrote, spared, closed}
use native.Mathlib.Decide.{ℕ_discrete}
use Rattle.cal_signal.proofs.PageLists.{last_snoc, chain_snoc, fits_more}
use Rattle.cal_signal.proofs.Parting.{sole_set}
use Rattle.cal_signal.proofs.Keeping as keeping

module _ {T : Type 0} (words : T → List ℕ) (of : List ℕ → T) (n : ℕ) (follows : T → T → Type 0) (first : T) where
  abbrev V : Type 0
  V = View T

  abbrev St : Type 0
  St = State (Unit {0}) V

  abbrev M : Type 0
  M = Me (Unit {0}) V

  abbrev Rule : St → Type 0
  Rule = Kept words n follows first

  abbrev version : St → ℕ
  version s = get_or s.words 0 0

  -- no other seat has the publisher's part
  others : (s : St) (r : Rule s) (id : ℕ) (v : V) → get_elem? s.views id ≡ some v → v.publishes ≡ true → (j : ℕ) (d : V) → j ≢ id → get_elem? s.views j ≡ some d → d.publishes ≢ true
  others s r id v at publishes j d apart e h = apart ((r.publisher.2 j d e).0 h ∙ sym ((r.publisher.2 id v at).0 publishes))

  -- the open store
  pub opens : (slots id : ℕ) (me : M) (odd : ℕ) → me.0.publishes ≡ true → me.0.version % 2 ≡ 0 → odd ≡ me.0.version + 1
      → Allows Rule slots id me 0 (λ _. odd) (λ _. opened (step slots 0 odd 0 none) me odd)
  opens slots id me odd publishes even is s r _ at _ = let x : ℕ = version s in let w : V = record me.0 { version = odd } in let k = r.each_seat id me.0 at in let p = k.as_publisher publishes in
      let same : me.0.version ≡ x = p.0 in let none_stored : length r.stored ≡ 0 = r.at_rest (ap (λ (z : ℕ). z % 2) (sym same) ∙ even) in let wide = r.wide in
      let now : get_or (set s.words 0 odd) 0 0 ≡ odd = get_or-set_same s.words 0 odd 0 (omega arith) in let place = r.place in (
        w,
        keeps,
        tt,
        record {
          published = r.published;
          stored = r.stored;
          wide = length-set s.words 0 odd ∙ wide;
          page = r.page;
          place = let e : get_or (set s.words 0 odd) 0 0 / 2 ≡ odd / 2 = ap (λ (z : ℕ). z / 2) now in e ∙ omega arith;
          at_rest = λ _. none_stored;
          short = r.short;
          written = λ i l. absurd (omega arith);
          unwritten = λ i l m. get_or-set_other s.words 0 (i + 1) odd 0 (λ e. omega arith) ∙ r.unwritten i l m;
          publisher = sole_set (λ v. v.publishes) s.views id me.0 w at refl r.publisher;
          observer = sole_set (λ v. v.observes) s.views id me.0 w at refl r.observer;
          watcher = sole_set (λ v. v.watches) s.views id me.0 w at refl r.watcher;
          each_seat = subst (λ (z : ℕ). (j : ℕ) (d : V) → get_elem? (set s.views id w) j ≡ some d → Knows words n first z r.published r.stored d) (sym now)
              (keeping.seats_stay words n follows first (Knows words n first odd r.published r.stored) s.views id w
              record { as_publisher = λ _. (refl, p.1, p.2); as_observer = λ h. keeping.raised words n follows first x odd r.published r.published w (omega arith) (λ f. f) (let o = k.as_observer h in record { below = o.below; first = o.first; short = o.short; same = o.same; fits = o.fits }) }
              (λ j d other e. let q = r.each_seat j d e in record { as_publisher = λ h. absurd (others s r id me.0 at publishes j d other e h); as_observer = λ h. keeping.raised words n follows first x odd r.published r.published d (omega arith) (λ f. f) (q.as_observer h) }));
        },
        refl,
      )

  -- a word store
  pub writes : (slots id : ℕ) (me : M) (i b : ℕ) → me.0.publishes ≡ true → me.0.version % 2 ≡ 1 → i ≡ length me.0.stored → i < n
      → Allows Rule slots id me (i + 1) (λ _. b) (λ _. wrote (step slots (i + 1) b 0 none) me b)
  writes slots id me i b publishes odd is inside s r _ at _ = let x : ℕ = version s in let w : V = record me.0 { stored = me.0.stored ++ b ∷ [] } in let k = r.each_seat id me.0 at in let p = k.as_publisher publishes in
      let same : me.0.version ≡ x = p.0 in let wide = r.wide in let one_more : length (r.stored ++ b ∷ []) ≡ length r.stored + 1 = length_push r.stored b in
      let count : i ≡ length r.stored = is ∙ ap length p.2 in
      let still : get_or (set s.words (i + 1) b) 0 0 ≡ x = get_or-set_other s.words (i + 1) 0 b 0 (λ e. omega arith) in let odd' : x % 2 ≡ 1 = ap (λ (z : ℕ). z % 2) (sym same) ∙ odd in (
        w,
        keeps,
        tt,
        record {
          published = r.published;
          stored = r.stored ++ b ∷ [];
          wide = length-set s.words (i + 1) b ∙ wide;
          page = r.page;
          place = ap (λ (z : ℕ). z / 2) still ∙ r.place;
          at_rest = λ even. let e : x % 2 ≡ 0 = ap (λ (z : ℕ). z % 2) (sym still) ∙ even in absurd (omega arith);
          short = omega arith;
          written = λ j l. dite (ℕ_discrete j i)
              (λ (t : j ≡ i). ap (λ (z : ℕ). get_or (set s.words (i + 1) b) (z + 1) 0) t ∙ (get_or-set_same s.words (i + 1) b 0 (omega arith) ∙ sym (get_or_push r.stored b 0 j (sym (t ∙ count)))))
              (λ (t : j ≢ i). get_or-set_other s.words (i + 1) (j + 1) b 0 (λ e. t (omega arith)) ∙ (r.written j (omega arith) ∙ sym (get_or_append_left r.stored (b ∷ []) 0 j (omega arith))));
          unwritten = λ j l m. get_or-set_other s.words (i + 1) (j + 1) b 0 (λ e. omega arith) ∙ r.unwritten j (omega arith) m;
          publisher = sole_set (λ v. v.publishes) s.views id me.0 w at refl r.publisher;
          observer = sole_set (λ v. v.observes) s.views id me.0 w at refl r.observer;
          watcher = sole_set (λ v. v.watches) s.views id me.0 w at refl r.watcher;
          each_seat = subst (λ (z : ℕ). (j : ℕ) (d : V) → get_elem? (set s.views id w) j ≡ some d → Knows words n first z r.published (r.stored ++ b ∷ []) d) (sym still)
              (keeping.seats_stay words n follows first (Knows words n first x r.published (r.stored ++ b ∷ [])) s.views id w
              record { as_publisher = λ _. (p.0, p.1, ap (λ (l : List ℕ). l ++ b ∷ []) p.2); as_observer = λ h. let o = k.as_observer h in record { below = o.below; first = o.first; short = o.short; same = o.same; fits = o.fits } }
              (λ j d other e. let q = r.each_seat j d e in record { as_publisher = λ h. absurd (others s r id me.0 at publishes j d other e h); as_observer = q.as_observer }));
        },
        refl,
      )

  -- a load in place of a store
  pub spares : (slots id : ℕ) (me : M) (i : ℕ) → me.0.publishes ≡ true → me.0.version % 2 ≡ 1 → i ≡ length me.0.stored → i < n
      → Allows Rule slots id me (i + 1) (λ x. x) (spared words first (step slots (i + 1) 0 0 none) me)
  spares slots id me i publishes odd is inside s r homes at fits = let x : ℕ = get_or s.words (i + 1) 0 in let p = (r.each_seat id me.0 at).as_publisher publishes in
      let count : i ≡ length r.stored = is ∙ ap length p.2 in let stored = writes slots id me i x publishes odd is inside s r homes at fits in (
        stored.0,
        stored.1,
        stored.2,
        stored.3,
        (r.unwritten i (omega arith) inside ∙ ap (λ (z : List T × ℕ). get_or (words (last_from first z.0)) z.1 0) (λ j. (sym p.1 j, is j)), stored.4),
      )

  -- the closing store
  pub closes : (slots id : ℕ) (me : M) (even : ℕ) → ((ws : List ℕ) → length ws ≡ n → words (of ws) ≡ ws) → me.0.publishes ≡ true → me.0.version % 2 ≡ 1 → even ≡ me.0.version + 1 → length me.0.stored ≡ n
      → follows (last_from first me.0.published) (of me.0.stored) → Allows Rule slots id me 0 (λ _. even) (λ _. closed of (step slots 0 even 0 none) me even)
  closes slots id me even forth publishes odd is all may s r _ at _ = let x : ℕ = version s in let k = r.each_seat id me.0 at in let p = k.as_publisher publishes in
      let new : T = of me.0.stored in let page : List T = r.published ++ new ∷ [] in
      let w : V = record me.0 { version = even; stored = []; published = me.0.published ++ new ∷ [] } in
      let same : me.0.version ≡ x = p.0 in let wide = r.wide in let place = r.place in
      let count : length r.stored ≡ n = ap length (sym p.2) ∙ all in
      let now : get_or (set s.words 0 even) 0 0 ≡ even = get_or-set_same s.words 0 even 0 (omega arith) in
      let odd' : x % 2 ≡ 1 = ap (λ (z : ℕ). z % 2) (sym same) ∙ odd in
      let longer : length page ≡ length r.published + 1 = length_push r.published new in
      let last : words (last_from first page) ≡ r.stored = ap words (last_snoc first r.published new) ∙ (forth me.0.stored all ∙ p.2) in
      let more : (d : V) → FitsFrom (first ∷ r.published) 0 d.looks → FitsFrom (first ∷ page) 0 d.looks = λ d. fits_more (first ∷ r.published) (new ∷ []) 0 d.looks in (
        w,
        keeps,
        tt,
        record {
          published = page;
          stored = [];
          wide = length-set s.words 0 even ∙ wide;
          page = chain_snoc follows first r.published new r.page (subst (λ (l : List T). follows (last_from first l) new) p.1 may);
          place = let e : get_or (set s.words 0 even) 0 0 / 2 ≡ even / 2 = ap (λ (z : ℕ). z / 2) now in e ∙ omega arith;
          at_rest = λ _. refl;
          short = omega arith;
          written = λ i l. absurd (omega arith);
          unwritten = λ i _ m. get_or-set_other s.words 0 (i + 1) even 0 (λ e. omega arith) ∙ (r.written i (omega arith) ∙ ap (λ (l : List ℕ). get_or l i 0) (sym last));
          publisher = sole_set (λ v. v.publishes) s.views id me.0 w at refl r.publisher;
          observer = sole_set (λ v. v.observes) s.views id me.0 w at refl r.observer;
          watcher = sole_set (λ v. v.watches) s.views id me.0 w at refl r.watcher;
          each_seat = subst (λ (z : ℕ). (j : ℕ) (d : V) → get_elem? (set s.views id w) j ≡ some d → Knows words n first z page [] d) (sym now)
              (keeping.seats_stay words n follows first (Knows words n first even page []) s.views id w
              record { as_publisher = λ _. (refl, ap (λ (l : List T). l ++ new ∷ []) p.1, refl); as_observer = λ h. keeping.raised words n follows first x even r.published page w (omega arith) (more w) (let o = k.as_observer h in record { below = o.below; first = o.first; short = o.short; same = o.same; fits = o.fits }) }
              (λ j d other e. let q = r.each_seat j d e in record { as_publisher = λ h. absurd (others s r id me.0 at publishes j d other e h); as_observer = λ h. keeping.raised words n follows first x even r.published page d (omega arith) (more d) (q.as_observer h) }));
        },
        refl,
      )
