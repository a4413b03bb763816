-- Making a page, and the splits and joins of its seats, keep its rule.
use Rattle.cal_signal.proofs.Common.{◌≡◌, ℕ, zero, suc, ◌+◌, ◌/◌, ◌<◌, ◌≤◌, ◌||◌, true, false, List, [], ◌∷◌, length, get_or, set, sym, refl, ap, ◌∙◌, subst, ⊎_elim, arith, none, some, some-injective, some-ne-none, get_elem?, State, Me, step, keeps, opening, Allows, Splits, Joins, at_snoc, set_else, View, Chain, last_from, FitsFrom, floor_from, sees, Observes, Knows, Kept, opening_view, no_part, publisher_part, observer_part, without_watcher, watcher_part, both_parts, both_looking, both_reading, learned}
use Rattle.cal_signal.proofs.PageLists.{last_at, fits_floor, fits_snoc}
use Rattle.cal_signal.proofs.Parting.{sole_cut_beside, sole_split, sole_joined, sole_kept}
use Rattle.cal_signal.proofs.Keeping as keeping

-- a list of one has that one alone
only : {T : Type 0} (v : View T) (j : ℕ) (d : View T) → get_elem? (v ∷ []) j ≡ some d → (j ≡ 0) × (v ≡ d)
only v zero d e = (refl, some-injective v d e)
only v (suc j) d e = absurd (some-ne-none d (sym e))

module _ {T : Type 0} (words : T → List ℕ) (of : List ℕ → T) (n : ℕ) (follows : T → T → Type 0) (first : T) where
  abbrev V : Type 0
  V = View T

  abbrev St : Type 0
  St = State (Unit {0}) V

  abbrev M : Type 0
  M = Me (Unit {0}) V

  abbrev Rule : St → Type 0
  Rule = Kept words n follows first

  abbrev version : St → ℕ
  version s = get_or s.words 0 0

  -- the split in publisher and observer
  pub splits : (id : ℕ) (v : V) → Splits Rule id v (publisher_part v) (observer_part v)
  splits id v s r at = let K = Knows words n first (version s) r.published r.stored in let k = r.each_seat id v at in keeping.reseated words n follows first s r _ _
      (sole_cut_beside (λ x. x.publishes) s.views id v (publisher_part v) (observer_part v) at refl refl r.publisher)
      (sole_split (λ x. x.observes) s.views id v (publisher_part v) (observer_part v) at refl refl r.observer)
      (sole_split (λ x. x.watches) s.views id v (publisher_part v) (observer_part v) at refl refl r.watcher)
      (λ j d e. ⊎_elim
      (keeping.seats_stay words n follows first K s.views id (publisher_part v) record { as_publisher = k.as_publisher; as_observer = λ h. cc } (λ i x _. r.each_seat i x) j d)
      (λ (t : observer_part v ≡ d). subst K t record { as_publisher = λ h. cc; as_observer = λ h. let o = k.as_observer h in record { below = o.below; first = o.first; short = o.short; same = o.same; fits = o.fits } })
      (at_snoc (set s.views id (publisher_part v)) (observer_part v) d j e))

  -- the split that cuts off the second observer, of a view that has both observers' parts
  pub splits_watcher : (id : ℕ) (v : V) → v.observes ≡ true → v.watches ≡ true → Splits Rule id v (without_watcher v) (watcher_part v)
  splits_watcher id v observes watches s r at = let K = Knows words n first (version s) r.published r.stored in let k = r.each_seat id v at in
      let o = k.as_observer (ap (λ b. b || v.watches) observes) in keeping.reseated words n follows first s r _ _
      (sole_cut_beside (λ x. x.publishes) s.views id v (without_watcher v) (watcher_part v) at refl refl r.publisher)
      (sole_cut_beside (λ x. x.observes) s.views id v (without_watcher v) (watcher_part v) at refl refl r.observer)
      (sole_split (λ x. x.watches) s.views id v (without_watcher v) (watcher_part v) at refl refl r.watcher)
      (λ j d e. ⊎_elim
      (keeping.seats_stay words n follows first K s.views id (without_watcher v) record { as_publisher = k.as_publisher; as_observer = λ h. record { below = o.below; first = o.first; short = o.short; same = o.same; fits = o.fits } } (λ i x _. r.each_seat i x) j d)
      (λ (t : watcher_part v ≡ d). subst K t record { as_publisher = λ h. cc; as_observer = λ h. record { below = o.below; first = o.first; short = o.short; same = o.same; fits = o.fits } })
      (at_snoc (set s.views id (without_watcher v)) (watcher_part v) d j e))

  -- a seat with the publisher's part alone takes in an observer's, whose part of the new view may
  -- have learned more
  joins_as : (id : ℕ) (v : V) (other : ℕ) (w both : V) → v.publishes ≡ true → v.observes ≡ false → v.watches ≡ false → sees w ≡ true
      → (both.publishes ≡ true) × (both.observes ≡ w.observes) × (both.watches ≡ w.watches) × (both.version ≡ v.version) × (both.published ≡ v.published) × (both.stored ≡ v.stored)
      → ((x : ℕ) (page : List T) → v.version ≡ x → v.published ≡ page → x / 2 ≡ length page → Observes words n first x page w → Observes words n first x page both) → Joins Rule id v other w both no_part
  joins_as id v other w both publishes blind unwatching part same more s r at apart there = let K = Knows words n first (version s) r.published r.stored in let p = (r.each_seat id v at).as_publisher publishes in
      let o = (r.each_seat other w (sym (set_else s.views id other both apart) ∙ there)).as_observer part in keeping.reseated words n follows first s r _ _
      (sole_kept (λ x. x.publishes) s.views id other v w both no_part at apart there publishes same.0 refl r.publisher)
      (sole_joined (λ x. x.observes) s.views id other v w both no_part at apart there blind same.1 refl r.observer)
      (sole_joined (λ x. x.watches) s.views id other v w both no_part at apart there unwatching same.2 refl r.watcher)
      (keeping.seats_stay words n follows first K (set s.views id both) other no_part record { as_publisher = λ h. cc; as_observer = λ h. cc } (λ j d _.
      keeping.seats_stay words n follows first K s.views id both record { as_publisher = λ _. (same.3 ∙ p.0, same.4 ∙ p.1, same.5 ∙ p.2); as_observer = λ _. more (version s) r.published p.0 p.1 r.place o } (λ i x _. r.each_seat i x) j d))

  -- the join of publisher and observer
  pub joins : (id : ℕ) (v : V) (other : ℕ) (w : V) → v.publishes ≡ true → v.observes ≡ false → v.watches ≡ false → sees w ≡ true → Joins Rule id v other w (both_parts v w) no_part
  joins id v other w publishes blind unwatching part = joins_as id v other w (both_parts v w) publishes blind unwatching part (refl, refl, refl, refl, refl, refl)
      (λ x page _ _ _ o. record { below = o.below; first = o.first; short = o.short; same = o.same; fits = o.fits })

  -- the same, and the version is one more that was loaded
  pub joins_looking : (id : ℕ) (v : V) (other : ℕ) (w : V) → v.publishes ≡ true → v.observes ≡ false → v.watches ≡ false → sees w ≡ true → Joins Rule id v other w (both_looking v w) no_part
  joins_looking id v other w publishes blind unwatching part = joins_as id v other w (both_looking v w) publishes blind unwatching part (refl, refl, refl, refl, refl, refl)
      (λ x page here _ _ o. let le : v.version ≤ x = omega arith in record { below = keeping.below_snoc words n follows first w.loads v.version x le o.below; first = o.first; short = o.short; same = o.same; fits = o.fits })

  -- the same, and the last record is one more that was looked at
  pub joins_reading : (id : ℕ) (v : V) (other : ℕ) (w : V) → v.publishes ≡ true → v.observes ≡ false → v.watches ≡ false → sees w ≡ true → Joins Rule id v other w (both_reading first v w) no_part
  joins_reading id v other w publishes blind unwatching part = joins_as id v other w (both_reading first v w) publishes blind unwatching part (refl, refl, refl, refl, refl, refl)
      (λ x page _ is place o.
      let floor : floor_from 0 w.looks < length (first ∷ page) = fits_floor (first ∷ page) 0 w.looks (omega arith) o.fits in
      let count : length v.published ≡ length page = ap length is in
      let there : get_elem? (first ∷ page) (length v.published) ≡ some (last_from first v.published) = subst (λ (l : List T). get_elem? (first ∷ l) (length v.published) ≡ some (last_from first v.published)) is (last_at first v.published) in
      record { below = o.below; first = o.first; short = o.short; same = o.same; fits = fits_snoc (first ∷ page) 0 w.looks (length v.published) (last_from first v.published) o.fits (omega arith) there })

  -- a seat with both parts learns that its records are a page, which its looks fit
  pub learns : (slots id : ℕ) (me : M) → me.0.publishes ≡ true → sees me.0 ≡ true → Allows Rule slots id me 0 (λ x. x) (learned follows first (step slots 0 0 0 none) me)
  learns slots id me publishes part s r _ at _ = let k = r.each_seat id me.0 at in let p = k.as_publisher publishes in let o = k.as_observer part in (
    me.0,
    keeps,
    tt,
    keeping.unmoved words n follows first s r 0 id me.1 me.0 me.0 at (refl, refl, refl) k,
    (
      refl,
      (refl, subst (λ (l : List T). Chain follows first l) (sym p.1) r.page),
      subst (λ (l : List T). FitsFrom (first ∷ l) 0 me.0.looks) (sym p.1) o.fits,
    ),
  )

  -- a page whose words are all 0 has published nothing
  pub begins : ((i : ℕ) → i < n → get_or (words first) i 0 ≡ 0) → (ws : List ℕ) → length ws ≡ n + 1 → ((i : ℕ) → get_or ws i 0 ≡ 0) → Rule (opening ws [] opening_view)
  begins zeros ws wide blank = record {
    published = [];
    stored = [];
    wide = wide;
    page = tt;
    place = ap (λ (z : ℕ). z / 2) (blank 0);
    at_rest = λ _. refl;
    short = omega arith;
    written = λ i l. absurd (omega arith);
    unwritten = λ i _ m. blank (i + 1) ∙ sym (zeros i m);
    publisher = (0, omega arith, λ j d e. let is : (j ≡ 0) × (opening_view ≡ d) = only opening_view j d e in ((λ _. is.0), (λ _. sym (ap (λ (x : V). x.publishes) is.1))));
    observer = (0, omega arith, λ j d e. let is : (j ≡ 0) × (opening_view ≡ d) = only opening_view j d e in ((λ _. is.0), (λ _. sym (ap (λ (x : V). x.observes) is.1))));
    watcher = (0, omega arith, λ j d e. let is : (j ≡ 0) × (opening_view ≡ d) = only opening_view j d e in ((λ _. is.0), (λ _. sym (ap (λ (x : V). x.watches) is.1))));
    each_seat = λ j d e. let is : (j ≡ 0) × (opening_view ≡ d) = only opening_view j d e in subst (Knows words n first (get_or ws 0 0) [] []) is.1
        record {
          as_publisher = λ _. (sym (blank 0), refl, refl);
          as_observer = λ _. record { below = λ k x e. absurd (some-ne-none x (sym e)); first = omega arith; short = omega arith; same = λ _ _ i l. absurd (omega arith); fits = tt };
        };
  }
