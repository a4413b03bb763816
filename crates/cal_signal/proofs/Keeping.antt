-- What the steps of a page share: the seats that stay as they are, and a version that rises.
use Rattle.cal_signal.proofs.Common.{◌≡◌, ◌≢◌, ℕ, ◌<◌, ◌≤◌, List, [], ◌∷◌, ◌++◌, get_or, set, sym, subst, ⊎_elim, arith, set-get_or, Option, some, get_elem?, State, Me, keeps, stepped, at_set, at_snoc, View, FitsFrom, Sole, Observes, Knows, Kept}
use Rattle.cal_signal.proofs.Parting.{sole_set}

module _ {T : Type 0} (words : T → List ℕ) (n : ℕ) (follows : T → T → Type 0) (first : T) where
  abbrev pub V : Type 0
  V = View T

  abbrev pub St : Type 0
  St = State (Unit {0}) V

  abbrev pub M : Type 0
  M = Me (Unit {0}) V

  abbrev pub Rule : St → Type 0
  Rule = Kept words n follows first

  abbrev pub version : St → ℕ
  version s = get_or s.words 0 0

  -- what holds of each seat holds where one view is set
  pub seats_stay : (K : V → Type 0) (vs : List V) (me : ℕ) (w : V) → K w → ((j : ℕ) (d : V) → j ≢ me → get_elem? vs j ≡ some d → K d)
      → (j : ℕ) (d : V) → get_elem? (set vs me w) j ≡ some d → K d
  seats_stay K vs me w mine others j d e = ⊎_elim (λ (t : (j ≡ me) × (w ≡ d)). subst K t.1 mine)
      (λ (t : (j ≢ me) × (get_elem? vs j ≡ some d)). others j d t.0 t.1) (at_set vs me j w d e)

  -- where no word changes, the seats may be others: each part stands in one of them, and each of them
  -- knows what its parts let it know
  pub reseated : (s : St) (r : Rule s) (homes : List (Option (Unit {0}))) (views : List V)
      → Sole (λ v. v.publishes) views → Sole (λ v. v.observes) views → Sole (λ v. v.watches) views
      → ((j : ℕ) (v : V) → get_elem? views j ≡ some v → Knows words n first (version s) r.published r.stored v)
      → Rule record { words = s.words; homes = homes; views = views }
  reseated s r homes views publisher observer watcher each = record {
    published = r.published;
    stored = r.stored;
    wide = r.wide;
    page = r.page;
    place = r.place;
    at_rest = r.at_rest;
    short = r.short;
    written = r.written;
    unwritten = r.unwritten;
    publisher = publisher;
    observer = observer;
    watcher = watcher;
    each_seat = each;
  }

  -- a step that changes no word, and no part
  pub unmoved : (s : St) (r : Rule s) (i me : ℕ) (cs : List (ℕ × Unit {0})) (v w : V) → get_elem? s.views me ≡ some v → (w.publishes ≡ v.publishes) × (w.observes ≡ v.observes) × (w.watches ≡ v.watches)
      → Knows words n first (version s) r.published r.stored w → Rule (stepped s i (get_or s.words i 0) me cs w keeps)
  unmoved s r i me cs v w at same mine = subst (λ (ws : List ℕ). Rule record { words = ws; homes = s.homes; views = set s.views me w }) (sym (set-get_or s.words i 0)) (reseated s r s.homes (set s.views me w)
      (sole_set (λ x. x.publishes) s.views me v w at same.0 r.publisher)
      (sole_set (λ x. x.observes) s.views me v w at same.1 r.observer)
      (sole_set (λ x. x.watches) s.views me v w at same.2 r.watcher)
      (seats_stay (Knows words n first (version s) r.published r.stored) s.views me w mine (λ j d _. r.each_seat j d)))

  -- one more version that is not above
  pub below_snoc : (ls : List ℕ) (x v : ℕ) → x ≤ v → ((k y : ℕ) → get_elem? ls k ≡ some y → y ≤ v) → (k y : ℕ) → get_elem? (ls ++ x ∷ []) k ≡ some y → y ≤ v
  below_snoc ls x v le all k y e = ⊎_elim (all k y) (λ (t : x ≡ y). subst (λ (z : ℕ). z ≤ v) t le) (at_snoc ls x y k e)

  -- what an observer knows stays so where the version goes up and the page at most grows
  pub raised : (v v' : ℕ) (page page' : List T) (d : V) → v < v' → (FitsFrom (first ∷ page) 0 d.looks → FitsFrom (first ∷ page') 0 d.looks) → Observes words n first v page d → Observes words n first v' page' d
  raised v v' page page' d up more o = let f = o.first in record {
    below = λ k x e. let b = o.below k x e in omega arith;
    first = omega arith;
    short = o.short;
    same = λ is. absurd (omega arith);
    fits = more o.fits;
  }
