-- The rounds of a watch, one after the other.
use Rattle.cal_sched.proofs.Common.{◌≡◌, ℕ, ◌<◌, inl, inr, List, [], ◌∷◌, ◌++◌, length, Option, Some, slice_get, refl, sym, ap, ◌∙◌, arith, append_assoc, append-nil, slice_get_within, Record, Look, whole_of, ObserverView, HasLooked, HaveLooked, HaveWatched, slice_get_at, some_same, last_or_before}
use Rattle.std.proofs.lemmas.Grind.{flat_map-append}
use Rattle.cal_signal.specs.Rounds.{found_at, found_by}

-- one round more gives each page's looks one look more
found_at-append : (k : ℕ) (rounds : List (List Look)) (round : List Look) (look : Look) → slice_get round k ≡ Some look
    → found_at (rounds ++ round ∷ []) k ≡ found_at rounds k ++ whole_of look
found_at-append k rounds round look at =
    flat_map-append (λ (r : List Look). found_by (slice_get r k)) rounds (round ∷ [])
    ∙ ap (λ (o : Option Look). found_at rounds k ++ (found_by o ++ [])) at
    ∙ ap (λ (ls : List (ℕ × Record)). found_at rounds k ++ ls) (append-nil (whole_of look))

pub HaveWatched-none : (observers : List ObserverView) → HaveWatched observers observers []
HaveWatched-none observers = record {
  same_many = refl;
  one_each = λ i round e. absurd (cc);
  each = λ k was is e f.
      let same : was ≡ is = some_same was is (sym e ∙ f) in
      (rw same refl, rw same (sym (append-nil is.looks)));
}

pub HaveWatched-more : (given before after : List ObserverView) (rounds : List (List Look)) (round : List Look)
    → HaveWatched given before rounds → HaveLooked before after round → HaveWatched given after (rounds ++ round ∷ [])
HaveWatched-more given before after rounds round watched looked = record {
  same_many = looked.observers ∙ watched.same_many;
  one_each = λ i one e. elim (last_or_before rounds round one i e) [
    | inl h ↦ watched.one_each i one h.1
    | inr h ↦ rw (← h.1) (looked.one_each ∙ watched.same_many)
  ];
  each = λ k was is e f.
      let many : length before ≡ length given = watched.same_many in
      let looks : length round ≡ length before = looked.one_each in
      let lt : k < length given = slice_get_within given k was e in
      let mid = slice_get_at before k (omega arith) in
      let found = slice_get_at round k (omega arith) in
      let so_far = watched.each k was mid.0 e mid.1 in
      let step : HasLooked mid.0 is found.0 = looked.each k mid.0 is found.0 mid.1 f found.1 in (
        step.page ∙ so_far.0,
        step.looks ∙ ap (λ (ls : List (ℕ × Record)). ls ++ whole_of found.0) so_far.1
            ∙ append_assoc was.looks (found_at rounds k) (whole_of found.0)
            ∙ ap (λ (ls : List (ℕ × Record)). was.looks ++ ls) (sym (found_at-append k rounds round found.0 found.1)),
      );
}
