-- Round by round each thread of a task gets its thieves.
use Rattle.cal_kthread.proofs.Common.{◌≡◌, ◌≢◌, ℕ, zero, suc, ◌+◌, ◌-◌, ◌<◌, ◌≤◌, ◌⊎◌, if◌then◌else◌, List, [], ◌∷◌, ◌++◌, sym, ap, ◌∙◌, subst, inl, inr, ⊎_elim, arith, lt-ltb, le-ltb, Lends, IsLinked, wrapped, next_threads, numbers_at, shares_at, KernelView}
use native.Mathlib.Decide.{ℕ_discrete, dec_le}

pub wraps : (count n : ℕ) → ((n < count) × (wrapped count n ≡ n)) ⊎ ((count ≤ n) × (wrapped count n ≡ n - count))
wraps count n = elim (dec_le count n) [
  | yes h ↦ inr (h, ap (λ b. if b then n else n - count) (le-ltb n count h))
  | no h ↦ inl (omega (arith, h), ap (λ b. if b then n else n - count) (lt-ltb n count (omega (arith, h))))
]

-- two places in a task are not at one place a distance on
apart : (count distance place other : ℕ) → distance < count → place < count → other < count → place ≢ other → wrapped count (place + distance) ≢ wrapped count (other + distance)
apart count distance place other far a b differ same = ⊎_elim
    (λ t. ⊎_elim (λ u. let p = t.0 in let q = t.1 in let r = u.0 in let s = u.1 in differ (omega (arith, p, q, r, s, same)))
    (λ u. let p = t.0 in let q = t.1 in let r = u.0 in let s = u.1 in absurd (omega (arith, p, q, r, s, same, far, a, b))) (wraps count (other + distance)))
    (λ t. ⊎_elim (λ u. let p = t.0 in let q = t.1 in let r = u.0 in let s = u.1 in absurd (omega (arith, p, q, r, s, same, far, a, b)))
    (λ u. let p = t.0 in let q = t.1 in let r = u.0 in let s = u.1 in differ (omega (arith, p, q, r, s, same))) (wraps count (other + distance)))
    (wraps count (place + distance))

wrapped-within : (count distance place : ℕ) → distance < count → place < count → wrapped count (place + distance) < count
wrapped-within count distance place far a = ⊎_elim (λ t. let p = t.0 in let q = t.1 in omega (arith, p, q)) (λ t. let p = t.0 in let q = t.1 in omega (arith, p, q, far, a)) (wraps count (place + distance))

next-more : (first count place distance : ℕ) → 1 ≤ distance → next_threads first count place distance ≡ next_threads first count place (distance - 1) ++ (first + wrapped count (place + distance)) ∷ []
next-more first count place zero some_distance = absurd (omega (arith, some_distance))
next-more first count place (suc d) some_distance = let e : d ≡ suc d - 1 = omega arith in ap (λ (n : ℕ). next_threads first count place n ++ (first + wrapped count (place + suc d)) ∷ []) e

pub record Round (first count distance owner : ℕ) (threads : List KernelView) : Type 0 where
  pub done : (place : ℕ) → place < count → wrapped count (place + distance) < owner → numbers_at (first + place) threads ≡ next_threads first count place distance
  pub due : (place : ℕ) → place < count → owner ≤ wrapped count (place + distance) → numbers_at (first + place) threads ≡ next_threads first count place (distance - 1)
  pub lent : (place : ℕ) → place < count → place < owner → shares_at (first + place) threads + distance ≡ 16
  pub unlent : (place : ℕ) → place < count → owner ≤ place → shares_at (first + place) threads + distance ≡ 17

pub begins : (first count distance : ℕ) (threads : List KernelView) → 1 ≤ distance → IsLinked first count (distance - 1) threads → Round first count distance 0 threads
begins first count distance threads some_distance linked = record {
  done = λ place within before. absurd (omega (arith, before));
  due = λ place within _. linked.numbers place within;
  lent = λ place within before. absurd (omega (arith, before));
  unlent = λ place within _. let s = linked.shares place within in omega (arith, s, some_distance);
}

module _ (first count distance owner robber : ℕ) (before after : List KernelView) (some_distance : 1 ≤ distance) (far : distance < count) (owner_within : owner < count)
    (robber_within : robber < count) (reaches : wrapped count (robber + distance) ≡ owner) (round : Round first count distance owner before) (lends : Lends (first + robber) (first + owner) before after) where
  robbed : numbers_at (first + robber) after ≡ next_threads first count robber distance
  robbed = lends.robs ∙ ap (λ (l : List ℕ). l ++ (first + owner) ∷ []) (round.due robber robber_within (omega (arith, reaches)))
      ∙ ap (λ (n : ℕ). next_threads first count robber (distance - 1) ++ (first + n) ∷ []) (sym reaches) ∙ sym (next-more first count robber distance some_distance)

  others : (place : ℕ) → place < count → place ≢ robber → numbers_at (first + place) after ≡ numbers_at (first + place) before
  others place within differ = lends.others_rob (first + place) (λ e. differ (omega (arith, e)))

  differ-owner : (place : ℕ) → place < count → place ≢ robber → wrapped count (place + distance) ≢ owner
  differ-owner place within differ e = apart count distance place robber far within robber_within differ (e ∙ sym reaches)

  pub goes-on : Round first count distance (owner + 1) after
  goes-on = record {
    done = λ place within below. elim (ℕ_discrete place robber) [
      | yes same ↦ subst (λ (p : ℕ). numbers_at (first + p) after ≡ next_threads first count p distance) (sym same) robbed
      | no differ ↦ others place within differ ∙ round.done place within (let d = differ-owner place within differ in omega (arith, below, d))
    ];
    due = λ place within above. let differ : place ≢ robber = λ e. let w : wrapped count (place + distance) ≡ owner = ap (λ (p : ℕ). wrapped count (p + distance)) e ∙ reaches in omega (arith, w, above) in
        others place within differ ∙ round.due place within (omega (arith, above));
    lent = λ place within below. elim (ℕ_discrete place owner) [
      | yes same ↦ subst (λ (p : ℕ). shares_at (first + p) after + distance ≡ 16) (sym same) (let l = lends.lends in let u = round.unlent owner owner_within (omega arith) in omega (arith, l, u))
      | no differ ↦ let o = lends.others_lend (first + place) (λ e. differ (omega (arith, e))) in let l = round.lent place within (omega (arith, below, differ)) in omega (arith, o, l)
    ];
    unlent = λ place within above. let o = lends.others_lend (first + place) (λ e. omega (arith, e, above)) in let l = round.unlent place within (omega (arith, above)) in omega (arith, o, l);
  }

pub ends : (first count distance owner : ℕ) (threads : List KernelView) → distance < count → count ≤ owner → Round first count distance owner threads → IsLinked first count distance threads
ends first count distance owner threads far all round = record {
  numbers = λ place within. round.done place within (let w = wrapped-within count distance place far within in omega (arith, w, all));
  shares = λ place within. round.lent place within (omega (arith, within, all));
}
