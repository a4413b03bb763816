-- What one end hands out, request by request, and what a team's ends hand out, one after the other.
use Rattle.cal_kthread.proofs.Common.{◌≡◌, ◌≢◌, ℕ, zero, suc, ◌+◌, ◌<◌, ◌≤◌, List, [], ◌∷◌, ◌++◌, map, length, take, set, sym, refl, ap, ◌∙◌, subst, ⊎_elim, arith, length-set, take_all, some, some-ne-none, get_elem?, at_map, at_set, Request, IsAccounted, IsDrained, IsSettled, requests_of, stripped, HandedOutNothing, HandsOutSome, RunView, left_of, run_of, Each, EndView, RestView, HandsOut, HandsOutOf, Waiting}
use Rattle.cal_kthread.proofs.EndLemmas.Account.{accounted, moved, still-settled}
use Rattle.cal_kthread.proofs.ListSums.{map-append, map-at, map-set-like, within}

-- one more request is handed out
pub one-more : (first before after : RestView) (w : Waiting) → HandsOutSome first before → HandsOut w before after → HandsOutSome first after
one-more first before after w so_far hands = let m = moved before.held w before after refl hands in record {
  place = m.place ∙ so_far.place;
  sources = m.sources ∙ so_far.sources;
  pushed = m.pushed ∙ so_far.pushed;
  had = m.had ∙ so_far.had;
  kept = λ h. let a = so_far.kept h in let b = m.kept h in omega (arith, a, b);
}

left-of : (held : List Waiting) (w : Waiting) (before after : RestView) → HandsOutOf held w before after → after.left ≡ before.left ++ w ∷ []
left-of [] w before after is = ap (λ (r : RestView). r.left) is
left-of (x ∷ xs) w before after (same, is) = ap (λ (r : RestView). r.left) is

-- and it is the last of those that were handed out
pub one-more-left : (before after : RestView) (w : Waiting) → HandsOut w before after → requests_of after.left ≡ requests_of before.left ++ w.request ∷ []
one-more-left before after w hands = ap requests_of (left-of before.held w before after hands) ∙ map-append (λ (x : Waiting). x.request) before.left (w ∷ [])

-- the gathering of shares hands out nothing
pub still-untouched : (before after : List EndView) → map stripped after ≡ map stripped before → Each HandedOutNothing before → Each HandedOutNothing after
still-untouched before after same none j e at =
    let o = map-at stripped before j (stripped e) (subst (λ l. get_elem? l j ≡ some (stripped e)) same (at_map stripped after j e at)) in
    ap (λ (x : EndView). x.rest.left) (sym o.2) ∙ none j o.0 o.1

-- the ends before k handed out all that they had, into these lists, and the others nothing
pub record HandedUpTo (k : ℕ) (first ends : List EndView) (lefts : List (List Request)) : Type 0 where
  pub settled : IsSettled ends
  pub same : map run_of ends ≡ map run_of first
  pub count : length ends ≡ length first
  pub lists : lefts ≡ map left_of (take k ends)
  pub drained : (j : ℕ) (e : EndView) → get_elem? ends j ≡ some e → j < k → IsDrained e
  pub untouched : (j : ℕ) (e : EndView) → get_elem? ends j ≡ some e → k ≤ j → HandedOutNothing e

take-set : {T : Type 0} (xs : List T) (k : ℕ) (x y : T) → get_elem? xs k ≡ some x → take (k + 1) (set xs k y) ≡ take k xs ++ y ∷ []
take-set {T = T} xs k x y at = subst (λ n. take n (set xs k y) ≡ take k xs ++ y ∷ []) (let e : suc k ≡ k + 1 = omega arith in e) (by-suc xs k at)
  where
    by-suc : (xs : List T) (k : ℕ) → get_elem? xs k ≡ some x → take (suc k) (set xs k y) ≡ take k xs ++ y ∷ []
    by-suc [] k at = absurd (some-ne-none x (sym at))
    by-suc (z ∷ zs) zero at = refl
    by-suc (z ∷ zs) (suc k) at = ap (λ l. z ∷ l) (by-suc zs k at)

-- one end more
pub one-end-more : (k : ℕ) (first ends : List EndView) (lefts : List (List Request)) (e after : EndView) (left : List Request) → HandedUpTo k first ends lefts
    → get_elem? ends k ≡ some e → run_of after ≡ run_of e → HandsOutSome e.rest after.rest → left ≡ left_of after → IsDrained after
    → HandedUpTo (k + 1) first (set ends k after) (lefts ++ left ∷ [])
one-end-more k first ends lefts e after left so_far at same moves list drained = record {
  settled = still-settled ends k e after so_far.settled at moves (ap (λ (r : RunView). r.journal) same);
  same = map-set-like run_of ends k e after at same ∙ so_far.same;
  count = length-set ends k after ∙ so_far.count;
  lists = (λ i. so_far.lists i ++ list i ∷ []) ∙ sym (map-append left_of (take k ends) (after ∷ [])) ∙ ap (map left_of) (sym (take-set ends k e after at));
  drained = λ j x here below. ⊎_elim (λ (t : (j ≡ k) × (after ≡ x)). subst IsDrained t.1 drained)
      (λ (t : (j ≢ k) × (get_elem? ends j ≡ some x)). let apart = t.0 in so_far.drained j x t.1 (omega (arith, below, apart))) (at_set ends k j after x here);
  untouched = λ j x here past. ⊎_elim (λ (t : (j ≡ k) × (after ≡ x)). let equal = t.0 in absurd (omega (arith, past, equal)))
      (λ (t : (j ≢ k) × (get_elem? ends j ≡ some x)). so_far.untouched j x t.1 (omega (arith, past))) (at_set ends k j after x here);
}

-- all ends handed out what they had
pub all-accounted : (k : ℕ) (first ends : List EndView) (lefts : List (List Request)) → HandedUpTo k first ends lefts → length ends ≤ k
    → (lefts ≡ map left_of ends) × IsAccounted (map (λ e. e.journal) ends) lefts
all-accounted k first ends lefts handed over =
    let lists : lefts ≡ map left_of ends = handed.lists ∙ ap (map left_of) (take_all k ends over) in
    let all : Each IsDrained ends = λ j e at. let w = within ends j e at in handed.drained j e at (omega (arith, w, over)) in
    (lists, subst (IsAccounted (map (λ e. e.journal) ends)) (sym lists) (accounted ends handed.settled all))
