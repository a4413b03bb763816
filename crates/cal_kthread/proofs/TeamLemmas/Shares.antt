-- A thief that gives its share back leaves a team.
use Rattle.cal_kthread.proofs.Common.{◌≡◌, ◌≢◌, ℕ, ◌+◌, nat_eq, List, [], ◌∷◌, ◌++◌, set, sym, refl, ap, ◌∙◌, subst, ⊎_elim, arith, eq-eqb, ne_eqb, some, get_elem?, at_set, at_longer, Each, one_if, QueueId, weigh, Place, IsTeam, lent, lent_to, queues_of}
use Rattle.cal_kthread.proofs.ListSums.{weigh-set, weigh-one-more, each-set, map-set-like}

module _ (places : List Place) (k : ℕ) (p : Place) (kept : List (ℕ × QueueId)) (n : ℕ) (q : QueueId) (g : Place) where
  abbrev gave : Place
  gave = record p { thieves = kept }

  abbrev between : List Place
  between = set places k gave

  abbrev took : Place
  took = record g { shares = g.shares + 1 }

  abbrev after : List Place
  after = set between n took

  module _ (team : IsTeam places) (at : get_elem? places k ≡ some p) (last : p.thieves ≡ kept ++ (n, q) ∷ []) (there : get_elem? between n ≡ some g) where
    queues-same : queues_of after ≡ queues_of places
    queues-same = map-set-like (λ (x : Place). x.queue) between n g took there refl ∙ map-set-like (λ (x : Place). x.queue) places k p gave at refl

    abbrev Robs : Place → Type 0
    Robs place = Each (λ thief. get_elem? (queues_of places) thief.0 ≡ some thief.1) place.thieves

    kept-robs : Robs gave
    kept-robs i t e = let f : get_elem? p.thieves i ≡ some t = subst (λ ts. get_elem? ts i ≡ some t) (sym last) (at_longer kept ((n, q) ∷ []) i t e) in team.thieves k p at i t f

    between-robs : Each Robs between
    between-robs = each-set Robs places k gave team.thieves kept-robs

    lent-falls : (j : ℕ) → lent j after + one_if (nat_eq n j) ≡ lent j places
    lent-falls j = let a = weigh-set (lent_to j) places k p gave at in let b = weigh-set (lent_to j) between n g took there in
        let c : lent_to j p ≡ weigh (λ (thief : ℕ × QueueId). one_if (nat_eq thief.0 j)) (kept ++ (n, q) ∷ []) = ap (weigh (λ (thief : ℕ × QueueId). one_if (nat_eq thief.0 j))) last in
        let d = weigh-one-more (λ (thief : ℕ × QueueId). one_if (nat_eq thief.0 j)) kept (n, q) in omega (arith, a, b, c, d)

    old-shares : (j : ℕ) (x : Place) → get_elem? between j ≡ some x → x.shares + lent j places ≡ 16
    old-shares j x e = ⊎_elim
        (λ (t : (j ≡ k) × (gave ≡ x)). subst (λ (y : Place). y.shares + lent j places ≡ 16) t.1 (subst (λ (i : ℕ). p.shares + lent i places ≡ 16) (sym t.0) (team.shares k p at)))
        (λ (t : (j ≢ k) × (get_elem? places j ≡ some x)). team.shares j x t.1) (at_set places k j gave x e)

    new-shares : (j : ℕ) (x : Place) → get_elem? after j ≡ some x → x.shares + lent j after ≡ 16
    new-shares j x e = ⊎_elim
        (λ (t : (j ≡ n) × (took ≡ x)). subst (λ (y : Place). y.shares + lent j after ≡ 16) t.1
        (subst (λ (i : ℕ). g.shares + 1 + lent i after ≡ 16) (sym t.0)
        (let o = old-shares n g there in let l = lent-falls n in let s : one_if (nat_eq n n) ≡ 1 = ap one_if (eq-eqb n n refl) in omega (arith, o, l, s))))
        (λ (t : (j ≢ n) × (get_elem? between j ≡ some x)). let o = old-shares j x t.1 in let l = lent-falls j in
        let s : one_if (nat_eq n j) ≡ 0 = ap one_if (ne_eqb n j (λ m. t.0 (sym m))) in omega (arith, o, l, s))
        (at_set between n j took x e)

    pub returned : IsTeam after
    returned = record {
      thieves = subst (λ (qs : List QueueId). Each (λ place. Each (λ thief. get_elem? qs thief.0 ≡ some thief.1) place.thieves) after) (sym queues-same)
          (each-set Robs between n took between-robs (between-robs n g there));
      shares = new-shares;
    }
