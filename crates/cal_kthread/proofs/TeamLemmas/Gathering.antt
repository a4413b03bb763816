-- One thief gives its share back: what moves between the ends of a team, and what stays.
use Rattle.cal_kthread.proofs.Common.{◌≡◌, ◌≢◌, ℕ, ◌+◌, ◌<◌, List, [], ◌∷◌, ◌++◌, map, length, set, get_or, sym, refl, ap, ◌∙◌, subst, arith, get_or-set_other, get_or-set_same, map-set, length-map, some, get_elem?, at_map, Gathers, stripped, taken_of, stolen_weight, sources_at, Source, Waiting, QueueId, weigh, EndView, RestView, IsTeam, Place, place_of_rest, thief_place, queues_of}
use Rattle.cal_kthread.proofs.TeamLemmas.Shares.{returned}
use Rattle.cal_kthread.proofs.ListSums.{weigh-append, weigh-set, weigh-one-more, map-set-like, map-append, map-at, within, at-get_or}

abbrev pub place : EndView → Place
place e = place_of_rest e.rest

abbrev pub sources_of : EndView → List Source
sources_of e = e.rest.sources

module _ (ends : List EndView) (k : ℕ) (giver gave : EndView) (v : Source) where
  abbrev given : RestView
  given = gave.rest

  abbrev between : List EndView
  between = set ends k gave

  module _ (team : IsTeam (map place ends)) (at : get_elem? ends k ≡ some giver) (gave_is : gave ≡ record giver { rest = record giver.rest { sources = gave.rest.sources } })
      (last : giver.rest.sources ≡ gave.rest.sources ++ v ∷ []) where
    given_is : given ≡ record giver.rest { sources = given.sources }
    given_is = ap (λ (e : EndView). e.rest) gave_is

    place-gave : place gave ≡ record (place giver) { thieves = map thief_place given.sources }
    place-gave = ap place_of_rest given_is

    last-thief : (place giver).thieves ≡ map thief_place given.sources ++ (v.number, v.thief.queue) ∷ []
    last-thief = ap (map thief_place) last ∙ map-append thief_place given.sources (v ∷ [])

    queue-gave : (place gave).queue ≡ (place giver).queue
    queue-gave = ap (λ (r : RestView). r.queue.queue) given_is

    queues-between : queues_of (map place between) ≡ queues_of (map place ends)
    queues-between = ap queues_of (map-set place ends k gave) ∙ map-set-like (λ (p : Place). p.queue) (map place ends) k (place giver) (place gave) (at_map place ends k giver at) queue-gave

    -- the thread from which the thief steals is there, and the queue is its own
    pub keeper : (e : EndView) × (get_elem? between v.number ≡ some e) × (e.rest.queue.queue ≡ v.thief.queue)
    keeper = let t : get_elem? (place giver).thieves (length (map thief_place given.sources)) ≡ some (v.number, v.thief.queue) =
        subst (λ ts. get_elem? ts (length (map thief_place given.sources)) ≡ some (v.number, v.thief.queue)) (sym last-thief) (at-end (map thief_place given.sources) (v.number, v.thief.queue)) in
        let q = team.thieves k (place giver) (at_map place ends k giver at) (length (map thief_place given.sources)) (v.number, v.thief.queue) t in
        let p = map-at (λ (p : Place). p.queue) (map place between) v.number v.thief.queue (subst (λ qs. get_elem? qs v.number ≡ some v.thief.queue) (sym queues-between) q) in
        let e = map-at place between v.number p.0 p.1 in (e.0, e.1, ap (λ (p : Place). p.queue) e.2 ∙ p.2)
      where
        at-end : (ts : List (ℕ × QueueId)) (t : ℕ × QueueId) → get_elem? (ts ++ t ∷ []) (length ts) ≡ some t
        at-end [] t = refl
        at-end (x ∷ ts) t = at-end ts t

    pub keeper-within : v.number < length between
    keeper-within = within between v.number keeper.0 keeper.1

    pub keeper-queue : (d : EndView) → v.thief.queue ≡ (get_or between v.number d).rest.queue.queue
    keeper-queue d = sym keeper.2 ∙ ap (λ (e : EndView). e.rest.queue.queue) (sym (at-get_or between v.number keeper.0 d keeper.1))

    module _ (owner took : EndView) (there : get_elem? between v.number ≡ some owner)
        (took_is : took ≡ record owner { rest = record owner.rest { queue = record owner.rest.queue { shares = owner.rest.queue.shares + 1; had = owner.rest.queue.had ++ v.thief.had } } }) where
      abbrev taken : RestView
      taken = took.rest

      taken_is : taken ≡ record owner.rest { queue = record owner.rest.queue { shares = owner.rest.queue.shares + 1; had = owner.rest.queue.had ++ v.thief.had } }
      taken_is = ap (λ (e : EndView). e.rest) took_is

      abbrev after : List EndView
      after = set between v.number took

      place-took : place took ≡ record (place owner) { shares = (place owner).shares + 1 }
      place-took = ap place_of_rest taken_is

      abbrev given_place : Place
      given_place = record (place giver) { thieves = map thief_place given.sources }

      places-between : map place between ≡ set (map place ends) k given_place
      places-between = map-set place ends k gave ∙ ap (λ (p : Place). set (map place ends) k p) place-gave

      places-after : map place after ≡ set (set (map place ends) k given_place) v.number (record (place owner) { shares = (place owner).shares + 1 })
      places-after = map-set place between v.number took ∙ ap (λ (p : Place). set (map place between) v.number p) place-took
          ∙ ap (λ (ps : List Place). set ps v.number (record (place owner) { shares = (place owner).shares + 1 })) places-between

      team-after : IsTeam (map place after)
      team-after = subst IsTeam (sym places-after) (returned (map place ends) k (place giver) (map thief_place given.sources) v.number v.thief.queue (place owner)
          team (at_map place ends k giver at) last-thief (subst (λ ps. get_elem? ps v.number ≡ some (place owner)) places-between (at_map place between v.number owner there)))

      same-after : map stripped after ≡ map stripped ends
      same-after = map-set-like stripped between v.number owner took there (ap stripped took_is)
          ∙ map-set-like stripped ends k giver gave at (ap stripped gave_is)

      taken-after : (h : Waiting → ℕ) → weigh (taken_of h) after ≡ weigh (taken_of h) ends
      taken-after h = let a = weigh-set (taken_of h) ends k giver gave at in let b = weigh-set (taken_of h) between v.number owner took there in
          let c : weigh h given.queue.had ≡ weigh h giver.rest.queue.had = ap (λ (r : RestView). weigh h r.queue.had) given_is in
          let d : stolen_weight h giver.rest.sources ≡ stolen_weight h (given.sources ++ v ∷ []) = ap (stolen_weight h) last in
          let e = weigh-one-more (λ (u : Source). weigh h u.thief.had) given.sources v in
          let f : weigh h taken.queue.had ≡ weigh h (owner.rest.queue.had ++ v.thief.had) = ap (λ (r : RestView). weigh h r.queue.had) taken_is in
          let g = weigh-append h owner.rest.queue.had v.thief.had in
          let i : stolen_weight h taken.sources ≡ stolen_weight h owner.rest.sources = ap (λ (r : RestView). stolen_weight h r.sources) taken_is in
          omega (arith, a, b, c, d, e, f, g, i)

      pub gathers : Gathers ends after
      gathers = record { team = team-after; same = same-after; taken = taken-after }

      sources-after : map sources_of after ≡ set (map sources_of ends) k given.sources
      sources-after = map-set-like sources_of between v.number owner took there (ap (λ (r : RestView). r.sources) taken_is) ∙ map-set sources_of ends k gave

      pub others-stay : (j : ℕ) → j ≢ k → sources_at j after ≡ sources_at j ends
      others-stay j apart = ap (λ (l : List (List Source)). get_or l j []) sources-after ∙ get_or-set_other (map sources_of ends) k j given.sources [] apart

      pub one-fewer : length (sources_at k after) + 1 ≡ length (sources_at k ends)
      one-fewer = let w = within ends k giver at in let l = length-map ends sources_of in
          let n : sources_at k after ≡ given.sources = ap (λ (l : List (List Source)). get_or l k []) sources-after ∙ get_or-set_same (map sources_of ends) k given.sources [] (omega (arith, w, l)) in
          let o : sources_at k ends ≡ given.sources ++ v ∷ [] = at-get_or (map sources_of ends) k (sources_of giver) [] (at_map sources_of ends k giver at) ∙ last in
          let a = ap (λ (vs : List Source). length vs) n in let b = ap (λ (vs : List Source). length vs) o in let c = longer given.sources in omega (arith, a, b, c)
        where
          longer : (vs : List Source) → length (vs ++ v ∷ []) ≡ length vs + 1
          longer [] = refl
          longer (u ∷ us) = let e = longer us in omega (arith, e)
