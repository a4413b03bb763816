-- From what each thread keeps of its work to the account of the team.
use Rattle.cal_kthread.proofs.Common.{◌≡◌, ℕ, suc, ◌+◌, ◌<◌, ◌&&◌, Bool, true, false, nat_eq, Option, option_map, option_to_list, List, [], ◌∷◌, ◌++◌, map, length, set, sym, refl, ap, ◌∙◌, subst, arith, eq-eqb, eqb-true, length_push, some, get_elem?, at_map, Request, IsJournalOf, held, ThreadView, Current, Entry, Source, Waiting, IsAccounted, KeepsItsWork, IsSettled, IsDrained, Gathers, HasArrived, stripped, taken_of, stolen_weight, handed_of, kept_of, sources_at, times, names_of, requests_of, waiting_names, StaysSettled, HandsOutSome, arrivals_of, served_of, Each, one_if, QueueId, weigh, TookWhatCame, EndView, RestView, HandsOut, HandsOutOf, to_hand_out, Place, place_of_rest, thief_place, lent, lent_to}
use Rattle.cal_kthread.proofs.ListSums.{weigh-append, weigh-set, weigh-one-more, weigh-map, weigh-each, weigh-plus, member, heavy, each-set, map-append, map-at, within, at-get_or}
use Rattle.cal_kthread.proofs.TeamLemmas.Gathering.{place, sources_of}

abbrev queued : (Waiting → ℕ) → EndView → ℕ
queued h e = weigh h e.rest.queue.had + handed_of h e

abbrev served_weight : (ℕ → ℕ) → EndView → ℕ
served_weight p e = weigh p (served_of e.journal)

abbrev Gone : List EndView → Type 0
Gone ends = (gone : List Waiting) × ((p : ℕ → ℕ) → weigh p (waiting_names gone) ≡ weigh (served_weight p) ends)
    × ((h : Waiting → ℕ) → weigh (λ e. taken_of h e + handed_of h e) ends ≡ weigh h gone + weigh (kept_of h) ends)

-- a thread whose turns are over keeps what it kept in its turns
pub ended : (e : EndView) (entries : List Entry) (t u : ThreadView) (current : Option Waiting) → IsJournalOf entries t → u ≡ t → e.journal ≡ entries
    → current ≡ option_map (λ (c : Current). c.waiting) u.current
    → e.rest ≡ record { queue = u.queue; sources = u.sources; held = option_to_list current ++ option_to_list u.front; left = [] }
    → e.rest.queue.handed ≡ [] → KeepsItsWork e
ended e entries t u current agrees same entries_are current_is rest_is none_handed = let a = subst (IsJournalOf entries) (sym same) agrees in record {
  gone = a.served.0;
  arrived = ap (λ (r : RestView). requests_of r.queue.pushed) rest_is ∙ sym a.arrivals ∙ ap arrivals_of (sym entries_are);
  served = sym a.served.1 ∙ ap served_of (sym entries_are);
  kept = λ h. let b = a.served.2 h in let c : weigh h e.rest.queue.had ≡ weigh h u.queue.had = ap (λ (r : RestView). weigh h r.queue.had) rest_is in
      let d : stolen_weight h e.rest.sources ≡ stolen_weight h u.sources = ap (λ (r : RestView). stolen_weight h r.sources) rest_is in
      let f : weigh h e.rest.queue.handed ≡ 0 = ap (weigh h) none_handed in let g : weigh h e.rest.left ≡ 0 = ap (λ (r : RestView). weigh h r.left) rest_is in
      let i : weigh h e.rest.held ≡ weigh h (held u) = ap (λ (r : RestView). weigh h r.held) rest_is ∙ ap (λ (o : Option Waiting). weigh h (option_to_list o ++ option_to_list u.front)) current_is in
      omega (arith, b, c, d, f, g, i);
}

-- what each thread served, end to end
collected : (ends : List EndView) → Each KeepsItsWork ends → Gone ends
collected [] all = ([], λ p. refl, λ h. refl)
collected (e ∷ es) all = let r = all 0 e refl in let t = collected es (λ i. all (suc i)) in (
  r.gone ++ t.0,
  λ p. let a = ap (weigh p) (map-append (λ (w : Waiting). w.request.id) r.gone t.0) in let b = weigh-append p (waiting_names r.gone) (waiting_names t.0) in
      let c = ap (weigh p) r.served in let d = t.1 p in omega (arith, a, b, c, d),
  λ h. let a = weigh-append h r.gone t.0 in let b = r.kept h in let c = t.2 h in omega (arith, a, b, c),
)

nothing-lent : (j : ℕ) (ends : List EndView) → Each (λ e. e.rest.sources ≡ []) ends → lent j (map place ends) ≡ 0
nothing-lent j [] all = refl
nothing-lent j (e ∷ es) all = let a : lent_to j (place e) ≡ 0 = ap (λ (vs : List Source). weigh (λ (t : ℕ × QueueId). one_if (nat_eq t.0 j)) (map thief_place vs)) (all 0 e refl) in
    let b = nothing-lent j es (λ i. all (suc i)) in omega (arith, a, b)

module _ (before after : List EndView) (work : Each KeepsItsWork before) (gathered : Gathers before after)
    (none : (j : ℕ) → j < length after → sources_at j after ≡ []) where
  no-sources : Each (λ e. e.rest.sources ≡ []) after
  no-sources j e at = sym (at-get_or (map sources_of after) j (sources_of e) [] (at_map sources_of after j e at)) ∙ none j (within after j e at)

  -- an end is one of those before, but for its shares and its thieves
  was : (j : ℕ) (e : EndView) → get_elem? after j ≡ some e → (o : EndView) × (get_elem? before j ≡ some o) × (stripped o ≡ stripped e)
  was j e at = map-at stripped before j (stripped e) (subst (λ l. get_elem? l j ≡ some (stripped e)) gathered.same (at_map stripped after j e at))

  same-sum : (g : EndView → ℕ) → weigh (λ e. g (stripped e)) after ≡ weigh (λ e. g (stripped e)) before
  same-sum g = sym (weigh-map g stripped after) ∙ ap (weigh g) gathered.same ∙ weigh-map g stripped before

  arrived : Each (λ e. requests_of e.rest.queue.pushed ≡ arrivals_of e.journal) after
  arrived j e at = let o = was j e at in let w = work j o.0 o.1 in
      sym (ap (λ (x : EndView). requests_of x.rest.queue.pushed) o.2) ∙ w.arrived ∙ ap (λ (x : EndView). arrivals_of x.journal) o.2

  pub settles : IsSettled after
  settles = let gone = collected before work in record {
    gone = gone.0;
    arrived = arrived;
    served = λ p. gone.1 p ∙ sym (same-sum (served_weight p));
    shares = λ j e at. let s = gathered.team.shares j (place e) (at_map place after j e at) in let n = nothing-lent j after no-sources in omega (arith, s, n);
    kept = λ h.
        let a = weigh-each (λ e. taken_of h e + handed_of h e) (queued h) after
        (λ j e at. let v : stolen_weight h e.rest.sources ≡ 0 = ap (stolen_weight h) (no-sources j e at) in omega (arith, v)) in
        let b = weigh-plus (taken_of h) (handed_of h) after in let c = weigh-plus (taken_of h) (handed_of h) before in
        let d = gathered.taken h in let e = same-sum (handed_of h) in let f = gone.2 h in let g = same-sum (kept_of h) in omega (arith, a, b, c, d, e, f, g);
  }

-- a step of handing out
pub moved : (held : List Waiting) (w : Waiting) (before after : RestView) → before.held ≡ held → HandsOutOf held w before after → HandsOutSome before after
moved [] w before after empty is = record {
  place = ap place_of_rest is;
  sources = ap (λ (r : RestView). r.sources) is;
  pushed = ap (λ (r : RestView). r.queue.pushed) is;
  had = ap (λ (r : RestView). r.queue.had) is;
  kept = λ h. let a : weigh h after.queue.handed ≡ weigh h (before.queue.handed ++ w ∷ []) = ap (λ (r : RestView). weigh h r.queue.handed) is in
      let b = weigh-one-more h before.queue.handed w in let c : weigh h after.held ≡ weigh h before.held = ap (λ (r : RestView). weigh h r.held) is in
      let d : weigh h after.left ≡ weigh h (before.left ++ w ∷ []) = ap (λ (r : RestView). weigh h r.left) is in let e = weigh-one-more h before.left w in omega (arith, a, b, c, d, e);
}
moved (x ∷ xs) w before after holds (same, is) = record {
  place = ap place_of_rest is;
  sources = ap (λ (r : RestView). r.sources) is;
  pushed = ap (λ (r : RestView). r.queue.pushed) is;
  had = ap (λ (r : RestView). r.queue.had) is;
  kept = λ h. let a : weigh h after.queue.handed ≡ weigh h before.queue.handed = ap (λ (r : RestView). weigh h r.queue.handed) is in
      let b : weigh h before.held ≡ h x + weigh h xs = ap (weigh h) holds in let c : weigh h after.held ≡ weigh h xs = ap (λ (r : RestView). weigh h r.held) is in
      let d : weigh h after.left ≡ weigh h (before.left ++ w ∷ []) = ap (λ (r : RestView). weigh h r.left) is in let e = weigh-one-more h before.left w in
      let f : h w ≡ h x = ap h same in omega (arith, a, b, c, d, e, f);
}

abbrev one_each : Waiting → ℕ
one_each w = 1

pub weigh-length : (ws : List Waiting) → weigh one_each ws ≡ length ws
weigh-length [] = refl
weigh-length (w ∷ ws) = let e = weigh-length ws in omega (arith, e)

module _ (before after : EndView) (w : Waiting) (hands : HandsOut w before.rest after.rest) where
  abbrev step : HandsOutSome before.rest after.rest
  step = moved before.rest.held w before.rest after.rest refl hands

  -- what it handed out is handed on from what it kept
  pub keeps-work : after ≡ record before { rest = after.rest } → KeepsItsWork before → KeepsItsWork after
  keeps-work is work = let m = step in let j : after.journal ≡ before.journal = ap (λ (x : EndView). x.journal) is in record {
    gone = work.gone;
    arrived = ap requests_of m.pushed ∙ work.arrived ∙ sym (ap arrivals_of j);
    served = work.served ∙ sym (ap served_of j);
    kept = λ h. let a = work.kept h in let b = m.kept h in let c = ap (weigh h) m.had in let d = ap (stolen_weight h) m.sources in omega (arith, a, b, c, d);
  }

-- each request that is handed out leaves one fewer
fewer-of : (held : List Waiting) (w : Waiting) (before after : RestView) → before.held ≡ held → HandsOutOf held w before after
    → (before.held ≡ [] → TookWhatCame after.queue.pushed after.queue.had after.queue.handed) → to_hand_out after + 1 ≡ to_hand_out before
fewer-of [] w before after empty is came =
    let a : length after.queue.handed ≡ length (before.queue.handed ++ w ∷ []) = ap (λ (r : RestView). length r.queue.handed) is in
    let b = length_push before.queue.handed w in
    let c : length after.held ≡ length before.held = ap (λ (r : RestView). length r.held) is in
    let d : length after.queue.pushed ≡ length before.queue.pushed = ap (λ (r : RestView). length r.queue.pushed) is in
    let e : length after.queue.had ≡ length before.queue.had = ap (λ (r : RestView). length r.queue.had) is in
    let f = came empty one_each in let g = weigh-length after.queue.pushed in let i = weigh-length after.queue.had in let j = weigh-length after.queue.handed in
    omega (arith, a, b, c, d, e, f, g, i, j)
fewer-of (x ∷ xs) w before after holds (same, is) came =
    let a : length after.queue.handed ≡ length before.queue.handed = ap (λ (r : RestView). length r.queue.handed) is in
    let b : length before.held ≡ length xs + 1 = ap length holds ∙ (let e : length (x ∷ xs) ≡ length xs + 1 = omega arith in e) in
    let c : length after.held ≡ length xs = ap (λ (r : RestView). length r.held) is in
    let d : length after.queue.pushed ≡ length before.queue.pushed = ap (λ (r : RestView). length r.queue.pushed) is in
    let e : length after.queue.had ≡ length before.queue.had = ap (λ (r : RestView). length r.queue.had) is in
    omega (arith, a, b, c, d, e)

pub one-fewer : (w : Waiting) (before after : RestView) → HandsOut w before after
    → (before.held ≡ [] → TookWhatCame after.queue.pushed after.queue.had after.queue.handed) → to_hand_out after + 1 ≡ to_hand_out before
one-fewer w before after hands came = fewer-of before.held w before after refl hands came

-- what one end hands out leaves the team settled
pub still-settled : (ends : List EndView) (k : ℕ) (e after : EndView) → IsSettled ends → get_elem? ends k ≡ some e
    → HandsOutSome e.rest after.rest → after.journal ≡ e.journal → IsSettled (set ends k after)
still-settled ends k e after settled at m j = record {
  gone = settled.gone;
  arrived = each-set (λ (x : EndView). requests_of x.rest.queue.pushed ≡ arrivals_of x.journal) ends k after settled.arrived
      (ap requests_of m.pushed ∙ settled.arrived k e at ∙ sym (ap arrivals_of j));
  served = λ p. let a = settled.served p in let b = weigh-set (served_weight p) ends k e after at in let c : served_weight p after ≡ served_weight p e = ap (λ (l : List Entry). weigh p (served_of l)) j in omega (arith, a, b, c);
  shares = each-set (λ (x : EndView). x.rest.queue.shares ≡ 16) ends k after settled.shares (ap (λ (p : Place). p.shares) m.place ∙ settled.shares k e at);
  kept = λ h. let a = settled.kept h in let b = weigh-set (queued h) ends k e after at in let c = weigh-set (kept_of h) ends k e after at in
      let d = ap (weigh h) m.had in let f = m.kept h in omega (arith, a, b, c, d, f);
}

pub stays-settled : StaysSettled
stays-settled ends k e after w settled at hands is =
    still-settled ends k e after settled at (moved e.rest.held w e.rest after.rest refl hands) (ap (λ (x : EndView). x.journal) is)

one-true : (b : Bool) → 0 < one_if b → b ≡ true
one-true true p = refl
one-true false p = absurd (omega (arith, p))

both-true : (a b : Bool) → 0 < one_if (a && b) → (a ≡ true) × (0 < one_if b)
both-true true b p = (refl, p)
both-true false b p = absurd (omega (arith, p))

abbrev same : Request → Request → Bool
same r s = nat_eq r.id s.id && (nat_eq r.work s.work && nat_eq r.misses s.misses)

same-self : (r : Request) → one_if (same r r) ≡ 1
same-self r = λ k. one_if (eq-eqb r.id r.id refl k && (eq-eqb r.work r.work refl k && eq-eqb r.misses r.misses refl k))

same-equal : (r s : Request) → 0 < one_if (same r s) → r ≡ s
same-equal r s p = let a = both-true (nat_eq r.id s.id) (nat_eq r.work s.work && nat_eq r.misses s.misses) p in
    let b = both-true (nat_eq r.work s.work) (nat_eq r.misses s.misses) a.1 in
    let i = eqb-true r.id s.id a.0 in let w = eqb-true r.work s.work b.0 in let m = eqb-true r.misses s.misses (one-true (nat_eq r.misses s.misses) b.1) in
    λ k. record { id = i k; work = w k; misses = m k }

module _ (ends : List EndView) (settled : IsSettled ends) (drained : Each IsDrained ends) where
  abbrev pushed_of : (Waiting → ℕ) → EndView → ℕ
  pushed_of h e = weigh h e.rest.queue.pushed

  abbrev left_of : (Waiting → ℕ) → EndView → ℕ
  left_of h e = weigh h e.rest.left

  whole : (h : Waiting → ℕ) → weigh (pushed_of h) ends ≡ weigh h settled.gone + weigh (left_of h) ends
  whole h = let a = weigh-each (pushed_of h) (queued h) ends (λ i e at. (drained i e at).queue h) in
      let b = weigh-each (kept_of h) (left_of h) ends (λ i e at. let z : weigh h e.rest.held ≡ 0 = ap (weigh h) (drained i e at).held in omega (arith, z)) in
      let c = settled.kept h in omega (arith, a, b, c)

  abbrev named : ℕ → Waiting → ℕ
  named id w = one_if (nat_eq w.request.id id)

  abbrev is_name : ℕ → ℕ → ℕ
  is_name id other = one_if (nat_eq other id)

  times-of : (id : ℕ) (ws : List Waiting) → times id (names_of (requests_of ws)) ≡ weigh (named id) ws
  times-of id ws = weigh-map (is_name id) (λ (r : Request). r.id) (requests_of ws) ∙ weigh-map (λ (r : Request). is_name id r.id) (λ (w : Waiting). w.request) ws

  each-name : (id : ℕ) → weigh (λ j. times id (names_of (arrivals_of j))) (map (λ e. e.journal) ends)
      ≡ weigh (λ j. times id (served_of j)) (map (λ e. e.journal) ends) + weigh (λ l. times id (names_of l)) (map (λ e. requests_of e.rest.left) ends)
  each-name id = let a = weigh-map (λ (j : List Entry). times id (names_of (arrivals_of j))) (λ (e : EndView). e.journal) ends in
      let b = weigh-each (λ (e : EndView). times id (names_of (arrivals_of e.journal))) (pushed_of (named id)) ends
      (λ i e at. ap (λ (rs : List Request). times id (names_of rs)) (sym (settled.arrived i e at)) ∙ times-of id e.rest.queue.pushed) in
      let c = weigh-map (λ (j : List Entry). times id (served_of j)) (λ (e : EndView). e.journal) ends in
      let d = settled.served (is_name id) in let e = weigh-map (is_name id) (λ (w : Waiting). w.request.id) settled.gone in
      let f = weigh-map (λ (l : List Request). times id (names_of l)) (λ (e : EndView). requests_of e.rest.left) ends in
      let g = weigh-each (λ (e : EndView). times id (names_of (requests_of e.rest.left))) (left_of (named id)) ends (λ i e at. times-of id e.rest.left) in
      let w = whole (named id) in omega (arith, a, b, c, d, e, f, g, w)

  -- where a request was handed out, an equal one was pushed
  has-arrived : (k i : ℕ) (e : EndView) (w : Waiting) → get_elem? ends k ≡ some e → get_elem? e.rest.left i ≡ some w → HasArrived (map (λ x. x.journal) ends) w.request
  has-arrived k i e w at here =
      let h : Waiting → ℕ = λ x. one_if (same x.request w.request) in
      let a : h w ≡ 1 = same-self w.request in let b = member h e.rest.left i w here in let c = member (left_of h) ends k e at in let d = whole h in
      let from = heavy (pushed_of h) ends (omega (arith, a, b, c, d)) in let arrival = heavy h from.1.rest.queue.pushed from.3 in (
        from.0,
        from.1.journal,
        at_map (λ (x : EndView). x.journal) ends from.0 from.1 from.2,
        (
          arrival.0,
          arrival.1.request,
          subst (λ rs. get_elem? rs arrival.0 ≡ some arrival.1.request) (settled.arrived from.0 from.1 from.2) (at_map (λ (x : Waiting). x.request) from.1.rest.queue.pushed arrival.0 arrival.1 arrival.2),
          same-equal arrival.1.request w.request arrival.3,
        ),
      )

  pub accounted : IsAccounted (map (λ e. e.journal) ends) (map (λ e. requests_of e.rest.left) ends)
  accounted = record {
    each = each-name;
    equal = λ k left at i r here. let e = map-at (λ (x : EndView). requests_of x.rest.left) ends k left at in
        let w = map-at (λ (x : Waiting). x.request) e.0.rest.left i r (subst (λ l. get_elem? l i ≡ some r) (sym e.2) here) in
        subst (HasArrived (map (λ x. x.journal) ends)) w.2 (has-arrived k i e.0 w.0 e.1 w.1);
  }
