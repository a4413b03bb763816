-- Why a cap is set, in words of its own.
use Rattle.cal_laws.proofs.Common.{◌≡◌, ℕ, ◌<◌, ◌⊎◌, true, not, ltb, List, length, sym, subst, arith, inl, inr, ltb-true, ltb-false, lt-ltb, and_parts, and_from, not-true, not_from_false, IsTable, limit_of, is_latency_critical, Action, cap_of, Setting, so_far, is_capped, VictimHasMostMisses, IsCapCut, IsCapRise}
use Rattle.cal_laws.specs.Caps.{IsVictimsCap, IsCapped, IsRaisedCap}
use Rattle.cal_laws.proofs.ListLemmas.Below.{lowest_is}
use Rattle.cal_laws.proofs.CauseLemmas.Losing.{most_misses, has_misses}

cut_due : VictimHasMostMisses → (s : Setting) (acts : List Action) (t cap : ℕ) → IsTable s.table → IsCapCut s acts t cap → IsVictimsCap s (so_far s acts) t cap
cut_due law s acts t cap ok m =
    let x = so_far s acts in
    let misses = has_misses s x m.victim ok (most_misses law s x m.victim m.cut.greatest) in
    let P : ℕ → Type 0 = λ t. IsVictimsCap s x t cap in
    subst P (sym m.number) (record {
      over_limit = ltb-true _ _ m.cut.over;
      misses = misses;
      below_held = (let is = m.below in let over = misses.over in omega (arith, is, over));
    })

-- what the test on a task says, and the other way round
capped : (s : Setting) (x : List Action) (t : ℕ) → t < length s.table.tasks → is_capped s x t ≡ true → IsCapped s x t
capped s x t lt e =
    let both = and_parts (not (is_latency_critical s.table t)) (ltb (cap_of s.table x t) (limit_of s.table t)) e in
    record { own = lt; best_effort = not-true (is_latency_critical s.table t) both.0; below_limit = ltb-true _ _ both.1 }

tested : (s : Setting) (x : List Action) (t : ℕ) → IsCapped s x t → is_capped s x t ≡ true
tested s x t h = and_from (not (is_latency_critical s.table t)) (ltb (cap_of s.table x t) (limit_of s.table t))
    (not_from_false (is_latency_critical s.table t) h.best_effort) (lt-ltb _ _ h.below_limit)

rise_due : (s : Setting) (acts : List Action) (t cap : ℕ) → IsCapRise s acts t cap → IsRaisedCap s (so_far s acts) t cap
rise_due s acts t cap m =
    let x = so_far s acts in
    let lowest = lowest_is (is_capped s x) (length s.table.tasks) t m.raised.lowest in
    record {
      within_limit = ltb-false _ _ m.raised.within;
      capped = capped s x t lowest.below lowest.passes;
      none_lesser = λ other h. lowest.none_lower other h.own (tested s x other h);
      above_last = m.above;
    }

pub cap_due : VictimHasMostMisses → (s : Setting) (acts : List Action) (t cap : ℕ) → IsTable s.table → IsCapCut s acts t cap ⊎ IsCapRise s acts t cap →
    IsVictimsCap s (so_far s acts) t cap ⊎ IsRaisedCap s (so_far s acts) t cap
cap_due law s acts t cap ok (inl m) = inl (cut_due law s acts t cap ok m)
cap_due law s acts t cap ok (inr m) = inr (rise_due s acts t cap m)
