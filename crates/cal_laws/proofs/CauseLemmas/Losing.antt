-- The task that loses a core to the bandwidth limit, and the core that it loses, in words of their
-- own.
use Rattle.cal_laws.proofs.Common.{◌≡◌, ℕ, ◌-◌, ◌<◌, ◌≤◌, true, not, ◌&&◌, eqb, List, [], ◌∷◌, ◌++◌, length, Option, Some, None, refl, sym, ap, ◌∙◌, subst, arith, ⊎_elim, is_some, ltb-true, eqb-true, eq-eqb, and_parts, and_from, cond-true, cases_lt, not-true, not_from_false, MatchOption-at_some, cond_some, IsTable, owner_of, guaranteed_of, is_latency_critical, Action, Cap, Holder, holder_of, is_held_for, held_by, Setting, so_far, has_room, is_held_with_room, can_lose, core_to_lose, task_misses, victim_rank, victim_of, HasMostMisses, VictimHasMostMisses, ActionIsOneMore, IsCut, IsRevokedForBandwidth, CanLose, IsCandidate, HasMisses, IsForBandwidth}
use Rattle.cal_policy.specs.declared.pass.choice.Candidate as chosen
use Rattle.cal_policy.specs.declared.board.holders.Holder.TheVariants as holders
use Rattle.cal_laws.proofs.ListLemmas.Below.{highest_is, highest_found}
use Rattle.cal_laws.proofs.ListLemmas.Counted.{count_some}
use Rattle.cal_laws.proofs.CauseLemmas.Revoked.{nothing_guaranteed}
use Rattle.cal_laws.proofs.ExclusionLemmas.SameHolders.{SameHolders, holders_after, held_same}

-- what the test on a core says, and the other way round
loses_by : (s : Setting) (x : List Action) (t c : ℕ) (h : Holder) → c < s.table.cores → holder_of x c ≡ h →
    (is_held_for s.table t h && is_held_with_room s h) ≡ true → CanLose s x t c
loses_by s x t c holders.Free lt e b = cc
loses_by s x t c (holders.Leaving p cause) lt e b = cc
loses_by s x t c (holders.Held p) lt e b =
    let both = and_parts (eqb (owner_of s.table p.thread) t) (has_room s p.thread) b in
    record { own = lt; placement = p; held = e; task = eqb-true (owner_of s.table p.thread) t both.0; room = both.1 }

loses : (s : Setting) (x : List Action) (t c : ℕ) → c < s.table.cores → can_lose s x t c ≡ true → CanLose s x t c
loses s x t c lt e = loses_by s x t c (holder_of x c) lt refl e

pub lost_by : (s : Setting) (x : List Action) (t c : ℕ) → CanLose s x t c → can_lose s x t c ≡ true
lost_by s x t c h = ap (λ o. is_held_for s.table t o && is_held_with_room s o) h.held
    ∙ and_from (eqb (owner_of s.table h.placement.thread) t) (has_room s h.placement.thread) (eq-eqb _ _ h.task) h.room

-- with the same holders the same cores can be lost
loses_same : (s : Setting) (x y : List Action) → SameHolders x y → (t c : ℕ) → CanLose s x t c → CanLose s y t c
loses_same s x y e t c h = record { own = h.own; placement = h.placement; held = e c ∙ h.held; task = h.task; room = h.room }

candidate_same : (s : Setting) (x y : List Action) → SameHolders x y → (t : ℕ) → IsCandidate s x t → IsCandidate s y t
candidate_same s x y e t h = record { own = h.own; best_effort = h.best_effort; core = h.core; loses = loses_same s x y e t h.core h.loses }

-- a candidate has its misses for rank, and what has a rank is a candidate
rank_of : (s : Setting) (x : List Action) (t : ℕ) → IsCandidate s x t → victim_rank s x t ≡ Some (task_misses s t)
rank_of s x t h =
    cond-true (not (is_latency_critical s.table t) && is_some (core_to_lose s x t)) (Some (task_misses s t)) None
    (and_from _ _ (not_from_false (is_latency_critical s.table t) h.best_effort)
    (highest_found (can_lose s x t) s.table.cores h.core h.loses.own (lost_by s x t h.core h.loses)))

core_of : (s : Setting) (x : List Action) (t : ℕ) (o : Option ℕ) → core_to_lose s x t ≡ o → is_some o ≡ true → (c : ℕ) × CanLose s x t c
core_of s x t None e b = cc
core_of s x t (Some c) e b = let h = highest_is (can_lose s x t) s.table.cores c e in (c, loses s x t c h.below h.passes)

record IsRanked (s : Setting) (x : List Action) (t misses : ℕ) : Type 0 where
  candidate : IsCandidate s x t
  is : task_misses s t ≡ misses

ranked : (s : Setting) (x : List Action) (t misses : ℕ) → t < length s.table.tasks → victim_rank s x t ≡ Some misses → IsRanked s x t misses
ranked s x t misses lt e =
    let parts = cond_some (not (is_latency_critical s.table t) && is_some (core_to_lose s x t)) (task_misses s t) misses e in
    let both = and_parts (not (is_latency_critical s.table t)) (is_some (core_to_lose s x t)) parts.0 in
    let core = core_of s x t (core_to_lose s x t) refl both.1 in
    record { candidate = record { own = lt; best_effort = not-true (is_latency_critical s.table t) both.0; core = core.0; loses = core.1 }; is = parts.1 }

holds_one : (s : Setting) (x : List Action) (t c : ℕ) → CanLose s x t c → 1 ≤ held_by s.table x t
holds_one s x t c h = count_some (λ n. is_held_for s.table t (holder_of x n)) c s.table.cores h.own
    (ap (is_held_for s.table t) h.held ∙ eq-eqb (owner_of s.table h.placement.thread) t h.task)

is_over : (s : Setting) (x : List Action) (t : ℕ) → IsTable s.table → IsCandidate s x t → guaranteed_of s.table t < held_by s.table x t
is_over s x t ok h = omega (arith, nothing_guaranteed s.table t ok h.best_effort, holds_one s x t h.core h.loses)

-- the law on the victim, where there is one
pub most_misses : VictimHasMostMisses → (s : Setting) (x : List Action) (v : chosen.Candidate ℕ) → victim_of s x ≡ Some v → HasMostMisses s x v
most_misses law s x v e = MatchOption-at_some ((t : ℕ) → t < length s.table.tasks → victim_rank s x t ≡ None) (HasMostMisses s x) v e (law s x)

pub has_misses : (s : Setting) (x : List Action) (v : chosen.Candidate ℕ) → IsTable s.table → HasMostMisses s x v → HasMisses s x v.number
has_misses s x v ok h =
    let worst = ranked s x v.number v.rank h.own h.may_be in record {
      candidate = worst.candidate;
      over = is_over s x v.number ok worst.candidate;
      none_greater = λ t c. let most = h.none_more t _ c.own (rank_of s x t c) in omega (arith, most, worst.is);
      none_lesser = λ t c same. ⊎_elim
          (λ before. let less = h.earlier_less t _ before (rank_of s x t c) in absurd (omega (arith, less, worst.is, same)))
          (λ after. after)
          (cases_lt t v.number);
    }

misses_same : (s : Setting) (x y : List Action) → SameHolders x y → (t : ℕ) → IsTable s.table → HasMisses s x t → HasMisses s y t
misses_same s x y e t ok h =
    let here = candidate_same s x y e t h.candidate in record {
      candidate = here;
      over = is_over s y t ok here;
      none_greater = λ other c. h.none_greater other (candidate_same s y x (λ n. sym (e n)) other c);
      none_lesser = λ other c same. h.none_lesser other (candidate_same s y x (λ n. sym (e n)) other c) same;
    }

cut_cause : VictimHasMostMisses → ActionIsOneMore → (s : Setting) (earlier : List Action) (v : chosen.Candidate ℕ) (core : ℕ) → IsTable s.table → IsCut s earlier v core →
    IsForBandwidth s (earlier ++ Cap v.number (held_by s.table (so_far s earlier) v.number - 1) ∷ []) core
cut_cause law more s earlier v core ok cut =
    let x = so_far s earlier in
    let cap = Cap v.number (held_by s.table x v.number - 1) in
    let y = so_far s (earlier ++ cap ∷ []) in
    let same : SameHolders x y = holders_after more s earlier cap (λ c. refl) in
    let highest = highest_is (can_lose s x v.number) s.table.cores core cut.highest in record {
      over_limit = ltb-true s.table.bandwidth_limit s.input.bandwidth cut.over;
      victim = v.number;
      earlier = earlier;
      capped = ap (λ n. earlier ++ Cap v.number (n - 1) ∷ []) (sym (held_same s.table x y same v.number));
      misses = misses_same s x y same v.number ok (has_misses s x v ok (most_misses law s x v cut.greatest));
      loses = loses_same s x y same v.number core (loses s x v.number core highest.below highest.passes);
      none_higher = λ c h. highest.none_higher c h.own (lost_by s x v.number c (loses_same s y x (λ n. sym (same n)) v.number c h));
    }

pub bandwidth_cause : VictimHasMostMisses → ActionIsOneMore → (s : Setting) (acts : List Action) (core : ℕ) → IsTable s.table → IsRevokedForBandwidth s acts core →
    IsForBandwidth s acts core
bandwidth_cause law more s acts core ok r =
    let P : List Action → Type 0 = λ l. IsForBandwidth s l core in subst P (sym r.just_before) (cut_cause law more s r.earlier r.victim core ok r.cut)
