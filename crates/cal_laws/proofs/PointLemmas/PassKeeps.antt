-- What each action of the parts of a pass keeps up, the pass keeps up.
use Rattle.cal_laws.proofs.Common.{◌≡◌, ℕ, ◌+◌, ◌-◌, ◌<◌, zero, suc, Bool, true, false, cond, ◌&&◌, nat_lt, List, [], ◌∷◌, ◌++◌, length, Option, Some, None, refl, sym, arith, append_assoc, subst, append-nil, thread_of, is_latency_critical, Action, Revoke, Cap, Grant, Cause, Candidate, CoreClass, class_number, is_idle, in_turn, lowest_below, held_by, cap_of, is_banned, Setting, so_far, frees, unbans, bans_at, bans, core_to_lose, victim_of, cut_at, cut_of, rise_of, is_capped, bandwidth_part, is_congested, may_book, thread_choice, choice_of, grant_of, grant_at, grant_of_kind_at, grants_of_kind, pass_of, ChosenIsOfLeastClass}
use Rattle.cal_policy.specs.declared.history.action.Cause.TheVariants as causes
use Rattle.cal_machine.specs.declared.task.Kind.TheVariants as kinds
use Rattle.cal_laws.proofs.ChoiceLemmas.Chosen.{least_class}
use Rattle.cal_laws.proofs.ChoiceLemmas.Classes.{of_its_class, idle_unbanned}

-- nothing more is nothing new
pub nothing_more : (Q : List Action → Type 0) (acts : List Action) → Q acts → Q (acts ++ [])
nothing_more Q acts h = subst Q (sym (append-nil acts)) h

-- what each number's actions keep up, all keep up
pub in_turn_keeps : (Q : List Action → Type 0) (f : List Action → ℕ → List Action) (before : List Action) (n : ℕ) →
    ((acts : List Action) (k : ℕ) → k < n → Q acts → Q (acts ++ f acts k)) → Q before → Q (before ++ in_turn f before n)
in_turn_keeps Q f before zero step h = nothing_more Q before h
in_turn_keeps Q f before (suc n) step h =
    subst Q (append_assoc before (in_turn f before n) (f (before ++ in_turn f before n) n))
    (step (before ++ in_turn f before n) n (omega arith) (in_turn_keeps Q f before n (λ acts k lt. step acts k (omega arith)) h))

-- a core that is chosen in an idle class is not banned
pub chosen_unbanned : ChosenIsOfLeastClass → (s : Setting) (acts : List Action) (t : ℕ) (core : Candidate CoreClass) → choice_of s acts t ≡ Some core → is_idle core.rank ≡ true →
    is_banned (so_far s acts) core.number ≡ false
chosen_unbanned law s acts t core e low =
    idle_unbanned s acts t core.rank core.number (of_its_class s acts t core.rank core.number (least_class law s acts t core e).class) low

-- what the actions of the last three parts keep up
pub record IsKeptInPass (s : Setting) (Q : List Action → Type 0) : Type 0 where
  pub ban : (acts : List Action) (c : ℕ) → c < s.table.cores → Q acts → Q (acts ++ bans_at s acts c)
  pub revoke : (acts : List Action) (core : ℕ) (cause : Cause) → Q acts → Q (acts ++ Revoke core cause ∷ [])
  pub cap : (acts : List Action) (task cap : ℕ) → Q acts → Q (acts ++ Cap task cap ∷ [])
  pub grant : (acts : List Action) (core thread class : ℕ) → is_banned (so_far s acts) core ≡ false → Q acts → Q (acts ++ Grant core thread class ∷ [])

module _ (s : Setting) (Q : List Action → Type 0) (kept : IsKeptInPass s Q) where
  cut_core_keeps : (acts : List Action) (t : ℕ) (o : Option ℕ) → Q acts → Q (acts ++ cut_at s (so_far s acts) t o)
  cut_core_keeps acts t None h = nothing_more Q acts h
  cut_core_keeps acts t (Some core) h =
      let cap = Cap t (held_by s.table (so_far s acts) t - 1) in
      subst Q (append_assoc acts (cap ∷ []) (Revoke core causes.Bandwidth ∷ [])) (kept.revoke (acts ++ cap ∷ []) core causes.Bandwidth (kept.cap acts t (held_by s.table (so_far s acts) t - 1) h))

  cut_keeps : (acts : List Action) (o : Option (Candidate ℕ)) → Q acts → Q (acts ++ cut_of s (so_far s acts) o)
  cut_keeps acts None h = nothing_more Q acts h
  cut_keeps acts (Some victim) h = cut_core_keeps acts victim.number (core_to_lose s (so_far s acts) victim.number) h

  rise_keeps : (acts : List Action) (o : Option ℕ) → Q acts → Q (acts ++ rise_of s (so_far s acts) o)
  rise_keeps acts None h = nothing_more Q acts h
  rise_keeps acts (Some t) h = kept.cap acts t (cap_of s.table (so_far s acts) t + 1) h

  bandwidth_by : (acts : List Action) (b : Bool) (victim : Option (Candidate ℕ)) (low : Option ℕ) → Q acts →
      Q (acts ++ cond b (cut_of s (so_far s acts) victim) (rise_of s (so_far s acts) low))
  bandwidth_by acts true victim low h = cut_keeps acts victim h
  bandwidth_by acts false victim low h = rise_keeps acts low h

  bandwidth_keeps : (acts : List Action) → Q acts → Q (acts ++ bandwidth_part s acts)
  bandwidth_keeps acts h =
      bandwidth_by acts (nat_lt s.table.bandwidth_limit s.input.bandwidth) (victim_of s (so_far s acts)) (lowest_below (is_capped s (so_far s acts)) (length s.table.tasks)) h

  chosen_keeps : ChosenIsOfLeastClass → (acts : List Action) (t thread : ℕ) (core : Candidate CoreClass) → choice_of s acts t ≡ Some core → (b : Bool) → is_idle core.rank ≡ b → Q acts →
      Q (acts ++ cond b (Grant core.number thread (class_number core.rank) ∷ []) (Revoke core.number (causes.Preempt t) ∷ []))
  chosen_keeps law acts t thread core e true low h = kept.grant acts core.number thread (class_number core.rank) (chosen_unbanned law s acts t core e low) h
  chosen_keeps law acts t thread core e false low h = kept.revoke acts core.number (causes.Preempt t) h

  grant_of_keeps : ChosenIsOfLeastClass → (acts : List Action) (t : ℕ) (thread : Option (Candidate ℕ)) (core : Option (Candidate CoreClass)) → choice_of s acts t ≡ core → Q acts → Q (acts ++ grant_of s t thread core)
  grant_of_keeps law acts t None core e h = nothing_more Q acts h
  grant_of_keeps law acts t (Some thread) None e h = nothing_more Q acts h
  grant_of_keeps law acts t (Some thread) (Some core) e h = chosen_keeps law acts t (thread_of s.table t thread.number) core e (is_idle core.rank) refl h

  grant_by : (acts : List Action) (b : Bool) (more : List Action) → Q (acts ++ more) → Q acts → Q (acts ++ cond b more [])
  grant_by acts true more h none = h
  grant_by acts false more h none = nothing_more Q acts none

  grant_keeps : ChosenIsOfLeastClass → (acts : List Action) (t : ℕ) → Q acts → Q (acts ++ grant_at s acts t)
  grant_keeps law acts t h =
      grant_by acts (is_congested s t && may_book s (so_far s acts) t) (grant_of s t (thread_choice s (so_far s acts) t) (choice_of s acts t))
      (grant_of_keeps law acts t (thread_choice s (so_far s acts) t) (choice_of s acts t) refl h) h

  grant_unless : (acts : List Action) (b : Bool) (more : List Action) → Q (acts ++ more) → Q acts → Q (acts ++ cond b [] more)
  grant_unless acts true more h none = nothing_more Q acts none
  grant_unless acts false more h none = h

  -- from the end of the second part to the end of the pass
  rest_keeps : ChosenIsOfLeastClass → (acts : List Action) → Q acts →
      Q (let banned = acts ++ bans s acts in let bounded = banned ++ bandwidth_part s banned in let granted = bounded ++ grants_of_kind kinds.LatencyCritical s bounded in granted ++ grants_of_kind kinds.BestEffort s granted)
  rest_keeps law acts h =
      let banned : List Action = acts ++ bans s acts in
      let bounded : List Action = banned ++ bandwidth_part s banned in
      let granted : List Action = bounded ++ grants_of_kind kinds.LatencyCritical s bounded in
      let q1 : Q banned = in_turn_keeps Q (bans_at s) acts s.table.cores kept.ban h in
      let q2 : Q bounded = bandwidth_keeps banned q1 in
      let q3 : Q granted = in_turn_keeps Q (grant_of_kind_at kinds.LatencyCritical s) bounded (length s.table.tasks)
      (λ now t lt q. grant_by now (is_latency_critical s.table t) (grant_at s now t) (grant_keeps law now t q) q) q2 in
      in_turn_keeps Q (grant_of_kind_at kinds.BestEffort s) granted (length s.table.tasks)
      (λ now t lt q. grant_unless now (is_latency_critical s.table t) (grant_at s now t) (grant_keeps law now t q) q) q3

-- the actions of the first two parts
abbrev pub unbanned_of : Setting → List Action
unbanned_of s = frees s [] ++ unbans s (frees s [])

pub pass_keeps : ChosenIsOfLeastClass → (s : Setting) (Q : List Action → Type 0) → IsKeptInPass s Q → Q (unbanned_of s) → Q (pass_of s)
pass_keeps law s Q kept h = rest_keeps s Q kept law (unbanned_of s) h
