-- Which threads were sent a command in a pass, one action more.
use Rattle.cal_guard.proofs.Common.{◌≡◌, ℕ, ◌+◌, ◌<◌, ◌≤◌, Bool, true, false, cond, ◌||◌, eqb, ltb, List, [], ◌∷◌, ◌++◌, length, Option, Some, None, refl, sym, ap, subst, ◌∙◌, arith, append_assoc, option_map, IfSome, eqb-true, eq-eqb, nat_tests, append-nil, Command, Run, Park, has_thread, Action, Free, Unban, Ban, Revoke, Cap, Grant, Cause, actions_of, addressed_to, sends, sent_to, command_to, last_thread, last_placement, kept_placement, NamesCores, Setting, so_far, sent_push, sent_grows, last_thread_placement, was_sent, is_core, IsSetOfSent}
use Rattle.cal_machine.specs.declared.thread_set.ThreadSet.{ThreadSet}
use Rattle.cal_policy.specs.declared.board.holders.Placement as placements
use Rattle.cal_policy.proofs.BoardLemmas.AsKept.{thread_as_kept}
use Rattle.cal_policy.proofs.HistoryLemmas.FreshCores.{eqb_swap}

lt_sum : (b x n : ℕ) → b ≤ x → ltb b (x + n) ≡ (ltb b x || ltb 0 n)
lt_sum b x n le = grind (arith, nat_tests)

was_more : (s : Setting) (acts : List Action) (a : Action) (k : ℕ) → was_sent s (acts ++ a ∷ []) k ≡ (was_sent s acts k || ltb 0 (length (sends k (so_far s acts) a)))
was_more s acts a k =
    let before : List Action = actions_of s.history in
    let same : sent_to (so_far s (acts ++ a ∷ [])) k ≡ sent_to (so_far s acts) k + length (sends k (so_far s acts) a) =
    ap (λ l. sent_to l k) (sym (append_assoc before acts (a ∷ []))) ∙ sent_push (so_far s acts) a k in
    ap (λ n. ltb (sent_to before k) n) same ∙ lt_sum (sent_to before k) (sent_to (so_far s acts) k) (length (sends k (so_far s acts) a)) (sent_grows before acts k)

or_swap : (a b : Bool) → (a || b) ≡ (b || a)
or_swap true true = refl
or_swap true false = refl
or_swap false true = refl
or_swap false false = refl

pub noted : (set new : ThreadSet) (s : Setting) (acts : List Action) (a : Action) (o : Option ℕ) → ((k : ℕ) → ltb 0 (length (sends k (so_far s acts) a)) ≡ is_core k o) → IsSetOfSent set s acts →
    ((k : ℕ) → k < 128 → has_thread new k ≡ (is_core k o || has_thread set k)) → IsSetOfSent new s (acts ++ a ∷ [])
noted set new s acts a o to was is = record {
  sent = λ k lt. is k lt ∙ ap (λ b. is_core k o || b) (was.sent k lt) ∙ or_swap (is_core k o) (was_sent s acts k) ∙ ap (λ b. was_sent s acts k || b) (sym (to k)) ∙ sym (was_more s acts a k);
}

some_sent : (b : Bool) (command : Command) → ltb 0 (length (cond b (command ∷ []) [])) ≡ b
some_sent true command = refl
some_sent false command = refl

-- a command goes to the thread that it is addressed to, and to no other
pub to_addressed : (o : Option (ℕ × Command)) (k : ℕ) → ltb 0 (length (addressed_to k o)) ≡ is_core k (option_map (λ (p : ℕ × Command). p.0) o)
to_addressed None k = refl
to_addressed (Some sent) k = some_sent (eqb sent.0 k) sent.1

-- one command reaches thread k as another does: it is k's
reaches : (b : Bool) (c d : Command) → c ∷ [] ≡ cond b (d ∷ []) [] → b ≡ true
reaches true c d e = refl
reaches false c d e = absurd (cc)

reached : (k thread : ℕ) (c d : Command) → command_to k (Some k) c ≡ command_to k (Some thread) d → thread ≡ k
reached k thread c d e = eqb-true thread k (reaches (eqb thread k) c d (ap (λ b. cond b (c ∷ []) []) (sym (eq-eqb k k refl)) ∙ e))

unreached : (k : ℕ) (c : Command) → command_to k (Some k) c ≡ [] → ⊥
unreached k c e = let no : c ∷ [] ≡ [] = ap (λ b. cond b (c ∷ []) []) (sym (eq-eqb k k refl)) ∙ e in absurd (cc)

-- actions after which the last grant of the core went to this thread, if to any
abbrev before_last : Option ℕ → ℕ → List Action
before_last None core = []
before_last (Some thread) core = Grant core thread 1 ∷ []

is_last : (granted : Option ℕ) (core : ℕ) → granted ≡ last_thread (before_last granted core) core
is_last None core = refl
is_last (Some thread) core = rw (eq-eqb core core refl) refl

revoked_below : (threads k : ℕ) (c : Command) (granted : Option ℕ) → IfSome granted (λ thread. thread < threads) → command_to k (Some k) c ≡ command_to k granted Park → k < threads
revoked_below threads k c None kept e = absurd (unreached k c e)
revoked_below threads k c (Some thread) kept e = subst (λ (n : ℕ). n < threads) (reached k thread c Park e) kept

-- an action that names threads below this number, of a core whose last grant went to one of them,
-- sends to one of them
pub sent_below : (cores threads : ℕ) (granted : Option ℕ) (sent : ℕ × Command) (action : Action) → NamesCores cores threads action
    → ((core : ℕ) (cause : Cause) → action ≡ Revoke core cause → IfSome granted (λ thread. thread < threads))
    → ((x : List Action) → ((core : ℕ) (cause : Cause) → action ≡ Revoke core cause → granted ≡ last_thread x core) → (k : ℕ) → addressed_to k (Some sent) ≡ sends k x action)
    → sent.0 < threads
sent_below cores threads granted sent (Free core) names kept is = absurd (unreached sent.0 sent.1 (is [] (λ c cause e. absurd (cc)) sent.0))
sent_below cores threads granted sent (Unban core) names kept is = absurd (unreached sent.0 sent.1 (is [] (λ c cause e. absurd (cc)) sent.0))
sent_below cores threads granted sent (Ban core thread started) names kept is = absurd (unreached sent.0 sent.1 (is [] (λ c cause e. absurd (cc)) sent.0))
sent_below cores threads granted sent (Cap task cap) names kept is = absurd (unreached sent.0 sent.1 (is [] (λ c cause e. absurd (cc)) sent.0))
sent_below cores threads granted sent (Grant core thread class) names kept is =
    subst (λ (n : ℕ). n < threads) (reached sent.0 thread sent.1 (Run core) (is [] (λ c cause e. absurd (cc)) sent.0)) names.1
sent_below cores threads granted sent (Revoke core cause) names kept is =
    let x = before_last granted core in
    revoked_below threads sent.0 sent.1 granted (kept core cause refl)
    (is x (λ c other e. let same : core ≡ c = cc in is_last granted core ∙ ap (last_thread x) same) sent.0 ∙ ap (λ o. command_to sent.0 o Park) (sym (is_last granted core)))

pub thread_below : (threads : ℕ) (o : Option placements.Placement) → IfSome o (λ placement. placement.thread < threads) → IfSome (option_map (λ (p : placements.Placement). p.thread) o) (λ thread. thread < threads)
thread_below threads None kept = kept
thread_below threads (Some placement) kept = kept

-- the thread of the last grant, as it is kept
pub granted_last : (x : List Action) (core : ℕ) (o : Option placements.Placement) → o ≡ option_map kept_placement (last_placement x core) →
    option_map (λ (p : placements.Placement). p.thread) o ≡ last_thread x core
granted_last x core o e = ap (λ o. option_map (λ (p : placements.Placement). p.thread) o) e ∙ thread_as_kept (last_placement x core) ∙ sym (last_thread_placement x core)

pub inserted : (set new : ThreadSet) (thread : ℕ) → ((c : ℕ) → has_thread new c ≡ (eqb c thread || has_thread set c)) → (k : ℕ) → k < 128 → has_thread new k ≡ (is_core k (Some thread) || has_thread set k)
inserted set new thread is k lt = is k ∙ ap (λ b. b || has_thread set k) (eqb_swap k thread)

pub not_some : {X : Type 0} (o : Option X) → ((x : X) → o ≡ Some x → ⊥) → o ≡ None
not_some None f = refl
not_some (Some x) f = absurd (f x refl)

not_below : (n : ℕ) → ltb n n ≡ false
not_below n = grind (arith, nat_tests)

-- at first nobody was sent one
pub none_sent : (set : ThreadSet) (s : Setting) → ((c : ℕ) → has_thread set c ≡ false) → IsSetOfSent set s []
none_sent set s e = record {
  sent = λ k lt. e k ∙ sym (ap (λ l. ltb (sent_to (actions_of s.history) k) (sent_to l k)) (append-nil (actions_of s.history)) ∙ not_below (sent_to (actions_of s.history) k));
}
