-- The set of banned cores, after one more action.
use Rattle.cal_policy.proofs.Common.{◌≡◌, ℕ, Bool, true, false, not, cond, List, [], ◌∷◌, ◌++◌, Some, None, refl, ap, sym, ◌∙◌, eqb, ◌||◌, ◌&&◌, is_some, CoreSet, has, Action, Unban, Ban, ban_of, IsSetOfBanned, unwrap_if}
use Rattle.cal_policy.proofs.ListLemmas.OneMore.{map_if}
use Rattle.cal_policy.proofs.HistoryLemmas.OneMore.{ban_push}
use Rattle.cal_policy.proofs.HistoryLemmas.FreshCores.{or_cond, eqb_swap}

-- an action that names no ban
pub Banned_same : (set : CoreSet) (x : List Action) (a : Action) → ((c : ℕ) → ban_of (x ++ a ∷ []) c ≡ ban_of x c) → IsSetOfBanned set x → IsSetOfBanned set (x ++ a ∷ [])
Banned_same set x a e s = record { banned = λ c lt. s.banned c lt ∙ sym (ap is_some (e c)) }

and_cond : (b r : Bool) → (not b && r) ≡ cond b false r
and_cond true r = refl
and_cond false r = refl

pub Banned_ban : (set set2 : CoreSet) (x : List Action) (core thread started : ℕ) → ((c : ℕ) → has set2 c ≡ (eqb c core || has set c)) →
    IsSetOfBanned set x → IsSetOfBanned set2 (x ++ Ban core thread started ∷ [])
Banned_ban set set2 x core thread started e s = record {
  banned = λ c lt. e c ∙ ap (λ b. b || has set c) (eqb_swap c core) ∙ or_cond (eqb core c) (has set c) ∙ ap (cond (eqb core c) true) (s.banned c lt)
      ∙ sym (ap is_some (ban_push x (Ban core thread started) c ∙ unwrap_if (eqb core c) (Some (record { thread = thread; started = started })) (ban_of x c))
      ∙ map_if is_some (eqb core c) (Some (record { thread = thread; started = started })) (ban_of x c));
}

pub Banned_unban : (set set2 : CoreSet) (x : List Action) (core : ℕ) → ((c : ℕ) → has set2 c ≡ (not (eqb c core) && has set c)) →
    IsSetOfBanned set x → IsSetOfBanned set2 (x ++ Unban core ∷ [])
Banned_unban set set2 x core e s = record {
  banned = λ c lt. e c ∙ ap (λ b. not b && has set c) (eqb_swap c core) ∙ and_cond (eqb core c) (has set c) ∙ ap (cond (eqb core c) false) (s.banned c lt)
      ∙ sym (ap is_some (ban_push x (Unban core) c ∙ unwrap_if (eqb core c) None (ban_of x c)) ∙ map_if is_some (eqb core c) None (ban_of x c));
}
