-- Before the grants of a pass none of its cores is granted.
use Rattle.cal_guarantee.proofs.Common.{◌≡◌, ℕ, false, List, [], ◌∷◌, ◌++◌, None, ap, sym, ◌∙◌, refl, subst, is_some, option_or, IsTable, Action, Free, Unban, Ban, Revoke, Cap, Grant, last_thread, thread_granted, last_thread_push, Setting, so_far, frees, is_granted_in, new_helpers, bounded_of, made_are}
use Rattle.cal_guarantee.proofs.Steps.{IsStep}
use Rattle.cal_guarantee.proofs.Own.{no_helpers}
use Rattle.cal_guarantee.proofs.KeptAlong.{NoGrant, along_acts}
use Rattle.cal_guarantee.proofs.Freed.{IsFreeStep, frees_steps}
use Rattle.cal_guarantee.proofs.PassTurns.{middle_of, middle_steps, bounded_middle}

pub granted_push : (acts : List Action) (a : Action) (c : ℕ) → thread_granted c acts a ≡ None → is_granted_in (acts ++ a ∷ []) c ≡ is_granted_in acts c
granted_push acts a c e = ap is_some (last_thread_push acts a c ∙ ap (λ o. option_or o (last_thread acts c)) e)

abbrev NoneIn : List Action → Type 0
NoneIn acts = (c : ℕ) → is_granted_in acts c ≡ false

-- the first part grants none
none_granted_step : (s : Setting) (acts : List Action) (a : Action) → IsFreeStep s acts a → NoneIn acts → NoneIn (acts ++ a ∷ [])
none_granted_step s acts (Free core) q was c = granted_push acts (Free core) c refl ∙ was c
none_granted_step s acts (Unban core) q was c = absurd q
none_granted_step s acts (Ban core thread started) q was c = absurd q
none_granted_step s acts (Revoke core cause) q was c = absurd q
none_granted_step s acts (Cap task cap) q was c = absurd q
none_granted_step s acts (Grant core thread class) q was c = absurd q

pub none_granted : (s : Setting) (c : ℕ) → is_granted_in (frees s []) c ≡ false
none_granted s = along_acts (IsFreeStep s) NoneIn (λ acts a q was. none_granted_step s acts a q was) [] (frees s []) (frees_steps s) (λ c. refl)

-- nor does what comes after it
none_more : (U : Type 0) (s : Setting) (acts : List Action) (a : Action) → IsStep U NoGrant s acts a → NoneIn acts → NoneIn (acts ++ a ∷ [])
none_more U s acts (Free core) q was c = absurd q
none_more U s acts (Unban core) q was c = granted_push acts (Unban core) c refl ∙ was c
none_more U s acts (Ban core thread started) q was c = granted_push acts (Ban core thread started) c refl ∙ was c
none_more U s acts (Revoke core cause) q was c = granted_push acts (Revoke core cause) c refl ∙ was c
none_more U s acts (Cap task cap) q was c = granted_push acts (Cap task cap) c refl ∙ was c
none_more U s acts (Grant core thread class) q was c = absurd q.good

pub none_granted_yet : (s : Setting) → IsTable s.table → NoneIn (bounded_of s)
none_granted_yet s ok =
    subst NoneIn (sym (bounded_middle s))
    (along_acts (IsStep (Unit {0}) NoGrant s) NoneIn (λ acts a q was. none_more (Unit {0}) s acts a q was) (frees s []) (middle_of s) (middle_steps NoGrant s ok) (none_granted s))

-- so no task has a helper of the pass
pub no_helpers_yet : (s : Setting) (t : ℕ) → IsTable s.table → new_helpers s (so_far s (bounded_of s)) t ≡ 0
no_helpers_yet s t ok = no_helpers s t (so_far s (bounded_of s)) (λ c. ap (λ l. is_granted_in l c) (made_are s (bounded_of s)) ∙ none_granted_yet s ok c)
