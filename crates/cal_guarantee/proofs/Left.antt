-- A core that is being left for a task stays so to the end of the pass.
use Rattle.cal_guarantee.proofs.Common.{◌≡◌, ℕ, true, false, List, [], ◌∷◌, ◌++◌, refl, ap, sym, ◌∙◌, Table, Action, Free, Unban, Ban, Revoke, Cap, Grant, Holder, holder_of, is_free, Setting, so_far, leaves_for, EachAfter, IsSteady, holder_push}
use Rattle.cal_policy.specs.declared.board.holders.Holder.TheVariants as holders
use Rattle.cal_guarantee.proofs.Holders.{moves_revoke, moves_grant}
use Rattle.cal_guarantee.proofs.Steps.{IsStep}
use Rattle.cal_guarantee.proofs.KeptAlong.{along, steady_step, revoked_last, taken_open, open_free}

-- what holds of one that is being left for the task
left_busy : (t : ℕ) (h : Holder) → leaves_for t h ≡ true → is_free h ≡ false
left_busy t holders.Free e = cc
left_busy t (holders.Held p) e = cc
left_busy t (holders.Leaving p cause) e = refl

left_step : (U : Type 0) (G : List Action → ℕ → Type 0) (s : Setting) (t c : ℕ) (acts : List Action) (a : Action) → IsStep U G s acts a → IsSteady s.table (so_far s acts) →
    leaves_for t (holder_of (so_far s acts) c) ≡ true → holder_of (so_far s acts ++ a ∷ []) c ≡ holder_of (so_far s acts) c
left_step U G s t c acts (Free core) q steady e = absurd q
left_step U G s t c acts (Unban core) q steady e = holder_push (so_far s acts) (Unban core) c
left_step U G s t c acts (Ban core thread started) q steady e = holder_push (so_far s acts) (Ban core thread started) c
left_step U G s t c acts (Cap task cap) q steady e = holder_push (so_far s acts) (Cap task cap) c
left_step U G s t c acts (Revoke core cause) q steady e =
    let x = so_far s acts in
    (moves_revoke x core cause q.loser (revoked_last s acts core q steady)).others c
    (λ same. let held : holder_of x c ≡ holders.Held q.loser = ap (holder_of x) same ∙ q.held in
    let clash : false ≡ true = sym (ap (leaves_for t) held) ∙ e in cc)
left_step U G s t c acts (Grant core thread class) q steady e =
    let x = so_far s acts in
    (moves_grant x core thread class).others c
    (λ same. let free : is_free (holder_of x c) ≡ true = ap (λ k. is_free (holder_of x k)) same ∙ open_free x core (taken_open s x q.task core q.may).0 in
    let clash : true ≡ false = sym free ∙ left_busy t (holder_of x c) e in cc)

-- it keeps its holder
abbrev IsKeptLeft : Table → ℕ → ℕ → Holder → List Action → Type 0
IsKeptLeft table t c h y = IsSteady table y × (holder_of y c ≡ h)

pub left_along : (U : Type 0) (G : List Action → ℕ → Type 0) (s : Setting) (t c : ℕ) (acts more : List Action) → EachAfter (IsStep U G s) acts more → IsSteady s.table (so_far s acts) →
    leaves_for t (holder_of (so_far s acts) c) ≡ true → holder_of (so_far s (acts ++ more)) c ≡ holder_of (so_far s acts) c
left_along U G s t c acts more each steady e =
    (along s (IsStep U G s) (IsKeptLeft s.table t c (holder_of (so_far s acts) c))
    (λ now a q was. (steady_step U G s now a q was.0, left_step U G s t c now a q was.0 (ap (leaves_for t) was.1 ∙ e) ∙ was.1))
    acts more each (steady, refl)).1
