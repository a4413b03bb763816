-- Debts are kept up with one more action.
use Rattle.cal_policy.proofs.Common.{◌≡◌, ℕ, ◌<◌, List, [], ◌∷◌, ◌++◌, length, set, cond, Option, Some, None, refl, ap, sym, ◌∙◌, arith, eqb, unwrap_or, Action, Free, Unban, Ban, Revoke, Cap, Grant, Cause, Holder, holder_of, last_of, owed_made, owed_to, left_for, NamesCores, core_changed, kept_holder, unwrap_if}
use Rattle.cal_policy.specs.declared.board.debts.Debts.{Debts}
use Rattle.cal_policy.specs.declared.board.holders.Holder.TheVariants as holders
use Rattle.cal_policy.specs.Board.Debts.{DebtsAgree}
use Rattle.cal_policy.proofs.ListLemmas.OneMore.{last_of_push, unwrap_or_or, set_says}

pub owed_push : (x : List Action) (a : Action) (c : ℕ) → owed_to (x ++ a ∷ []) c ≡ unwrap_or (owed_made c x a) (owed_to x c)
owed_push x a c = ap (λ (o : Option (Option ℕ)). unwrap_or o None) (last_of_push (owed_made c) x a) ∙ unwrap_or_or (owed_made c x a) (last_of (owed_made c) x) None

-- for whom a core is left does not depend on how numbers of commands are kept
pub left_as_kept : (h : Holder) → left_for (kept_holder h) ≡ left_for h
left_as_kept holders.Free = refl
left_as_kept (holders.Held placement) = refl
left_as_kept (holders.Leaving placement cause) = refl

pub Debts_free : (d : Debts) (x : List Action) (core : ℕ) (before : Holder) → length d.owed ≡ 128 → core < 128 → DebtsAgree d x →
    before ≡ kept_holder (holder_of x core) → DebtsAgree (record { owed = set d.owed core (left_for before) }) (x ++ Free core ∷ [])
Debts_free d x core before len low s is =
    let left : left_for before ≡ left_for (holder_of x core) = ap left_for is ∙ left_as_kept (holder_of x core) in record {
      owed = λ c lt. set_says d.owed None (owed_to x) 128 core (left_for before) len low s.owed c lt
          ∙ ap (λ (o : Option ℕ). cond (eqb core c) o (owed_to x c)) left
          ∙ sym (owed_push x (Free core) c ∙ unwrap_if (eqb core c) (left_for (holder_of x core)) (owed_to x c));
    }

pub Debts_revoke : (d : Debts) (x : List Action) (core : ℕ) (cause : Cause) → length d.owed ≡ 128 → core < 128 → DebtsAgree d x →
    DebtsAgree (record { owed = set d.owed core None }) (x ++ Revoke core cause ∷ [])
Debts_revoke d x core cause len low s = record {
  owed = λ c lt. set_says d.owed None (owed_to x) 128 core None len low s.owed c lt
      ∙ sym (owed_push x (Revoke core cause) c ∙ unwrap_if (eqb core c) None (owed_to x c));
}

pub Debts_grant : (d : Debts) (x : List Action) (core thread class : ℕ) → length d.owed ≡ 128 → core < 128 → DebtsAgree d x →
    DebtsAgree (record { owed = set d.owed core None }) (x ++ Grant core thread class ∷ [])
Debts_grant d x core thread class len low s = record {
  owed = λ c lt. set_says d.owed None (owed_to x) 128 core None len low s.owed c lt
      ∙ sym (owed_push x (Grant core thread class) c ∙ unwrap_if (eqb core c) None (owed_to x c));
}

-- an action that changes no holder
pub Debts_same : (d : Debts) (x : List Action) (a : Action) → ((c : ℕ) → owed_to (x ++ a ∷ []) c ≡ owed_to x c) → DebtsAgree d x → DebtsAgree d (x ++ a ∷ [])
Debts_same d x a e s = record { owed = λ c lt. s.owed c lt ∙ sym (e c) }

-- the core whose holder an action changes is one of the board's
pub low_core : (a : Action) (k : ℕ) → core_changed a ≡ Some k → NamesCores 128 128 a → k < 128
low_core (Free core) k e n = let same : core ≡ k = cc in omega (arith, same, n)
low_core (Unban core) k e n = cc
low_core (Ban core thread started) k e n = cc
low_core (Revoke core cause) k e n = let same : core ≡ k = cc in omega (arith, same, n)
low_core (Cap task cap) k e n = cc
low_core (Grant core thread class) k e n = let same : core ≡ k = cc in omega (arith, same, n.0)
