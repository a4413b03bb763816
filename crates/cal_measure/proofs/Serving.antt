-- TimedTurns and services, one turn more.
use Rattle.cal_measure.proofs.Common.{◌≡◌, ℕ, Bool, true, false, ◌||◌, cond, List, [], ◌∷◌, ◌++◌, Option, Some, None, ◌+◌, refl, ap, sym, ◌∙◌, arith, is_some, option_or, any_serves, since_service, first_at_work, begun_since, worked_in, worked_since, clocked, ticks_of, TimedTurn}
use Rattle.std.proofs.Math.Bool.{or-true, or-false}

or_assoc : (a b c : Bool) → (a || (b || c)) ≡ ((a || b) || c)
or_assoc true b c = refl
or_assoc false b c = refl

any_push : (turns : List TimedTurn) (turn : TimedTurn) → any_serves (turns ++ turn ∷ []) ≡ (any_serves turns || is_some turn.served)
any_push [] turn = or-false (is_some turn.served)
any_push (t ∷ turns) turn = ap (λ b. is_some t.served || b) (any_push turns turn) ∙ or_assoc (is_some t.served) (any_serves turns) (is_some turn.served)

-- a turn that served leaves nothing since
since_push_some : (turns : List TimedTurn) (turn : TimedTurn) → is_some turn.served ≡ true → since_service (turns ++ turn ∷ []) ≡ []
since_push_some [] turn e = rw e refl
since_push_some (t ∷ turns) turn e = rw (any_push turns turn, e, or-true, or-true) (since_push_some turns turn e)

cond_push : (b : Bool) (xs ys : List TimedTurn) (turn : TimedTurn) → cond b xs ys ++ turn ∷ [] ≡ cond b (xs ++ turn ∷ []) (ys ++ turn ∷ [])
cond_push true xs ys turn = refl
cond_push false xs ys turn = refl

-- one that did not comes after the others
since_push_none : (turns : List TimedTurn) (turn : TimedTurn) → is_some turn.served ≡ false → since_service (turns ++ turn ∷ []) ≡ since_service turns ++ turn ∷ []
since_push_none [] turn e = rw e refl
since_push_none (t ∷ turns) turn e =
    rw (any_push turns turn, e, or-false, since_push_none turns turn e) (sym (cond_push (is_some t.served || any_serves turns) (since_service turns) (t ∷ turns) turn))

-- the first at work, one turn more
at_work_push : (turns : List TimedTurn) (turn : TimedTurn) → first_at_work (turns ++ turn ∷ []) ≡ option_or (first_at_work turns) (cond turn.at_work (Some turn.stamp) None)
at_work_push [] turn = refl
at_work_push (t ∷ turns) turn = at_work_step t.at_work t.stamp (first_at_work turns) _ _ (at_work_push turns turn) where
  at_work_step : (b : Bool) (stamp : ℕ) (o p q : Option ℕ) → p ≡ option_or o q → cond b (Some stamp) p ≡ option_or (cond b (Some stamp) o) q
  at_work_step true stamp o p q e = refl
  at_work_step false stamp o p q e = e

pub begun_push_some : (turns : List TimedTurn) (turn : TimedTurn) → is_some turn.served ≡ true → begun_since (turns ++ turn ∷ []) ≡ None
begun_push_some turns turn e = rw (since_push_some turns turn e) refl

pub begun_push_none : (turns : List TimedTurn) (turn : TimedTurn) → is_some turn.served ≡ false →
    begun_since (turns ++ turn ∷ []) ≡ option_or (begun_since turns) (cond turn.at_work (Some turn.stamp) None)
begun_push_none turns turn e = rw (since_push_none turns turn e) (at_work_push (since_service turns) turn)

-- the time worked, one turn more
worked_push : (turns : List TimedTurn) (turn : TimedTurn) → worked_in (turns ++ turn ∷ []) ≡ worked_in turns + cond turn.at_work (ticks_of turn) 0
worked_push [] turn = omega arith
worked_push (t ∷ turns) turn = let more = worked_push turns turn in omega (arith, more)

pub worked_push_some : (turns : List TimedTurn) (turn : TimedTurn) → is_some turn.served ≡ true → worked_since (turns ++ turn ∷ []) ≡ 0
worked_push_some turns turn e = rw (since_push_some turns turn e) refl

pub worked_push_none : (turns : List TimedTurn) (turn : TimedTurn) → is_some turn.served ≡ false →
    worked_since (turns ++ turn ∷ []) ≡ worked_since turns + cond turn.at_work (ticks_of turn) 0
worked_push_none turns turn e = rw (since_push_none turns turn e) (worked_push (since_service turns) turn)

-- what was counted up to the greatest clock, and some ticks more
pub clocked_more : (ticks more : ℕ) → clocked (clocked ticks + more) ≡ clocked (ticks + more)
clocked_more ticks more = omega arith
