-- What one more action makes of what is kept of the bans.
use Rattle.cal_measure.proofs.Common.{◌≡◌, ◌<◌, ◌==◌, ◌∙◌, ℕ, List, [], ◌∷◌, ◌++◌, length, Option, Some, None, if◌then◌else◌, slice_set, inl, inr, refl, sym, ap, option_or, unwrap_or, eqb_tells, last_of_push, ban_push, ban_of, ban_made, Action, Free, Unban, Ban, Revoke, Cap, Grant, Move, actions_in, made_in}
use Rattle.cal_policy.specs.declared.board.bans.BannedFor.{BannedFor}
use Rattle.cal_measure.specs.Spans.Bans.{AreBans, ban_at, ban_by, banned, banned_by, last_banned}
use Rattle.cal_measure.specs.declared.spans.bans.BanSpan.{BanSpan}
use Rattle.cal_measure.proofs.SpanLemmas.StaysKept.{actions_push, written}

-- what an action makes of the ban that core c is under: a Ban of the core begins one, an Unban ends it
abbrev pub under_made : ℕ → ℕ → Action → Option BanSpan → Option BanSpan
under_made c p (Ban core thread started) ban = if core == c then Some (banned p core thread started) else ban
under_made c p (Unban core) ban = if core == c then None else ban
under_made c p (Free core) ban = ban
under_made c p (Revoke core cause) ban = ban
under_made c p (Cap task cap) ban = ban
under_made c p (Grant core thread class) ban = ban

by_made : (x : List Action) (p c : ℕ) (a : Action) (begun : Option BanSpan)
    → ban_by (unwrap_or (ban_made c x a) (ban_of x c)) (option_or (banned_by c p a) begun) ≡ under_made c p a (ban_by (ban_of x c) begun)
by_made x p c (Ban core thread started) begun = elim (eqb_tells core c) [ inl same ↦ rw same.0 refl | inr other ↦ rw other.0 refl ]
by_made x p c (Unban core) begun = elim (eqb_tells core c) [ inl same ↦ rw same.0 refl | inr other ↦ rw other.0 refl ]
by_made x p c (Free core) begun = refl
by_made x p c (Revoke core cause) begun = refl
by_made x p c (Cap task cap) begun = refl
by_made x p c (Grant core thread class) begun = refl

-- the ban that a core is under, after one more action
pub under_push : (moves : List Move) (p : ℕ) (a : Action) (c : ℕ) → ban_at (moves ++ made_in p a ∷ []) c ≡ under_made c p a (ban_at moves c)
under_push moves p a c =
    let all = moves ++ made_in p a ∷ [] in
    let ban = unwrap_or (ban_made c (actions_in moves) a) (ban_of (actions_in moves) c) in
    ap (λ (x : List Action). ban_by (ban_of x c) (last_banned all c)) (actions_push moves p a)
    ∙ ap (λ (b : Option BannedFor). ban_by b (last_banned all c)) (ban_push (actions_in moves) a c)
    ∙ ap (λ (begun : Option BanSpan). ban_by ban begun) (last_of_push (λ (before : List Move) (m : Move). banned_by c m.pass m.action) moves (made_in p a))
    ∙ by_made (actions_in moves) p c a (last_banned moves c)

pub bans-unban : (list : List (Option BanSpan)) (moves : List Move) (p core : ℕ) → length list ≡ 256 → core < 256 → AreBans list moves
    → AreBans (slice_set list core None) (moves ++ made_in p (Unban core) ∷ [])
bans-unban list moves p core long few h = let within : core < length list = rw long few in record {
  same = λ c lt. written list core c None None (ban_at moves c) within (h.same c lt) ∙ sym (under_push moves p (Unban core) c);
}

pub bans-ban : (list : List (Option BanSpan)) (moves : List Move) (p core thread started : ℕ) → length list ≡ 256 → core < 256 → AreBans list moves
    → AreBans (slice_set list core (Some (banned p core thread started))) (moves ++ made_in p (Ban core thread started) ∷ [])
bans-ban list moves p core thread started long few h = let within : core < length list = rw long few in record {
  same = λ c lt. written list core c (Some (banned p core thread started)) None (ban_at moves c) within (h.same c lt) ∙ sym (under_push moves p (Ban core thread started) c);
}

pub bans-other : (list : List (Option BanSpan)) (moves : List Move) (p : ℕ) (action : Action) → ((c : ℕ) (ban : Option BanSpan) → under_made c p action ban ≡ ban)
    → AreBans list moves → AreBans list (moves ++ made_in p action ∷ [])
bans-other list moves p action none h = record {
  same = λ c lt. h.same c lt ∙ sym (under_push moves p action c ∙ none c (ban_at moves c));
}
