-- What one more action, or one more pass's looks, changes.
use Rattle.cal_policy.proofs.Common.{◌≡◌, ℕ, ◌+◌, ◌≤◌, Bool, true, false, cond, List, [], ◌∷◌, ◌++◌, length, Option, Some, None, refl, ap, ◌∙◌, arith, eqb, append_assoc, length-append, append-nil, option_or, unwrap_or, option_map, Action, Free, Unban, Ban, Revoke, Cap, Grant, BannedFor, Seen, holder_of, holder_made, last_placement, placement_made, last_thread, thread_granted, sent_to, sends, commands_to, ban_of, ban_made, last_cap, cap_made, zero_record, nothing_shown, kept_by, to_keep_at, last_shown, shown_at, last_of}
use Rattle.cal_policy.specs.declared.board.holders.Placement as placements
use Rattle.cal_policy.specs.declared.board.holders.Holder.TheVariants as holders
use Rattle.cal_policy.proofs.ListLemmas.OneMore.{last_of_push, each_of_push, unwrap_or_or, last_of_map}

pub holder_push : (x : List Action) (a : Action) (c : ℕ) → holder_of (x ++ a ∷ []) c ≡ unwrap_or (holder_made c x a) (holder_of x c)
holder_push x a c = ap (λ o. unwrap_or o holders.Free) (last_of_push (holder_made c) x a) ∙ unwrap_or_or (holder_made c x a) (last_of (holder_made c) x) holders.Free

pub last_placement_push : (x : List Action) (a : Action) (c : ℕ) → last_placement (x ++ a ∷ []) c ≡ option_or (placement_made c x a) (last_placement x c)
last_placement_push x a c = last_of_push (placement_made c) x a

pub last_thread_push : (x : List Action) (a : Action) (c : ℕ) → last_thread (x ++ a ∷ []) c ≡ option_or (thread_granted c x a) (last_thread x c)
last_thread_push x a c = last_of_push (thread_granted c) x a

pub commands_push : (x : List Action) (a : Action) (k : ℕ) → commands_to (x ++ a ∷ []) k ≡ commands_to x k ++ sends k x a
commands_push x a k = each_of_push (sends k) x a

pub sent_push : (x : List Action) (a : Action) (k : ℕ) → sent_to (x ++ a ∷ []) k ≡ sent_to x k + length (sends k x a)
sent_push x a k = ap length (commands_push x a k) ∙ length-append (commands_to x k) (sends k x a)

-- nothing that was sent is taken back
pub sent_grows : (x acts : List Action) (k : ℕ) → sent_to x k ≤ sent_to (x ++ acts) k
sent_grows x [] k = let same = ap (λ l. sent_to l k) (append-nil x) in omega (arith, same)
sent_grows x (a ∷ acts) k =
    let one = sent_push x a k in
    let same = ap (λ l. sent_to l k) (append_assoc x (a ∷ []) acts) in
    omega (arith, one, same, sent_grows (x ++ a ∷ []) acts k)

pub ban_push : (x : List Action) (a : Action) (c : ℕ) → ban_of (x ++ a ∷ []) c ≡ unwrap_or (ban_made c x a) (ban_of x c)
ban_push x a c = ap (λ (o : Option (Option BannedFor)). unwrap_or o None) (last_of_push (ban_made c) x a) ∙ unwrap_or_or (ban_made c x a) (last_of (ban_made c) x) None

pub last_cap_push : (x : List Action) (a : Action) (t : ℕ) → last_cap (x ++ a ∷ []) t ≡ option_or (cap_made t x a) (last_cap x t)
last_cap_push x a t = last_of_push (cap_made t) x a

if_map : {Y Z : Type 0} (h : Y → Z) (b : Bool) (y : Y) → cond b (Some (h y)) None ≡ option_map h (cond b (Some y) None)
if_map h true y = refl
if_map h false y = refl

as_thread : (c : ℕ) (before : List Action) (a : Action) → thread_granted c before a ≡ option_map (λ (p : placements.Placement). p.thread) (placement_made c before a)
as_thread c before (Free core) = refl
as_thread c before (Unban core) = refl
as_thread c before (Ban core thread started) = refl
as_thread c before (Revoke core cause) = refl
as_thread c before (Cap task cap) = refl
as_thread c before (Grant core thread class) = if_map (λ (p : placements.Placement). p.thread) (eqb core c) _

-- the thread of the last grant is that of the last placement
pub last_thread_placement : (x : List Action) (c : ℕ) → last_thread x c ≡ option_map (λ (p : placements.Placement). p.thread) (last_placement x c)
last_thread_placement x c = last_of_map (placement_made c) (thread_granted c) (λ (p : placements.Placement). p.thread) (as_thread c) x

pub kept_push : (looks : List (List Seen)) (seen : List Seen) (k : ℕ) → kept_by (looks ++ seen ∷ []) k ≡ unwrap_or (to_keep_at seen k) (kept_by looks k)
kept_push looks seen k = ap (λ o. unwrap_or o zero_record) (last_of_push (λ before s. to_keep_at s k) looks seen) ∙ unwrap_or_or (to_keep_at seen k) (last_of (λ before s. to_keep_at s k) looks) zero_record

pub shown_push : (looks : List (List Seen)) (seen : List Seen) (k : ℕ) → last_shown (looks ++ seen ∷ []) k ≡ unwrap_or (shown_at seen k) (last_shown looks k)
shown_push looks seen k = ap (λ o. unwrap_or o nothing_shown) (last_of_push (λ before s. shown_at s k) looks seen) ∙ unwrap_or_or (shown_at seen k) (last_of (λ before s. shown_at s k) looks) nothing_shown
