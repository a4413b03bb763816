-- Histories that leave the same.
use Rattle.std.proofs.Common.{◌≡◌, ℕ, List, [], ◌∷◌, ◌++◌, Option, Some, None, refl, sym, ap, ◌∙◌, append_assoc, append-nil, subst, slice_get}
use Rattle.std.proofs.lemmas.List.{map-append}
use Rattle.std.proofs.lemmas.Grind.{flat_map-append}
use Rattle.std.specs.Option.{IfSome, unwrap_or, option_and_then}
use Rattle.cal_policy.specs.declared.history.entry.PassEntry.{PassEntry}
use Rattle.cal_policy.specs.History.{actions_of, looks_of}
use Rattle.cal_policy.specs.History.Looks.{kept_by, last_shown, record_to_keep, shown_by, shown_at, to_keep_at}
use Rattle.cal_policy.proofs.HistoryLemmas.OneMore.{kept_push, shown_push}
use Rattle.cal_idle.specs.Idle.{IsIdle, LeaveTheSame, IdlePassesLeaveTheSame}

pub actions_append : (one two : List PassEntry) → actions_of (one ++ two) ≡ actions_of one ++ actions_of two
actions_append one two = flat_map-append (λ (entry : PassEntry). entry.actions) one two

pub actions_push : (h : List PassEntry) (entry : PassEntry) → actions_of (h ++ entry ∷ []) ≡ actions_of h ++ entry.actions
actions_push h entry = actions_append h (entry ∷ []) ∙ ap (λ l. actions_of h ++ l) (append-nil entry.actions)

pub looks_push : (h : List PassEntry) (entry : PassEntry) → looks_of (h ++ entry ∷ []) ≡ looks_of h ++ entry.input.seen ∷ []
looks_push h entry = map-append (λ (entry : PassEntry). entry.input.seen) h (entry ∷ [])

pub same_back : (one other : List PassEntry) → LeaveTheSame one other → LeaveTheSame other one
same_back one other same = record { done = sym same.done; kept = λ k. sym (same.kept k); shown = λ k. sym (same.shown k) }

pub same_chain : (one two three : List PassEntry) → LeaveTheSame one two → LeaveTheSame two three → LeaveTheSame one three
same_chain one two three a b = record { done = a.done ∙ b.done; kept = λ k. a.kept k ∙ b.kept k; shown = λ k. a.shown k ∙ b.shown k }

pub same_itself : (h : List PassEntry) → LeaveTheSame h h
same_itself h = record { done = refl; kept = λ k. refl; shown = λ k. refl }

-- the same pass after them
pub same_push : (one other : List PassEntry) (entry : PassEntry) → LeaveTheSame one other → LeaveTheSame (one ++ entry ∷ []) (other ++ entry ∷ [])
same_push one other entry same = record {
  done = actions_push one entry ∙ ap (λ l. l ++ entry.actions) same.done ∙ sym (actions_push other entry);
  kept = λ k. kept_after one entry k ∙ ap (unwrap_or (to_keep_at entry.input.seen k)) (same.kept k) ∙ sym (kept_after other entry k);
  shown = λ k. shown_after one entry k ∙ ap (unwrap_or (shown_at entry.input.seen k)) (same.shown k) ∙ sym (shown_after other entry k);
}
  where
    kept_after : (h : List PassEntry) (entry : PassEntry) (k : ℕ) → kept_by (looks_of (h ++ entry ∷ [])) k ≡ unwrap_or (to_keep_at entry.input.seen k) (kept_by (looks_of h) k)
    kept_after h entry k = ap (λ l. kept_by l k) (looks_push h entry) ∙ kept_push (looks_of h) entry.input.seen k

    shown_after : (h : List PassEntry) (entry : PassEntry) (k : ℕ) → last_shown (looks_of (h ++ entry ∷ [])) k ≡ unwrap_or (shown_at entry.input.seen k) (last_shown (looks_of h) k)
    shown_after h entry k = ap (λ l. last_shown l k) (looks_push h entry) ∙ shown_push (looks_of h) entry.input.seen k

-- and the same passes
pub same_append : (one other after : List PassEntry) → LeaveTheSame one other → LeaveTheSame (one ++ after) (other ++ after)
same_append one other [] same = record {
  done = ap actions_of (append-nil one) ∙ same.done ∙ sym (ap actions_of (append-nil other));
  kept = λ k. ap (λ (h : List PassEntry). kept_by (looks_of h) k) (append-nil one) ∙ same.kept k ∙ sym (ap (λ (h : List PassEntry). kept_by (looks_of h) k) (append-nil other));
  shown = λ k. ap (λ (h : List PassEntry). last_shown (looks_of h) k) (append-nil one) ∙ same.shown k ∙ sym (ap (λ (h : List PassEntry). last_shown (looks_of h) k) (append-nil other));
}
same_append one other (entry ∷ after) same =
    let P : List PassEntry → List PassEntry → Type 0 = λ a b. LeaveTheSame a b in
    let next = same_append (one ++ entry ∷ []) (other ++ entry ∷ []) after (same_push one other entry same) in
    subst (λ a. P a (other ++ entry ∷ after)) (append_assoc one (entry ∷ []) after)
    (subst (λ b. P ((one ++ entry ∷ []) ++ after) b) (append_assoc other (entry ∷ []) after) next)

-- what a look says that tells nothing new
said : {X Y : Type 0} (f : X → Option Y) (o : Option X) (old : Y) → ((x : X) → o ≡ Some x → IfSome (f x) (λ y. y ≡ old)) → unwrap_or (option_and_then f o) old ≡ old
said f None old e = refl
said f (Some x) old e = if_said (f x) old (e x refl)
  where
    if_said : {Y : Type 0} (o : Option Y) (old : Y) → IfSome o (λ y. y ≡ old) → unwrap_or o old ≡ old
    if_said None old e = refl
    if_said (Some y) old e = e

-- after an idle pass all is as it was
pub idle_leaves : (before : List PassEntry) (entry : PassEntry) → IsIdle before entry → LeaveTheSame (before ++ entry ∷ []) before
idle_leaves before entry idle = record {
  done = actions_push before entry ∙ ap (λ l. actions_of before ++ l) idle.nothing_done ∙ append-nil (actions_of before);
  kept = λ k. ap (λ l. kept_by l k) (looks_push before entry) ∙ kept_push (looks_of before) entry.input.seen k
      ∙ said record_to_keep (slice_get entry.input.seen k) (kept_by (looks_of before) k) (λ seen at. (idle.nothing_new k seen at).kept);
  shown = λ k. ap (λ l. last_shown l k) (looks_push before entry) ∙ shown_push (looks_of before) entry.input.seen k
      ∙ said shown_by (slice_get entry.input.seen k) (last_shown (looks_of before) k) (λ seen at. (idle.nothing_new k seen at).shown);
}

pub idle_leave_the_same : IdlePassesLeaveTheSame
idle_leave_the_same before entry after idle =
    subst (λ (h : List PassEntry). LeaveTheSame h (before ++ after)) (append_assoc before (entry ∷ []) after)
    (same_append (before ++ entry ∷ []) before after (idle_leaves before entry idle))
