-- What is lacking goes by who has each core, by the caps and by the grants of the pass; so no end of a ban changes it.
use Rattle.cal_policy.proofs.Common.{◌≡◌, ℕ, ◌-◌, ◌&&◌, ◌||◌, Bool, true, false, not, cond, eqb, nat_lt, List, [], ◌∷◌, ◌++◌, length, Option, Some, None, sym, ap, subst, ◌∙◌, append-nil, IfSome, unwrap_or, is_some, Table, thread_of, limit_of, guaranteed_of, is_latency_critical, Action, Unban, BannedFor, Candidate, Policy, ban_of, still_shows, sibling_of, give_way, unban_at_by, unban_for_by, holder_of, is_booked_for, is_with, cap_of, count_below, sum_below, best_below, thread_delay, is_granted_in, Setting, so_far, kept_now, has_room, is_untaken, is_late, made_now, lacking}
use Rattle.cal_policy.specs.declared.board.holders.Holder.{Holder}
use Rattle.cal_policy.specs.Pass.Counted.{Counts}
use Rattle.cal_policy.proofs.AssuredLemmas.Acts.{made_are}
use Rattle.cal_policy.proofs.HistoryLemmas.OneMore.{holder_push, last_cap_push, last_thread_push}
use Rattle.cal_policy.proofs.PassLemmas.Pairs.{none_ends, one_ends, so_far_more}

-- the words of who waits, of each core's holder and each task's cap

abbrev in_flight_by : Setting → (ℕ → Holder) → ℕ → Bool
in_flight_by s h k = not (eqb (count_below (λ c. is_untaken (kept_now s k) k (h c)) s.table.cores) 0)

abbrev pressing_by : Setting → (ℕ → Holder) → ℕ → ℕ
pressing_by s h t = count_below (λ j. is_late s (thread_of s.table t j) && not (in_flight_by s h (thread_of s.table t j))) (limit_of s.table t)

abbrev helpers_by : Setting → (ℕ → Holder) → ℕ → ℕ
helpers_by s h t = count_below (λ j. in_flight_by s h (thread_of s.table t j) && not (is_late s (thread_of s.table t j))) (limit_of s.table t)

abbrev booked_of : Table → (ℕ → Holder) → ℕ → ℕ
booked_of table h t = count_below (λ c. is_booked_for table t (h c)) table.cores

abbrev short_by : Table → (ℕ → Holder) → ℕ → Bool
short_by table h t = is_latency_critical table t && nat_lt (booked_of table h t) (guaranteed_of table t)

abbrev lacks_by : Table → (ℕ → Holder) → ℕ → ℕ
lacks_by table h t = cond (short_by table h t) (guaranteed_of table t - booked_of table h t) 0

-- in flight by a grant of this pass
abbrev newly_by : Setting → (ℕ → Holder) → (ℕ → Bool) → ℕ → Bool
newly_by s h new k = not (eqb (count_below (λ c. new c && is_untaken (kept_now s k) k (h c)) s.table.cores) 0)

abbrev new_helpers_by : Setting → (ℕ → Holder) → (ℕ → Bool) → ℕ → ℕ
new_helpers_by s h new t = count_below (λ j. newly_by s h new (thread_of s.table t j) && not (is_late s (thread_of s.table t j))) (limit_of s.table t)

abbrev surplus_by : Setting → (ℕ → Holder) → (ℕ → Bool) → ℕ → ℕ
surplus_by s h new t = cond (short_by s.table h t) (new_helpers_by s h new t) (helpers_by s h t)

abbrev rank_by : Setting → (ℕ → Holder) → ℕ → Option ℕ
rank_by s h k = cond (eqb (count_below (λ c. is_with k (h c)) s.table.cores) 0 && has_room s k) (Some (thread_delay s k)) None

abbrev choice_by : Setting → (ℕ → Holder) → ℕ → Option (Candidate ℕ)
choice_by s h t = best_below (λ rank best. nat_lt best rank) (λ j. rank_by s h (thread_of s.table t j)) (limit_of s.table t)

abbrev may_book_by : Setting → (ℕ → Holder) → (ℕ → ℕ) → ℕ → Bool
may_book_by s h cap t = nat_lt (booked_of s.table h t) (limit_of s.table t) && (is_latency_critical s.table t || nat_lt (booked_of s.table h t) (cap t))

abbrev waits_by : Setting → (ℕ → Holder) → (ℕ → Bool) → (ℕ → ℕ) → ℕ → Bool
waits_by s h new cap t = nat_lt (surplus_by s h new t) (pressing_by s h t) && may_book_by s h cap t && is_some (choice_by s h t)

abbrev lacking_by : Setting → (ℕ → Holder) → (ℕ → Bool) → (ℕ → ℕ) → ℕ
lacking_by s h new cap = sum_below (λ t. cond (waits_by s h new cap t) (lacks_by s.table h t) 0) (length s.table.tasks)

-- with the same holders, caps and grants of the pass as many cores are lacking
lacking_same : (s : Setting) (x y : List Action) → ((c : ℕ) → holder_of y c ≡ holder_of x c) → ((t : ℕ) → cap_of s.table y t ≡ cap_of s.table x t) →
    ((c : ℕ) → is_granted_in (made_now s y) c ≡ is_granted_in (made_now s x) c) → lacking s y ≡ lacking s x
lacking_same s x y e f g = λ i. lacking_by s (λ c. e c i) (λ c. g c i) (λ u. f u i)

-- an Unban is no grant
none_granted : (s : Setting) (acts : List Action) (n c : ℕ) → is_granted_in (made_now s (so_far s (acts ++ Unban n ∷ []))) c ≡ is_granted_in (made_now s (so_far s acts)) c
none_granted s acts n c =
    ap (λ l. is_granted_in l c) (made_are s (acts ++ Unban n ∷ []))
    ∙ ap is_some (last_thread_push acts (Unban n) c)
    ∙ sym (ap (λ l. is_granted_in l c) (made_are s acts))

after_end : (s : Setting) (acts : List Action) (n : ℕ) (b : Bool) → lacking s (so_far s (acts ++ cond b [] (Unban n ∷ []))) ≡ lacking s (so_far s acts)
after_end s acts n true = ap (λ l. lacking s (so_far s l)) (append-nil acts)
after_end s acts n false =
    let x : List Action = so_far s acts in
    let more = so_far_more s acts (Unban n ∷ []) in
    lacking_same s x (so_far s (acts ++ Unban n ∷ []))
    (λ c. ap (λ y. holder_of y c) more ∙ holder_push x (Unban n) c)
    (λ t. ap (λ y. cap_of s.table y t) more ∙ ap (λ (o : Option ℕ). unwrap_or o (limit_of s.table t)) (last_cap_push x (Unban n) t))
    (λ c. none_granted s acts n c)

after_ban_of : (p : Policy) (s : Setting) (acts : List Action) (c : ℕ) (o : Option BannedFor) → lacking s (so_far s (acts ++ unban_for_by p s (so_far s acts) c o)) ≡ lacking s (so_far s acts)
after_ban_of p s acts c None = ap (λ l. lacking s (so_far s (acts ++ l))) (none_ends p s (so_far s acts) c) ∙ after_end s acts c true
after_ban_of p s acts c (Some ban) =
    let x : List Action = so_far s acts in
    ap (λ l. lacking s (so_far s (acts ++ l))) (one_ends p s x c ban)
    ∙ after_end s acts c (still_shows (kept_now s ban.thread) (sibling_of c) ban.started && not (give_way p s x))

-- what was counted before a ban ended is the count after it too
pub counts_on : (p : Policy) (s : Setting) (acts : List Action) (c : ℕ) (counted : Option ℕ) → Counts s (so_far s acts) counted → Counts s (so_far s (acts ++ unban_at_by p s acts c)) counted
counts_on p s acts c counted h = subst (λ m. IfSome counted (λ n. n ≡ m)) (sym (after_ban_of p s acts c (ban_of (so_far s acts) c))) h
