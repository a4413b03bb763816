-- A pass of the second policy frees cores first.
use Rattle.cal_policy.proofs.Common.{ℕ, ◌&&◌, not, List, [], ◌∷◌, length, Option, Some, None, sibling_of, BannedFor, Action, Unban, may_act, act_of, act_in_place, turn_in_place, grants, due_for, task_in_place, are_wanted, waits, choice_for, ban_of, still_shows, frees, grant_of, thread_choice, Setting, so_far, kept_now}
use Rattle.cal_policy.specs.Assured.Hyperthreads.{unban_for, unban_at, unbans, bans_at, bans}
use Rattle.cal_policy.specs.Assured.Pass.{pass_of}
use Rattle.cal_policy.proofs.PassLemmas.RevokedStay.{Every, FreesNone, FreesFirst, every_in_turn, every_if, all_first, then_first, frees_all, ban_none, bandwidth_none, chosen_none}

unban_none : (s : Setting) (x : List Action) (c : ℕ) (o : Option BannedFor) → Every FreesNone (unban_for s x c o)
unban_none s x c None = tt
unban_none s x c (Some ban) =
    every_if FreesNone (still_shows (kept_now s ban.thread) (sibling_of c) ban.started && not (are_wanted s x)) [] (Unban c ∷ []) tt (tt, tt)

unbans_none : (s : Setting) (acts : List Action) → Every FreesNone (unbans s acts)
unbans_none s acts = every_in_turn FreesNone (unban_at s) acts s.table.cores (λ now c. unban_none s (so_far s now) c (ban_of (so_far s now) c))

bans_none : (s : Setting) (acts : List Action) → Every FreesNone (bans s acts)
bans_none s acts = every_in_turn FreesNone (bans_at s) acts s.table.cores (λ now c. ban_none s (so_far s now) c (due_for s (so_far s now) c))

act_none : (s : Setting) (acts : List Action) (t : ℕ) → Every FreesNone (act_of s acts t)
act_none s acts t =
    every_if FreesNone (waits s (so_far s acts) t && may_act s acts t) (grant_of s t (thread_choice s (so_far s acts) t) (choice_for s acts t)) []
    (chosen_none s t (thread_choice s (so_far s acts) t) (choice_for s acts t)) tt

in_place_none : (s : Setting) (acts : List Action) (o : Option ℕ) → Every FreesNone (act_in_place s acts o)
in_place_none s acts None = tt
in_place_none s acts (Some t) = act_none s acts t

turn_none : (s : Setting) (acts : List Action) (o : Option ℕ) → Every FreesNone (turn_in_place s acts o)
turn_none s acts o = every_in_turn FreesNone (λ made act. act_in_place s made o) acts s.table.cores (λ now act. in_place_none s now o)

grants_none : (s : Setting) (acts : List Action) → Every FreesNone (grants s acts)
grants_none s acts = every_in_turn FreesNone (λ made place. turn_in_place s made (task_in_place s (so_far s acts) place)) acts (length s.table.tasks)
    (λ now place. turn_none s now (task_in_place s (so_far s acts) place))

pub pass_frees_first : (s : Setting) → FreesFirst (pass_of s)
pass_frees_first s =
    then_first _ _ (then_first _ _ (then_first _ _ (then_first _ _ (all_first (frees s []) (frees_all s [])) (unbans_none s _)) (bans_none s _)) (bandwidth_none s _)) (grants_none s _)
