-- What the actions of the last pass of a history send, by a board that agrees with the history.
use Rattle.cal_policy.proofs.Common.{◌≡◌, ℕ, ◌<◌, eqb, Bool, true, false, cond, List, [], ◌∷◌, ◌++◌, take, Option, Some, None, refl, sym, ap, ◌∙◌, arith, eqb-true, eq-eqb, option_map, Table, IsTable, threads_of_table, Action, Free, Unban, Ban, Revoke, Cap, Grant, Cause, PassEntry, Board, actions_of, last_placement, last_thread, command_to, addressed_to, sends, setting_of, so_far, EachAfter, NamesTable, granted_in, core_changed, kept_placement, Agrees}
use Rattle.std.specs.List.{slice_get}
use Rattle.cal_machine.specs.declared.command.Command.{Command}
use Rattle.cal_machine.specs.declared.command.Command.TheVariants.{Run, Park}
use Rattle.cal_policy.specs.declared.board.holders.Placement as placements
use Rattle.cal_policy.specs.Book.{IsSentBy}
use Rattle.cal_policy.proofs.ListLemmas.EachAfter.{each_at}
use Rattle.cal_policy.proofs.PassLemmas.LegalOrderly.{FitsSteady}
use Rattle.cal_policy.proofs.HistoryLemmas.OneMore.{last_thread_placement}
use Rattle.cal_policy.proofs.PassLemmas.RevokedStay.{FreesFirst, revocable, revoked_stays}
use Rattle.cal_policy.proofs.BoardLemmas.StateKept.{names_of_fit}
use Rattle.cal_policy.proofs.BoardLemmas.Replayed.{actions_push}

-- what a pass of a legal history is, whatever its policy: each of its actions fits a steady state at
-- its place, and it frees cores first
pub record IsFitPass (table : Table) (history : List PassEntry) (entry : PassEntry) : Type 0 where
  pub each : EachAfter (FitsSteady (setting_of table history entry)) [] entry.actions
  pub first : FreesFirst entry.actions

fits_at : (table : Table) (history : List PassEntry) (entry : PassEntry) (i : ℕ) (action : Action) → IsFitPass table history entry →
    slice_get entry.actions i ≡ Some action → FitsSteady (setting_of table history entry) (take i entry.actions) action
fits_at table history entry i action pass at = each_at (FitsSteady (setting_of table history entry)) [] entry.actions i action pass.each at

-- a grant sends Run to its thread
grant_sends : (table : Table) (history : List PassEntry) (entry : PassEntry) (i core thread class : ℕ) → IsTable table → IsFitPass table history entry →
    slice_get entry.actions i ≡ Some (Grant core thread class) → IsSentBy table (actions_of history ++ take i entry.actions) (Grant core thread class) (Some (thread, Run core))
grant_sends table history entry i core thread class ok pass at =
    let x = actions_of history ++ take i entry.actions in
    let names : NamesTable table (Grant core thread class) = names_of_fit table x (Grant core thread class) ok (fits_at table history entry i (Grant core thread class) pass at).fits in
    record { exact = λ k. refl; thread = names.1; core = names.0 }

-- the last grant of the core c before the actions x went to a thread of the table, and the board
-- still has it
record IsFrom (b : Board) (table : Table) (x : List Action) (core : ℕ) : Type 0 where
  thread : ℕ
  low : thread < threads_of_table table
  kept : option_map (λ (p : placements.Placement). p.thread) (granted_in b.holding core) ≡ Some thread
  last : last_thread x core ≡ Some thread

revoked_from : (b : Board) (table : Table) (history : List PassEntry) (entry : PassEntry) (i core : ℕ) (cause : Cause) → IsTable table →
    IsFitPass table history entry → Agrees b (actions_of (history ++ entry ∷ [])) → slice_get entry.actions i ≡ Some (Revoke core cause) →
    IsFrom b table (actions_of history ++ take i entry.actions) core
revoked_from b table history entry i core cause ok pass agrees at =
    let s = setting_of table history entry in
    let x = actions_of history ++ take i entry.actions in
    let sound = fits_at table history entry i (Revoke core cause) pass at in
    let it = revocable s (take i entry.actions) core cause sound in
    let p = it.0 in
    let low : core < table.cores = names_of_fit table x (Revoke core cause) ok sound.fits in
    let few : core < 128 = omega (arith, low, ok.machine.most) in
    let stays : last_placement (so_far s entry.actions) core ≡ last_placement x core =
    revoked_stays s [] entry.actions i core cause pass.each pass.first at in
    let ends : last_placement (actions_of (history ++ entry ∷ [])) core ≡ Some p = ap (λ l. last_placement l core) (actions_push history entry) ∙ stays ∙ it.1.granted in
    let granted : granted_in b.holding core ≡ Some (kept_placement p) = agrees.holding.granted core few ∙ ap (λ l. option_map kept_placement l) ends in record {
      thread = p.thread;
      low = it.1.thread;
      kept = ap (λ o. option_map (λ (q : placements.Placement). q.thread) o) granted;
      last = last_thread_placement x core ∙ ap (λ l. option_map (λ (q : placements.Placement). q.thread) l) it.1.granted;
    }

-- what each thread is sent says what the command is, and to whom
of_test : (b : Bool) (c d : Command) → c ∷ [] ≡ cond b (d ∷ []) [] → (b ≡ true) × (d ≡ c)
of_test true c d e = (refl, cc)
of_test false c d e = cc

own : (s : ℕ × Command) → addressed_to s.0 (Some s) ≡ s.1 ∷ []
own s = ap (λ (b : Bool). cond b (s.1 ∷ []) []) (eq-eqb s.0 s.0 refl)

same_sent : (r q : Option (ℕ × Command)) → ((k : ℕ) → addressed_to k r ≡ addressed_to k q) → r ≡ q
same_sent None None e = refl
same_sent None (Some q) e = let no : [] ≡ q.1 ∷ [] = e q.0 ∙ own q in cc
same_sent (Some r) None e = let no : [] ≡ r.1 ∷ [] = sym (e r.0) ∙ own r in cc
same_sent (Some r) (Some q) e =
    let both = of_test (eqb q.0 r.0) r.1 q.1 (sym (own r) ∙ e r.0) in
    let to : q.0 ≡ r.0 = eqb-true q.0 r.0 both.0 in λ i. Some (sym to i, sym both.1 i)

-- what `command_for` says of its answer
abbrev SaysSent : Action → Option ℕ → Option (ℕ × Command) → Type 0
SaysSent action granted sent =
    (x : List Action) → ((core : ℕ) (cause : Cause) → action ≡ Revoke core cause → granted ≡ last_thread x core) → (k : ℕ) → addressed_to k sent ≡ sends k x action

nothing_sent : (table : Table) (x : List Action) (action : Action) (granted : Option ℕ) (sent : Option (ℕ × Command)) →
    ((core : ℕ) (cause : Cause) → action ≡ Revoke core cause → granted ≡ last_thread x core) → ((k : ℕ) → sends k x action ≡ []) → SaysSent action granted sent → IsSentBy table x action sent
nothing_sent table x action granted sent other none says =
    let is : sent ≡ None = same_sent sent None (λ k. says x other k ∙ none k) in
    rw is (record { exact = λ k. sym (none k); thread = tt; core = tt })

-- an action of the last pass sends what is told by the thread that the board has for its core
pub action_sends : (b : Board) (table : Table) (history : List PassEntry) (entry : PassEntry) (i : ℕ) (action : Action) (granted : Option ℕ) (sent : Option (ℕ × Command)) → IsTable table →
    IsFitPass table history entry → Agrees b (actions_of (history ++ entry ∷ [])) → slice_get entry.actions i ≡ Some action →
    ((c : ℕ) → core_changed action ≡ Some c → granted ≡ option_map (λ (p : placements.Placement). p.thread) (granted_in b.holding c)) → SaysSent action granted sent →
    IsSentBy table (actions_of history ++ take i entry.actions) action sent
action_sends b table history entry i (Grant core thread class) granted sent ok pass agrees at has says =
    let x = actions_of history ++ take i entry.actions in
    let is : sent ≡ Some (thread, Run core) = same_sent sent (Some (thread, Run core)) (says x (λ c cause e. cc)) in
    rw is (grant_sends table history entry i core thread class ok pass at)
action_sends b table history entry i (Revoke core cause) granted sent ok pass agrees at has says =
    let x = actions_of history ++ take i entry.actions in
    let from = revoked_from b table history entry i core cause ok pass agrees at in
    let of : granted ≡ last_thread x core = has core refl ∙ from.kept ∙ sym from.last in
    let to : (k : ℕ) → sends k x (Revoke core cause) ≡ command_to k (Some from.thread) Park = λ k. ap (λ l. command_to k l Park) from.last in
    let is : sent ≡ Some (from.thread, Park) =
    same_sent sent (Some (from.thread, Park)) (λ k. says x (λ c why e. let same : core ≡ c = cc in of ∙ ap (last_thread x) same) k ∙ to k) in
    rw is (record { exact = λ k. sym (to k); thread = from.low; core = tt })
action_sends b table history entry i (Free core) granted sent ok pass agrees at has says = nothing_sent table _ (Free core) granted sent (λ c cause e. cc) (λ k. refl) says
action_sends b table history entry i (Unban core) granted sent ok pass agrees at has says = nothing_sent table _ (Unban core) granted sent (λ c cause e. cc) (λ k. refl) says
action_sends b table history entry i (Ban core thread started) granted sent ok pass agrees at has says = nothing_sent table _ (Ban core thread started) granted sent (λ c cause e. cc) (λ k. refl) says
action_sends b table history entry i (Cap task cap) granted sent ok pass agrees at has says = nothing_sent table _ (Cap task cap) granted sent (λ c cause e. cc) (λ k. refl) says
