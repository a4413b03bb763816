-- The turns of a pass of the second policy follow one another, and its order stays.
use Rattle.cal_policy.proofs.Common.{◌≡◌, ℕ, ◌+◌, ◌<◌, ◌≤◌, ◌++◌, List, [], length, true, false, nat_lt, Option, ap, sym, refl, ◌∙◌, arith, subst, ⊎_elim, cases_lt, nat_tests, append-nil, Table, Action, Policy, Caladan, Assured, act_in_place, turn_in_place, grants_of_first, unbanned_of, bounded_of, IsOrder, first_act, next_turn, made_before, placed_task, IsTurn, first_turn, next_in_part, freed_of, in_turn, free_at, unban_at_by, bans_at_by, bandwidth_part, pass_by, Setting}
use Rattle.cal_policy.specs.declared.explain.turn.Turn.{Turn}
use Rattle.cal_policy.specs.declared.explain.turn.Turn.TheVariants.{Free, Unban, Ban, Bandwidth, LatencyCritical, BestEffort, Placed, End}
use Rattle.cal_policy.specs.Assured.Hyperthreads.{unban_at, bans_at}
use Rattle.cal_policy.specs.Explain.PolicyTurns.{KeepsOrder, made_after_by, made_before_by, made_in_by, next_turn_by}
use Rattle.cal_policy.proofs.ExplainLemmas.{turn_more}

less : (a b : ℕ) → a < b → nat_lt a b ≡ true
less a b lt = grind (arith, nat_tests)

not_less : (a b : ℕ) → b ≤ a → nat_lt a b ≡ false
not_less a b le = grind (arith, nat_tests)

-- the next turn of a part, or the first one after it, comes after what this one makes
part_follows : (M : Turn → List Action) (f : List Action → ℕ → List Action) (before : List Action) (many k : ℕ) (turn : ℕ → Turn) (following : Turn) →
    k < many → M (turn (k + 1)) ≡ before ++ in_turn f before (k + 1) → M following ≡ before ++ in_turn f before many →
    M (next_in_part many turn k following) ≡ (before ++ in_turn f before k) ++ f (before ++ in_turn f before k) k
part_follows M f before many k turn following lt more last = ⊎_elim
    (λ l. rw (less (k + 1) many l) (more ∙ turn_more f before k (k + 1) refl))
    (λ g. let same : k + 1 ≡ many = omega (arith, g, lt) in rw (not_less (k + 1) many g) (last ∙ turn_more f before k many same))
    (cases_lt (k + 1) many)

-- an act is followed by the next of its task, and the last by the first of the next task
acts_follow : (s : Setting) (place act : ℕ) → place < length s.table.tasks → act < s.table.cores → made_before s (next_turn s.table (Placed place act)) ≡ made_after_by Assured s (Placed place act)
acts_follow s place act lt low =
    let before = bounded_of s ++ grants_of_first place s (bounded_of s) in
    let f : List Action → ℕ → List Action = λ made k. act_in_place s made (placed_task s place) in
    ⊎_elim
    (λ l. rw (less (act + 1) s.table.cores l) (turn_more f before act (act + 1) refl))
    (λ g. let all : act + 1 ≡ s.table.cores = omega (arith, g, low) in
    rw (not_less (act + 1) s.table.cores g)
    (part_follows (made_before s) (λ made k. turn_in_place s made (placed_task s k)) (bounded_of s) (length s.table.tasks) place first_act End lt (append-nil _) refl
    ∙ turn_more f before act s.table.cores all))
    (cases_lt (act + 1) s.table.cores)

-- after what a turn makes stand the actions that come before the next
pub assured_follows : (s : Setting) (turn : Turn) → IsTurn s.table turn → made_before s (next_turn s.table turn) ≡ made_after_by Assured s turn
assured_follows s (Free core) lt = part_follows (made_before s) (free_at s) [] s.table.cores core Free (Unban 0) lt refl (append-nil (freed_of s))
assured_follows s (Unban core) lt = part_follows (made_before s) (unban_at s) (freed_of s) s.table.cores core Unban (Ban 0) lt refl (append-nil (unbanned_of s))
assured_follows s (Ban core) lt = part_follows (made_before s) (bans_at s) (unbanned_of s) s.table.cores core Ban Bandwidth lt refl refl
assured_follows s Bandwidth lt = append-nil (bounded_of s ++ []) ∙ append-nil (bounded_of s)
assured_follows s (LatencyCritical task) lt = sym (append-nil _)
assured_follows s (BestEffort task) lt = sym (append-nil _)
assured_follows s (Placed place act) lt = acts_follow s place act lt.0 lt.1
assured_follows s End lt = sym (append-nil _)

-- after what a turn makes stand the actions that come before the next, whichever the policy is
pub taken_by : (policy : Policy) (s : Setting) (turn : Turn) (made made2 both : List Action) → made ≡ made_before_by policy s turn →
    both ≡ made_in_by policy s made turn → made2 ≡ made ++ both → made2 ≡ made_after_by policy s turn
taken_by policy s turn made made2 both e f g =
    g ∙ ap (λ l. made ++ l) f ∙ ap (λ l. l ++ made_in_by policy s l turn) e

-- the turns before those of the grants make the same parts of each policy
pub record SharedTurns (policy : Policy) (s : Setting) (acts : List Action) (core : ℕ) : Type 0 where
  pub free : free_at s acts core ≡ made_in_by policy s acts (Free core)
  pub unban : unban_at_by policy s acts core ≡ made_in_by policy s acts (Unban core)
  pub ban : bans_at_by policy s acts core ≡ made_in_by policy s acts (Ban core)
  pub bandwidth : bandwidth_part s acts ≡ made_in_by policy s acts Bandwidth

pub shared_turns : (policy : Policy) (s : Setting) (acts : List Action) (core : ℕ) → SharedTurns policy s acts core
shared_turns Caladan s acts core = record { free = refl; unban = refl; ban = refl; bandwidth = refl }
shared_turns Assured s acts core = record { free = refl; unban = refl; ban = refl; bandwidth = refl }

-- at the end all of the pass is made
pub made_at_end : (policy : Policy) (s : Setting) → made_before_by policy s End ≡ pass_by policy s
made_at_end Caladan s = refl
made_at_end Assured s = refl

-- the order is kept in a part of which no turn is one by place
part_keeps : (s : Setting) (many k : ℕ) (turn : ℕ → Turn) (following : Turn) (order : List (Option ℕ)) →
    KeepsOrder Assured s (turn (k + 1)) order → KeepsOrder Assured s following order → KeepsOrder Assured s (next_in_part many turn k following) order
part_keeps s many k turn following order more last = ⊎_elim
    (λ l. rw (less (k + 1) many l) more)
    (λ g. rw (not_less (k + 1) many g) last)
    (cases_lt (k + 1) many)

-- the turn of the bandwidth figure fixes the order, and every other keeps it
fixed_or_kept : (s : Setting) (turn : Turn) (acts : List Action) (order new : List (Option ℕ)) →
    acts ≡ made_after_by Assured s turn → KeepsOrder Assured s turn order →
    (turn ≡ Bandwidth → IsOrder s acts new) → ((turn ≡ Bandwidth → ⊥) → new ≡ order) → KeepsOrder Assured s (next_turn s.table turn) new
fixed_or_kept s (Free core) acts order new e keeps fixed kept = part_keeps s s.table.cores core Free (Unban 0) new tt tt
fixed_or_kept s (Unban core) acts order new e keeps fixed kept = part_keeps s s.table.cores core Unban (Ban 0) new tt tt
fixed_or_kept s (Ban core) acts order new e keeps fixed kept = part_keeps s s.table.cores core Ban Bandwidth new tt tt
fixed_or_kept s Bandwidth acts order new e keeps fixed kept = let P : List Action → Type 0 = λ l. IsOrder s l new in subst P e (fixed refl)
fixed_or_kept s (LatencyCritical task) acts order new e keeps fixed kept = tt
fixed_or_kept s (BestEffort task) acts order new e keeps fixed kept = tt
fixed_or_kept s (Placed place act) acts order new e keeps fixed kept =
    let P : List (Option ℕ) → Type 0 = λ o. IsOrder s (bounded_of s) o in
    let same : IsOrder s (bounded_of s) new = subst P (sym (kept (λ (h : Placed place act ≡ Bandwidth). cc))) keeps in
    ⊎_elim
    (λ l. rw (less (act + 1) s.table.cores l) same)
    (λ g. rw (not_less (act + 1) s.table.cores g) (part_keeps s (length s.table.tasks) place first_act End new same tt))
    (cases_lt (act + 1) s.table.cores)
fixed_or_kept s End acts order new e keeps fixed kept = tt

pub order_after : (policy : Policy) (s : Setting) (turn : Turn) (acts : List Action) (order new : List (Option ℕ)) →
    acts ≡ made_after_by policy s turn → KeepsOrder policy s turn order →
    (turn ≡ Bandwidth → IsOrder s acts new) → ((turn ≡ Bandwidth → ⊥) → new ≡ order) → KeepsOrder policy s (next_turn_by policy s.table turn) new
order_after Caladan s turn acts order new e keeps fixed kept = tt
order_after Assured s turn acts order new e keeps fixed kept = fixed_or_kept s turn acts order new e keeps fixed kept

-- where a walk begins: nothing is made, and no order is kept
pub begun_made : (policy : Policy) (s : Setting) (made : List Action) → made ≡ [] → made ≡ made_before_by policy s first_turn
begun_made Caladan s made e = e
begun_made Assured s made e = e

pub begun_order : (policy : Policy) (s : Setting) (order : List (Option ℕ)) → KeepsOrder policy s first_turn order
begun_order Caladan s order = tt
begun_order Assured s order = tt

-- what a turn makes, by what is equal to the walk's own policy and setting
pub due_here : (p2 p : Policy) (s2 s : Setting) (turn : Turn) (made both : List Action) (order : List (Option ℕ)) → p2 ≡ p → s2 ≡ s →
    KeepsOrder p s turn order → (KeepsOrder p2 s2 turn order → both ≡ made_in_by p2 s2 made turn) → both ≡ made_in_by p s made turn
due_here p2 p s2 s turn made both order ep es keeps due =
    let F : Policy → Setting → Type 0 = λ q r. KeepsOrder q r turn order → both ≡ made_in_by q r made turn in
    let G : Setting → Type 0 = λ r. F p2 r in
    let H : Policy → Type 0 = λ q. F q s in
    subst H ep (subst G es due) keeps

-- the order after a turn, likewise
pub order_here : (p2 p : Policy) (s2 s : Setting) (t2 t : Table) (turn next : Turn) (acts : List Action) (order new : List (Option ℕ)) →
    p2 ≡ p → s2 ≡ s → t2 ≡ t → next ≡ next_turn_by p t turn → acts ≡ made_after_by p s turn → KeepsOrder p s turn order →
    (acts ≡ made_after_by p2 s2 turn → KeepsOrder p2 s2 turn order → KeepsOrder p2 s2 (next_turn_by p2 t2 turn) new) → KeepsOrder p s next new
order_here p2 p s2 s t2 t turn next acts order new ep es et en ea keeps after =
    let F : Policy → Setting → Table → Type 0 = λ q r u. acts ≡ made_after_by q r turn → KeepsOrder q r turn order → KeepsOrder q r (next_turn_by q u turn) new in
    let G : Table → Type 0 = λ u. F p2 s2 u in
    let H : Setting → Type 0 = λ r. F p2 r t in
    let I : Policy → Type 0 = λ q. F q s t in
    let N : Turn → Type 0 = λ n. KeepsOrder p s n new in
    subst N (sym en) (subst I ep (subst H es (subst G et after)) ea keeps)
