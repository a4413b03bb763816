-- The acts of a task in its turn.
use Rattle.cal_policy.proofs.Common.{◌≡◌, ℕ, ◌≤◌, suc, zero, Bool, true, false, ◌&&◌, ◌||◌, cond, List, [], ◌∷◌, ◌++◌, length, Option, Some, None, refl, sym, ap, ◌∙◌, arith, length-append, drop_at, ⊎_elim, cases_lt, Table, Action, is_act_of, has_acted, may_act, act_of, act_in_place, acts_in_place, turn_in_place, made_now, waits, choice_for, actions_of, grant_of, thread_choice, Setting, so_far}
use Rattle.std.proofs.Common.{append-nil}
use Rattle.cal_policy.proofs.AssuredLemmas.Walks.{first_turns}

-- of all actions so far those of the pass are the pass's
pub made_are : (s : Setting) (acts : List Action) → made_now s (so_far s acts) ≡ acts
made_are s acts = drop_at (actions_of s.history) acts (length (actions_of s.history)) refl

-- where nothing is due nothing is made, however often it is asked
pub idle_acts : (s : Setting) (acts : List Action) (o : Option ℕ) (n : ℕ) → act_in_place s acts o ≡ [] → acts_in_place n s o acts ≡ []
idle_acts s acts o zero e = refl
idle_acts s acts o (suc n) e =
    ap (λ l. l ++ act_in_place s (acts ++ l) o) (idle_acts s acts o n e)
    ∙ ap (λ l. act_in_place s l o) (append-nil acts)
    ∙ e

-- and the same after the first acts
pub idle_after : (s : Setting) (acts : List Action) (o : Option ℕ) (m n : ℕ) → m ≤ n → act_in_place s (acts ++ acts_in_place m s o acts) o ≡ [] → acts_in_place m s o acts ≡ acts_in_place n s o acts
idle_after s acts o m zero le e = let same : m ≡ 0 = omega (arith, le) in rw same refl
idle_after s acts o m (suc n) le e = ⊎_elim
    (λ l. let before = idle_after s acts o m n (omega (arith, l)) e in
    before ∙ sym (append-nil (acts_in_place n s o acts))
    ∙ ap (λ l. acts_in_place n s o acts ++ l) (sym (ap (λ l. act_in_place s (acts ++ l) o) (sym before) ∙ e)))
    (λ g. let same : m ≡ suc n = omega (arith, g, le) in rw same refl)
    (cases_lt m (suc n))

-- and after acts that leave no room for more
pub full_after : (s : Setting) (acts : List Action) (o : Option ℕ) (m n most : ℕ) → m ≤ n → length (acts ++ acts_in_place n s o acts) ≤ most → most ≤ length (acts ++ acts_in_place m s o acts) →
    acts_in_place m s o acts ≡ acts_in_place n s o acts
full_after s acts o m n most le fits full =
    let rest = first_turns (λ made act. act_in_place s made o) acts m n le in
    let long = length-append acts (acts_in_place n s o acts) in
    let short = length-append acts (acts_in_place m s o acts) in
    let both = ap length rest.1 ∙ length-append (acts_in_place m s o acts) rest.0 in
    let none : length rest.0 ≡ 0 = omega (arith, fits, full, long, short, both) in
    sym (append-nil (acts_in_place m s o acts)) ∙ ap (λ l. acts_in_place m s o acts ++ l) (sym (no_items rest.0 none)) ∙ sym rest.1
  where
    no_items : (l : List Action) → length l ≡ 0 → l ≡ []
    no_items [] e = refl
    no_items (a ∷ l) e = absurd (omega (arith, e))

-- a task that does not wait gets nothing
pub waits_not : (s : Setting) (acts : List Action) (t : ℕ) → waits s (so_far s acts) t ≡ false → act_of s acts t ≡ []
waits_not s acts t e =
    ap (λ w. cond (w && may_act s acts t) (grant_of s t (thread_choice s (so_far s acts) t) (choice_for s acts t)) []) e

pub idle_place : (s : Setting) (acts : List Action) (o : Option ℕ) → ((t : ℕ) → o ≡ Some t → act_of s acts t ≡ []) → turn_in_place s acts o ≡ []
idle_place s acts o e = idle_acts s acts o s.table.cores (by_task o e)
  where
    by_task : (p : Option ℕ) → ((t : ℕ) → p ≡ Some t → act_of s acts t ≡ []) → act_in_place s acts p ≡ []
    by_task None e = refl
    by_task (Some t) e = e t refl

-- what a list of actions says of a task with another after it
pub acted_more : (table : Table) (xs ys : List Action) (t : ℕ) → has_acted table (xs ++ ys) t ≡ (has_acted table xs t || has_acted table ys t)
acted_more table [] ys t = refl
acted_more table (x ∷ xs) ys t = ap (λ b. is_act_of table t x || b) (acted_more table xs ys t) ∙ or_turned (is_act_of table t x) (has_acted table xs t) (has_acted table ys t)
  where
    or_turned : (a b c : Bool) → (a || (b || c)) ≡ ((a || b) || c)
    or_turned true b c = refl
    or_turned false b c = refl
