-- Actions that count for one task at most.
use Rattle.cal_measure.proofs.Common.{◌≡◌, ◌≢◌, ◌++◌, ◌==◌, ℕ, Bool, false, cond, List, [], ◌∷◌, ap, refl, sym, arith, and_left, ne_eqb, Table, owner_of, Action, Ban, Free, Grant, Unban, AreActionsOf, IsNothingTo, many_of, TaskActions}
use Rattle.cal_policy.specs.declared.history.core_class.CoreClass.TheVariants as classes
use Rattle.cal_measure.specs.Actions as acts
use Rattle.cal_measure.specs.declared.actions.LossKind.TheVariants as kinds
use Rattle.cal_measure.proofs.Counting.{many_push}

-- a count stays right with an action that is not such
uncounted : (such : List Action → Action → Bool) (x : List Action) (action : Action) (count : ℕ) → count ≡ many_of such x → such x action ≡ false →
    count ≡ many_of such (x ++ action ∷ [])
uncounted such x action count was none =
    let push = many_push such x action in
    let one : ℕ = 1 in
    let nought : ℕ = 0 in
    let off = ap (λ (b : Bool). cond b one nought) none in
    omega (arith, was, push, off)

-- so all numbers stay right where the action is nothing to the task
pub stays_right : (table : Table) (t : ℕ) (x : List Action) (action : Action) (n : TaskActions) → IsNothingTo table t x action → AreActionsOf table t x n →
    AreActionsOf table t (x ++ action ∷ []) n
stays_right table t x action n is are = record {
  grants_beside = uncounted (acts.is_grant table t classes.Sibling) x action _ are.grants_beside (is.is_no_grant classes.Sibling);
  grants_again = uncounted (acts.is_grant table t classes.RecentlyUsed) x action _ are.grants_again (is.is_no_grant classes.RecentlyUsed);
  grants_other = uncounted (acts.is_grant table t classes.OtherIdle) x action _ are.grants_other (is.is_no_grant classes.OtherIdle);
  lost_to_bans = uncounted (acts.is_loss table t kinds.Ban) x action _ are.lost_to_bans (is.is_no_loss kinds.Ban);
  lost_to_bandwidth = uncounted (acts.is_loss table t kinds.Bandwidth) x action _ are.lost_to_bandwidth (is.is_no_loss kinds.Bandwidth);
  lost_to_tasks = uncounted (acts.is_loss table t kinds.Task) x action _ are.lost_to_tasks (is.is_no_loss kinds.Task);
  taken_from_others = uncounted (acts.is_taking table t) x action _ are.taken_from_others is.is_no_taking;
  cuts = uncounted (acts.is_cut table t) x action _ are.cuts is.is_no_cut;
  raises = uncounted (acts.is_raise table t) x action _ are.raises is.is_no_raise;
  bans = uncounted (acts.is_ban table t) x action _ are.bans is.is_no_ban;
}

-- a free core and an unbanned one are nothing to any task
pub free_is_nothing : (table : Table) (t : ℕ) (x : List Action) (core : ℕ) → IsNothingTo table t x (Free core)
free_is_nothing table t x core = record {
  is_no_grant = λ class. refl;
  is_no_loss = λ kind. refl;
  is_no_taking = refl;
  is_no_cut = refl;
  is_no_raise = refl;
  is_no_ban = refl;
}

pub unban_is_nothing : (table : Table) (t : ℕ) (x : List Action) (core : ℕ) → IsNothingTo table t x (Unban core)
unban_is_nothing table t x core = record {
  is_no_grant = λ class. refl;
  is_no_loss = λ kind. refl;
  is_no_taking = refl;
  is_no_cut = refl;
  is_no_raise = refl;
  is_no_ban = refl;
}

other_owner : (table : Table) (t thread : ℕ) → t ≢ owner_of table thread → (owner_of table thread == t) ≡ false
other_owner table t thread off = ne_eqb (owner_of table thread) t (λ same. off (sym same))

-- a grant and a ban are nothing to another task than that of their thread
pub grant_is_nothing : (table : Table) (t : ℕ) (x : List Action) (core thread class : ℕ) → t ≢ owner_of table thread → IsNothingTo table t x (Grant core thread class)
grant_is_nothing table t x core thread class off = record {
  is_no_grant = λ made. and_left _ _ (other_owner table t thread off);
  is_no_loss = λ kind. refl;
  is_no_taking = refl;
  is_no_cut = refl;
  is_no_raise = refl;
  is_no_ban = refl;
}

pub ban_is_nothing : (table : Table) (t : ℕ) (x : List Action) (core thread started : ℕ) → t ≢ owner_of table thread → IsNothingTo table t x (Ban core thread started)
ban_is_nothing table t x core thread started off = record {
  is_no_grant = λ made. refl;
  is_no_loss = λ kind. refl;
  is_no_taking = refl;
  is_no_cut = refl;
  is_no_raise = refl;
  is_no_ban = other_owner table t thread off;
}
