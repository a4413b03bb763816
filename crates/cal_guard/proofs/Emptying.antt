-- What a ban or a cap leaves undone in a permitted history, the next action does.
use Rattle.cal_guard.proofs.Common.{◌≡◌, ℕ, ◌+◌, ◌<◌, ◌≤◌, zero, suc, true, false, List, [], ◌∷◌, ◌++◌, length, take, sym, ap, ◌∙◌, arith, subst, ⊎_elim, ◌⊎◌, inl, inr, take-length, both_ways, cases_lt, slice_get_cases, Table, Action, PassEntry, actions_of, holder_of, is_banned, is_held, held_by, cap_of, is_latency_critical, NoPairBanned, setting_of, so_far, apart_push, none_banned, NoneHeld, Point, made_at, actions_at, actions_more, after_passes, IsPermitted, IsPermittedHistory, NoneOverCap, LeavesNothing, IsPermittedPoint, IsRevokedNext, IsLoweredNext, none_counted}
use Rattle.cal_laws.specs.Point.{setting_at}
use Rattle.cal_guard.proofs.Steady.{each_permitted, permitted_at, at_point}

-- no ban and no cap is left undone after the actions x
pub record IsMended (table : Table) (x : List Action) : Type 0 where
  pub emptied : NoneHeld x
  pub lowered : NoneOverCap table x

mended_first : (table : Table) → IsMended table []
mended_first table = record {
  emptied = record { empty = λ core b. let no : false ≡ true = b in cc };
  lowered = record { within = λ t best. omega (arith, none_counted table.cores) };
}

mended_upto : (table : Table) (history : List PassEntry) → IsPermittedHistory table history → (p : ℕ) → p ≤ length history → IsMended table (actions_of (take p history))
mended_upto table history permitted zero le = mended_first table
mended_upto table history permitted (suc p) le = ⊎_elim
    (λ found.
    let one : suc p ≡ p + 1 = omega arith in
    let same = sym (actions_more history p found.0 found.2) ∙ ap (λ n. actions_of (take n history)) (sym one) in
    let settled = (permitted.passes p found.0 found.2).actions.settled in
    subst (IsMended table) same (record { emptied = settled.emptied; lowered = settled.lowered }))
    (λ past. absurd (let no = past.0 in omega (arith, le, no)))
    (slice_get_cases history p).1

pub mended : (table : Table) (history : List PassEntry) → IsPermittedHistory table history → IsMended table (actions_of history)
mended table history permitted =
    let P : List PassEntry → Type 0 = λ h. IsMended table (actions_of h) in
    subst P (take-length history) (mended_upto table history permitted (length history) (omega arith))

-- at the end of a pass all its actions are made
all_made : (here : Point) → IsPermittedPoint here → length here.entry.actions ≤ here.made → made_at here ≡ here.entry.actions
all_made here is past =
    let whole : here.made ≡ length here.entry.actions = (let made = is.made in omega (arith, past, made)) in
    ap (λ n. take n here.entry.actions) whole ∙ take-length here.entry.actions

-- there no ban and no cap is left undone
settled_at : (here : Point) → IsPermittedPoint here → length here.entry.actions ≤ here.made → LeavesNothing (setting_at here) (made_at here)
settled_at here is past = subst (LeavesNothing (setting_at here)) (sym (all_made here is past)) (is.permitted.passes here.pass here.entry is.entry).actions.settled

-- where a banned core is held an action comes next, which revokes it
pub revoked_next : (here : Point) → IsPermittedPoint here → (core : ℕ) → is_banned (actions_at here) core ≡ true → is_held (holder_of (actions_at here) core) ≡ true → IsRevokedNext here core
revoked_next here is core banned held = ⊎_elim
    (λ found. record { action = found.0; next = found.2; revoked = (permitted_at here is found.0 found.2).empties core banned held })
    (λ past. absurd (both_ways _ ((settled_at here is (let no = past.0 in omega (arith, no))).emptied.empty core banned) held))
    (slice_get_cases here.entry.actions here.made).1

-- where a best-effort task holds more than its cap an action comes next, which revokes a core that
-- it holds
pub lowered_next : (here : Point) → IsPermittedPoint here → (t : ℕ) → is_latency_critical here.table t ≡ false →
    (held_by here.table (actions_at here) t ≤ cap_of here.table (actions_at here) t) ⊎ (IsLoweredNext here t)
lowered_next here is t best = ⊎_elim
    (λ (over : cap_of here.table (actions_at here) t < held_by here.table (actions_at here) t). ⊎_elim
    (λ found. inr (record { action = found.0; next = found.2; revokes = (permitted_at here is found.0 found.2).lowers t best over }))
    (λ past. inl ((settled_at here is (let no = past.0 in omega (arith, no))).lowered.within t best))
    (slice_get_cases here.entry.actions here.made).1)
    (λ within. inl within)
    (cases_lt (cap_of here.table (actions_at here) t) (held_by here.table (actions_at here) t))

apart_more : (table : Table) (before : List PassEntry) (entry : PassEntry) (acts : List Action) (a : Action) → IsPermitted (setting_of table before entry) acts a →
    NoPairBanned (so_far (setting_of table before entry) acts) → NoPairBanned (so_far (setting_of table before entry) acts ++ a ∷ [])
apart_more table before entry acts a p was = apart_push table (so_far (setting_of table before entry) acts) a p.fits was

pub apart_at : (here : Point) → IsPermittedPoint here → NoPairBanned (actions_at here)
apart_at here is = at_point here is NoPairBanned none_banned (apart_more here.table)

pub apart_after : (table : Table) (history : List PassEntry) → IsPermittedHistory table history → (p : ℕ) → p ≤ length history → NoPairBanned (actions_of (take p history))
apart_after table history permitted = after_passes IsPermitted table history (each_permitted table history permitted) NoPairBanned none_banned (apart_more table)
