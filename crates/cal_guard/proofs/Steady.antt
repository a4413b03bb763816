-- Permitted histories are steady, and safe.
use Rattle.cal_guard.proofs.Common.{◌≡◌, ℕ, ◌&&◌, ltb, List, [], ◌∷◌, ◌++◌, take, Some, arith, slice_get, and_parts, slice_get_within, Table, Action, Free, Unban, Ban, Revoke, Cap, Grant, PassEntry, holder_of, is_held, Setting, setting_of, so_far, IsSteady, names_table, Steady_start, Steady_shrinks, Steady_grant, Shrinks_free, Shrinks_unban, Shrinks_ban, Shrinks_cap, Shrinks_revoke, Point, actions_at, made_at, next_at, gives_free, IsKeptUp, within_pass, after_passes, always, IsPermitted, IsPermittedHistory, IsPermittedPoint, PermittedIsSafe, PermittedIsSteady, PermittedIsOrderly}
use Rattle.cal_laws.specs.Point.{setting_at}
use Rattle.cal_laws.specs.Safe.{EachAction, IsSafe, IsSafePoint, FreesWhatWasLeft}

-- each action is permitted at its place
pub each_permitted : (table : Table) (history : List PassEntry) → IsPermittedHistory table history → EachAction IsPermitted table history
each_permitted table history permitted = record { at = λ p entry e. (permitted.passes p entry e).actions.each }

-- the next action at a point is permitted there
pub permitted_at : (here : Point) → IsPermittedPoint here → (a : Action) → next_at here ≡ Some a → IsPermitted (setting_at here) (made_at here) a
permitted_at here is a e = (is.permitted.passes here.pass here.entry is.entry).actions.each here.made a e

-- what holds of no actions, and is kept by each permitted one, holds at each point
pub at_point : (here : Point) → IsPermittedPoint here → (P : List Action → Type 0) → P [] → IsKeptUp IsPermitted here.table P → P (actions_at here)
at_point here is = always IsPermitted here (each_permitted here.table here.history is.permitted) is.entry is.made

-- a permitted action leaves the state steady
steady_step : (s : Setting) (acts : List Action) (a : Action) → IsPermitted s acts a → IsSteady s.table (so_far s acts) → IsSteady s.table (so_far s acts ++ a ∷ [])
steady_step s acts (Free core) p was = let x = so_far s acts in Steady_shrinks s.table x (x ++ Free core ∷ []) (Shrinks_free x core) was
steady_step s acts (Unban core) p was = let x = so_far s acts in Steady_shrinks s.table x (x ++ Unban core ∷ []) (Shrinks_unban x core) was
steady_step s acts (Ban core thread started) p was =
    let x = so_far s acts in Steady_shrinks s.table x (x ++ Ban core thread started ∷ []) (Shrinks_ban x core thread started) was
steady_step s acts (Cap task cap) p was = let x = so_far s acts in Steady_shrinks s.table x (x ++ Cap task cap ∷ []) (Shrinks_cap x task cap) was
steady_step s acts (Revoke core cause) p was =
    let x = so_far s acts in
    let held = (and_parts (ltb core s.table.cores && names_table s.table cause) (is_held (holder_of x core)) p.fits).1 in
    Steady_shrinks s.table x (x ++ Revoke core cause ∷ []) (Shrinks_revoke s.table x core cause was held) was
steady_step s acts (Grant core thread class) p was =
    let x = so_far s acts in Steady_grant s.table x core thread class (gives_free s.table x core thread class p.fits).own p.may.books.limit was

steady_kept : (table : Table) → IsKeptUp IsPermitted table (IsSteady table)
steady_kept table before entry acts a p was = steady_step (setting_of table before entry) acts a p was

pub permitted_steady : PermittedIsSteady
permitted_steady table history permitted p le =
    after_passes IsPermitted table history (each_permitted table history permitted) (IsSteady table) (Steady_start table) (steady_kept table) p le

pub steady_at : (here : Point) → IsPermittedPoint here → IsSteady here.table (actions_at here)
steady_at here is = at_point here is (IsSteady here.table) (Steady_start here.table) (steady_kept here.table)

left : (s : Setting) (acts : List Action) (a : Action) → IsPermitted s acts a → FreesWhatWasLeft s acts a
left s acts (Free core) p = p.may
left s acts (Unban core) p = tt
left s acts (Ban core thread started) p = tt
left s acts (Revoke core cause) p = tt
left s acts (Cap task cap) p = tt
left s acts (Grant core thread class) p = tt

pub permitted_safe : PermittedIsSafe
permitted_safe table history permitted = record {
  inputs = λ p entry e. (permitted.passes p entry e).input;
  actions = record { at = λ p entry e i a f. safe p entry e i a f };
}
  where
    safe : (p : ℕ) (entry : PassEntry) → slice_get history p ≡ Some entry → (i : ℕ) (a : Action) → slice_get entry.actions i ≡ Some a →
        IsSafe (setting_of table (take p history) entry) (take i entry.actions) a
    safe p entry e i a f =
        let each = each_permitted table history permitted in
        let is = each.at p entry e i a f in
        let low = slice_get_within entry.actions i a f in
        let high = slice_get_within history p entry e in record {
          steady = within_pass IsPermitted table history each p entry e (IsSteady table) (steady_kept table (take p history) entry)
              (permitted_steady table history permitted p (omega (arith, high))) i (omega (arith, low));
          fits = is.fits;
          left = left (setting_of table (take p history) entry) (take i entry.actions) a is;
        }

-- each point of a permitted history is one of a safe history
pub safe_point : PermittedIsSafe → (here : Point) → IsPermittedPoint here → IsSafePoint here
safe_point safe here is = record { history = safe here.table here.history is.permitted; entry = is.entry; made = is.made }

pub permitted_orderly : PermittedIsOrderly
permitted_orderly table history permitted = record {
  entries = λ p entry e. let pass = permitted.passes p entry e in record {
    looks = pass.input.looks;
    actions = λ i a f. (pass.actions.each i a f).fits;
  };
}
