-- A pass from its parts, and where it begins and ends.
use Rattle.cal_policy.proofs.Common.{◌≡◌, List, [], ◌∷◌, ◌++◌, sym, ap, ◌∙◌, subst, append-nil, Action, PassEntry, Seen, Board, actions_of, looks_of, Setting, so_far, frees, unbans_by, bans_by, grants, NoPairBanned, bandwidth_part, grants_of_kind, followed, pass_by, Policy, Caladan, Assured, HasGranted, KeepsBefore, IsStateAfter, Stands, Agrees, KeepingAgrees}
use Rattle.cal_machine.specs.declared.task.Kind.TheVariants as kinds
use Rattle.cal_policy.proofs.PassLemmas.Apart.{frees_apart}
use Rattle.cal_policy.proofs.PassLemmas.Pairs.{so_far_more}
use Rattle.cal_policy.proofs.BoardLemmas.Replayed.{actions_push, looks_push}

pub follows : (part : List Action → List Action) (acts now next : List Action) → now ≡ acts → next ≡ now ++ part now → next ≡ followed acts part
follows part acts now next e f = f ∙ ap (λ o. o ++ part o) e

-- the pass up to where its grants begin
abbrev pub bounded_by : Policy → Setting → List Action
bounded_by p s = followed (followed (followed (followed [] (frees s)) (unbans_by p s)) (bans_by p s)) (bandwidth_part s)

pub parts_bounded : (p : Policy) (s : Setting) (o0 o1 o2 o3 o4 : List Action) → o0 ≡ [] → o1 ≡ o0 ++ frees s o0 → o2 ≡ o1 ++ unbans_by p s o1 → o3 ≡ o2 ++ bans_by p s o2 →
    o4 ≡ o3 ++ bandwidth_part s o3 → o4 ≡ bounded_by p s
parts_bounded p s o0 o1 o2 o3 o4 e0 e1 e2 e3 e4 =
    follows (bandwidth_part s) _ o3 o4 (follows (bans_by p s) _ o2 o3 (follows (unbans_by p s) _ o1 o2 (follows (frees s) [] o0 o1 e0 e1) e2) e3) e4

-- with each policy's grants it is the pass
pub caladan_pass : (p : Policy) (s : Setting) (bounded acts : List Action) → p ≡ Caladan → bounded ≡ bounded_by p s →
    acts ≡ followed (followed bounded (grants_of_kind kinds.LatencyCritical s)) (grants_of_kind kinds.BestEffort s) → acts ≡ pass_by p s
caladan_pass Caladan s bounded acts is e f = f ∙ ap (λ o. followed (followed o (grants_of_kind kinds.LatencyCritical s)) (grants_of_kind kinds.BestEffort s)) e
caladan_pass Assured s bounded acts is e f = cc

pub assured_pass : (p : Policy) (s : Setting) (bounded : List Action) → p ≡ Assured → bounded ≡ bounded_by p s → bounded ++ grants s bounded ≡ pass_by p s
assured_pass Caladan s bounded is e = cc
assured_pass Assured s bounded is e = ap (λ o. o ++ grants s o) e

-- no pair is banned after the frees
pub freed_apart : (s : Setting) (o0 o1 : List Action) → o0 ≡ [] → o1 ≡ o0 ++ frees s o0 → NoPairBanned (actions_of s.history) → NoPairBanned (so_far s o1)
freed_apart s o0 o1 e0 e1 h =
    let P : List Action → Type 0 = λ o. NoPairBanned (so_far s o) in
    let start : NoPairBanned (so_far s o0) = subst P (sym e0) (rw (append-nil (actions_of s.history)) h) in
    subst P (sym e1) (frees_apart s o0 s.table.cores start)

-- where a pass begins
pub Stands_begin : (s : Setting) (b : Board) → Agrees b (actions_of s.history) → HasGranted b.fresh [] → KeepingAgrees b.keeping (looks_of s.history ++ s.input.seen ∷ []) →
    KeepsBefore b.keeping (looks_of s.history) → Stands b s []
Stands_begin s b a f k p = record {
  agrees = rw (append-nil (actions_of s.history)) a;
  fresh = f;
  looks = k;
  before = p;
}

-- where it ends: the board agrees with the history followed by that pass
pub Stands_end : (s : Setting) (b : Board) (acts : List Action) → Stands b s acts →
    IsStateAfter b (s.history ++ record { input = s.input; actions = acts } ∷ []) × KeepsBefore b.keeping (looks_of s.history)
Stands_end s b acts st =
    let entry : PassEntry = record { input = s.input; actions = acts } in
    let P : List Action → Type 0 = λ x. Agrees b x in
    let Q : List (List Seen) → Type 0 = λ looks. KeepingAgrees b.keeping looks in (
      record {
        actions = subst P (sym (actions_push s.history entry)) st.agrees;
        looks = subst Q (sym (looks_push s.history entry)) st.looks;
      },
      st.before,
    )

-- the same said of another name of the setting
pub decided : (policy : Policy) (s other : Setting) → s ≡ other → (b : Board) (acts : List Action) → (acts ≡ pass_by policy s) × Stands b s acts →
    (acts ≡ pass_by policy other) × IsStateAfter b (other.history ++ record { input = other.input; actions = acts } ∷ []) × KeepsBefore b.keeping (looks_of other.history)
decided policy s other e b acts r =
    let P : Setting → Type 0 = λ one. (acts ≡ pass_by policy one) × IsStateAfter b (one.history ++ record { input = one.input; actions = acts } ∷ []) × KeepsBefore b.keeping (looks_of one.history) in
    let end = Stands_end s b acts r.1 in
    subst P e (r.0, end.0, end.1)

-- one action more, to which the board was brought up
pub Stands_push : (b b2 : Board) (s : Setting) (acts : List Action) (a : Action) → Agrees b2 (so_far s acts ++ a ∷ []) → HasGranted b2.fresh (acts ++ a ∷ []) →
    b2.keeping ≡ b.keeping → Stands b s acts → Stands b2 s (acts ++ a ∷ [])
Stands_push b b2 s acts a agrees fresh keeping st = record {
  agrees = rw (so_far_more s acts (a ∷ [])) agrees;
  fresh = fresh;
  looks = rw keeping st.looks;
  before = rw keeping st.before;
}
