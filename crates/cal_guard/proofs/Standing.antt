-- The board stands in a pass: as it begins, and one action more.
use Rattle.cal_guard.proofs.Common.{◌≡◌, List, [], ◌∷◌, ◌++◌, subst, append_assoc, sym, ◌∙◌, Action, Input, Board, actions_of, looks_of, Setting, so_far, HasGranted, KeepsBefore, Stands, Agrees, KeepingAgrees, Seen, Stands_begin, Stands_end, kept_push, shown_push, next_setting}

pub stands_more : (b new : Board) (s : Setting) (acts : List Action) (a : Action) → Stands b s acts → new.keeping ≡ b.keeping → Agrees new (so_far s acts ++ a ∷ []) →
    HasGranted new.fresh (acts ++ a ∷ []) → Stands new s (acts ++ a ∷ [])
stands_more b new s acts a st same agrees fresh =
    let P : List Action → Type 0 = λ x. Agrees new x in record {
      agrees = subst P (append_assoc (actions_of s.history) acts (a ∷ [])) agrees;
      fresh = fresh;
      looks = rw same st.looks;
      before = rw same st.before;
    }

-- a board that stands in a pass begins the next one, with these looks
pub stands_next : (s : Setting) (acts : List Action) (input : Input) (old new : Board) → Stands old s acts → ((x : List Action) → Agrees old x → Agrees new x) → HasGranted new.fresh [] →
    ((past : List (List Seen)) → KeepingAgrees old.keeping past → KeepingAgrees new.keeping (past ++ input.seen ∷ [])) →
    ((past : List (List Seen)) → KeepingAgrees old.keeping past → KeepsBefore new.keeping past) → Stands new (next_setting s acts input) []
stands_next s acts input old new st agrees fresh keeping before =
    let next : Setting = next_setting s acts input in
    let end = Stands_end s old acts st in
    let after = end.0 in
    Stands_begin next new (agrees (actions_of next.history) after.actions) fresh (keeping (looks_of next.history) after.looks) (before (looks_of next.history) after.looks)

-- the state before any pass, where a pass without looks begins
pub stands_first : (s : Setting) (b : Board) → s.history ≡ [] → s.input.seen ≡ [] → Agrees b [] → HasGranted b.fresh [] → KeepingAgrees b.keeping [] → KeepsBefore b.keeping [] → Stands b s []
stands_first s b none unseen agrees fresh keeping before = rw (none, unseen) (record {
  agrees = agrees;
  fresh = fresh;
  looks = record {
    kept = λ k lt. keeping.kept k lt ∙ sym (kept_push [] [] k);
    shown = λ k lt. keeping.shown k lt ∙ sym (shown_push [] [] k);
  };
  before = before;
})
