use Rattle.cal_facts.proofs.Common.{◌++◌, ◌∷◌, [], List, subst, sym, actions_of, looks_of, Agrees, KeepingAgrees, Action}
use Rattle.cal_policy.proofs.BoardLemmas.Replayed.{actions_push, looks_push}
use Rattle.cal_policy.specs.declared.board.records.Keeping.{Keeping}
use Rattle.cal_policy.specs.declared.history.look.Seen.{Seen}
use Rattle.cal_facts.proofs.series.replaying.follow.Goals as goal

pub returns-clause-state : goal.returns-clause-state
returns-clause-state c = λ h was.
    let e = c.args.entry.now in
    let new = c.apply_each.new.board in
    let agrees = c.apply_each.ensures.agrees (actions_of h) (c.begin.ensures.agrees (actions_of h) was.actions) in
    let kept = c.begin.ensures.keeping (looks_of h) was.looks in
    let of_actions = λ (acts : List Action). Agrees new (actions_of h ++ acts) in
    let of_looks = λ (seen : List Seen). KeepingAgrees c.begin.new.self.keeping (looks_of h ++ seen ∷ []) in
    record {
      actions = subst (λ (x : List Action). Agrees new x) (sym (actions_push h e)) (subst of_actions c.as_slice-2.ensures agrees);
      looks = subst (λ (l : List (List Seen)). KeepingAgrees new.keeping l) (sym (looks_push h e))
          (subst (λ (r : Keeping). KeepingAgrees r (looks_of h ++ e.input.seen ∷ [])) (sym c.apply_each.ensures.keeping) (subst of_looks c.as_slice.ensures kept));
    }
