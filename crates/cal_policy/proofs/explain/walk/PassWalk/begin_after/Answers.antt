use Rattle.cal_policy.proofs.Common.{◌≡◌, ℕ, List, [], Option, None, sym, ap, subst, ◌∙◌, arith, rules, common_steps, begun_on, Begun, setting_at, Stands, Action, Terms}
use Rattle.cal_policy.proofs.ExplainLemmas.Assured.{begun_made, begun_order}
use Rattle.cal_policy.proofs.ListLemmas.OneMore.{get_or_same}
use Rattle.cal_policy.proofs.explain.walk.PassWalk.begin_after.Goals as goal

pub returns-clause-walk : goal.returns-clause-walk
returns-clause-walk c = record {
  table = first_of (search rules, grind (arith, common_steps));
  turn = first_of (search rules, grind (arith, common_steps));
  order = λ p lt. rw (c.no_places.ensures, get_or_same {X = Option ℕ} 16 p None) tt;
}

pub returns-clause-begun : goal.returns-clause-begun
returns-clause-begun c = λ h after given.
    let s = setting_at c.args.config.now c.by.result (begun_on h c.args.input.now) in
    let nothing : c.new.result.items ≡ [] = first_of (search rules, grind (arith, common_steps)) in
    let P : List Action → Type 0 = λ made. Stands c.in_ok-board.board.value s made in
    record {
      made = begun_made c.by.result.policy s c.new.result.items nothing;
      stands = subst P (sym nothing) (c.in_ok-board.ensures.stands h after given c.by.result);
      order = begun_order c.by.result.policy s c.no_places.result;
    }

pub returns-clause-setting : goal.returns-clause-setting
returns-clause-setting c = λ h.
    let table = c.args.config.now in
    let begun : Begun = begun_on h c.args.input.now in
    ap (λ (t : Terms). setting_at table t begun) c.by.ensures ∙ sym (c.of.ensures h)
