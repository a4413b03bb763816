use Rattle.cal_guard.proofs.Common.{[], refl, sym, subst, ◌∙◌, Input, setting, Passing, IsSpareOf}
use Rattle.cal_guard.proofs.guard.Guard.open.Goals as goal

pub invariant_of-result : goal.invariant_of-result
invariant_of-result c =
    let input : Input = record { now = 0; bandwidth = 0; seen = []; rooms = [] } in
    let table = c.args.config.now in
    let both : IsSpareOf c.new.result c.new-3.result = record {
      twins = record {
        setting = setting table [] input;
        acts = [];
        one = c.new.ensures.after table input refl;
        other = c.new-3.ensures.after table input refl;
        made = c.new-3.ensures.made ∙ sym c.new.ensures.made;
      };
      ready = λ other ready. c.new-3.ensures.ready other;
    } in
    let P : Passing → Type 0 = λ p. IsSpareOf p c.new-3.result in
    let Q : Passing → Type 0 = λ q. IsSpareOf c.in_ok-passing.passing.value q in
    subst Q (sym c.in_ok-spare.ensures.ok) (subst P (sym c.in_ok-passing.ensures.ok) both)
