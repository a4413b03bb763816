use Rattle.cal_signal.proofs.Common.{rules, ◌≡◌, ℕ, ◌/◌, ◌%◌, ◌≤◌, length, ap, sym, ◌∙◌, arith, length-take-le, Record, record_of, floor_of, sees}
use Rattle.cal_signal.proofs.PageLists.{floor_snoc}
use Rattle.cal_signal.proofs.PageSteps.{M, ends}
use Rattle.cal_signal.proofs.open_look.OpenLook.finish.Goals as goal

pub load-second-requires : goal.load-second-requires
load-second-requires c = let full : c.self.inside.count ≡ 9 = search rules in let wide = c.self.invariant.wide in (
  search rules,
  search rules,
  ends _ _ _ c.self.invariant.part (ap (λ (n : ℕ). n % 2) c.self.invariant.begun ∙ c.self.invariant.even)
      (let room : c.self.inside.count ≤ length c.self.inside.words = omega arith in ap length c.self.invariant.read ∙ (length-take-le c.self.inside.count c.self.inside.words room ∙ full)),
)

pub invariant_of-result-2 : goal.invariant_of-result-2
invariant_of-result-2 c = let w = (c.load-second.ensures.2.1 (c.if-second-first.false ∙ sym c.self.invariant.begun)).0 in record {
  sits = record { table = search rules; words = c.self.invariant.sits.words; empty = ap (λ (m : M). m.1) w ∙ c.self.invariant.sits.empty };
  part = ap (λ (m : M). sees m.0) w ∙ c.self.invariant.part;
  low = sym (ap (λ (m : M). floor_of m.0.looks) w ∙ (floor_snoc {T = Record} 0 c.self.inside.seat.me.0.looks (c.load-second.result / 2) (record_of c.self.inside.seat.me.0.read) ∙ ap (λ (n : ℕ). n / 2) c.if-second-first.false));
}
