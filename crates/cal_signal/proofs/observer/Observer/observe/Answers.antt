use Rattle.cal_signal.proofs.Common.{rules, ◌≡◌, ℕ, ◌/◌, ◌%◌, length, ap, sym, ◌∙◌, arith, Record, record_of, floor_of, sees}
use Rattle.cal_signal.proofs.PageSteps.{M, starts, ends}
use Rattle.cal_signal.proofs.PageLists.{floor_snoc}
use Rattle.cal_signal.proofs.observer.Observer.observe.Goals as goal

pub load-first-requires : goal.load-first-requires
load-first-requires c = (search rules, search rules, starts _ _ _)

pub load-second-requires : goal.load-second-requires
load-second-requires c = let e = c.load_words-words.ensures.view ∙ ap (λ (m : M). (record m.0 { read = c.load_words-words.result }, m.1)) c.load-first.ensures.2 in (
  search rules,
  search rules,
  ends _ _ _ (ap (λ (m : M). sees m.0) e ∙ c.self.invariant.part)
      (let even : c.load-first.result % 2 ≡ 0 = omega arith in ap (λ (m : M). m.0.first % 2) e ∙ even) (ap (λ (m : M). length m.0.read) e ∙ search rules),
)

pub invariant_of-self-2 : goal.invariant_of-self-2
invariant_of-self-2 c = let e = c.load_words-words.ensures.view ∙ ap (λ (m : M). (record m.0 { read = c.load_words-words.result }, m.1)) c.load-first.ensures.2 in
    let w = (c.load-second.ensures.2.1 (c.if-second-first.false ∙ sym (ap (λ (m : M). m.0.first) e))).0 in record {
      sits = record {
        table = search rules;
        words = c.self.invariant.sits.words;
        empty = ap (λ (m : M). m.1) w ∙ (ap (λ (m : M). m.1) e ∙ c.self.invariant.sits.empty);
      };
      part = ap (λ (m : M). sees m.0) w ∙ (ap (λ (m : M). sees m.0) e ∙ c.self.invariant.part);
      low = sym (ap (λ (m : M). floor_of m.0.looks) w ∙ (floor_snoc {T = Record} 0 c.load_words-words.new.seat.me.0.looks (c.load-second.result / 2) (record_of c.load_words-words.new.seat.me.0.read) ∙ ap (λ (n : ℕ). n / 2) c.if-second-first.false));
    }
