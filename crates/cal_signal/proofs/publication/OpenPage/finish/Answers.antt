use Rattle.cal_signal.proofs.Common.{rules, ◌≡◌, ◌++◌, ◌∷◌, [], length, ap, sym, ◌∙◌, subst, arith, length_push, record_of, zero_record, MayFollow, last_published, parts_of}
use Rattle.cal_signal.proofs.PageLists.{last_snoc}
use Rattle.cal_signal.proofs.PageSteps.{M, publishes_of, closes, all_stored}
use Rattle.cal_signal.proofs.publication.OpenPage.finish.Goals as goal

pub store-requires : goal.store-requires
store-requires c = let v = c.self.invariant.version in let full : c.self.inside.count ≡ 9 = search rules in
    let e = all_stored c.self.inside.seat.me.0.stored c.self.inside.count c.self.inside.pending full c.self.invariant.stored in (
      search rules,
      search rules,
      closes _ _ _ _ (publishes_of c.self.inside.seat.me.0 c.self.invariant.part) (omega arith) (omega arith) (ap length e)
          (subst (MayFollow (last_published c.self.inside.seat.me.0.published)) (sym (ap record_of e)) c.self.invariant.follows),
    )

pub invariant_of-result : goal.invariant_of-result
invariant_of-result c = let full : c.self.inside.count ≡ 9 = search rules in
    let e = all_stored c.self.inside.seat.me.0.stored c.self.inside.count c.self.inside.pending full c.self.invariant.stored in
    let w = c.store.ensures.2 in
    let grown = ap (λ (m : M). m.0.published) w ∙ λ i. c.self.inside.seat.me.0.published ++ record_of (e i) ∷ [] in record {
      sits = record { table = search rules; words = c.self.invariant.sits.words; empty = ap (λ (m : M). m.1) w ∙ c.self.invariant.sits.empty };
      part = ap (λ (m : M). parts_of m.0) w ∙ c.self.invariant.part;
      version = ap (λ (m : M). m.0.version) w ∙ omega arith;
      stored = ap (λ (m : M). m.0.stored) w;
      placed = let p = c.self.invariant.placed in sym (ap length grown ∙ (length_push _ _ ∙ omega arith));
      ends = sym (ap last_published grown ∙ last_snoc zero_record c.self.inside.seat.me.0.published c.self.inside.pending);
      bound = search rules;
    }
