use Rattle.cal_signal.proofs.Common.{rules, ◌≡◌, ◌+◌, ◌*◌, ◌%◌, ◌++◌, ◌∷◌, [], length, ap, sym, ◌∙◌, subst, arith, length_push, Record, words_of, record_of, zero_record, MayFollow, last_published, parts_of}
use Rattle.cal_signal.specs.Faults.{MayPublish}
use Rattle.cal_signal.proofs.PageLists.{last_snoc}
use Rattle.cal_signal.proofs.PageSteps.{M, publishes_of, opens, closes}
use Rattle.cal_signal.proofs.publisher.Publisher.put.Goals as goal

pub store-requires : goal.store-requires
store-requires c = let v = c.self.invariant.version in (search rules, search rules, opens _ _ _ _ (publishes_of c.self.inside.seat.me.0 c.self.invariant.part) (omega arith) (omega arith))

pub store-requires-2 : goal.store-requires-2
store-requires-2 c = let v = c.self.invariant.version in
    let e = c.store_words.ensures.view ∙ ap (λ (m : M). (record m.0 { stored = c.words.result }, m.1)) c.store.ensures.2 in
    let ws : c.words.result ≡ words_of c.args.rec = search rules in
    let may : MayFollow c.self.inside.last c.args.rec = search rules in (
      search rules,
      search rules,
      closes _ _ _ _ (ap (λ (m : M). m.0.publishes) e ∙ publishes_of c.self.inside.seat.me.0 c.self.invariant.part) (ap (λ (m : M). m.0.version % 2) e ∙ omega arith) (let up : c.store_words.new.seat.me.0.version ≡ c.self.inside.place * 2 + 1 = ap (λ (m : M). m.0.version) e in omega arith)
          (ap (λ (m : M). length m.0.stored) e ∙ ap length ws)
          (subst (λ (z : Record × Record). MayFollow z.0 z.1) (λ i. ((c.self.invariant.ends ∙ sym (ap (λ (m : M). last_published m.0.published) e)) i, sym (ap (λ (m : M). record_of m.0.stored) e ∙ ap record_of ws) i)) may),
    )

pub invariant_of-self : goal.invariant_of-self
invariant_of-self c =
    let e = c.store_words.ensures.view ∙ ap (λ (m : M). (record m.0 { stored = c.words.result }, m.1)) c.store.ensures.2 in
    let w = c.store-2.ensures.2 in
    let ws : c.words.result ≡ words_of c.args.rec = search rules in
    let grown = ap (λ (m : M). m.0.published) w ∙ λ i. (e i).0.published ++ (ap (λ (m : M). record_of m.0.stored) e ∙ ap record_of ws) i ∷ [] in record {
      sits = record { table = search rules; words = c.self.invariant.sits.words; empty = ap (λ (m : M). m.1) w ∙ (ap (λ (m : M). m.1) e ∙ c.self.invariant.sits.empty) };
      part = ap (λ (m : M). parts_of m.0) w ∙ (ap (λ (m : M). parts_of m.0) e ∙ c.self.invariant.part);
      version = ap (λ (m : M). m.0.version) w ∙ omega arith;
      stored = ap (λ (m : M). m.0.stored) w;
      placed = let p = c.self.invariant.placed in sym (ap length grown ∙ (length_push _ _ ∙ omega arith));
      ends = sym (ap last_published grown ∙ last_snoc zero_record c.self.inside.seat.me.0.published c.args.rec);
      bound = let may : MayPublish c.self.inside.seat.me.0.published c.args.rec = search rules in let room = may.2 in let p = c.self.invariant.placed in omega arith;
    }
