use Rattle.cal_kthread.proofs.Common.{◌≡◌, ◌∙◌, ap, length, arith, Record, last_published, zero_record, ThreadView}
use Rattle.cal_kthread.proofs.TurnLemmas.Publishing.{last_snoc}
use Rattle.cal_kthread.proofs.turn.thread.Thread.publish.Goals as goal

pub invariant_of-self : goal.invariant_of-self
invariant_of-self c =
    let last : last_published c.put-place.new.self.published ≡ c.record-shown.result = ap last_published c.put-place.ensures.published ∙ last_snoc zero_record c.self.inside.publisher.published c.record-shown.result in
    let shows = last ∙ c.record-shown.ensures in
    let same = ap (λ (t : ThreadView). length t.taker.taken) c.self.view_is in
    let likewise = ap (λ (t : ThreadView). t.misses) c.self.view_is in record {
      taken = c.self.invariant.taken;
      number = c.self.invariant.number;
      limit = c.self.invariant.limit;
      shown_taken = let e = ap (λ (r : Record). r.taken) shows in let n = c.self.invariant.taken in omega arith;
      shown_misses = let e = ap (λ (r : Record). r.misses) shows in omega arith;
    }
