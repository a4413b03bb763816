-- Each look is taken in turn, and then each thread is as its look says.
use Rattle.cal_policy.proofs.Common.{◌<◌, ◌∙◌, ap, sym, arith, slice_get-get_or, slice_get_past, option_and_then, unwrap_or, to_keep_at, shown_at, record_to_keep, shown_by, kept_in, shown_in}
use Rattle.cal_policy.proofs.HistoryLemmas.OneMore.{kept_push, shown_push}
use Rattle.cal_policy.proofs.ListLemmas.OneLookMore.{done_one_more, left_one_less, all_done}
use Rattle.cal_policy.proofs.board.records.Keeping.look.Goals as goal

pub loop-k-preserved : goal.loop-k-preserved
loop-k-preserved c =
    let i = c.loop-k.invariant in
    let k = c.loop-k.k in
    let seen = c.args.seen.now in
    let lt : k < 128 = omega (arith, c.requires) in
    let new = c.take.new.self in
    let cur = c.loop-k.self in
    let old = c.args.self.now in record {
      kept_done = done_one_more (kept_in new) (kept_in cur) (kept_in old) (to_keep_at seen) k _
          (ap (option_and_then record_to_keep) (slice_get-get_or seen k _ (omega arith))) c.take.ensures.kept lt i.kept_done i.kept_left;
      kept_left = left_one_less (kept_in new) (kept_in cur) (kept_in old) _ k c.take.ensures.kept i.kept_left;
      shown_done = done_one_more (shown_in new) (shown_in cur) (shown_in old) (shown_at seen) k _
          (ap (option_and_then shown_by) (slice_get-get_or seen k _ (omega arith))) c.take.ensures.shown lt i.shown_done i.shown_left;
      shown_left = left_one_less (shown_in new) (shown_in cur) (shown_in old) _ k c.take.ensures.shown i.shown_left;
      shows = λ holder was. c.take.ensures.shows holder (i.shows holder was);
      before = λ j low. rw c.take.ensures.before (i.before j low);
      sets = λ was. c.take.ensures.sets (i.sets was);
    }

pub returns-clause-agrees : goal.returns-clause-agrees
returns-clause-agrees c = λ looks s.
    let i = c.loop-k.invariant in
    let seen = c.args.seen.now in
    let new = c.loop-k.self in
    let old = c.args.self.now in record {
      kept = λ k lt. all_done (kept_in new) (kept_in old) (to_keep_at seen) c.loop-k.k i.kept_done i.kept_left (λ j high. ap (option_and_then record_to_keep) (slice_get_past seen j (omega (arith, high)))) k lt
          ∙ ap (unwrap_or (to_keep_at seen k)) (s.kept k lt) ∙ sym (kept_push looks seen k);
      shown = λ k lt. all_done (shown_in new) (shown_in old) (shown_at seen) c.loop-k.k i.shown_done i.shown_left (λ j high. ap (option_and_then shown_by) (slice_get_past seen j (omega (arith, high)))) k lt
          ∙ ap (unwrap_or (shown_at seen k)) (s.shown k lt) ∙ sym (shown_push looks seen k);
    }
