-- Each look is taken in turn, and then each thread is as its look says.
use Rattle.cal_policy.proofs.Common.{◌≡◌, ◌<◌, ◌∙◌, ap, sym, length, arith, slice_get-get_or, slice_get_past, option_and_then, unwrap_or, to_keep_at, shown_at, record_to_keep, shown_by, FitShown, kept_in, shown_in}
use Rattle.cal_policy.proofs.BoardLemmas.FitLooks.{fit_shown, fit_here}
use Rattle.cal_policy.proofs.HistoryLemmas.OneMore.{kept_push, shown_push}
use Rattle.cal_policy.proofs.ListLemmas.OneLookMore.{done_one_more, left_one_less, all_done}
use Rattle.cal_policy.proofs.board.records.Keeping.look_fit.Goals as goal

pub loop-k-preserved : goal.loop-k-preserved
loop-k-preserved c =
    let i = c.loop-k.invariant in
    let k = c.loop-k.k in
    let seen = c.args.seen.now in
    let lt : k < 128 = omega (arith, c.requires.looks) in
    let new = c.take_fit.new.self in
    let cur = c.loop-k.self in
    let old = c.args.self.now in
    let at : FitShown old seen → shown_in cur k ≡ shown_in old k = λ all. i.shown_left all k (omega arith) lt in
    let before_end : k < length seen = omega arith in record {
      kept_done = λ all. done_one_more (kept_in new) (kept_in cur) (kept_in old) (to_keep_at seen) k _
          (ap (option_and_then record_to_keep) (slice_get-get_or seen k _ before_end)) (c.take_fit.ensures.kept (fit_here cur old seen k _ all (at all) before_end)) lt (i.kept_done all) (i.kept_left all);
      kept_left = λ all. left_one_less (kept_in new) (kept_in cur) (kept_in old) _ k (c.take_fit.ensures.kept (fit_here cur old seen k _ all (at all) before_end)) (i.kept_left all);
      shown_done = λ all. done_one_more (shown_in new) (shown_in cur) (shown_in old) (shown_at seen) k _
          (ap (option_and_then shown_by) (slice_get-get_or seen k _ before_end)) (c.take_fit.ensures.shown (fit_here cur old seen k _ all (at all) before_end)) lt (i.shown_done all) (i.shown_left all);
      shown_left = λ all. left_one_less (shown_in new) (shown_in cur) (shown_in old) _ k (c.take_fit.ensures.shown (fit_here cur old seen k _ all (at all) before_end)) (i.shown_left all);
      shows = λ holder was. c.take_fit.ensures.shows holder (i.shows holder was);
      before = λ j low. rw c.take_fit.ensures.before (i.before j low);
      sets = c.take_fit.ensures.sets i.sets;
    }

pub returns-clause-agrees : goal.returns-clause-agrees
returns-clause-agrees c = λ looks s after.
    let i = c.loop-k.invariant in
    let seen = c.args.seen.now in
    let new = c.loop-k.self in
    let old = c.args.self.now in
    let all : FitShown old seen = fit_shown old looks seen s c.requires.looks after in record {
      kept = λ k lt. all_done (kept_in new) (kept_in old) (to_keep_at seen) c.loop-k.k (i.kept_done all) (i.kept_left all)
          (λ j high. ap (option_and_then record_to_keep) (slice_get_past seen j (omega (arith, high)))) k lt
          ∙ ap (unwrap_or (to_keep_at seen k)) (s.kept k lt) ∙ sym (kept_push looks seen k);
      shown = λ k lt. all_done (shown_in new) (shown_in old) (shown_at seen) c.loop-k.k (i.shown_done all) (i.shown_left all)
          (λ j high. ap (option_and_then shown_by) (slice_get_past seen j (omega (arith, high)))) k lt
          ∙ ap (unwrap_or (shown_at seen k)) (s.shown k lt) ∙ sym (shown_push looks seen k);
    }
