-- Before any action each place of the arrays has its default.
use Rattle.std.proofs.Common.{ℕ, arith, refl, None, Option}
use Rattle.cal_policy.specs.declared.board.holders.Placement as placements
use Rattle.cal_policy.specs.declared.board.holders.Holder.TheVariants as holders
use Rattle.cal_policy.proofs.ListLemmas.OneMore.{get_or_same}
use Rattle.cal_policy.proofs.board.holders.Holding.new.Goals as goal

pub returns-clause-agrees : goal.returns-clause-agrees
returns-clause-agrees c = record {
  granted = λ k lt. rw c.none_granted.ensures (get_or_same 128 k None);
  holders = λ k lt. rw c.all_free.ensures (get_or_same 128 k holders.Free);
  sent = λ k lt. get_or_same 128 k 0;
}

pub returns-clause-sound : goal.returns-clause-sound
returns-clause-sound c = λ threads. record {
  granted = λ k. rw (c.none_granted.ensures, get_or_same {X = Option placements.Placement} 128 k None) tt;
  holders = λ k. rw (c.all_free.ensures, get_or_same 128 k holders.Free) tt;
  sent = λ k. omega (arith, get_or_same {X = ℕ} 128 k 0);
}

pub returns-clause-free : goal.returns-clause-free
returns-clause-free c = λ k. rw c.all_free.ensures (get_or_same 128 k holders.Free)

pub returns-clause-ungranted : goal.returns-clause-ungranted
returns-clause-ungranted c = λ k. rw (c.none_granted.ensures, get_or_same {X = Option placements.Placement} 128 k None) refl
