use Rattle.cal_policy.proofs.Common.{◌∙◌, ℕ, ap, sym, refl, false, zero_record, Record, shows_waiting}
use Rattle.cal_policy.proofs.ListLemmas.OneMore.{get_or_same}
use Rattle.cal_policy.proofs.board.records.Keeping.new.Goals as goal

pub returns-clause-agrees : goal.returns-clause-agrees
returns-clause-agrees c = record {
  kept = λ k lt. rw c.zero_records.ensures (get_or_same 128 k zero_record);
  shown = λ k lt. rw (c.noughts-2.ensures, c.none_settled.ensures, c.zero_records-2.ensures) (rw (get_or_same 128 k false, get_or_same {X = ℕ} 128 k 0, get_or_same 128 k zero_record) refl);
}

pub returns-clause-before : goal.returns-clause-before
returns-clause-before c = record { before = λ k lt. rw c.noughts.ensures (get_or_same 128 k 0) }

pub returns-clause-sets : goal.returns-clause-sets
returns-clause-sets c = record {
  still = λ k lt e. rw (c.noughts.ensures, c.zero_records.ensures) (get_or_same 128 k 0 ∙ sym (ap (λ (r : Record). r.misses) (get_or_same 128 k zero_record)));
  waiting = λ k lt. rw c.zero_records.ensures (c.empty-2.ensures k ∙ sym (ap shows_waiting (get_or_same 128 k zero_record)));
}
