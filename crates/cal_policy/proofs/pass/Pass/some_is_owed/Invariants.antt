use Rattle.cal_policy.proofs.Common.{◌≡◌, ◌<◌, ◌≤◌, ◌-◌, ℕ, true, None, slice_index_or, has}
use Rattle.cal_policy.proofs.pass.Pass.some_is_owed.Given as goal

abbrev pub invariant-loop-core : goal.invariant-loop-core
invariant-loop-core l = record {
  none : (core : ℕ) → core < l.first → has l.board.open_cores.idle core ≡ true → slice_index_or l.board.debts.owed core None ≡ None;
  first : l.first ≤ l.self.config.now.cores;
}

abbrev pub decreases-loop-core : goal.decreases-loop-core
decreases-loop-core l = l.self.config.now.cores - l.first
