use Rattle.cal_sched.proofs.Common.{◌≡◌, ◌≤◌, length, vec_capacity, HasLooked}
use Rattle.cal_sched.proofs.Below.{Below}
use Rattle.cal_sched.proofs.looking.look_at_each.Given as goal

abbrev pub invariant-loop-k : goal.invariant-loop-k
invariant-loop-k l = record {
  below : Below HasLooked l.k l.initial.observers l.observers l.looks.items;
  room : length l.initial.observers ≤ vec_capacity l.looks;
  same : vec_capacity l.looks ≡ vec_capacity l.initial.looks;
}
