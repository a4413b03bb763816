use Rattle.cal_sched.proofs.Common.{◌≡◌, List, PassEntry, IsStateAfter, IsOpenAt, SettledAreNoNews, HaveFoundSo}
use Rattle.cal_sched.proofs.Found.{FoundBelow}
use Rattle.cal_sched.proofs.news.find_news.Given as goal

abbrev pub invariant-loop-k : goal.invariant-loop-k
invariant-loop-k l = record {
  count : l.pass.count ≡ l.k;
  found : FoundBelow l.k l.initial.observers l.observers l.initial.senders l.senders l.found;
  taken : (h : List PassEntry) → SettledAreNoNews l.config h → IsStateAfter l.board h → HaveFoundSo h l.initial.observers → IsOpenAt l.config h l.found l.pass;
}
