use Rattle.cal_load.proofs.Common.{◌≡◌, ◌≤◌, ◌+◌, ◌∙◌, ◌++◌, ◌∷◌, [], List, All, length, ap, sym, subst, AreBuilt, HasMoreFor, IsQueue, slots_in, Count, Queue}
use Rattle.cal_load.proofs.made.Gathered.put.Goals as goal

pub returns : goal.returns
returns c =
    let first = c.args.first in
    let old = c.args.self.now in
    let new = c.put_queues.new.requests.items in
    let same : c.as_slice-queues.result.now ≡ c.args.coming.now.queues.items = c.as_slice-queues.ensures.value in
    record {
      built = λ threads turns b room all.
          subst (λ (l : List Queue). AreBuilt threads turns (first + length l) new) same
          (c.in_ok-put_queues.ensures.put threads turns b (subst (λ (l : List Queue). first + length l ≤ threads) (sym same) room) (subst (λ (l : List Queue). All (IsQueue turns) l) (sym same) all));
      own = subst (λ (l : List Queue). HasMoreFor first (first + length l) c.args.misses old.requests.items new) same c.in_ok-put_queues.ensures.own;
      many = c.in_ok-put_queues.ensures.many ∙ ap (λ (l : List Queue). length old.requests.items + slots_in l) same;
      counts = c.in_ok-push.ensures.items ∙ ap (λ (x : Count). old.counts.items ++ x ∷ []) c.count_of.ensures;
    }
