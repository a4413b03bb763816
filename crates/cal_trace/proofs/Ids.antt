-- A set of ids with one more.
use Rattle.cal_trace.proofs.Common.{◌≡◌, ◌∙◌, ◌+◌, ◌<◌, ◌==◌, ◌||◌, ℕ, Bool, true, cond, List, length, get_or, sym, take, rules, is_given, Arrival}
use Rattle.std.specs.BTreeMap.{is_at}
use Rattle.std.specs.Ordering.{nat_cmp}
use Rattle.std.proofs.lemmas.List.Folds.{list_any_more}

pub one_listed : (has had : ℕ → Bool) (xs : List Arrival) (i key : ℕ) (d : Arrival) → i < length xs → key ≡ (get_or xs i d).request.id →
    ((id : ℕ) → has id ≡ cond (is_at (nat_cmp key) id) true (had id)) → ((id : ℕ) → had id ≡ is_given id (take i xs)) → (id : ℕ) → has id ≡ is_given id (take (i + 1) xs)
one_listed has had xs i key d lt is more before id =
    let one : has id ≡ (is_given id (take i xs) || (get_or xs i d).request.id == id) = search rules in
    one ∙ sym (list_any_more (λ (a : Arrival). a.request.id == id) xs i d lt)
