-- What the ids at hand say of the requests so far.
use Rattle.std.specs.Prelude.{◌≡◌, ◌<◌, ℕ, List, true, false}
use Rattle.std.specs.BTreeSet as sets
use Rattle.std.specs.Ordering.{nat_cmp}
use Rattle.cal_trace.specs.Arrivals.{is_given}
use Rattle.cal_trace.specs.declared.arrivals.Arrival.{Arrival}
use Rattle.cal_trace.specs.declared.arrivals.ids.Ids.{Ids}

-- these are the ids of the requests: while they rise, each is below the bound and none is in the
-- set; once they do not, the set has them and no others
pub record AreIdsOf (ids : Ids) (requests : List Arrival) : Type 0 where
  pub below : ids.rising ≡ true → (id : ℕ) → is_given id requests ≡ true → id < ids.bound
  pub unlisted : ids.rising ≡ true → (id : ℕ) → sets.contains nat_cmp ids.known id ≡ false
  pub listed : ids.rising ≡ false →
      (id : ℕ) → sets.contains nat_cmp ids.known id ≡ is_given id requests
