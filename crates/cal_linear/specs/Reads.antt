-- How far the passes of a history read each thread's page.
use Rattle.std.specs.Prelude.{ℕ, zero, max, List, [], ◌∷◌, Option, Some, None, slice_get}
use Rattle.std.specs.List.{filter_map}
use Rattle.std.specs.Option.{option_and_then}
use Rattle.cal_policy.specs.declared.history.look.Seen.{Seen}
use Rattle.cal_policy.specs.declared.history.look.Seen.TheVariants.{Whole}
use Rattle.cal_policy.specs.declared.history.entry.PassEntry.{PassEntry}

-- the place that a look read; none where it is not whole
abbrev pub place_found : Seen → Option ℕ
place_found (Whole number rec) = Some number
place_found _ = None

-- the place that one of these looks, a look at each thread in order, read of thread k
abbrev pub place_in : List Seen → ℕ → Option ℕ
place_in seen k = option_and_then place_found (slice_get seen k)

-- the places that these passes read of thread k, in order
abbrev pub places_read : List PassEntry → ℕ → List ℕ
places_read passes k = filter_map (λ entry. place_in entry.input.seen k) passes

-- the greatest of these numbers, 0 where there is none
abbrev pub greatest : List ℕ → ℕ
greatest [] = zero
greatest (n ∷ ns) = max n (greatest ns)

-- the furthest place that these passes read of thread k, 0 where they read none
abbrev pub furthest : List PassEntry → ℕ → ℕ
furthest passes k = greatest (places_read passes k)

-- the further one of a place and what was read
abbrev pub further : ℕ → Option ℕ → ℕ
further place None = place
further place (Some number) = max place number

-- where these are the furthest places of each thread, those after these looks
abbrev pub after_looks : (ℕ → ℕ) → List Seen → ℕ → ℕ
after_looks places seen k = further (places k) (place_in seen k)
