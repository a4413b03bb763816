-- Who is short and waits does so up to its own turn.
use Rattle.cal_guarantee.proofs.Common.{◌≡◌, true, List, [], ◌++◌, refl, sym, ◌∙◌, subst, Action, booked_by, so_far, frees, IsSteady, bounded_of, place_of, grants_of_first, waits_short, ShortLastsToTheTurn, WaitsLastToTheGrants, WaitsLastToTheTurn}
use Rattle.cal_guarantee.proofs.Counts.{short_same}
use Rattle.cal_guarantee.proofs.KeptAlong.{NoGrant, books_along, other_along, with_along}
use Rattle.cal_guarantee.proofs.Freed.{frees_steady}
use Rattle.cal_guarantee.proofs.PassTurns.{ToOther, others, to_place, middle_of, middle_steps, bounded_middle, never_granted, freed_waits, turn_state}
use Rattle.cal_guarantee.proofs.Histories.{steady_after}

-- up to its turn
pub short_lasts : ShortLastsToTheTurn
short_lasts s u table legal own =
    let b = bounded_of s in
    let x = so_far s b in
    let first = frees s [] in
    let steady = frees_steady s (steady_after s.table s.history table legal) in
    let middle = books_along (Unit {0}) s first (middle_of s) (middle_steps NoGrant s table) steady in
    let P : List Action → Type 0 = λ now. IsSteady s.table (so_far s now) × (booked_by s.table (so_far s now) u ≡ booked_by s.table (so_far s first) u) in
    let there : P b = subst P (sym (bounded_middle s)) (middle.0, middle.1.books u) in
    let mine = place_of s x u in
    let turns = other_along ⊥ (ToOther u) s u b (grants_of_first mine s b) (others u) (to_place s u mine table refl) there.0 in
    short_same s.table (so_far s first) (so_far s (b ++ grants_of_first mine s b)) u (turns ∙ there.1)

pub waits_to_grants : WaitsLastToTheGrants
waits_to_grants s t table legal own =
    let steady = steady_after s.table s.history table legal in
    let W : List Action → Type 0 = λ now. waits_short s (so_far s now) t ≡ true in (
      λ waiting. subst W (sym (bounded_middle s))
          (with_along (Unit {0}) NoGrant s t (λ x. Unit {0}) own (never_granted t) (λ now a q st w was. tt) (frees s []) (middle_of s) (middle_steps NoGrant s table) (frees_steady s steady) waiting tt).1,
      λ waiting. freed_waits s t table own steady waiting,
    )

pub waits_to_turn : WaitsLastToTheTurn
waits_to_turn s t w = (turn_state s t w.table w.own (steady_after s.table s.history w.table w.legal) w.waiting).1
