-- Passes that are handed out one by one, and the pass at hand.
use Rattle.cal_trace.proofs.Common.{◌≡◌, ◌∙◌, ◌+◌, ◌<◌, ◌≤◌, ℕ, List, [], ◌∷◌, ◌++◌, length, length-append, Option, Some, None, Result, Ok, Err, nat_lt, ap, sym, arith, ltb-true, option_map, IsCounted, Fields, check, pass_row, has_numbers, number_at, FaultKind, TraceFault, GivenPass, MOST_PASSES}
use Rattle.std.specs.Option.{option_to_list}
use Rattle.cal_trace.specs.Rows.Passes.{with_closed, GivesNext}
use Rattle.cal_trace.specs.Rows.SoFar.{so_far}
use Rattle.cal_trace.specs.declared.rows.so_far.PassesSoFar.{PassesSoFar}
use Rattle.cal_trace.specs.declared.fault.FaultKind.TheVariants as kinds
use Rattle.cal_trace.proofs.RowLemmas.Checks.{check_one}
use Rattle.cal_trace.proofs.RowLemmas.Refusals.{decided}

-- a pass that begins is one more, and the one before it is handed out
pub counted-begun : {Open Pass : Type 0} (hand : Open → Pass) (given : List Pass) (closed : Option Pass) (old new : PassesSoFar Open) (begun : Open) → IsCounted hand given old → old.passes < MOST_PASSES
    → closed ≡ option_map hand old.at_hand → new.at_hand ≡ Some begun → new.passes ≡ old.passes + 1 → IsCounted hand (with_closed given closed) new
counted-begun {Open} {Pass} hand given closed old new begun counted below is at more =
    let before : List Pass = with_closed given closed in
    record {
      passes = more ∙ ap (λ n. n + 1) (counted.passes ∙ ap (λ (o : Option Pass). length (given ++ option_to_list o)) (sym is)) ∙ sym (length-append before (hand begun ∷ []))
          ∙ ap (λ (o : Option Open). length (before ++ option_to_list (option_map hand o))) (sym at);
      few = omega (arith, more, below);
    }

-- a pass row that was taken is not one too many
pub pass_below : (passes : ℕ) (fields : Fields) (row : GivenPass) → pass_row passes fields ≡ Ok row → passes < MOST_PASSES
pass_below passes fields row e =
    let found : GivenPass = record { now = number_at fields 1; bandwidth = number_at fields 2 } in
    let in_range : Result GivenPass FaultKind = check (nat_lt passes MOST_PASSES) kinds.Range (Ok found) in
    let numbers = check_one (has_numbers fields) kinds.Number in_range row e in
    let range = check_one (nat_lt passes MOST_PASSES) kinds.Range (Ok found) row numbers.1 in
    ltb-true passes MOST_PASSES range.0

-- no more passes were handed out than a file may have
pub few_counted : {Open Pass : Type 0} (hand : Open → Pass) (given : List Pass) (rows : PassesSoFar Open) → IsCounted hand given rows → length given ≤ MOST_PASSES
few_counted hand given rows counted = let few = counted.few in let passes = counted.passes in omega (arith, few, passes, length-append given (option_to_list (so_far hand given rows).at_hand))

-- what is given next, of a file that gives the same
pub given_next : {Pass : Type 0} (P Q : List Pass → Type 0) (file whole : Result (List Pass) TraceFault) (given : List Pass) (result : Result (Option Pass) TraceFault)
    → ((all : List Pass) → P all → Q all) → file ≡ whole → GivesNext P file given result → GivesNext Q whole given result
given_next P Q file whole given (Ok (Some pass)) keeps same gives = keeps (given ++ pass ∷ []) gives
given_next P Q file whole given (Ok None) keeps same gives = sym same ∙ gives
given_next P Q file whole given (Err fault) keeps same gives = decided fault.kind _ _ (λ e. sym same ∙ e) gives
