-- What the rows of a file of passes have given so far, whatever its passes are.
use Rattle.std.specs.Prelude.{◌≡◌, ◌≤◌, ◌==◌, ◌&&◌, not, nat_lt, ℕ, List, [], ◌++◌, Bool, true}
use Rattle.std.specs.Prelude.{false, Option, Some, None, Result, Ok, Err, length, if◌then◌else◌}
use Rattle.std.specs.Option.{option_map, option_to_list}
use Rattle.cal_trace.specs.Rows.{Fields}
use Rattle.cal_trace.specs.Rows.LookRows.{check, pass_row, end_row}
use Rattle.cal_trace.specs.declared.fault.FaultKind.{FaultKind}
use Rattle.cal_trace.specs.declared.fault.FaultKind.TheVariants as kind
use Rattle.cal_policy.specs.declared.history.entry.TheConstants.{MOST_PASSES}
use Rattle.cal_policy.specs.declared.judgement.open_input.FoundLook.{FoundLook}
use Rattle.cal_trace.specs.declared.arrivals.GivenPass.{GivenPass}
use Rattle.cal_trace.specs.declared.rows.so_far.PassesSoFar.{PassesSoFar}

-- the passes before the one at hand, the pass at hand, whose looks and actions may still be
-- missing, and whether the end row came
pub record SoFar (Pass : Type 0) : Type 0 where
  pub before : List Pass
  pub at_hand : Option Pass
  pub ended : Bool

module _ {Pass : Type 0} where
  -- nothing yet
  abbrev pub at_start : SoFar Pass
  at_start = record { before = []; at_hand = None; ended = false }

  -- all passes so far, the one at hand included
  abbrev pub passes_of : SoFar Pass → List Pass
  passes_of so_far = so_far.before ++ option_to_list so_far.at_hand

  -- the same after a row that says more of the pass at hand
  abbrev pub with_more : (Pass → Pass) → SoFar Pass → SoFar Pass
  with_more more so_far = record so_far { at_hand = option_map more so_far.at_hand }

  -- a new pass at hand, which begins so
  abbrev pub add_pass : (GivenPass → Pass) → SoFar Pass → Result GivenPass FaultKind →
      Result (SoFar Pass) FaultKind
  add_pass begun so_far (Err k) = Err k
  add_pass begun so_far (Ok row) =
      Ok (record { before = passes_of so_far; at_hand = Some (begun row); ended = false })

  -- one more look of the pass at hand, which then is so
  abbrev pub add_look : (FoundLook → Pass → Pass) → SoFar Pass → Result FoundLook FaultKind →
      Result (SoFar Pass) FaultKind
  add_look with_look so_far (Err k) = Err k
  add_look with_look so_far (Ok found) = Ok (with_more (with_look found) so_far)

  -- the same where the next look is that of this thread, if one may come here, and its row says so
  -- of it
  abbrev pub take_look : (FoundLook → Pass → Pass) → (ℕ → Result FoundLook FaultKind) →
      SoFar Pass → Result ℕ FaultKind → Result (SoFar Pass) FaultKind
  take_look with_look says so_far (Err k) = Err k
  take_look with_look says so_far (Ok thread) = add_look with_look so_far (says thread)

  -- the end
  abbrev pub add_end : SoFar Pass → Result ℕ FaultKind → Result (SoFar Pass) FaultKind
  add_end so_far (Err k) = Err k
  add_end so_far (Ok count) =
      Ok (record { before = passes_of so_far; at_hand = None; ended = true })

  -- the passes of a file that came to its end row
  abbrev pub whole : SoFar Pass → Option (List Pass)
  whole so_far = if so_far.ended then Some so_far.before else None

-- of passes that have so many looks
module _ {Pass : Type 0} (looks_in : Pass → ℕ) where
  -- whether a pass at hand has a look of each of so many threads
  abbrev pub is_full : ℕ → Option Pass → Bool
  is_full threads None = true
  is_full threads (Some pass) = looks_in pass == threads

  -- whether a pass row or the end row may come here
  abbrev pub is_between : ℕ → SoFar Pass → Bool
  is_between threads so_far = not so_far.ended && is_full threads so_far.at_hand

  -- the thread whose look comes next, where a look may come here
  abbrev pub next_thread : ℕ → Option Pass → Result ℕ FaultKind
  next_thread threads None = Err kind.Order
  next_thread threads (Some pass) =
      if nat_lt (looks_in pass) threads then Ok (looks_in pass) else Err kind.Order

  -- what the rows say with one more pass row, where a pass begins so
  abbrev pub take_pass : (GivenPass → Pass) → ℕ → SoFar Pass → Fields →
      Result (SoFar Pass) FaultKind
  take_pass begun threads so_far fields =
      check (is_between threads so_far) kind.Order
      (add_pass begun so_far (pass_row (length (passes_of so_far)) fields))

  -- the same with the end row
  abbrev pub take_end : ℕ → SoFar Pass → Fields → Result (SoFar Pass) FaultKind
  take_end threads so_far fields =
      check (is_between threads so_far) kind.Order
      (add_end so_far (end_row (length (passes_of so_far)) fields))

-- of a reader, whose pass at hand has come so far
module _ {Open Pass : Type 0} (pass : Open → Pass) where
  -- what the rows so far have given, where these passes were handed out
  abbrev pub so_far : List Pass → PassesSoFar Open → SoFar Pass
  so_far given rows = record {
    before = given;
    at_hand = option_map pass rows.at_hand;
    ended = rows.ended;
  }

  -- what is kept of the passes that were handed out: their number, which is no more than a file may
  -- have
  pub record IsCounted (given : List Pass) (rows : PassesSoFar Open) : Type 0 where
    pub passes : rows.passes ≡ length (passes_of (so_far given rows))
    pub few : rows.passes ≤ MOST_PASSES
