-- Files of passes that are handed out one by one as their rows are read.
use Rattle.std.specs.Prelude.{◌≡◌, ◌++◌, ◌∷◌, [], List, Option, Some, None, Result, Ok, Err}
use Rattle.std.specs.Option.{option_to_list}
use Rattle.cal_trace.specs.Rows.Answers.{Decided}
use Rattle.cal_trace.specs.declared.fault.TraceFault.{TraceFault}

module _ {Pass : Type 0} where
  -- the passes that were handed out, after a row that may have closed one more
  abbrev pub with_closed : List Pass → Option Pass → List Pass
  with_closed given closed = given ++ option_to_list closed

  -- After these passes of a file that gives so there is one more, and then HasGiven is so of it and
  -- those before it; or they are all that the file has, or it has this fault.
  abbrev pub GivesNext : (List Pass → Type 0) → Result (List Pass) TraceFault → List Pass →
      Result (Option Pass) TraceFault → Type 0
  GivesNext HasGiven file given (Ok (Some pass)) = HasGiven (given ++ pass ∷ [])
  GivesNext HasGiven file given (Ok None) = file ≡ Ok given
  GivesNext HasGiven file given (Err fault) = Decided fault.kind (file ≡ Err fault)
