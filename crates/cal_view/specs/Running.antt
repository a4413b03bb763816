-- What is written of the history of a run.
use Rattle.std.specs.Prelude.{ℕ, List, Option}
use Rattle.std.specs.Io.KnownBytes.{Appends}
use Rattle.cal_engine.specs.declared.jobs.front.Front.{Front}
use Rattle.cal_facts.specs.Histories.{IsAskedHistory}
use Rattle.cal_facts.specs.Replayed.{IsReplayedHistory}
use Rattle.cal_facts.specs.declared.histories.RunHistory.{RunHistory}
use Rattle.cal_input.specs.Parts.{run_input_of}
use Rattle.cal_paced.specs.declared.plan.Plan.{Plan}
use Rattle.cal_policy.specs.declared.policy.Policy.{Policy}
use Rattle.cal_view.specs.Recording.{recorded_text}

-- the history of a run that is asked for was written, with this in front of it
pub record WroteRun (plan : Option Plan) (policy : Policy) (front : Front) (input : List ℕ)
    (old new : Option (List ℕ)) : Type 0 where
  pub made : RunHistory
  pub asked : IsAskedHistory plan policy (run_input_of input) made
  pub appended : Appends old new (recorded_text front input made.passes.items)

-- the history of a replay was, of the history that these rows tell
pub record WroteReplay (plan : Option Plan) (rows : List ℕ) (front : Front) (input : List ℕ)
    (old new : Option (List ℕ)) : Type 0 where
  pub made : RunHistory
  pub asked : IsReplayedHistory plan input rows made
  pub appended : Appends old new (recorded_text front input made.passes.items)
