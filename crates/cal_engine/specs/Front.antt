-- What stands before a history.
use Rattle.std.specs.Prelude.{◌++◌, ℕ, List, [], codes, Option, Some, None}
use Rattle.cal_input.specs.Input.{input_parts}
use Rattle.cal_engine.specs.declared.jobs.front.Front.{Front}
use Rattle.cal_engine.specs.declared.jobs.front.Front.TheVariants as fronts

-- the task table of an input as it is there, and the line after it
abbrev pub table_text : Option (List ℕ × List ℕ) → List ℕ
table_text None = []
table_text (Some parts) = parts.0 ++ codes "---\n"

-- what stands before a history
abbrev pub front_of : Front → List ℕ → List ℕ
front_of fronts.Nothing input = []
front_of fronts.Table input = table_text (input_parts input)
