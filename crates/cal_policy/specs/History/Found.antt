-- What the passes of a history found, whatever was judged of it.
use Rattle.std.specs.Prelude.{ℕ, List, slice_get, option_map}
use Rattle.std.specs.List.{flat_map}
use Rattle.cal_signal.specs.declared.record.Record.{Record}
use Rattle.cal_signal.specs.Rounds.{found_by}
use Rattle.cal_policy.specs.declared.history.entry.PassEntry.{PassEntry}
use Rattle.cal_policy.specs.History.Looks.{look_of}

-- the places and records of the whole looks at thread k, in order
abbrev pub looks_at : List PassEntry → ℕ → List (ℕ × Record)
looks_at history k =
    flat_map (λ entry. found_by (option_map look_of (slice_get entry.input.seen k))) history
