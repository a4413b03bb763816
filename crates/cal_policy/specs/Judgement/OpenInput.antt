-- The input that a pass makes of what was found on each thread's page and of its ring's room.
use Rattle.std.specs.Prelude.{◌≡◌, ℕ, Bool, List, map}
use Rattle.std.specs.List.{enumerate_from}
use Rattle.cal_machine.specs.Table.{Table}
use Rattle.cal_policy.specs.declared.history.look.Seen.{Seen}
use Rattle.cal_policy.specs.declared.judgement.open_input.FoundLook.{FoundLook}
use Rattle.cal_policy.specs.declared.history.entry.PassEntry.{PassEntry}
use Rattle.cal_policy.specs.declared.history.input.Input.{Input}
use Rattle.cal_policy.specs.History.{actions_of}
use Rattle.cal_policy.specs.Judgement.Judging.{judged}

-- the looks of a pass, each as it is judged after this history; the first is thread 0's
abbrev pub judged_looks : Table → List PassEntry → List FoundLook → List Seen
judged_looks table history looks =
    map (λ found. judged table.cores (actions_of history) found.0 found.1.look)
    (enumerate_from 0 looks)

-- whether the ring of each thread had room
abbrev pub rooms_found : List FoundLook → List Bool
rooms_found looks = map (λ found. found.room) looks

-- the input that a pass makes, after this history, of what was found
abbrev pub judged_input : Table → List PassEntry → ℕ → ℕ → List FoundLook → Input
judged_input table history now bandwidth looks = record {
  now = now;
  bandwidth = bandwidth;
  seen = judged_looks table history looks;
  rooms = rooms_found looks;
}

-- an input while its looks come in: how many it is to have, and those that came
pub record OpenView : Type 0 where
  pub threads : ℕ
  pub seen : List Seen
  pub rooms : List Bool

-- after this history these looks came in, each as it is judged
pub record IsOfFound (table : Table) (history : List PassEntry) (looks : List FoundLook)
    (given : OpenView) : Type 0 where
  pub seen : given.seen ≡ judged_looks table history looks
  pub rooms : given.rooms ≡ rooms_found looks
