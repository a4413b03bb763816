-- From when the requests of arrivals count, and which of them are ranked, as it is asked for.
use Rattle.std.specs.Prelude.{◌≡◌, ◌||◌, not, ⊤, ℕ, Bool, List, length, map}
use Rattle.std.specs.Prelude.{slice_index_or, Option, Some, None, Result, Ok, Err}
use Rattle.std.specs.Prelude.{if◌then◌else◌}
use Rattle.std.specs.List.{list_any}
use Rattle.std.specs.Option.{is_some, unwrap_or}
use Rattle.cal_machine.specs.Table.{Table}
use Rattle.cal_trace.specs.Comings.{comings_of}
use Rattle.cal_trace.specs.Rows.Answers.{Decided}
use Rattle.cal_trace.specs.Rows.{rows_of}
use Rattle.cal_trace.specs.declared.arrivals.Arrivals.{Arrivals}
use Rattle.cal_trace.specs.declared.comings.Coming.{Coming}
use Rattle.cal_trace.specs.declared.comings.Comings.{Comings}
use Rattle.cal_trace.specs.declared.fault.TraceFault.{TraceFault}
use Rattle.cal_came.specs.Came.{each_own}
use Rattle.cal_came.specs.Windows.{is_within}
use Rattle.cal_came.specs.declared.asked.CameFile.{CameFile}
use Rattle.cal_came.specs.declared.asked.CountAsked.{CountAsked}
use Rattle.cal_came.specs.declared.asked.CountFault.{CountFault}
use Rattle.cal_came.specs.declared.asked.CountFault.TheVariants as faults
use Rattle.cal_came.specs.declared.asked.CountedRequests.{CountedRequests}
use Rattle.cal_came.specs.declared.came.Came.{Came}
use Rattle.cal_came.specs.declared.counted.Counted.{Counted}
use Rattle.cal_came.specs.declared.window.Window.{Window}

abbrev pub some_comings : Result Comings TraceFault → Result (Option Comings) TraceFault
some_comings (Err fault) = Err fault
some_comings (Ok comings) = Ok (Some comings)

-- the comings of a file for these arrivals, where there is one
abbrev pub comings_asked : Option CameFile → Table → Arrivals → Result (Option Comings) TraceFault
comings_asked None table arrivals = Ok None
comings_asked (Some file) table arrivals =
    some_comings (comings_of (length table.tasks) arrivals.requests (rows_of file.text.now))

-- how a request came: to a turn, at the clock of that
abbrev pub come_at : List ℕ → Coming → Came
come_at turns coming = record {
  id = coming.arrival.request.id;
  turn = coming.turn;
  clock = slice_index_or turns coming.turn 0;
}

-- how the requests of arrivals came: by their comings, or each to its own turn
abbrev pub came_by : Arrivals → Option Comings → List Came
came_by arrivals None = each_own arrivals
came_by arrivals (Some comings) = map (come_at arrivals.turns) comings.requests

-- the window of the turns asked for
abbrev pub window_asked : CountAsked → Window
window_asked asked = record { from = unwrap_or asked.from 0; to = asked.to }

-- turns are asked for
abbrev pub is_windowed : CountAsked → Bool
is_windowed asked = is_some asked.from || is_some asked.to

-- a file or turns are asked for
abbrev pub is_asked : CountAsked → Bool
is_asked asked = is_some asked.came || is_windowed asked

-- some of these came to a turn within the window
abbrev pub is_some_within : Window → List Came → Bool
is_some_within window came = list_any (λ one. is_within window one.turn) came

-- or turns are not asked for
abbrev pub has_requests : CountAsked → Window → List Came → Bool
has_requests asked window came = not (is_windowed asked) || is_some_within window came

abbrev pub counted_within : CountAsked → List Came → Window → Option Counted
counted_within asked came window =
    if has_requests asked window came then Some (record { came = came; window = window })
    else None

-- from when requests count that came so, and which are ranked; nothing where turns are asked for to
-- which none came
abbrev pub counted_asked : List Came → CountAsked → Option Counted
counted_asked came asked = counted_within asked came (window_asked asked)

abbrev pub counted_by_comings : CountAsked → Arrivals → Option Comings → Option Counted
counted_by_comings asked arrivals comings =
    counted_asked (came_by arrivals comings) asked

-- it is as asked for
pub record IsCountedAs (asked : CountAsked) (table : Table) (arrivals : Arrivals)
    (told : CountedRequests) : Type 0 where
  pub comings : comings_asked asked.came table arrivals ≡ Ok told.comings
  pub counted : counted_by_comings asked arrivals told.comings ≡ Some told.counted

-- none came to the turns asked for
pub record HasNoRequests (asked : CountAsked) (table : Table) (arrivals : Arrivals) : Type 0 where
  pub comings : Option Comings
  pub are : comings_asked asked.came table arrivals ≡ Ok comings
  pub none : counted_by_comings asked arrivals comings ≡ None

-- what a fault says
abbrev pub IsCountFault : CountAsked → Table → Arrivals → CountFault → Type 0
IsCountFault asked table arrivals faults.Memory = ⊤
IsCountFault asked table arrivals (faults.Came fault) =
    Decided fault.kind (comings_asked asked.came table arrivals ≡ Err fault)
IsCountFault asked table arrivals faults.NoRequests = HasNoRequests asked table arrivals
