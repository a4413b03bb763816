-- The bandwidth figures of a paced run: all passes before a turn have one figure.
use Rattle.std.specs.Prelude.{◌≡◌, ℕ, zero, suc, ◌-◌, ◌<◌, List, map, Some, slice_get, slice_index}
use Rattle.std.specs.Prelude.{sum_by}
use Rattle.cal_kthread.specs.Journal.{records_of}
use Rattle.cal_kthread.specs.declared.journal.entry.Entry.{Entry}
use Rattle.cal_signal.specs.Pages.{page_of}
use Rattle.cal_signal.specs.declared.record.Record.{Record}
use Rattle.cal_trace.specs.declared.arrivals.GivenPass.{GivenPass}
use Rattle.cal_paced.specs.Pace.{pass_of}
use Rattle.cal_paced.specs.declared.plan.Figure.{Figure}
use Rattle.cal_paced.specs.declared.plan.Figure.TheVariants.{Given, Shown}

-- the misses that a thread's n-th record shows; before the first they are 0
abbrev pub misses_at : List Entry → ℕ → ℕ
misses_at journal n =
    slice_index (map (λ (shows : Record). shows.misses) (page_of (records_of journal))) n

-- the misses by which the records of all threads rose in their turn j
abbrev pub shown_in_turn : List (List Entry) → ℕ → ℕ
shown_in_turn journals j =
    sum_by (λ journal. misses_at journal (suc j) - misses_at journal j) journals

-- the figure that the records show before turn j: the misses shown in the turns before it
abbrev pub shown_before : List (List Entry) → ℕ → ℕ
shown_before journals zero = 0
shown_before journals (suc j) = shown_in_turn journals j

-- the figure of the passes before turn j: that of the file's pass j, or what the records show
abbrev pub figure_before : Figure → List GivenPass → List (List Entry) → ℕ → ℕ
figure_before Given passes journals j =
    slice_index (map (λ (pass : GivenPass). pass.bandwidth) passes) j
figure_before Shown passes journals j = shown_before journals j

-- each of the passes before a turn has its figure
abbrev pub HaveFigures : ℕ → (ℕ → ℕ) → List GivenPass → Type 0
HaveFigures pace figure passes = (j i : ℕ) (pass : GivenPass) → i < pace →
    slice_get passes (pass_of pace j i) ≡ Some pass → pass.bandwidth ≡ figure j
