-- The summary of a run.
use Rattle.std.specs.Prelude.{◌≡◌, ℕ, Bool, true, false, List, [], ◌∷◌, ◌++◌, length}
use Rattle.std.specs.Prelude.{codes, decimal}
use Rattle.std.specs.Prelude.{slice_index_or}
use Rattle.std.specs.List.{concat, count_by}
use Rattle.cal_kthread.specs.declared.journal.entry.Entry.{Entry}
use Rattle.cal_kthread.specs.declared.journal.entry.Entry.TheVariants.{Took, Published, Served}
use Rattle.cal_machine.specs.declared.request.Request.{Request}
use Rattle.cal_trace.specs.Rows.Text.{numbered}
use Rattle.cal_trace.specs.declared.report.tally.Tally.{Tally}

abbrev pub is_took : Entry → Bool
is_took (Took number command) = true
is_took _ = false

abbrev pub is_published : Entry → Bool
is_published (Published number rec) = true
is_published _ = false

abbrev pub is_served : Entry → Bool
is_served (Served id) = true
is_served _ = false

-- so many of these entries tell of a command taken, of a record published, of a request served
pub record IsTallyOf (journal : List Entry) (tally : Tally) : Type 0 where
  pub taken : tally.taken ≡ count_by is_took journal
  pub published : tally.published ≡ count_by is_published journal
  pub served : tally.served ≡ count_by is_served journal

-- the line of a thread: how many commands it took, how many records it published, how many requests
-- it served, and how many were left with it
abbrev pub thread_line : ℕ → List Entry → List Request → List ℕ
thread_line thread journal left =
    concat (codes "thread " ∷ decimal thread ∷ codes " taken " ∷ decimal (count_by is_took journal)
    ∷ codes " published " ∷ decimal (count_by is_published journal) ∷ codes " served " ∷
    decimal (count_by is_served journal)
    ∷ codes " left " ∷ decimal (length left) ∷ codes "\n" ∷ [])

-- the lines of the threads, in order; a thread of which nothing is said was left nothing
abbrev pub thread_lines : List (List Request) → List (List Entry) → List ℕ
thread_lines left journals =
    concat (numbered (λ thread journal.
    thread_line thread journal (slice_index_or left thread [])) 0 journals)

abbrev pub runs_line : ℕ → ℕ → List ℕ
runs_line passes turns =
    concat (codes "passes " ∷ decimal passes ∷ codes " turns " ∷ decimal turns ∷ codes "\n" ∷ [])

-- the summary of a run of so many passes and turns, by the journals of its threads and what was
-- left with each
abbrev pub summary_text : ℕ → ℕ → List (List Entry) → List (List Request) → List ℕ
summary_text passes turns journals left = runs_line passes turns ++ thread_lines left journals
