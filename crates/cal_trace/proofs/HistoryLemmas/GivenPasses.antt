-- Histories that are given pass by pass.
use Rattle.cal_trace.proofs.Common.{◌≡◌, ◌≤◌, ℕ, List, [], length, Ok, ap, sym, codes, PassEntry, at_start, whole, entry_at_hand, file_of, HasGiven, KeepsHistory, header_of, MOST_PASSES, read_under, Fields, rest_of, rows_of, Extent, Version}
use Rattle.cal_trace.specs.History.{take_row}
use Rattle.cal_trace.specs.History.Reading.{so_far}
use Rattle.cal_trace.specs.declared.history.file.HistoryRows.{HistoryRows}
use Rattle.cal_trace.proofs.RowLemmas.Passes.{few_counted}

-- nothing was given yet
pub HasGiven-none : (extent : Extent) (text : List ℕ) (version : Version) (rows : List Fields) (history : HistoryRows)
    → header_of (codes "caladan-history") (rows_of text) ≡ Ok (version, rows) → rest_of history.rows ≡ rows → history.rows.number ≡ 1
    → file_of history.reading ≡ (extent, version) → so_far [] history.reading ≡ at_start → KeepsHistory [] history.reading → HasGiven extent text [] history
HasGiven-none extent text version rows history header rest first file start kept =
    let is_extent : history.reading.extent ≡ extent = ap (λ (f : Extent × Version). f.0) file in
    let is_version : history.reading.version ≡ version = ap (λ (f : Extent × Version). f.1) file in
    record {
      of = is_extent;
      kept = kept;
      same = rw (start, is_extent, is_version, first, rest) (sym (ap (read_under (take_row extent) whole at_start) header));
    }

-- no more passes were given than a file may have
pub few_given : (extent : Extent) (text : List ℕ) (given : List PassEntry) (history : HistoryRows) → HasGiven extent text given history → length given ≤ MOST_PASSES
few_given extent text given history has = few_counted entry_at_hand given history.reading.passes has.kept
