-- Signals that are given pass by pass.
use Rattle.cal_trace.proofs.Common.{◌≡◌, ◌≤◌, ℕ, List, [], length, Option, Some, Ok, Err, Result, IfOk, ap, sym, ◌∙◌, codes, Takes, header_of, FaultKind, MOST_PASSES, read_under, Fields, rest_of, rows_of, pass_row, end_row, IsCounted, SoFar, at_start, passes_of, whole, is_between, add_pass, add_end, take_pass, take_end, last_shown, looks_in, GivenPass, pass_at_hand, so_far, KeepsSignals, KeepsFittingSignals, SignalReading, SignalPass, Version, append-nil}
use Rattle.cal_trace.specs.Rows.Passes.{with_closed}
use Rattle.cal_trace.specs.Signals.{begun, take_form, take_row}
use Rattle.cal_trace.specs.declared.fault.FaultKind.TheVariants as kind
use Rattle.cal_trace.specs.Signals.Fitting.{IsFittingSoFar}
use Rattle.cal_trace.specs.Signals.Reading.{file_of, HasGiven}
use Rattle.cal_trace.specs.declared.signals.file.SignalRows.{SignalRows}
use Rattle.cal_trace.specs.declared.signals.reading.Form.{Form}
use Rattle.cal_trace.proofs.RowLemmas.Checks.{check_one, same_ok}
use Rattle.cal_trace.proofs.RowLemmas.Passes.{few_counted}
use Rattle.cal_trace.proofs.SignalLemmas.Accepted.{row_fits, start_fits}
use Rattle.cal_trace.proofs.SignalLemmas.LastShown.{shown-begun}

-- nothing was given yet
pub HasGiven-none : (threads : ℕ) (text : List ℕ) (version : Version) (rows : List Fields) (signals : SignalRows)
    → header_of (codes "caladan-signals") (rows_of text) ≡ Ok (version, rows) → rest_of signals.rows ≡ rows → signals.rows.number ≡ 1
    → file_of signals.reading ≡ (threads, version) → so_far [] signals.reading ≡ at_start → KeepsSignals [] signals.reading → HasGiven threads text [] signals
HasGiven-none threads text version rows signals header rest first file start kept =
    let is_extent : signals.reading.threads ≡ threads = ap (λ (f : ℕ × Version). f.0) file in
    let is_version : signals.reading.version ≡ version = ap (λ (f : ℕ × Version). f.1) file in
    record {
      extent = is_extent;
      kept = kept;
      fit = rw start (start_fits threads);
      same = rw (start, is_extent, is_version, first, rest) (sym (ap (read_under (take_row threads) whole at_start) header));
    }

-- a row that was taken fits
pub kept_fitting : (form : Form) (given : List SignalPass) (fields : Fields) (result : Result (Option SignalPass) FaultKind) (old new : SignalReading)
    → IsFittingSoFar old.threads (so_far given old) → file_of new ≡ file_of old
    → Takes (λ closed. so_far (with_closed given closed) new) result (take_form old.threads (so_far given old) (Some form) fields)
    → IfOk result (λ closed. KeepsSignals (with_closed given closed) new) → IfOk result (λ closed. KeepsFittingSignals (with_closed given closed) new)
kept_fitting form given fields (Err k) old new fit file takes kept = tt
kept_fitting form given fields (Ok closed) old new fit file takes kept =
    let same : new.threads ≡ old.threads = ap (λ (f : ℕ × Version). f.0) file in
    (kept, rw same (row_fits old.threads (so_far given old) (so_far (with_closed given closed) new) (Some form) fields fit takes))

-- no thread showed anything since, where a pass begins or the file ends
pub shown-added : (threads k : ℕ) (so_far next : SoFar SignalPass) (fields : Fields) → take_pass looks_in begun threads so_far fields ≡ Ok next → last_shown k (passes_of next) ≡ last_shown k (passes_of so_far)
shown-added threads k so_far next fields e =
    let row = pass_row (length (passes_of so_far)) fields in
    let c = check_one (is_between looks_in threads so_far) kind.Order (add_pass begun so_far row) next e in
    added row c.1
  where
    added : (row : Result GivenPass FaultKind) → add_pass begun so_far row ≡ Ok next → last_shown k (passes_of next) ≡ last_shown k (passes_of so_far)
    added (Err fault) e = cc
    added (Ok row) e = ap (λ (s : SoFar SignalPass). last_shown k (passes_of s)) (sym (same_ok _ next e)) ∙ shown-begun k (passes_of so_far) row.now row.bandwidth

pub shown-ended : (threads k : ℕ) (so_far next : SoFar SignalPass) (fields : Fields) → take_end looks_in threads so_far fields ≡ Ok next → last_shown k (passes_of next) ≡ last_shown k (passes_of so_far)
shown-ended threads k so_far next fields e =
    let row = end_row (length (passes_of so_far)) fields in
    let c = check_one (is_between looks_in threads so_far) kind.Order (add_end so_far row) next e in
    ended row c.1
  where
    ended : (row : Result ℕ FaultKind) → add_end so_far row ≡ Ok next → last_shown k (passes_of next) ≡ last_shown k (passes_of so_far)
    ended (Err fault) e = cc
    ended (Ok count) e = ap (λ (s : SoFar SignalPass). last_shown k (passes_of s)) (sym (same_ok _ next e)) ∙ ap (last_shown k) (append-nil (passes_of so_far))

-- what is kept, after a row by which no thread showed anything
pub kept-closed : (given : List SignalPass) (result : Result (Option SignalPass) FaultKind) (taken : Result (SoFar SignalPass) FaultKind) (old new : SignalReading) → KeepsSignals given old
    → ((k : ℕ) (next : SoFar SignalPass) → taken ≡ Ok next → last_shown k (passes_of next) ≡ last_shown k (passes_of (so_far given old)))
    → Takes (λ closed. so_far (with_closed given closed) new) result taken → IfOk result (λ closed. IsCounted pass_at_hand (with_closed given closed) new.passes)
    → new.shown ≡ old.shown → new.threads ≡ old.threads → IfOk result (λ closed. KeepsSignals (with_closed given closed) new)
kept-closed given (Err k) taken old new kept same takes counted shown threads = tt
kept-closed given (Ok closed) taken old new kept same takes counted shown threads = record {
  counted = counted;
  shown = λ k lt. rw shown (kept.shown k (rw threads at lt) ∙ sym (same k (so_far (with_closed given closed) new) takes));
}

-- no more passes were given than a file may have
pub few_given : (threads : ℕ) (text : List ℕ) (given : List SignalPass) (signals : SignalRows) → HasGiven threads text given signals → length given ≤ MOST_PASSES
few_given threads text given signals has = few_counted pass_at_hand given signals.reading.passes has.kept.counted
