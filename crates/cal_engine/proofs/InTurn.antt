-- Signals that are decided as they are read.
use Rattle.cal_engine.proofs.Common.{◌≡◌, ℕ, List, length, Result, Ok, Err, refl, sym, ap, subst, Table, threads_in, IsLegalBy, PassEntry, Policy, HasGiven, Run, RunFault, decided_on, HasDecided, HasDecidedIn, HasDecidedRun}
use Rattle.cal_trace.specs.Rows.Answers as files
use Rattle.cal_trace.specs.declared.fault.TraceFault.{TraceFault}
use Rattle.cal_trace.specs.declared.signals.file.SignalRows.{SignalRows}
use Rattle.cal_trace.specs.declared.signals.SignalPass.{SignalPass}
use Rattle.cal_trace.proofs.RowLemmas.Refusals.{decided}
use Rattle.cal_input.specs.declared.fault.RunFault.TheVariants as fault
use Rattle.cal_engine.specs.declared.jobs.deciding.decider.Decider.{Decider}
use Rattle.cal_engine.proofs.Decided.{IsDecided}

-- the first signals of a text were decided, and this is kept of their passes
pub record IsDeciding (policy : Policy) (keeps : List PassEntry → Type 0) (table : Table) (trace : List ℕ) (signals : SignalRows) (decider : Decider) : Type 0 where
  pub given : List SignalPass
  pub history : List PassEntry
  pub has : HasGiven (threads_in table.tasks) trace given signals
  pub so_far : IsDecided policy table given history
  pub decided : HasDecided keeps history decider
  pub count : length history ≡ length given

-- signals that are refused
pub refused_signals : (policy : Policy) (table : Table) (signals : Result (List SignalPass) TraceFault) (f : TraceFault) → files.Decided f.kind (signals ≡ Err f)
    → files.Decided f.kind (decided_on policy table signals ≡ Err (fault.Trace f))
refused_signals policy table signals f h = decided f.kind (signals ≡ Err f) (decided_on policy table signals ≡ Err (fault.Trace f)) (λ e. ap (λ s. decided_on policy table s) e) h

-- signals that were all decided
pub all_decided : (policy : Policy) (keeps : List PassEntry → Type 0) (table : Table) (signals : Result (List SignalPass) TraceFault) (given : List SignalPass) (history : List PassEntry) (decider : Decider)
    → signals ≡ Ok given → IsDecided policy table given history → decider.book.policy ≡ policy → HasDecided keeps history decider → HasDecidedIn keeps table decider (decided_on policy table signals)
all_decided policy keeps table signals given history decider gives so_far by decided =
    let legal : IsLegalBy decider.book.policy table history = subst (λ (p : Policy). IsLegalBy p table history) (sym by) so_far.legal in
    let run : HasDecidedRun keeps table decider (record { table = table; history = history }) = record { same_table = refl; legal = legal; decided = decided } in
    let P : List PassEntry → Type 0 = λ h. HasDecidedRun keeps table decider (record { table = table; history = h }) in
    subst (λ (s : Result (List SignalPass) TraceFault). HasDecidedIn keeps table decider (decided_on policy table s)) (sym gives) (subst P so_far.done run)

-- the history that was kept of a run is its own, and the policy's
pub history_kept : (kept : List PassEntry) (table : Table) (decider : Decider) (outcome : Result Run RunFault) → HasDecidedIn (λ h. kept ≡ h) table decider outcome
    → (outcome ≡ Ok (record { table = table; history = kept })) × IsLegalBy decider.book.policy table kept
history_kept kept table decider (Err f) has = absurd has
history_kept kept table decider (Ok run) has =
    let R : Table → List PassEntry → Result Run RunFault = λ t h. let r : Run = record { table = t; history = h } in Ok r in
    let P : Table → Type 0 = λ t. ◌≡◌ {A = Result Run RunFault} (Ok run) (R t run.history) in
    let Q : List PassEntry → Type 0 = λ h. ◌≡◌ {A = Result Run RunFault} (Ok run) (R table h) in
    (subst Q (sym has.decided.kept) (subst P has.same_table refl), subst (λ (h : List PassEntry). IsLegalBy decider.book.policy table h) (sym has.decided.kept) has.legal)
