-- What is written of a run that was decided.
use Rattle.cal_engine.proofs.Common.{Appends, ◌≡◌, ℕ, List, Option, Result, Ok, Err, IsOk, IfOk, IfErr, OnOk, refl, sym, ap, subst, Table, PassEntry, Run, RunFault, HasDecidedIn, HasDecidedRun, run_report, report_of, text_of, Reported, Reports}
use Rattle.cal_input.specs.Answers.{Decided, Failed, IsWhatInputSays}
use Rattle.cal_input.specs.declared.fault.RunFault.TheVariants as fault
use Rattle.cal_input.proofs.Refusals.{run_decided}
use Rattle.cal_engine.specs.declared.jobs.deciding.decider.Decider.{Decider}

-- a fault of the text is the run's
no_text : (write : Run → List ℕ) (outcome : Result Run RunFault) (f : RunFault) → text_of write outcome ≡ Err f → outcome ≡ Err f
no_text write (Err g) f e = cc
no_text write (Ok run) f e = absurd (cc)

pub refused_text : (write : Run → List ℕ) (outcome : Result Run RunFault) (f : RunFault) → Decided f (text_of write outcome ≡ Err f) → Decided f (outcome ≡ Err f)
refused_text write outcome f h = run_decided f (text_of write outcome ≡ Err f) (outcome ≡ Err f) (no_text write outcome f) h

-- and a fault of the run is the text's
pub no_run : (write : Run → List ℕ) (outcome : Result Run RunFault) (f : RunFault) → Decided f (outcome ≡ Err f) → Decided f (text_of write outcome ≡ Err f)
no_run write outcome f h = run_decided f (outcome ≡ Err f) (text_of write outcome ≡ Err f) (λ e. ap (text_of write) e) h

-- a text that was written is the outcome's
pub same_text : (a b : List ℕ) → ◌≡◌ {A = Result (List ℕ) RunFault} (Ok a) (Ok b) → b ≡ a
same_text a b e = cc

reported : (outcome : Result Run RunFault) (old new : Option (List ℕ)) (text : List ℕ) → report_of outcome ≡ Ok text → Appends old new text → Reported outcome old new
reported (Err f) old new text e h = absurd (cc)
reported (Ok run) old new text e h = subst (λ (t : List ℕ). Appends old new t) (same_text (run_report run) text e) h

pub has_run : (write : Run → List ℕ) (outcome : Result Run RunFault) (text : List ℕ) → text_of write outcome ≡ Ok text → IsOk outcome
has_run write (Err f) text e = absurd (cc)
has_run write (Ok run) text e = refl

-- the report was written, or the writer failed
pub reports : {T : Type 0} (result : Result T RunFault) (outcome : Result Run RunFault) (old new : Option (List ℕ)) (text : List ℕ) → report_of outcome ≡ Ok text
    → OnOk result (Appends old new text) → IfErr result (λ f. f ≡ fault.Write) → Reports result outcome old new
reports (Ok done) outcome old new text e written kind = reported outcome old new text e written
reports (Err f) outcome old new text e written kind = subst (λ (g : RunFault). Failed g outcome) (sym kind) (has_run run_report outcome text e)

-- the text that a keeper made of the passes is the outcome's
pub text_kept : {T : Type 0} (view : T → List ℕ) (result : Result T RunFault) (write : Run → List ℕ) (keeps : List PassEntry → Type 0) (table : Table) (decider : Decider)
    (outcome : Result Run RunFault) → HasDecidedIn keeps table decider outcome
    → ((run : Run) → HasDecidedRun keeps table decider run → IfOk result (λ t. view t ≡ write run)) → IfErr result (λ f. f ≡ fault.Memory)
    → IsWhatInputSays view result (text_of write outcome)
text_kept view result write keeps table decider (Err f) has made kind = absurd has
text_kept view (Ok t) write keeps table decider (Ok run) has made kind = ap Ok (sym (made run has))
text_kept view (Err f) write keeps table decider (Ok run) has made kind =
    let outcome = text_of write (Ok run) in
    subst (λ (g : RunFault). Decided g (outcome ≡ Err g)) (sym kind) tt
