-- What was written of the run that was read is the input's.
use Rattle.std.proofs.Common.{◌≡◌, ◌∙◌, ◌++◌, [], ℕ, List, Option, IfErr, OnOk, Result, Ok, Err, ap, sym, subst}
use Rattle.std.proofs.KnownBytes.{Appends-trans}
use Rattle.std.proofs.lemmas.List.{append-nil}
use Rattle.std.specs.Io.KnownBytes.{Appends}
use Rattle.cal_input.specs.Answers.{Failed}
use Rattle.cal_input.specs.Recorded.{Run}
use Rattle.cal_input.specs.declared.fault.RunFault.{RunFault}
use Rattle.cal_input.specs.declared.fault.RunFault.TheVariants as fault
use Rattle.cal_engine.specs.Front.{front_of}
use Rattle.cal_engine.specs.Outcome.{history_of}
use Rattle.cal_engine.specs.declared.jobs.front.Front.{Front}
use Rattle.cal_engine.proofs.Reporting.{has_run, same_text}
use Rattle.cal_trace.specs.History.Text.{history_text}
use Rattle.cal_view.specs.Recording.{Records}

-- the history was written, or the writer failed
pub records : {T : Type 0} (result : Result T RunFault) (front : Front) (input : List ℕ) (outcome : Result Run RunFault) (old new : Option (List ℕ)) (text : List ℕ)
    → history_of outcome ≡ Ok text → OnOk result (Appends old new (front_of front input ++ text)) → IfErr result (λ f. f ≡ fault.Write)
    → Records result front input outcome old new
records (Ok done) front input (Err f) old new text e written kind = absurd (cc)
records (Ok done) front input (Ok run) old new text e written kind =
    subst (λ (t : List ℕ). Appends old new (front_of front input ++ t)) (same_text (history_text run.history) text e) written
records (Err f) front input outcome old new text e written kind =
    subst (λ (g : RunFault). Failed g outcome) (sym kind) (has_run (λ (run : Run). history_text run.history) outcome text e)

-- a text was written after what stands in front of it
pub after_front : (a b c : Option (List ℕ)) (front none text : List ℕ) → none ≡ [] → Appends a b (front ++ none) → Appends b c text → Appends a c (front ++ text)
after_front a b c front none text is p q = Appends-trans a b c front text (subst (Appends a b) (ap (λ (l : List ℕ). front ++ l) is ∙ append-nil front) p) q
