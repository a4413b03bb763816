-- The text of a run that was written.
use Rattle.cal_engine.proofs.Common.{ℕ, List, Option, Result, Ok, Err, IsOk, IfErr, OnOk, ◌≡◌, ◌⊎◌, inl, inr, true, ◌++◌, refl, sym, subst, false≢true, Appends, Policy, RunInput, RunFault, front_of, is_told, run_front, FailedInThreads, Runs, RunsInThreads, Tells, TellsRun, WritesRun, RunAnswer}
use Rattle.cal_input.specs.Answers.{Failed}
use Rattle.cal_input.specs.declared.fault.RunFault.TheVariants as fault
use Rattle.cal_engine.specs.declared.jobs.running.RunAnswer.TheVariants.{History, WithTable, Summary, Report}

written_run : (policy : Policy) (answer : RunAnswer) (given : List ℕ) (input : Result RunInput RunFault) (old new : Option (List ℕ)) (text : List ℕ) → TellsRun policy answer input text
    → Appends old new (front_of (run_front answer) given ++ text) → WritesRun policy answer given input old new
written_run policy answer given (Err f) old new text tells written = absurd tells
written_run policy answer given (Ok input) old new text tells written =
    record { outcome = tells.outcome; run = tells.run; written = subst (λ (t : List ℕ). Appends old new (front_of (run_front answer) given ++ t)) tells.made written }

has_input : (policy : Policy) (answer : RunAnswer) (input : Result RunInput RunFault) (text : List ℕ) → TellsRun policy answer input text → IsOk input
has_input policy answer (Err f) text tells = absurd tells
has_input policy answer (Ok input) text tells = refl

-- the text was written after what stands before it, or the writer failed
pub runs : {T : Type 0} (policy : Policy) (answer : RunAnswer) (result : Result T RunFault) (given : List ℕ) (input : Result RunInput RunFault) (old new : Option (List ℕ)) (text : List ℕ)
    → TellsRun policy answer input text → OnOk result (Appends old new (front_of (run_front answer) given ++ text)) → IfErr result (λ f. f ≡ fault.Write)
    → Runs policy answer result given input old new
runs policy answer (Ok done) given input old new text tells written kind = written_run policy answer given input old new text tells written
runs policy answer (Err f) given input old new text tells written kind = subst (λ (g : RunFault). Failed g input) (sym kind) (has_input policy answer input text tells)

-- the same of a run in threads
pub runs_in_threads : {T : Type 0} (policy : Policy) (answer : RunAnswer) (result : Result T RunFault) (given : List ℕ) (input : Result RunInput RunFault) (old new : Option (List ℕ)) (text : List ℕ)
    → TellsRun policy answer input text → OnOk result (Appends old new (front_of (run_front answer) given ++ text)) → IfErr result (λ f. f ≡ fault.Write)
    → RunsInThreads policy answer result given input old new
runs_in_threads policy answer (Ok done) given input old new text tells written kind = written_run policy answer given input old new text tells written
runs_in_threads policy answer (Err f) given input old new text tells written kind = subst (λ (g : RunFault). FailedInThreads g input) (sym kind) (has_input policy answer input text tells)

told_run : (policy : Policy) (answer : RunAnswer) (given : List ℕ) (input : Result RunInput RunFault) (old new : Option (List ℕ)) → is_told answer ≡ true
    → Tells policy (front_of (run_front answer) given) input old new → WritesRun policy answer given input old new
told_run policy answer given (Err f) old new is tells = absurd tells
told_run policy History given (Ok input) old new is tells = record { outcome = tells.outcome; run = tells.run; written = tells.written }
told_run policy WithTable given (Ok input) old new is tells = record { outcome = tells.outcome; run = tells.run; written = tells.written }
told_run policy Summary given (Ok input) old new is tells = absurd (false≢true is)
told_run policy Report given (Ok input) old new is tells = absurd (false≢true is)

-- a history was written pass by pass, or the fault is the input's
pub told_runs : {T : Type 0} (policy : Policy) (answer : RunAnswer) (result : Result T RunFault) (given : List ℕ) (input : Result RunInput RunFault) (old new : Option (List ℕ)) → is_told answer ≡ true
    → OnOk result (Tells policy (front_of (run_front answer) given) input old new) → IfErr result (λ f. Failed f input) → Runs policy answer result given input old new
told_runs policy answer (Ok done) given input old new is tells failed = told_run policy answer given input old new is tells
told_runs policy answer (Err f) given input old new is tells failed = failed

-- the fault of a run that is told is the input's, once the input gives a run
pub told_fault : (f : RunFault) (input : RunInput) → (f ≡ fault.Memory) ⊎ (f ≡ fault.Write) → Failed f (Ok input)
told_fault f input (inl is) = subst (λ (g : RunFault). Failed g (Ok input)) (sym is) tt
told_fault f input (inr is) = subst (λ (g : RunFault). Failed g (Ok input)) (sym is) refl

-- no thread was started for it, and no gate asked
pub told_alone : {X : Type 0} (f : RunFault) (input : Result X RunFault) → Failed f input → ((f ≡ fault.Spawn) → ⊥) × ((f ≡ fault.Gate) → ⊥)
told_alone {X} f input failed = (λ is. subst (λ (g : RunFault). Failed g input) is failed, λ is. subst (λ (g : RunFault). Failed g input) is failed)

-- the second of two, seen in another way
pub second : {A B C : Type 0} → (B → C) → A ⊎ B → A ⊎ C
second f (inl a) = inl a
second f (inr b) = inr (f b)
