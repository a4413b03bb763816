-- What was read is all that there was.
use Rattle.std.proofs.Common.{◌≡◌, ◌≤◌, ◌++◌, nat_lt, ℕ, false, List, length, Option, Some, None, IfSome, Result, Err, refl, sym, ap, subst, ◌∙◌, arith}
use Rattle.std.proofs.lemmas.List.{append-nil}
use Rattle.std.specs.Io.KnownBytes.{Consumes, IsAtEnd}
use Rattle.cal_input.specs.Answers.{Decided, Failed}
use Rattle.cal_input.specs.Parts.{within_limit}
use Rattle.cal_input.specs.declared.fault.RunFault.{RunFault}
use Rattle.cal_input.specs.declared.fault.RunFault.TheVariants as fault
use Rattle.cal_input.specs.declared.reading.TheConstants.{INPUT_LIMIT}

pub within : {X : Type 0} (text : List ℕ) (outcome : Result X RunFault) → length text ≤ INPUT_LIMIT → within_limit text outcome ≡ outcome
within text outcome le = let no : nat_lt INPUT_LIMIT (length text) ≡ false = grind arith in rw no refl

-- a fault of an input fails as it must
pub failed : {X : Type 0} (f : RunFault) (outcome : Result X RunFault) → Decided f (outcome ≡ Err f) → Failed f outcome
failed fault.Length outcome h = h
failed fault.Separator outcome h = h
failed (fault.Config f) outcome h = h
failed (fault.Trace f) outcome h = h
failed fault.Memory outcome h = tt
failed fault.Read outcome h = absurd h
failed fault.Write outcome h = absurd h
failed fault.Spawn outcome h = absurd h
failed fault.Gate outcome h = absurd h

-- a fault of the text that was read is the input's
pub refused : {X : Type 0} (old new : Option (List ℕ)) (text : List ℕ) (outcome : List ℕ → Result X RunFault) (f : RunFault) → Consumes old new text → IsAtEnd new → length text ≤ INPUT_LIMIT
    → Decided f (outcome text ≡ Err f) → IfSome old (λ input. Failed f (within_limit input (outcome input)))
refused None new text outcome f took ends le h = tt
refused (Some input) None text outcome f took ends le h = absurd took
refused (Some input) (Some rest) text outcome f took ends le h =
    let same : text ≡ input = sym (took ∙ ap (λ l. text ++ l) ends ∙ append-nil text) in
    subst (λ (bytes : List ℕ). Failed f (within_limit bytes (outcome bytes))) same (rw (within text (outcome text) le) (failed f (outcome text) h))

-- and what holds of the text and its outcome holds of the input and its own
pub answered : {X : Type 0} (P : List ℕ → Result X RunFault → Type 0) (old new : Option (List ℕ)) (text : List ℕ) (outcome : List ℕ → Result X RunFault) → Consumes old new text → IsAtEnd new
    → length text ≤ INPUT_LIMIT → P text (outcome text) → IfSome old (λ input. P input (within_limit input (outcome input)))
answered P None new text outcome took ends le h = tt
answered P (Some input) None text outcome took ends le h = absurd took
answered P (Some input) (Some rest) text outcome took ends le h =
    let same : text ≡ input = sym (took ∙ ap (λ l. text ++ l) ends ∙ append-nil text) in
    subst (λ (bytes : List ℕ). P bytes (within_limit bytes (outcome bytes))) same (subst (λ o. P text o) (sym (within text (outcome text) le)) h)
