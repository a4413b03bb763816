-- What was written of a job where memory was refused in its midst.
use Rattle.cal_engine.proofs.Common.{◌≡◌, ◌⊎◌, inl, RunFault}
use Rattle.cal_input.specs.declared.fault.RunFault.TheVariants as fault

-- of a job that writes at its end alone nothing was
pub unbegun : {A B : Type 0} (f : RunFault) → ((f ≡ fault.Write → ⊥) → A) → f ≡ fault.Memory → A ⊎ B
unbegun f untouched is = inl (untouched (λ w. cc))
