-- The siblings of a machine's cores.
use Rattle.std.proofs.Common.{◌≡◌, ◌≢◌, ◌<◌, ℕ, arith}
use Rattle.cal_machine.specs.Machine.{IsMachine, sibling_of}
use Rattle.std.proofs.lemmas.Bool.Decides.{nat_tests}

pub pairs : (cores core : ℕ) → IsMachine cores → core < cores → (sibling_of core < cores) × (sibling_of core ≢ core) × (sibling_of (sibling_of core) ≡ core)
pairs cores core machine lt = let even = machine.even in grind arith

-- the sibling of a core's sibling is the core
pub sibling_back : (c : ℕ) → sibling_of (sibling_of c) ≡ c
sibling_back c = grind (arith, nat_tests)
