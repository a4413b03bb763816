-- What a turn hands out, counted step by step.
use Rattle.cal_trace.proofs.Common.{◌<◌, ◌≤◌, ◌+◌, ℕ, zero, suc, Option, None, Some, List, ◌∷◌, [], length, get_or, arith, length-append, AllZip, Entry, IsTallyOf}
use Rattle.cal_kthread.specs.Turn.{noted}
use Rattle.cal_trace.specs.declared.report.tally.Tally.{Tally}

-- a step adds one entry at most
pub noted_short : (journal : List Entry) (entry : Option Entry) → length (noted journal entry) ≤ length journal + 1
noted_short journal None = omega arith
noted_short journal (Some entry) = let e = length-append journal (entry ∷ []) in omega arith

-- the tally at a place is that of the journal there
pub tally_at : (journals : List (List Entry)) (tallies : List Tally) (k : ℕ) (d : Tally) → AllZip IsTallyOf journals tallies → k < length journals →
    IsTallyOf (get_or journals k []) (get_or tallies k d)
tally_at [] tallies k d all low = absurd (omega (arith, low))
tally_at (j ∷ js) [] k d all low = absurd all
tally_at (j ∷ js) (t ∷ ts) zero d all low = all.0
tally_at (j ∷ js) (t ∷ ts) (suc k) d all low = tally_at js ts k d all.1 (omega (arith, low))
