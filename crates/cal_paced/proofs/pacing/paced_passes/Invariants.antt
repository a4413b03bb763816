use Rattle.cal_paced.proofs.Common.{◌≡◌, map, GivenPass, clock_before}
use Rattle.cal_paced.proofs.Evenly.{passes_upto}
use Rattle.cal_paced.proofs.pacing.paced_passes.Given as goal

-- the passes before the first turns
abbrev pub invariant-loop-j : goal.invariant-loop-j
invariant-loop-j l = record {
  before : l.before ≡ clock_before l.turns l.j;
  paced : l.paced.items ≡ passes_upto l.pace l.turns (map (λ (pass : GivenPass). pass.bandwidth) l.passes) l.j;
}
