use Rattle.std.proofs.Common.{◌≡◌, ◌<◌, ◌^◌, map}
use Rattle.std.specs.List.{AllZip}
use Rattle.cal_load.specs.Said.{SaysPart}
use Rattle.cal_load.specs.Services.{AreWork, shares_in}
use Rattle.cal_load.proofs.service.service_of.Given as goal

-- up to the greatest number, the sum is exact; each piece so far said its part
abbrev pub invariant-loop-piece : goal.invariant-loop-piece
invariant-loop-piece l = record {
  sum : l.sum < 2 ^ 63 → l.sum ≡ shares_in l.parts.items;
  works : AreWork l.parts.items;
  says : AllZip SaysPart (map (λ x. x.now) l.yielded) l.parts.items;
}
