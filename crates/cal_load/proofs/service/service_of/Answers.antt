use Rattle.std.proofs.Common.{ℕ, Bor, List, [], ◌∷◌, ◌++◌, map, lit<, subst, arith}
use Rattle.std.proofs.lemmas.Grind.{common_steps}
use Rattle.std.proofs.lemmas.Iterator.Consumers.{YieldsList-end}
use Rattle.std.proofs.lemmas.Iterator.Splits.{YieldsList-from_str_split}
use Rattle.std.specs.List.{AllZip}
use Rattle.cal_load.specs.Said.{SaysPart}
use Rattle.cal_load.specs.declared.service.ServicePart.{ServicePart}
use Rattle.cal_load.proofs.service.service_of.Goals as goal

-- one piece more says one part more
said_more : (pieces : List (Bor (List ℕ))) (parts : List ServicePart) (piece : Bor (List ℕ)) (part : ServicePart)
    → AllZip SaysPart (map (λ x. x.now) pieces) parts → SaysPart piece.now part
    → AllZip SaysPart (map (λ x. x.now) (pieces ++ piece ∷ [])) (parts ++ part ∷ [])
said_more [] [] piece part so_far says = (says, tt)
said_more [] (y ∷ parts) piece part so_far says = absurd so_far
said_more (x ∷ pieces) [] piece part so_far says = absurd so_far
said_more (x ∷ pieces) (y ∷ parts) piece part so_far says = (so_far.0, said_more pieces parts piece part so_far.1 says)

pub loop-piece-preserved : goal.loop-piece-preserved
loop-piece-preserved c = record {
  sum = grind (arith, common_steps);
  works = grind (arith, common_steps);
  says = rw c.in_ok-push.ensures.items
      (said_more c.loop-piece.yielded c.loop-piece.parts.items c.in-Some.piece c.in-Some-part_of.part c.loop-piece.invariant.says c.in-Some-part_of.ensures.says);
}

pub returns-clause-says : goal.returns-clause-says
returns-clause-says c =
    let all = YieldsList-end (YieldsList-from_str_split 44 c.args.word.now (lit< tt) (cc) (cc) (cc)) c.loop-piece.yielded _ c.loop-piece.yielded_by _ _ c.in-None.is c.next.ensures.steps in
    subst (λ (pieces : List (List ℕ)). AllZip SaysPart pieces c.loop-piece.parts.items) all.0 c.loop-piece.invariant.says
