use Rattle.cal_world.proofs.Common.{◌≡◌, List, [], ◌∷◌, ◌++◌, length, length-append, ap, sym, arith, subst, IsOf, StandingsAreOf}
use Rattle.cal_world.specs.declared.world.standing.Standing.{Standing}
use Rattle.cal_world.proofs.WorldLemmas.Noted.{each_push}
use Rattle.cal_world.proofs.world.present.first_standings.Goals as goal

pub loop-standings-preserved : goal.loop-standings-preserved
loop-standings-preserved c =
    let old : List Standing = c.loop-standings.standings.items in
    let items : c.push.new.self.items ≡ old ++ c.first.result ∷ [] = c.in_ok-push.ensures.items in
    let P : List Standing → Type 0 = λ ss. StandingsAreOf ss [] in record {
      few = (let size = ap length items in let sum = length-append old (c.first.result ∷ []) in let low = c.loop-standings-test.true in let len = c.len.ensures in omega arith);
      each = subst P (sym items) (each_push (λ k s. IsOf s [] k) old c.first.result c.loop-standings.invariant.each c.first.ensures);
    }
