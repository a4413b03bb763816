-- The members of a past, the first one first.
use Rattle.std.specs.Prelude.{List, [], ◌∷◌, ◌++◌}
use Rattle.cal_machine.specs.declared.past.Last.{Last}
use Rattle.cal_machine.specs.declared.past.Last.TheVariants.{None, After}

abbrev pub members : {T : Type 0} → Last T → List T
members None = []
members (After before one) = before.value ++ one.value ∷ []
