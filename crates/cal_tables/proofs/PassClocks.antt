-- The clocks of the passes of a run.
use Rattle.cal_tables.proofs.Common.{◌≡◌, List, [], ◌∷◌, map, ap, refl, PassEntry, figures_of}
use Rattle.cal_trace.specs.declared.arrivals.GivenPass.{GivenPass}

-- those that were given
pub clocks_given : (history : List PassEntry) → map (λ (pass : GivenPass). pass.now) (map figures_of history) ≡ map (λ (entry : PassEntry). entry.input.now) history
clocks_given [] = refl
clocks_given (e ∷ es) = ap (λ l. e.input.now ∷ l) (clocks_given es)
