-- What stands after the whole passes of a permitted history.
use Rattle.cal_guard.proofs.Common.{◌≤◌, List, length, take, arith, subst, take-length, NoPairBanned, PassEntry, actions_of, ActionIsOneMore, LastThreadIsPlaced, IsSteady, Excludes, excludes_after, PermittedIsSafe, PermittedIsSteady, PermittedIsSafeBetween, held_le_booked}
use Rattle.cal_laws.specs.Runs.{RunsStand}
use Rattle.cal_laws.proofs.ExclusionLemmas.Standing.{runs_after}
use Rattle.cal_guard.proofs.Emptying.{mended, apart_after}

-- what is so after each number of passes is so after all
whole : (history : List PassEntry) (P : List PassEntry → Type 0) → P (take (length history) history) → P history
whole history P all = subst P (take-length history) all

pub between : PermittedIsSafe → PermittedIsSteady → ActionIsOneMore → LastThreadIsPlaced → PermittedIsSafeBetween
between safe steady more last table history permitted =
    let n = length history in
    let le : n ≤ n = omega arith in
    let excludes = whole history (λ h. Excludes table (actions_of h)) (excludes_after more last table history (safe table history permitted) n le) in
    let mend = mended table history permitted in
    record {
      one_core = excludes.one;
      last_run = excludes.runs;
      runs = whole history (λ h. RunsStand table history (actions_of h)) (runs_after more table history (safe table history permitted) n le);
      limits = λ t lt. record {
        held = held_le_booked table (actions_of history) t;
        booked = (whole history (λ h. IsSteady table (actions_of h)) (steady table history permitted n le)).limits t lt;
      };
      caps = mend.lowered.within;
      apart = whole history (λ h. NoPairBanned (actions_of h)) (apart_after table history permitted n le);
      empty = mend.emptied;
    }
