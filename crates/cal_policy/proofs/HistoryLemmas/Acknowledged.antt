-- What a record says of Runs, by their numbers as they are kept.
use Rattle.cal_policy.proofs.Common.{◌≡◌, ◌≢◌, ℕ, ◌-◌, ◌<◌, ◌≤◌, ◌^◌, ◌&&◌, Bool, true, false, not, cond, eqb, leb, ltb, List, refl, ap, ◌∙◌, arith, nat_tests, Record, Action, Holder, Held, Leaving, holder_of, sent_to, kept_holder, kept_number, is_acknowledged_by, is_foreign, judged}
use Rattle.cal_signal.specs.declared.look.Look.TheVariants as found
use Rattle.cal_policy.specs.declared.board.holders.Holder.TheVariants.{Free}
use Rattle.cal_policy.specs.declared.history.look.Seen.TheVariants as seen
use Rattle.cal_policy.proofs.BoardLemmas.CommandNumbers.{kept_le}

-- a record acknowledges a Run by its kept number exactly where it acknowledges it by its number
pub acknowledged_kept : (k : ℕ) (rec : Record) (h : Holder) → rec.taken < 2 ^ 64 →
    is_acknowledged_by k rec (kept_holder h) ≡ is_acknowledged_by k rec h
acknowledged_kept k rec Free lt = refl
acknowledged_kept k rec (Held placement) lt = ap (λ b. eqb placement.thread k && b) (kept_le placement.number rec.taken lt)
acknowledged_kept k rec (Leaving placement cause) lt = ap (λ b. eqb placement.thread k && b) (kept_le placement.number rec.taken lt)

-- on a core of the machine a record is foreign where it does not acknowledge the thread's Run there
pub foreign_on : (cores : ℕ) (x : List Action) (k : ℕ) (rec : Record) (h : Holder) → rec.taken < 2 ^ 64 → rec.running ≢ 0 → rec.running ≤ cores →
    h ≡ kept_holder (holder_of x (rec.running - 1)) → not (is_acknowledged_by k rec h) ≡ is_foreign cores x k rec
foreign_on cores x k rec h lt on within e =
    let some : eqb rec.running 0 ≡ false = grind (arith, nat_tests) in
    let below : leb rec.running cores ≡ true = grind (arith, nat_tests) in
    let same = ap (is_acknowledged_by k rec) e ∙ acknowledged_kept k rec (holder_of x (rec.running - 1)) lt in
    rw (some, below) (ap not same)

-- what a look with a record comes to, by the two tests
pub judged_by_tests : (cores : ℕ) (x : List Action) (k number : ℕ) (rec : Record) (ahead foreign : Bool) →
    ltb (sent_to x k) rec.taken ≡ ahead → is_foreign cores x k rec ≡ foreign →
    judged cores x k (found.Whole number rec) ≡ cond ahead (seen.Ahead number rec) (cond foreign (seen.Foreign number rec) (seen.Whole number rec))
judged_by_tests cores x k number rec ahead foreign e f = rw (e, f) refl

-- the test on the number of commands, by the number that is kept
pub ahead_kept : (sent kept taken : ℕ) → taken < 2 ^ 64 → kept ≡ kept_number sent → kept < taken → ltb sent taken ≡ true
ahead_kept sent kept taken lt e h = let less : sent < taken = omega arith in grind (arith, nat_tests)

pub not_ahead_kept : (sent kept taken : ℕ) → kept ≡ kept_number sent → taken ≤ kept → ltb sent taken ≡ false
not_ahead_kept sent kept taken e h = let least : taken ≤ sent = omega arith in grind (arith, nat_tests)
