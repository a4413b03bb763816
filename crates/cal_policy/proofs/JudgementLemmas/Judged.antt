-- What is judged of a look, and of what was judged the look.
use Rattle.cal_policy.proofs.Common.{◌≡◌, ℕ, ◌≤◌, Bool, true, false, cond, ltb, List, refl, sym, ap, subst, ◌∙◌, arith, nat_tests, Record, Look, Action, Whole, Ahead, Foreign, sent_to, look_of, judged, is_foreign, FitsCommands}
use Rattle.cal_signal.specs.declared.look.Look.TheVariants as found

look_of_tests : (ahead foreign : Bool) (number : ℕ) (rec : Record) → look_of (cond ahead (Ahead number rec) (cond foreign (Foreign number rec) (Whole number rec))) ≡ found.Whole number rec
look_of_tests true foreign number rec = refl
look_of_tests false true number rec = refl
look_of_tests false false number rec = refl

-- the look is as it was
pub look_of-judged : (cores : ℕ) (x : List Action) (k : ℕ) (look : Look) → look_of (judged cores x k look) ≡ look
look_of-judged cores x k (found.Busy first second) = refl
look_of-judged cores x k (found.Whole number rec) = look_of_tests (ltb (sent_to x k) rec.taken) (is_foreign cores x k rec) number rec

-- only where both tests fail is a look judged Whole
pub record IsWholeBy (ahead foreign : Bool) (number n : ℕ) (rec r : Record) : Type 0 where
  pub ahead_not : ahead ≡ false
  pub foreign_not : foreign ≡ false
  pub look : ◌≡◌ {A = Look} (found.Whole number rec) (found.Whole n r)

whole_by_tests : (ahead foreign : Bool) (number n : ℕ) (rec r : Record) → cond ahead (Ahead number rec) (cond foreign (Foreign number rec) (Whole number rec)) ≡ Whole n r →
    IsWholeBy ahead foreign number n rec r
whole_by_tests true foreign number n rec r e = cc
whole_by_tests false true number n rec r e = cc
whole_by_tests false false number n rec r e = record { ahead_not = refl; foreign_not = refl; look = ap look_of e }

pub whole_allowed : (cores : ℕ) (x : List Action) (k number : ℕ) (rec : Record) (look : Look) → judged cores x k look ≡ Whole number rec → FitsCommands cores x k number rec look
whole_allowed cores x k number rec (found.Busy first second) e = cc
whole_allowed cores x k number rec (found.Whole n r) e =
    let by = whole_by_tests (ltb (sent_to x k) r.taken) (is_foreign cores x k r) n number r rec e in
    let record_of : Look → Record = λ look. shown look in
    let same : r ≡ rec = ap record_of by.look in
    let none : ltb (sent_to x k) r.taken ≡ false = by.ahead_not in
    let few : r.taken ≤ sent_to x k = grind (arith, nat_tests, none) in
    subst (λ (q : Record). FitsCommands cores x k number q (found.Whole n r)) same (record { whole = by.look ∙ ap (λ q. found.Whole number q) (sym same); sent = few; own = by.foreign_not })
  where
    shown : Look → Record
    shown (found.Whole number other) = other
    shown (found.Busy first second) = rec
