-- The classes have the numbers 1 to 5.
use Rattle.cal_trace.proofs.Common.{◌≡◌, ◌≢◌, ◌&&◌, ◌∙◌, ℕ, Bool, true, false, nat_le, Option, Some, None, refl, sym, subst, arith, MatchOption, is_some, and_parts, leb-true}
use Rattle.cal_policy.specs.declared.history.core_class.CoreClass.{CoreClass}
use Rattle.cal_policy.specs.declared.history.core_class.CoreClass.TheVariants as classes
use Rattle.cal_policy.specs.History.CoreClasses.{class_number}
use Rattle.cal_trace.proofs.history.action_rows.is_class.Goals as goal

numbered : (class : CoreClass) → true ≡ (nat_le 1 (class_number class) && nat_le (class_number class) 5)
numbered classes.Sibling = refl
numbered classes.RecentlyUsed = refl
numbered classes.OtherIdle = refl
numbered classes.BestEffortBurstable = refl
numbered classes.LatencyCriticalBurstable = refl

named : (class : CoreClass) (n : ℕ) → class_number class ≡ n → true ≡ (nat_le 1 n && nat_le n 5)
named class n e = let P : ℕ → Type 0 = λ m. true ≡ (nat_le 1 m && nat_le m 5) in subst P e (numbered class)

none_named : (n : ℕ) → ((class : CoreClass) → class_number class ≢ n) → false ≡ (nat_le 1 n && nat_le n 5)
none_named n h = sym (go (nat_le 1 n && nat_le n 5) refl)
  where
    go : (b : Bool) → (nat_le 1 n && nat_le n 5) ≡ b → b ≡ false
    go false e = refl
    go true e =
        let both = and_parts (nat_le 1 n) (nat_le n 5) e in
        let least = leb-true 1 n both.0 in
        let most = leb-true n 5 both.1 in
        let not_one : 1 ≢ n = h classes.Sibling in
        let not_two : 2 ≢ n = h classes.RecentlyUsed in
        let not_three : 3 ≢ n = h classes.OtherIdle in
        let not_four : 4 ≢ n = h classes.BestEffortBurstable in
        let not_five : 5 ≢ n = h classes.LatencyCriticalBurstable in
        absurd (omega (arith, least, most, not_one, not_two, not_three, not_four, not_five))

is_named : (class : Option CoreClass) (n : ℕ) → MatchOption class ((c : CoreClass) → class_number c ≢ n) (λ c. class_number c ≡ n) → is_some class ≡ (nat_le 1 n && nat_le n 5)
is_named None n h = none_named n h
is_named (Some class) n h = named class n h

pub returns : goal.returns
returns c = c.is_some.ensures ∙ is_named _ _ c.from_number.ensures
