-- The cores that grants and bans go over, when an action changes a holder or a ban.
use Rattle.cal_policy.proofs.Common.{◌≡◌, ◌≢◌, ℕ, ◌<◌, ◌⊎◌, ◌&&◌, inl, inr, Bool, true, false, cond, eqb, Some, refl, ap, sym, ◌∙◌, arith, cases_eq, nat_tests, sibling_of, sibling_back, CoreSet, has, Action, Holder, core_changed, is_held, Opens, IsSameElsewhere, core_named, is_idle_by, is_alone_by, is_beside_held_by}
use Rattle.cal_policy.specs.declared.history.action.Action.TheVariants as actions
use Rattle.cal_policy.specs.declared.board.holders.Holder.TheVariants.{Free}
use Rattle.cal_policy.specs.declared.board.open_cores.OpenCores.{OpenCores}

-- an action changes the holder of no core but the one that it names
pub changes_named : (a : Action) (c : ℕ) → core_named a ≢ Some c → core_changed a ≢ Some c
changes_named (actions.Free core) c off = off
changes_named (actions.Revoke core cause) c off = off
changes_named (actions.Grant core thread class) c off = off
changes_named (actions.Unban core) c off = λ same. cc
changes_named (actions.Ban core thread started) c off = λ same. cc
changes_named (actions.Cap task cap) c off = λ same. cc

is_same : (c core : ℕ) → c ≡ core → eqb c core ≡ true
is_same c core e = grind (arith, nat_tests)

is_other : (c core : ℕ) → c ≢ core → eqb c core ≡ false
is_other c core e = grind (arith, nat_tests)

some_other : (c core : ℕ) → c ≢ core → Some core ≢ Some c
some_other c core e = λ same. let eq : c ≡ core = cc in e eq

idle_same : (f g : ℕ → Holder) (a b : CoreSet) (c : ℕ) → g c ≡ f c → has b c ≡ has a c → is_idle_by f a c ≡ is_idle_by g b c
idle_same f g a b c e h = rw (e, h) refl

alone_same : (f g : ℕ → Holder) (a b : CoreSet) (c : ℕ) → g c ≡ f c → g (sibling_of c) ≡ f (sibling_of c) → has b c ≡ has a c →
    has b (sibling_of c) ≡ has a (sibling_of c) → is_alone_by f a c ≡ is_alone_by g b c
alone_same f g a b c e es h hs = rw (e, es, h, hs) refl

idle_one : (f g : ℕ → Holder) (x y : CoreSet) (core c : ℕ) (old new : OpenCores) → (c ≢ core → g c ≡ f c) → (c ≢ core → has y c ≡ has x c) →
    has old.idle c ≡ is_idle_by f x c → has new.idle c ≡ cond (eqb c core) (is_idle_by g y core) (has old.idle c) → (c ≡ core) ⊎ (c ≢ core) →
    has new.idle c ≡ is_idle_by g y c
idle_one f g x y core c old new e h was made (inl same) = made ∙ ap (λ b. cond b (is_idle_by g y core) (has old.idle c)) (is_same c core same) ∙ ap (is_idle_by g y) (sym same)
idle_one f g x y core c old new e h was made (inr off) = made ∙ ap (λ b. cond b (is_idle_by g y core) (has old.idle c)) (is_other c core off)
    ∙ was ∙ idle_same f g x y c (e off) (h off)

beside_same : (f g : ℕ → Holder) (a b : CoreSet) (c : ℕ) → g c ≡ f c → g (sibling_of c) ≡ f (sibling_of c) → has b c ≡ has a c →
    has b (sibling_of c) ≡ has a (sibling_of c) → is_beside_held_by f a c ≡ is_beside_held_by g b c
beside_same f g a b c e es h hs = rw (e, es, h) refl

-- a test of a core by what became of it and of its sibling
abbrev IsOfPair : ((ℕ → Holder) → CoreSet → ℕ → Bool) → Type 0
IsOfPair test = (f g : ℕ → Holder) (a b : CoreSet) (c : ℕ) → g c ≡ f c → g (sibling_of c) ≡ f (sibling_of c) → has b c ≡ has a c →
    has b (sibling_of c) ≡ has a (sibling_of c) → test f a c ≡ test g b c

pair_off : (test : (ℕ → Holder) → CoreSet → ℕ → Bool) → IsOfPair test → (f g : ℕ → Holder) (x y : CoreSet) (core c : ℕ) (old : CoreSet) →
    ((k : ℕ) → k ≢ core → g k ≡ f k) → ((k : ℕ) → k ≢ core → has y k ≡ has x k) →
    has old c ≡ test f x c → c ≢ sibling_of core → (c ≡ core) ⊎ (c ≢ core) →
    cond (eqb c core) (test g y core) (has old c) ≡ test g y c
pair_off test by f g x y core c old e h was beside (inl same) = ap (λ b. cond b (test g y core) (has old c)) (is_same c core same) ∙ ap (test g y) (sym same)
pair_off test by f g x y core c old e h was beside (inr off) =
    let away : sibling_of c ≢ core = λ eq. beside (sym (sibling_back c) ∙ ap sibling_of eq) in
    ap (λ b. cond b (test g y core) (has old c)) (is_other c core off)
    ∙ was ∙ by f g x y c (e c off) (e (sibling_of c) away) (h c off) (h (sibling_of c) away)

pair_one : (test : (ℕ → Holder) → CoreSet → ℕ → Bool) → IsOfPair test → (f g : ℕ → Holder) (x y : CoreSet) (core c : ℕ) (old new : CoreSet) →
    ((k : ℕ) → k ≢ core → g k ≡ f k) → ((k : ℕ) → k ≢ core → has y k ≡ has x k) →
    has old c ≡ test f x c →
    has new c ≡ cond (eqb c (sibling_of core)) (test g y (sibling_of core)) (cond (eqb c core) (test g y core) (has old c)) →
    (c ≡ sibling_of core) ⊎ (c ≢ sibling_of core) → has new c ≡ test g y c
pair_one test by f g x y core c old new e h was made (inl same) =
    made ∙ ap (λ b. cond b (test g y (sibling_of core)) (cond (eqb c core) (test g y core) (has old c))) (is_same c (sibling_of core) same)
    ∙ ap (test g y) (sym same)
pair_one test by f g x y core c old new e h was made (inr off) =
    made ∙ ap (λ b. cond b (test g y (sibling_of core)) (cond (eqb c core) (test g y core) (has old c))) (is_other c (sibling_of core) off)
    ∙ pair_off test by f g x y core c old e h was off (cases_eq c core)

pub opens_one : (a : Action) (f g : ℕ → Holder) (x y : CoreSet) (core : ℕ) (old new : OpenCores) → core_named a ≡ Some core → Opens f x old → IsSameElsewhere a f x g y →
    ((c : ℕ) → has new.idle c ≡ cond (eqb c core) (is_idle_by g y core) (has old.idle c)) →
    ((c : ℕ) → has new.alone c ≡ cond (eqb c (sibling_of core)) (is_alone_by g y (sibling_of core)) (cond (eqb c core) (is_alone_by g y core) (has old.alone c))) →
    ((c : ℕ) → has new.beside_held c ≡ cond (eqb c (sibling_of core)) (is_beside_held_by g y (sibling_of core)) (cond (eqb c core) (is_beside_held_by g y core) (has old.beside_held c))) →
    Opens g y new
opens_one a f g x y core old new named o same idle alone beside =
    let off : (c : ℕ) → c ≢ core → core_named a ≢ Some c = λ c e s. some_other c core e (sym named ∙ s) in
    let e : (c : ℕ) → c ≢ core → g c ≡ f c = λ c n. same.holders c (off c n) in
    let h : (c : ℕ) → c ≢ core → has y c ≡ has x c = λ c n. same.bans c (off c n) in record {
      idle = λ c lt. idle_one f g x y core c old new (e c) (h c) (o.idle c lt) (idle c) (cases_eq c core);
      alone = λ c lt. pair_one is_alone_by alone_same f g x y core c old.alone new.alone e h (o.alone c lt) (alone c) (cases_eq c (sibling_of core));
      beside = λ c lt. pair_one is_beside_held_by beside_same f g x y core c old.beside_held new.beside_held e h (o.beside c lt) (beside c) (cases_eq c (sibling_of core));
    }

none_held : (b : Bool) → (b && false) ≡ false
none_held true = refl
none_held false = refl

beside_none : (f : ℕ → Holder) (x : CoreSet) (c : ℕ) → ((k : ℕ) → f k ≡ Free) → is_beside_held_by f x c ≡ false
beside_none f x c free = ap (λ h. is_idle_by f x c && is_held h) (free (sibling_of c)) ∙ none_held (is_idle_by f x c)

-- where every core is free and none is banned
pub opens_free : (f : ℕ → Holder) (x : CoreSet) (cores : OpenCores) → ((c : ℕ) → f c ≡ Free) → ((c : ℕ) → c < 128 → has x c ≡ false) →
    ((c : ℕ) → c < 128 → has cores.idle c ≡ true) → ((c : ℕ) → has cores.alone c ≡ false) → ((c : ℕ) → has cores.beside_held c ≡ false) → Opens f x cores
opens_free f x cores free none idle alone beside = record {
  idle = λ c lt. idle c lt ∙ sym (rw (free c, none c lt) refl);
  alone = λ c lt. alone c ∙ sym (rw (free c) refl);
  beside = λ c lt. beside c ∙ sym (beside_none f x c free);
}
