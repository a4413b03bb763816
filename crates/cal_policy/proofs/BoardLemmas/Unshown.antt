-- The cores that may have been left, when a holder changes and when a record is kept.
use Rattle.cal_policy.proofs.Common.{◌≡◌, ◌≢◌, ℕ, ◌+◌, ◌<◌, ◌⊎◌, inl, inr, true, false, cond, eqb, Option, Some, refl, ap, sym, subst, ◌∙◌, arith, ⊎_elim, true≢false, cases_eq, nat_tests, CoreSet, has, Record, Holder, Held, Leaving, IsShownOn, Shows}
use Rattle.cal_policy.specs.declared.board.holders.Holder.TheVariants.{Free}

-- where nobody has a core
pub shows_free : (holder : ℕ → Holder) (kept : ℕ → Record) (unshown : CoreSet) → ((c : ℕ) → holder c ≡ Free) → Shows holder kept unshown
shows_free holder kept unshown free = record {
  shown = λ c lt off. let On : Holder → Type 0 = λ h. IsShownOn kept c h in subst On (sym (free c)) tt;
}

-- where one core's holder changed and the core is in the set
pub shows_moved : (old new : ℕ → Holder) (kept : ℕ → Record) (before after : CoreSet) (core : Option ℕ) →
    ((c : ℕ) → core ≢ Some c → new c ≡ old c) → ((c : ℕ) → has after c ≡ false → has before c ≡ false) →
    ((c : ℕ) → core ≡ Some c → has after c ≡ true) → Shows old kept before → Shows new kept after
shows_moved old new kept before after core same less here was = record {
  shown = λ c lt off.
      let other : core ≢ Some c = λ is. true≢false (sym (here c is) ∙ off) in
      let On : Holder → Type 0 = λ h. IsShownOn kept c h in subst On (sym (same c other)) (was.shown c lt (less c off));
}

itself : (k : ℕ) (a b : Record) → cond (eqb k k) a b ≡ a
itself k a b = let e : eqb k k ≡ true = grind (arith, nat_tests) in rw e refl

another : (j k : ℕ) (a b : Record) → j ≢ k → cond (eqb j k) a b ≡ b
another j k a b off = let e : eqb j k ≡ false = grind (arith, nat_tests) in rw e refl

on_thread : (old new : ℕ → Record) (k : ℕ) (rec : Record) (c j : ℕ) → new j ≡ cond (eqb j k) rec (old j) →
    ((old k).running ≡ c + 1 → rec.running ≡ c + 1) → (old j).running ≡ c + 1 → (j ≡ k) ⊎ (j ≢ k) → (new j).running ≡ c + 1
on_thread old new k rec c j one left on (inl same) =
    let is : new j ≡ rec = one ∙ ap (λ i. cond (eqb i k) rec (old j)) same ∙ itself k rec (old j) in
    let was : (old k).running ≡ c + 1 = ap (λ i. (old i).running) (sym same) ∙ on in
    ap (λ (r : Record). r.running) is ∙ left was
on_thread old new k rec c j one left on (inr off) = ap (λ (r : Record). r.running) (one ∙ another j k rec (old j) off) ∙ on

on_holder : (old new : ℕ → Record) (k : ℕ) (rec : Record) (c : ℕ) (h : Holder) → ((j : ℕ) → j < 128 → new j ≡ cond (eqb j k) rec (old j)) →
    ((old k).running ≡ c + 1 → rec.running ≡ c + 1) → IsShownOn old c h → IsShownOn new c h
on_holder old new k rec c Free one left on = tt
on_holder old new k rec c (Held p) one left on = λ low. on_thread old new k rec c p.thread (one p.thread low) left (on low) (cases_eq p.thread k)
on_holder old new k rec c (Leaving p cause) one left on = λ low. on_thread old new k rec c p.thread (one p.thread low) left (on low) (cases_eq p.thread k)

-- where a record was kept of one thread, and the core that the one before showed is in the set unless it is shown still
pub shows_kept : (holder : ℕ → Holder) (old new : ℕ → Record) (k : ℕ) (rec : Record) (before after : CoreSet) →
    ((j : ℕ) → j < 128 → new j ≡ cond (eqb j k) rec (old j)) → ((c : ℕ) → has after c ≡ false → has before c ≡ false) →
    ((c : ℕ) → c < 128 → has after c ≡ false → (old k).running ≡ c + 1 → rec.running ≡ c + 1) → Shows holder old before → Shows holder new after
shows_kept holder old new k rec before after one less left was = record {
  shown = λ c lt off. on_holder old new k rec c (holder c) one (left c lt off) (was.shown c lt (less c off));
}

-- where a core that is shown was taken out of the set
pub shows_out : (holder : ℕ → Holder) (kept : ℕ → Record) (core : ℕ) (before after : CoreSet) →
    ((c : ℕ) → has after c ≡ false → (has before c ≡ false) ⊎ ((c ≡ core) × IsShownOn kept core (holder core))) → Shows holder kept before → Shows holder kept after
shows_out holder kept core before after out was = record {
  shown = λ c lt off. let At : ℕ → Type 0 = λ i. IsShownOn kept i (holder i) in
      ⊎_elim (λ still. was.shown c lt still) (λ both. subst At (sym both.0) both.1) (out c off);
}
