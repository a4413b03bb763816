-- The parts of the machine's core time make the whole.
use Rattle.cal_measure.proofs.Common.{◌≡◌, ◌+◌, ◌*◌, ℕ, zero, suc, Bool, true, false, cond, List, length, take, refl, sym, arith, Table, actions_of, holder_of, is_banned, count_below, sum_below, Holder, Action, PassEntry, AreMachineCores, MakeTheWhole, in_state_after, is_in_state, lasts_at, CoreState}
use Rattle.cal_policy.specs.declared.board.holders.Holder.TheVariants.{Free, Held, Leaving}
use Rattle.cal_measure.specs.declared.cores.MachineCores.{MachineCores}
use Rattle.cal_measure.specs.declared.states.CoreState.TheVariants as states

abbrev one : CoreState → Holder → Bool → ℕ
one state h b = cond (is_in_state state h b) 1 0

-- each core is in one state
one_state : (h : Holder) (b : Bool) → one states.Held h b + one states.Leaving h b + one states.Banned h b + one states.Free h b ≡ 1
one_state Free true = refl
one_state Free false = refl
one_state (Held placement) b = refl
one_state (Leaving placement cause) b = refl

abbrev in_below : List Action → CoreState → ℕ → ℕ
in_below x state n = count_below (λ c. is_in_state state (holder_of x c) (is_banned x c)) n

in_more : (x : List Action) (state : CoreState) (n : ℕ) → in_below x state (suc n) ≡ in_below x state n + one state (holder_of x n) (is_banned x n)
in_more x state n = refl

cores_whole : (x : List Action) (n : ℕ) → in_below x states.Held n + in_below x states.Leaving n + in_below x states.Banned n + in_below x states.Free n ≡ n
cores_whole x zero = refl
cores_whole x (suc n) =
    omega (
      arith,
      cores_whole x n,
      one_state (holder_of x n) (is_banned x n),
      in_more x states.Held n,
      in_more x states.Leaving n,
      in_more x states.Banned n,
      in_more x states.Free n,
    )

spread_out : (a b c d l k : ℕ) → a + b + c + d ≡ k → a * l + b * l + c * l + d * l ≡ l * k
spread_out a b c d l k e = rw (sym e) (omega arith)

grown_out : (s l k : ℕ) → (s + l) * k ≡ s * k + l * k
grown_out s l k = omega arith

abbrev time_below : Table → List PassEntry → CoreState → ℕ → ℕ
time_below table h state n = sum_below (λ p. in_state_after table h state p * lasts_at h p) n

time_more : (table : Table) (h : List PassEntry) (state : CoreState) (n : ℕ) →
    time_below table h state (suc n) ≡ time_below table h state n + in_state_after table h state n * lasts_at h n
time_more table h state n = refl

lasts_more : (h : List PassEntry) (n : ℕ) → sum_below (λ p. lasts_at h p) (suc n) ≡ sum_below (λ p. lasts_at h p) n + lasts_at h n
lasts_more h n = refl

whole_below : (table : Table) (h : List PassEntry) (n : ℕ) →
    time_below table h states.Held n + time_below table h states.Leaving n + time_below table h states.Banned n + time_below table h states.Free n
    ≡ sum_below (λ p. lasts_at h p) n * table.cores
whole_below table h zero = omega arith
whole_below table h (suc n) =
    let x = actions_of (take (n + 1) h) in
    omega (
      arith,
      whole_below table h n,
      spread_out (in_state_after table h states.Held n) (in_state_after table h states.Leaving n) (in_state_after table h states.Banned n) (in_state_after table h states.Free n) (lasts_at h n)
          table.cores (cores_whole x table.cores),
      grown_out (sum_below (λ p. lasts_at h p) n) (lasts_at h n) table.cores,
      time_more table h states.Held n,
      time_more table h states.Leaving n,
      time_more table h states.Banned n,
      time_more table h states.Free n,
      lasts_more h n,
    )

pub make_whole : (table : Table) (h : List PassEntry) (numbers : MachineCores) → AreMachineCores table h numbers → MakeTheWhole table numbers
make_whole table h numbers are = rw (are.held, are.leaving, are.banned, are.free, are.lasted) (whole_below table h (length h))
