-- What a holder as it is kept says is what the holder says; and actions that fit name what the
-- table has.
use Rattle.cal_policy.proofs.Common.{◌≡◌, ℕ, ◌+◌, ◌<◌, ◌≤◌, suc, zero, Bool, true, false, cond, eqb, List, ◌++◌, length, get_or, take, Option, Some, None, refl, subst, ◌∙◌, arith, nat_tests, Table, IsTable, threads_of_table, Action, Holder, Held, Leaving, Holding, IfSome, kept_holder, placement_of, holder_at, HoldingSound, NamesCores, NamesTable, is_free, is_held, count_below, fits_state, FitInTurn, slice_get-get_or}
use Rattle.cal_policy.specs.declared.history.action.Action.TheVariants as actions
use Rattle.cal_policy.specs.declared.board.holders.Holder.TheVariants.{Free}
use Rattle.cal_policy.proofs.ListLemmas.OneNumberMore.{count_more}

pub free_kept : (h : Holder) → is_free (kept_holder h) ≡ is_free h
free_kept Free = refl
free_kept (Held placement) = refl
free_kept (Leaving placement cause) = refl

pub held_kept : (h : Holder) → is_held (kept_holder h) ≡ is_held h
held_kept Free = refl
held_kept (Held placement) = refl
held_kept (Leaving placement cause) = refl

-- who has a core is a thread below the board's
pub placed_at : (n : ℕ) (h : Holding) (o : Option ℕ) → HoldingSound n h → IfSome (placement_of (holder_at h o)) (λ p. p.thread < n)
placed_at n h None sound = tt
placed_at n h (Some core) sound = sound.holders core

-- the next one does not pass either
pub none_more : (p : ℕ → Bool) (n : ℕ) → count_below p n ≡ 0 → p n ≡ false → count_below p (n + 1) ≡ 0
none_more p n e f = count_more p n ∙ rw (e, f) refl

some_step : (p : ℕ → Bool) (n i : ℕ) (b : Bool) → eqb i n ≡ b → i < suc n → p i ≡ true → (i < n → 1 ≤ count_below p n) →
    1 ≤ count_below p n + cond (p n) 1 0
some_step p n i true q lt e h =
    let same : i ≡ n = grind (arith, nat_tests) in
    let here : p n ≡ true = let P : ℕ → Type 0 = λ m. p m ≡ true in subst P same e in rw here (omega arith)
some_step p n i false q lt e h =
    let less : i < n = grind (arith, nat_tests) in omega (arith, h less)

-- one that passes is counted
pub some_counted : (p : ℕ → Bool) (n i : ℕ) → i < n → p i ≡ true → 1 ≤ count_below p n
some_counted p zero i lt e = absurd (omega arith)
some_counted p (suc n) i lt e = some_step p n i (eqb i n) refl lt e (λ less. some_counted p n i less e)

-- an action that names what the table has names nothing past the board's ends
pub names_fixed : (table : Table) (a : Action) → IsTable table → NamesTable table a → NamesCores 128 128 a
names_fixed table (actions.Free core) t n = omega (arith, t.machine.most)
names_fixed table (actions.Unban core) t n = omega (arith, t.machine.most)
names_fixed table (actions.Ban core thread started) t n = (omega (arith, t.machine.most, n.0), omega (arith, t.threads, n.1))
names_fixed table (actions.Revoke core cause) t n = omega (arith, t.machine.most)
names_fixed table (actions.Cap task cap) t n = n
names_fixed table (actions.Grant core thread class) t n = (omega (arith, t.machine.most, n.0), omega (arith, t.threads, n.1))

pub names_threads : (table : Table) (a : Action) → IsTable table → NamesTable table a → NamesCores 128 (threads_of_table table) a
names_threads table (actions.Free core) t n = omega (arith, t.machine.most)
names_threads table (actions.Unban core) t n = omega (arith, t.machine.most)
names_threads table (actions.Ban core thread started) t n = (omega (arith, t.machine.most, n.0), n.1)
names_threads table (actions.Revoke core cause) t n = omega (arith, t.machine.most)
names_threads table (actions.Cap task cap) t n = n
names_threads table (actions.Grant core thread class) t n = (omega (arith, t.machine.most, n.0), n.1)

-- an action that fits names what the table has
pub names_of_fit : (table : Table) (x : List Action) (a : Action) → IsTable table → fits_state table x a ≡ true → NamesTable table a
names_of_fit table x (actions.Free core) t e = grind (arith, nat_tests)
names_of_fit table x (actions.Unban core) t e = grind (arith, nat_tests)
names_of_fit table x (actions.Ban core thread started) t e = (grind (arith, nat_tests), grind (arith, nat_tests))
names_of_fit table x (actions.Revoke core cause) t e = grind (arith, nat_tests)
names_of_fit table x (actions.Cap task cap) t e = let few = t.tasks in grind (arith, nat_tests)
names_of_fit table x (actions.Grant core thread class) t e = (grind (arith, nat_tests), grind (arith, nat_tests))

-- and so each of them
pub names_of_fitting : (table : Table) (x acts : List Action) → IsTable table → FitInTurn table x acts →
    (k : ℕ) (d : Action) → k < length acts → NamesTable table (get_or acts k d)
names_of_fitting table x acts t fit k d lt = names_of_fit table (x ++ take k acts) (get_or acts k d) t (fit k (get_or acts k d) (slice_get-get_or acts k d lt))
