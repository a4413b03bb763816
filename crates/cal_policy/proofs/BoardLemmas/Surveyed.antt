-- What is counted of the cores, when a holder changes.
use Rattle.cal_policy.proofs.Common.{◌≡◌, ◌≢◌, ℕ, ◌+◌, ◌<◌, ◌≤◌, ◌⊎◌, inl, inr, zero, suc, Bool, false, cond, Option, Some, None, List, refl, ap, ◌∙◌, subst, arith, get_or, cases_eq, IfSome, Table, Action, Holder, Holding, holder_of, count_below, is_held_for, is_booked_for, is_with, leaves_for, HoldersAgree, holder_in, holder_at}
use Rattle.cal_policy.specs.declared.board.holders.Holder.TheVariants.{Free}
use Rattle.cal_policy.specs.declared.board.survey.Survey.{Survey}
use Rattle.cal_policy.specs.Board.Survey.{Surveys, CountsAtMost, IsCounted, CountsOneMore}
use Rattle.cal_policy.proofs.ListLemmas.OneNumberMore.{count_at_most}
use Rattle.cal_policy.proofs.BoardLemmas.StateKept.{some_counted}
use Rattle.cal_policy.proofs.BoardLemmas.AsKept.{held_as_kept, booked_as_kept, with_as_kept, leaves_as_kept}

-- tests that agree count the same
pub count_same : (p q : ℕ → Bool) (n : ℕ) → ((c : ℕ) → c < n → q c ≡ p c) → count_below q n ≡ count_below p n
count_same p q zero e = refl
count_same p q (suc n) e = rw (e n (omega arith), count_same p q n (λ c lt. e c (omega arith))) refl

-- where none passes, none is counted
pub count_none : (p : ℕ → Bool) (n : ℕ) → ((c : ℕ) → p c ≡ false) → count_below p n ≡ 0
count_none p zero e = refl
count_none p (suc n) e = rw (e n, count_none p n e) refl

regroup : (a b c : ℕ) → a + b + c ≡ a + c + b
regroup a b c = omega arith

-- the last test changes
last_changed : (p q : ℕ → Bool) (n : ℕ) → count_below q n ≡ count_below p n → count_below q (suc n) + cond (p n) 1 0 ≡ count_below p (suc n) + cond (q n) 1 0
last_changed p q n e = ap (λ m. m + cond (q n) 1 0 + cond (p n) 1 0) e ∙ regroup (count_below p n) (cond (q n) 1 0) (cond (p n) 1 0)

-- an earlier one does
add_same : (a b x y u v : ℕ) → a + u ≡ b + v → x ≡ y → a + x + u ≡ b + y + v
add_same a b x y u v e f = omega arith

one_changed : (p q : ℕ → Bool) (core n : ℕ) → core < suc n → ((c : ℕ) → c < suc n → c ≢ core → q c ≡ p c) →
    (core < n → count_below q n + cond (p core) 1 0 ≡ count_below p n + cond (q core) 1 0) → (n ≡ core) ⊎ (n ≢ core) →
    count_below q (suc n) + cond (p core) 1 0 ≡ count_below p (suc n) + cond (q core) 1 0
one_changed p q core n lt e h (inl at) =
    let P : ℕ → Type 0 = λ m. count_below q (suc n) + cond (p m) 1 0 ≡ count_below p (suc n) + cond (q m) 1 0 in
    subst P at (last_changed p q n (count_same p q n (λ c less. e c (omega arith) (omega arith))))
one_changed p q core n lt e h (inr off) = add_same (count_below q n) (count_below p n) (cond (q n) 1 0) (cond (p n) 1 0) (cond (p core) 1 0) (cond (q core) 1 0)
    (h (omega arith)) (ap (λ (b : Bool). cond b 1 0) (e n (omega arith) off))

-- where one test changes, the count changes by it alone
pub count_changed : (p q : ℕ → Bool) (core n : ℕ) → core < n → ((c : ℕ) → c < n → c ≢ core → q c ≡ p c) →
    count_below q n + cond (p core) 1 0 ≡ count_below p n + cond (q core) 1 0
count_changed p q core zero lt e = absurd (omega arith)
count_changed p q core (suc n) lt e = one_changed p q core n lt e (λ less. count_changed p q core n less (λ c l off. e c (omega arith) off)) (cases_eq n core)

-- a count from which the core was taken away as it was, and to which it was put as it is
moved : (p q : ℕ → Bool) (core n had without now : ℕ) → core < n → ((c : ℕ) → c ≢ core → q c ≡ p c) →
    had ≡ count_below p n → had ≡ without + cond (p core) 1 0 → now ≡ without + cond (q core) 1 0 → now ≡ count_below q n
moved p q core n had without now lt e f g h = omega (arith, count_changed p q core n lt (λ c l off. e c off))

moved_one : (table : Table) (f g : ℕ → Holder) (core : ℕ) (old without new : Survey) → core < table.cores → ((c : ℕ) → c ≢ core → g c ≡ f c) →
    Surveys table f old → CountsOneMore table (f core) without old → CountsOneMore table (g core) without new → Surveys table g new
moved_one table f g core old without new lt e s less more = record {
  held = λ t low. moved (λ c. is_held_for table t (f c)) (λ c. is_held_for table t (g c)) core table.cores _ _ _ lt
      (λ c off. ap (is_held_for table t) (e c off)) (s.held t low) (less.held t low) (more.held t low);
  booked = λ t low. moved (λ c. is_booked_for table t (f c)) (λ c. is_booked_for table t (g c)) core table.cores _ _ _ lt
      (λ c off. ap (is_booked_for table t) (e c off)) (s.booked t low) (less.booked t low) (more.booked t low);
  placed = λ k low. moved (λ c. is_with k (f c)) (λ c. is_with k (g c)) core table.cores _ _ _ lt
      (λ c off. ap (is_with k) (e c off)) (s.placed k low) (less.placed k low) (more.placed k low);
  awaited = λ t low. moved (λ c. leaves_for t (f c)) (λ c. leaves_for t (g c)) core table.cores _ _ _ lt
      (λ c off. ap (leaves_for t) (e c off)) (s.awaited t low) (less.awaited t low) (more.awaited t low);
}

still : (p q : ℕ → Bool) (n had without now : ℕ) → ((c : ℕ) → q c ≡ p c) → had ≡ count_below p n → had ≡ without + 0 → now ≡ without + 0 → now ≡ count_below q n
still p q n had without now e f g h = omega (arith, count_same p q n (λ c lt. e c))

moved_none : (table : Table) (f g : ℕ → Holder) (old without new : Survey) → ((c : ℕ) → g c ≡ f c) →
    Surveys table f old → CountsOneMore table Free without old → CountsOneMore table Free without new → Surveys table g new
moved_none table f g old without new e s less more = record {
  held = λ t low. still (λ c. is_held_for table t (f c)) (λ c. is_held_for table t (g c)) table.cores _ _ _
      (λ c. ap (is_held_for table t) (e c)) (s.held t low) (less.held t low) (more.held t low);
  booked = λ t low. still (λ c. is_booked_for table t (f c)) (λ c. is_booked_for table t (g c)) table.cores _ _ _
      (λ c. ap (is_booked_for table t) (e c)) (s.booked t low) (less.booked t low) (more.booked t low);
  placed = λ k low. still (λ c. is_with k (f c)) (λ c. is_with k (g c)) table.cores _ _ _
      (λ c. ap (is_with k) (e c)) (s.placed k low) (less.placed k low) (more.placed k low);
  awaited = λ t low. still (λ c. leaves_for t (f c)) (λ c. leaves_for t (g c)) table.cores _ _ _
      (λ c. ap (leaves_for t) (e c)) (s.awaited t low) (less.awaited t low) (more.awaited t low);
}

-- the counts are kept up with the one holder that changes, if one does
pub Surveys_moved : (table : Table) (h h2 : Holding) (o : Option ℕ) (old without new : Survey) → IfSome o (λ c. c < table.cores) →
    ((c : ℕ) → o ≢ Some c → holder_in h2 c ≡ holder_in h c) → Surveys table (holder_in h) old →
    CountsOneMore table (holder_at h o) without old → CountsOneMore table (holder_at h2 o) without new → Surveys table (holder_in h2) new
Surveys_moved table h h2 None old without new lt e s less more = moved_none table (holder_in h) (holder_in h2) old without new (λ c. e c (λ bad. cc)) s less more
Surveys_moved table h h2 (Some core) old without new lt e s less more =
    moved_one table (holder_in h) (holder_in h2) core old without new lt (λ c off. e c (λ same. let at : c ≡ core = cc in off at)) s less more

-- the core is among those counted
pub counted_at : (table : Table) (h : Holding) (o : Option ℕ) (s : Survey) → IfSome o (λ c. c < table.cores) → Surveys table (holder_in h) s →
    IsCounted table (holder_at h o) s
counted_at table h None s lt v = record { held = λ t low yes. cc; booked = λ t low yes. cc; placed = λ k low yes. cc; awaited = λ t low yes. cc }
counted_at table h (Some core) s lt v = record {
  held = λ t low yes. omega (arith, v.held t low, some_counted (λ c. is_held_for table t (holder_in h c)) table.cores core lt yes);
  booked = λ t low yes. omega (arith, v.booked t low, some_counted (λ c. is_booked_for table t (holder_in h c)) table.cores core lt yes);
  placed = λ k low yes. omega (arith, v.placed k low, some_counted (λ c. is_with k (holder_in h c)) table.cores core lt yes);
  awaited = λ t low yes. omega (arith, v.awaited t low, some_counted (λ c. leaves_for t (holder_in h c)) table.cores core lt yes);
}

-- counts of so few cores have room for one more
pub few_left : (table : Table) (f : ℕ → Holder) (a : Holder) (old without : Survey) → table.cores ≤ 128 → Surveys table f old → CountsOneMore table a without old → CountsAtMost 254 without
few_left table f a old without few s less = record {
  held = λ t low. omega (arith, s.held t low, less.held t low, count_at_most (λ c. is_held_for table t (f c)) table.cores);
  booked = λ t low. omega (arith, s.booked t low, less.booked t low, count_at_most (λ c. is_booked_for table t (f c)) table.cores);
  placed = λ k low. omega (arith, s.placed k low, less.placed k low, count_at_most (λ c. is_with k (f c)) table.cores);
  awaited = λ t low. omega (arith, s.awaited t low, less.awaited t low, count_at_most (λ c. leaves_for t (f c)) table.cores);
}

-- where every core is free, all counts are 0
pub Surveys_free : (table : Table) (f : ℕ → Holder) (s : Survey) → ((c : ℕ) → f c ≡ Free) →
    ((t : ℕ) → get_or s.held t 0 ≡ 0) → ((t : ℕ) → get_or s.booked t 0 ≡ 0) → ((k : ℕ) → get_or s.placed k 0 ≡ 0) → ((t : ℕ) → get_or s.awaited t 0 ≡ 0) →
    Surveys table f s
Surveys_free table f s e held booked placed awaited = record {
  held = λ t low. let none = count_none (λ c. is_held_for table t (f c)) table.cores (λ c. ap (is_held_for table t) (e c)) in omega (arith, held t);
  booked = λ t low. let none = count_none (λ c. is_booked_for table t (f c)) table.cores (λ c. ap (is_booked_for table t) (e c)) in omega (arith, booked t);
  placed = λ k low. let none = count_none (λ c. is_with k (f c)) table.cores (λ c. ap (is_with k) (e c)) in omega (arith, placed k);
  awaited = λ t low. let none = count_none (λ c. leaves_for t (f c)) table.cores (λ c. ap (leaves_for t) (e c)) in omega (arith, awaited t);
}

-- the counts are those of the holders that the actions give
pub Surveys_agree : (table : Table) (h : Holding) (x : List Action) (s : Survey) → table.cores ≤ 128 → HoldersAgree h x →
    Surveys table (holder_in h) s → Surveys table (holder_of x) s
Surveys_agree table h x s few a v = record {
  held = λ t low. v.held t low ∙ count_same (λ c. is_held_for table t (holder_of x c)) (λ c. is_held_for table t (holder_in h c)) table.cores
      (λ c lt. ap (is_held_for table t) (a.holders c (omega arith)) ∙ held_as_kept table t (holder_of x c));
  booked = λ t low. v.booked t low ∙ count_same (λ c. is_booked_for table t (holder_of x c)) (λ c. is_booked_for table t (holder_in h c)) table.cores
      (λ c lt. ap (is_booked_for table t) (a.holders c (omega arith)) ∙ booked_as_kept table t (holder_of x c));
  placed = λ k low. v.placed k low ∙ count_same (λ c. is_with k (holder_of x c)) (λ c. is_with k (holder_in h c)) table.cores
      (λ c lt. ap (is_with k) (a.holders c (omega arith)) ∙ with_as_kept k (holder_of x c));
  awaited = λ t low. v.awaited t low ∙ count_same (λ c. leaves_for t (holder_of x c)) (λ c. leaves_for t (holder_in h c)) table.cores
      (λ c lt. ap (leaves_for t) (a.holders c (omega arith)) ∙ leaves_as_kept t (holder_of x c));
}
