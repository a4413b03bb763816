-- The turns of a round, one thread after the other.
use Rattle.cal_paced.proofs.Common.{◌≡◌, ◌≢◌, ℕ, zero, suc, ◌+◌, ◌*◌, ◌/◌, ◌<◌, ◌≤◌, ◌⊎◌, inl, inr, ⊎_elim, Bool, true, false, ◌&&◌, nat_le, if◌then◌else◌, Option, Some, None, List, [], ◌∷◌, length, map, replicate, refl, sym, ap, subst, ◌∙◌, arith, nat_lt, slice_index, slice_get, set, div-le_of_le-mul, cases_lt, nat_tests, length-set, slice_get_within, core_in_turn, turned_on, KernelView, Answers, AreAnswers, MOST_CORES, Request, request_at, Worker, Arrivals, AreBelowWhole, standings_of, SlowsNobody, IsRound, IsTurnBy, Standing, comes_to_turn, left_over, threads_of, all_bring, is_at_work, is_beside_work, last_record, memory_part, share, Plan, WHOLE}
use Rattle.cal_kthread.specs.declared.turn.current.Current.{Current}
use Rattle.cal_sched.proofs.Lists.{slice_get-set_other, slice_get-set_same}

-- where it comes to a turn's work is by the shares on the cores of a machine alone
comes-by : (core : ℕ) (b x y : Bool) → nat_lt core MOST_CORES ≡ b → (core < MOST_CORES → x ≡ y) → (b && x) ≡ (b && y)
comes-by core true x y is same = same (grind (arith, nat_tests))
comes-by core false x y is same = refl

pub comes-same : (saved : ℕ) (f g : ℕ → ℕ) (core : ℕ) → (core < MOST_CORES → f core ≡ g core) → comes_to_turn saved f core ≡ comes_to_turn saved g core
comes-same saved f g core same = comes-by core (nat_lt core MOST_CORES) (nat_le WHOLE (saved + f core)) (nat_le WHOLE (saved + g core)) refl (λ low. ap (λ (n : ℕ). nat_le WHOLE (saved + n)) (same low))

-- a turn on the cores where it comes to a turn's work
pub turn-by : (now : ℕ) (request : Option Request) (shares : ℕ → ℕ) (saved left : ℕ) (works : ℕ → Bool) (answers : Answers) (was is : KernelView)
    → ((core : ℕ) → works core ≡ comes_to_turn saved shares core) → AreAnswers answers was → is ≡ turned_on works now request answers was
    → left ≡ left_over saved shares (core_in_turn now request answers was) is.thread.current
    → IsTurnBy now request shares (record { thread = was; saved = saved }) (record { thread = is; saved = left })
turn-by now request shares saved left works answers was is agree are turned rest = record {
  answers = answers;
  are = are;
  thread = turned ∙ (λ i. turned_on (λ core. agree core i) now request answers was);
  saved = rest;
}

-- by a plan that slows nobody each share is a whole turn's work
either : (b : Bool) (n : ℕ) → n ≡ WHOLE → (if b then n else WHOLE) ≡ WHOLE
either true n is = is
either false n is = refl

pub whole-shares : (plan : Plan) (threads : List KernelView) (k : KernelView) (core : ℕ) → SlowsNobody plan → share plan threads k core ≡ WHOLE
whole-shares plan threads k core nobody =
    let beside = either (is_beside_work threads core) plan.beside nobody.0 in
    let memory = either (is_at_work (last_record k)) (memory_part plan.memory (all_bring threads)) (ap (λ (m : Option ℕ). memory_part m (all_bring threads)) nobody.1) in
    λ i. beside i * memory i / WHOLE

whole-comes : (core : ℕ) (share : ℕ) → share ≡ WHOLE → nat_lt core MOST_CORES ≡ (nat_lt core MOST_CORES && nat_le WHOLE (0 + share))
whole-comes core share is = rw is (keep (nat_lt core MOST_CORES))
  where
    keep : (b : Bool) → b ≡ (b && nat_le WHOLE (0 + WHOLE))
    keep true = refl
    keep false = refl

nothing-left : (shares : ℕ → ℕ) (core : Option ℕ) (current : Option Current) → ((c : ℕ) → shares c ≡ WHOLE) → 0 ≡ left_over 0 shares core current
nothing-left shares None current whole = refl
nothing-left shares (Some c) None whole = rw (whole c) refl
nothing-left shares (Some c) (Some current) whole = rw (whole c) refl

-- so a turn on all cores is one by it, after which nothing is left over
pub turn-by-nobody : (plan : Plan) (threads : List KernelView) (now : ℕ) (request : Option Request) (works : ℕ → Bool) (answers : Answers) (was is : KernelView)
    → SlowsNobody plan → ((core : ℕ) → works core ≡ nat_lt core MOST_CORES) → AreAnswers answers was → is ≡ turned_on works now request answers was
    → IsTurnBy now request (share plan threads was) (record { thread = was; saved = 0 }) (record { thread = is; saved = 0 })
turn-by-nobody plan threads now request works answers was is nobody all are turned =
    turn-by now request (share plan threads was) 0 0 works answers was is (λ core. all core ∙ whole-comes core (share plan threads was core) (whole-shares plan threads was core nobody)) are turned
    (nothing-left (share plan threads was) (core_in_turn now request answers was) is.thread.current (λ c. whole-shares plan threads was c nobody))

-- the first k threads made the turn, by what all were before the round; the others are as they were
pub record StoodUpTo (plan : Plan) (arrivals : Arrivals) (j k : ℕ) (before workers : List Worker) (old saved : List ℕ) : Type 0 where
  pub many : length workers ≡ length before
  pub kept : length saved ≡ length old
  pub done : (i : ℕ) (was is : Worker) (o s : ℕ) → i < k → slice_get before i ≡ Some was → slice_get workers i ≡ Some is → slice_get old i ≡ Some o → slice_get saved i ≡ Some s →
      IsTurnBy (slice_index arrivals.turns j) (request_at arrivals.requests i j) (share plan (map (λ (w : Worker). w.thread) before) was.thread)
      (record { thread = was.thread; saved = o }) (record { thread = is.thread; saved = s })
  pub left : (i : ℕ) → k ≤ i → slice_get workers i ≡ slice_get before i
  pub same : (i : ℕ) → k ≤ i → slice_get saved i ≡ slice_get old i

pub none-stood : (plan : Plan) (arrivals : Arrivals) (j : ℕ) (workers : List Worker) (saved : List ℕ) → StoodUpTo plan arrivals j 0 workers workers saved saved
none-stood plan arrivals j workers saved = record {
  many = refl;
  kept = refl;
  done = λ i was is o s low a b d e. absurd (omega (arith, low));
  left = λ i low. refl;
  same = λ i low. refl;
}

-- a place of a list one of whose members was changed
pub at-set : {X : Type 0} (xs : List X) (k i : ℕ) (x y : X) → k < length xs → slice_get (set xs k x) i ≡ Some y → ((i ≡ k) × (x ≡ y)) ⊎ ((i ≢ k) × (slice_get xs i ≡ Some y))
at-set xs k i x y low at = ⊎_elim
    (λ less. let off : i ≢ k = (λ same. absurd (omega (arith, less, same))) in inr (off, sym (slice_get-set_other xs k i x off) ∙ at))
    (λ more. ⊎_elim
    (λ (less : k < i). let off : i ≢ k = (λ same. absurd (omega (arith, less, same))) in inr (off, sym (slice_get-set_other xs k i x off) ∙ at))
    (λ (more2 : i ≤ k).
    let here : i ≡ k = omega (arith, more, more2) in
    let P : ℕ → Type 0 = λ n. slice_get (set xs k x) n ≡ Some y in
    let both = sym (slice_get-set_same xs k x low) ∙ subst P here at in
    let same : x ≡ y = cc in inl (here, same))
    (cases_lt k i))
    (cases_lt i k)

pub one-stood : (plan : Plan) (arrivals : Arrivals) (j k : ℕ) (before workers : List Worker) (old saved : List ℕ) (was is : Worker) (o s : ℕ)
    → StoodUpTo plan arrivals j k before workers old saved → slice_get workers k ≡ Some was → slice_get saved k ≡ Some o
    → IsTurnBy (slice_index arrivals.turns j) (request_at arrivals.requests k j) (share plan (map (λ (w : Worker). w.thread) before) was.thread)
    (record { thread = was.thread; saved = o }) (record { thread = is.thread; saved = s })
    → StoodUpTo plan arrivals j (k + 1) before (set workers k is) old (set saved k s)
one-stood plan arrivals j k before workers old saved was is o s so_far at there turn = record {
  many = length-set workers k is ∙ so_far.many;
  kept = length-set saved k s ∙ so_far.kept;
  done = λ i w v p q low a b d e. go i w v p q low a d (at-set workers k i is v (slice_get_within workers k was at) b) (at-set saved k i s q (slice_get_within saved k o there) e);
  left = λ i high. slice_get-set_other workers k i is (λ same. absurd (omega (arith, high, same))) ∙ so_far.left i (omega (arith, high));
  same = λ i high. slice_get-set_other saved k i s (λ same. absurd (omega (arith, high, same))) ∙ so_far.same i (omega (arith, high));
}
  where
    Turn : ℕ → Worker → Worker → ℕ → ℕ → Type 0
    Turn i w v p q = IsTurnBy (slice_index arrivals.turns j) (request_at arrivals.requests i j) (share plan (map (λ (w : Worker). w.thread) before) w.thread)
        (record { thread = w.thread; saved = p }) (record { thread = v.thread; saved = q })

    go : (i : ℕ) (w v : Worker) (p q : ℕ) → i < k + 1 → slice_get before i ≡ Some w → slice_get old i ≡ Some p
        → ((i ≡ k) × (is ≡ v)) ⊎ ((i ≢ k) × (slice_get workers i ≡ Some v)) → ((i ≡ k) × (s ≡ q)) ⊎ ((i ≢ k) × (slice_get saved i ≡ Some q)) → Turn i w v p q
    go i w v p q low a d (inl here) (inl here2) =
        let P : ℕ → Type 0 = λ n. slice_get before n ≡ Some w in
        let Q : ℕ → Type 0 = λ n. slice_get old n ≡ Some p in
        let first = sym (subst P here.0 a) ∙ sym (so_far.left k (omega arith)) ∙ at in
        let second = sym (subst Q here.0 d) ∙ sym (so_far.same k (omega arith)) ∙ there in
        let w-is : w ≡ was = cc in
        let p-is : p ≡ o = cc in
        let T : ℕ → Type 0 = λ n. Turn n w v p q in
        subst T (sym here.0) (subst (λ (x : Worker). Turn k x v p q) (sym w-is) (subst (λ (n : ℕ). Turn k was v n q) (sym p-is) (subst (λ (x : Worker). Turn k was x o q) here.1 (subst (λ (n : ℕ). Turn k was is o n) here2.1 turn))))
    go i w v p q low a d (inl here) (inr other) = absurd (other.0 here.0)
    go i w v p q low a d (inr other) (inl here) = absurd (other.0 here.0)
    go i w v p q low a d (inr other) (inr other2) = ⊎_elim (λ less. so_far.done i w v p q less a other.1 d other2.1)
        (λ (more : k ≤ i). absurd (other.0 (omega (arith, low, more)))) (cases_lt i k)

-- a standing is that of a thread and of what is left over at its place
pub standing-at : (workers : List Worker) (saved : List ℕ) (k : ℕ) (standing : Standing) → slice_get (standings_of workers saved) k ≡ Some standing
    → (w : Worker) × (s : ℕ) × (slice_get workers k ≡ Some w) × (slice_get saved k ≡ Some s) × (◌≡◌ {A = Standing} (record { thread = w.thread; saved = s }) standing)
standing-at [] [] k standing at = absurd (cc)
standing-at [] (s ∷ ss) k standing at = absurd (cc)
standing-at (w ∷ ws) [] k standing at = absurd (cc)
standing-at (w ∷ ws) (s ∷ ss) zero standing at = (w, s, refl, refl, cc)
standing-at (w ∷ ws) (s ∷ ss) (suc k) standing at = standing-at ws ss k standing at

pub length-standings : (workers : List Worker) (saved : List ℕ) → length saved ≡ length workers → length (standings_of workers saved) ≡ length workers
length-standings [] [] same = refl
length-standings [] (s ∷ ss) same = refl
length-standings (w ∷ ws) [] same = absurd (omega (arith, same))
length-standings (w ∷ ws) (s ∷ ss) same = ap suc (length-standings ws ss (omega (arith, same)))

pub threads-of-standings : (workers : List Worker) (saved : List ℕ) → length saved ≡ length workers → threads_of (standings_of workers saved) ≡ map (λ (w : Worker). w.thread) workers
threads-of-standings [] [] same = refl
threads-of-standings [] (s ∷ ss) same = refl
threads-of-standings (w ∷ ws) [] same = absurd (omega (arith, same))
threads-of-standings (w ∷ ws) (s ∷ ss) same = ap (λ (l : List KernelView). w.thread ∷ l) (threads-of-standings ws ss (omega (arith, same)))

-- so all turns are a round
pub all-stood : (plan : Plan) (arrivals : Arrivals) (j k : ℕ) (before workers : List Worker) (old saved : List ℕ) → length old ≡ length before
    → StoodUpTo plan arrivals j k before workers old saved → length workers ≤ k
    → IsRound plan arrivals j (standings_of before old) (standings_of workers saved)
all-stood plan arrivals j k before workers old saved count so_far end = record {
  many = let a = length-standings before old count in
      let m = so_far.many in
      let n = so_far.kept in
      let b = length-standings workers saved (omega (arith, count, m, n)) in omega (arith, a, b, m);
  each = λ i was is at there.
      let w = standing-at before old i was at in
      let v = standing-at workers saved i is there in
      let low = slice_get_within workers i v.0 v.2 in
      let turn = so_far.done i w.0 v.0 w.1 v.1 (omega (arith, low, end)) w.2 v.2 w.3 v.3 in
      let threads = threads-of-standings before old count in
      let P : Standing → Standing → List KernelView → Type 0 = λ x y l. IsTurnBy (slice_index arrivals.turns j) (request_at arrivals.requests i j) (share plan l x.thread) x y in
      let one : P was (record { thread = v.0.thread; saved = v.1 }) (map (λ (w : Worker). w.thread) before) =
      subst (λ (x : Standing). P x (record { thread = v.0.thread; saved = v.1 }) (map (λ (w : Worker). w.thread) before)) w.4 turn in
      subst (λ (l : List KernelView). P was is l) (sym threads) (subst (λ (y : Standing). P was y (map (λ (w : Worker). w.thread) before)) v.4 one);
}

-- nothing is left over of any thread
pub nothing-at : (n k : ℕ) (saved : List ℕ) → saved ≡ replicate n 0 → k < n → slice_get saved k ≡ Some 0
nothing-at n k saved none low = let P : List ℕ → Type 0 = λ l. slice_get l k ≡ Some 0 in subst P (sym none) (zeros n k low)
  where
    zeros : (n k : ℕ) → k < n → slice_get {X = ℕ} (replicate n 0) k ≡ Some 0
    zeros zero k low = absurd (omega (arith, low))
    zeros (suc n) zero low = refl
    zeros (suc n) (suc k) low = zeros n k (omega (arith, low))

pub set-same : (xs : List ℕ) (k x : ℕ) → slice_get xs k ≡ Some x → set xs k x ≡ xs
set-same [] k x at = refl
set-same (y ∷ ys) zero x at = let same : y ≡ x = cc in ap (λ (z : ℕ). z ∷ ys) (sym same)
set-same (y ∷ ys) (suc k) x at = ap (λ (zs : List ℕ). y ∷ zs) (set-same ys k x at)

-- each amount is below a turn's whole work still where one of them changed
pub below-set : (saved : List ℕ) (k s : ℕ) → k < length saved → AreBelowWhole saved → s < WHOLE → AreBelowWhole (set saved k s)
below-set saved k s low below less i amount at = ⊎_elim
    (λ (here : (i ≡ k) × (s ≡ amount)). let same = here.1 in omega (arith, less, same))
    (λ (other : (i ≢ k) × (slice_get saved i ≡ Some amount)). below i amount other.1)
    (at-set saved k i s amount low at)

-- what memory bears is a turn's whole work at most
pub memory-within : (plan : Plan) (threads : List KernelView) → memory_part plan.memory (all_bring threads) ≤ WHOLE
memory-within plan threads = go plan.memory (all_bring threads)
  where
    part : (most misses : ℕ) → most < misses → most * WHOLE / misses ≤ WHOLE
    part most misses less = div-le_of_le-mul misses {m = most * WHOLE} {n = WHOLE} (omega (arith, less))

    either-way : (most misses : ℕ) (b : Bool) → nat_lt most misses ≡ b → (if b then most * WHOLE / misses else WHOLE) ≤ WHOLE
    either-way most misses true is = part most misses (grind (arith, nat_tests))
    either-way most misses false is = omega arith

    go : (memory : Option ℕ) (misses : ℕ) → memory_part memory misses ≤ WHOLE
    go None misses = omega arith
    go (Some most) misses = either-way most misses (nat_lt most misses) refl
