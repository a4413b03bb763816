-- The choice among the idle cores, each class looked for by itself.
use Rattle.cal_policy.proofs.Common.{◌≡◌, ℕ, ◌<◌, ◌≤◌, ◌&&◌, not, Bool, true, false, cond, List, Option, Some, None, refl, ap, sym, subst, ◌∙◌, arith, IsStrictWeakOrder-by_number, Table, has, sibling_of, Action, Holder, Held, Leaving, Board, Candidate, CoreClass, holder_of, last_thread, is_banned, class_number, comes_before, is_free, is_held, is_held_for, Opens, is_idle_by, holder_in, Agrees, Stands, Setting, so_far, best_below, lowest_below, class_among, is_beside_own, was_own_last, class_of, class_by, idle_class, is_thread_for}
use Rattle.cal_policy.specs.declared.board.holders.Holder.TheVariants.{Free}
use Rattle.cal_policy.specs.declared.history.core_class.CoreClass.TheVariants as classes
use Rattle.cal_policy.proofs.BoardLemmas.AsKept.{held_as_kept}
use Rattle.cal_policy.proofs.BoardLemmas.StateKept.{free_kept}
use Rattle.cal_policy.proofs.ListLemmas.Counted.{lowest_passes, lowest_first, lowest_missing}
use Rattle.cal_policy.proofs.PassLemmas.Best.{best_is}

-- the class of a core by three tests: whether it is idle, whether the task holds the core beside it, and whether it was
-- last granted to the task
abbrev pub class_by_tests : Bool → Bool → Bool → Option CoreClass
class_by_tests idle own last = cond idle (Some (cond own classes.Sibling (cond last classes.RecentlyUsed classes.OtherIdle))) None

none_before : (r : CoreClass) → comes_before r classes.Sibling ≡ false
none_before classes.Sibling = refl
none_before classes.RecentlyUsed = refl
none_before classes.OtherIdle = refl
none_before classes.BestEffortBurstable = refl
none_before classes.LatencyCriticalBurstable = refl

by_class : (P : CoreClass → Type 0) (class r : CoreClass) → Some class ≡ Some r → P class → P r
by_class P class r e p = let same : class ≡ r = cc in subst P same p

sibling_class : (i o l : Bool) → (i && o) ≡ true → class_by_tests i o l ≡ Some classes.Sibling
sibling_class false o l e = cc
sibling_class true false l e = cc
sibling_class true true l e = refl

recent_class : (i o l : Bool) → (i && o) ≡ false → (i && l) ≡ true → class_by_tests i o l ≡ Some classes.RecentlyUsed
recent_class false o l e f = cc
recent_class true true l e f = cc
recent_class true false false e f = cc
recent_class true false true e f = refl

other_class : (i o l : Bool) → (i && o) ≡ false → (i && l) ≡ false → i ≡ true → class_by_tests i o l ≡ Some classes.OtherIdle
other_class false o l e f g = cc
other_class true true l e f g = cc
other_class true false true e f g = cc
other_class true false false e f g = refl

-- a core that the task does not hold the sibling of has no class that comes before these two
past_sibling : (P : CoreClass → Type 0) (i o l : Bool) (r : CoreClass) → (i && o) ≡ false → class_by_tests i o l ≡ Some r → P classes.RecentlyUsed → P classes.OtherIdle → P r
past_sibling P false o l r e f p q = cc
past_sibling P true true l r e f p q = cc
past_sibling P true false true r e f p q = by_class P classes.RecentlyUsed r f p
past_sibling P true false false r e f p q = by_class P classes.OtherIdle r f q

past_recent : (P : CoreClass → Type 0) (i o l : Bool) (r : CoreClass) → (i && o) ≡ false → (i && l) ≡ false → class_by_tests i o l ≡ Some r → P classes.OtherIdle → P r
past_recent P false o l r e g f q = cc
past_recent P true true l r e g f q = cc
past_recent P true false true r e g f q = cc
past_recent P true false false r e g f q = by_class P classes.OtherIdle r f q

past_idle : (P : CoreClass → Type 0) (i o l : Bool) (r : CoreClass) → i ≡ false → class_by_tests i o l ≡ Some r → P r
past_idle P false o l r e f = cc
past_idle P true o l r e f = cc

-- the tests give the class of each number below n
abbrev pub IsByTests : (ℕ → Option CoreClass) → (ℕ → Bool) → (ℕ → Bool) → (ℕ → Bool) → ℕ → Type 0
IsByTests f i o l n = (c : ℕ) → c < n → f c ≡ class_by_tests (i c) (o c) (l c)

-- the lowest idle core beside one of the task's own is the best
best_beside : (f : ℕ → Option CoreClass) (i o l : ℕ → Bool) (n c : ℕ) → IsByTests f i o l n → lowest_below (λ k. i k && o k) n ≡ Some c →
    Some (record { rank = classes.Sibling; number = c }) ≡ best_below comes_before f n
best_beside f i o l n c by e =
    let own : ℕ → Bool = λ k. i k && o k in
    let found = lowest_passes own n c e in
    let best : Candidate CoreClass = record { rank = classes.Sibling; number = c } in
    best_is comes_before f (IsStrictWeakOrder-by_number class_number) n best (record {
      below = found.0;
      ranked = by c found.0 ∙ sibling_class (i c) (o c) (l c) found.1;
      unbeaten = λ k r lt g. none_before r;
      first = λ k r lt g. past_sibling (λ r. comes_before classes.Sibling r ≡ true) (i k) (o k) (l k) r (lowest_first own n c k e lt)
          (sym (by k (omega (arith, lt, found.0))) ∙ g) refl refl;
    })

-- else the lowest one that was last granted to the task
best_again : (f : ℕ → Option CoreClass) (i o l : ℕ → Bool) (n c : ℕ) → IsByTests f i o l n → lowest_below (λ k. i k && o k) n ≡ None →
    lowest_below (λ k. i k && l k) n ≡ Some c →
    Some (record { rank = classes.RecentlyUsed; number = c }) ≡ best_below comes_before f n
best_again f i o l n c by none e =
    let own : ℕ → Bool = λ k. i k && o k in
    let last : ℕ → Bool = λ k. i k && l k in
    let found = lowest_passes last n c e in
    let best : Candidate CoreClass = record { rank = classes.RecentlyUsed; number = c } in
    best_is comes_before f (IsStrictWeakOrder-by_number class_number) n best (record {
      below = found.0;
      ranked = by c found.0 ∙ recent_class (i c) (o c) (l c) (lowest_missing own n c none found.0) found.1;
      unbeaten = λ k r lt g. past_sibling (λ r. comes_before r classes.RecentlyUsed ≡ false) (i k) (o k) (l k) r (lowest_missing own n k none lt)
          (sym (by k lt) ∙ g) refl refl;
      first = λ k r lt g.
          let low : k < n = omega (arith, lt, found.0) in
          past_recent (λ r. comes_before classes.RecentlyUsed r ≡ true) (i k) (o k) (l k) r (lowest_missing own n k none low) (lowest_first last n c k e lt)
          (sym (by k low) ∙ g) refl;
    })

-- else the lowest one
best_other : (f : ℕ → Option CoreClass) (i o l : ℕ → Bool) (n c : ℕ) → IsByTests f i o l n → lowest_below (λ k. i k && o k) n ≡ None →
    lowest_below (λ k. i k && l k) n ≡ None → c < n → i c ≡ true → ((k : ℕ) → k < c → i k ≡ false) →
    Some (record { rank = classes.OtherIdle; number = c }) ≡ best_below comes_before f n
best_other f i o l n c by none past lt member between =
    let own : ℕ → Bool = λ k. i k && o k in
    let last : ℕ → Bool = λ k. i k && l k in
    let best : Candidate CoreClass = record { rank = classes.OtherIdle; number = c } in
    best_is comes_before f (IsStrictWeakOrder-by_number class_number) n best (record {
      below = lt;
      ranked = by c lt ∙ other_class (i c) (o c) (l c) (lowest_missing own n c none lt) (lowest_missing last n c past lt) member;
      unbeaten = λ k r low g. past_recent (λ r. comes_before r classes.OtherIdle ≡ false) (i k) (o k) (l k) r
          (lowest_missing own n k none low) (lowest_missing last n k past low) (sym (by k low) ∙ g) refl;
      first = λ k r less g. past_idle (λ r. comes_before classes.OtherIdle r ≡ true) (i k) (o k) (l k) r (between k less)
          (sym (by k (omega (arith, less, lt))) ∙ g);
    })

idle_class_by : (s : Setting) (acts : List Action) (t c : ℕ) (h : Holder) (banned : Bool) → banned ≡ is_banned (so_far s acts) c →
    (is_free h && not banned) ≡ true →
    class_by s acts t c h ≡ Some (idle_class s.table t (holder_of (so_far s acts) (sibling_of c)) (last_thread (so_far s acts) c))
idle_class_by s acts t c Free true e f = cc
idle_class_by s acts t c Free false e f = rw (← e) refl
idle_class_by s acts t c (Held p) banned e f = cc
idle_class_by s acts t c (Leaving p cause) banned e f = cc

pub by_member : (b : Board) (s : Setting) (acts : List Action) (t c : ℕ) → c < 128 → Stands b s acts → Opens (holder_in b.holding) b.sets.banned b.open_cores →
    (w : Bool) → has b.open_cores.idle c ≡ w →
    cond w (class_of s acts t c) None
    ≡ class_by_tests w (is_held_for s.table t (holder_of (so_far s acts) (sibling_of c))) (is_thread_for s.table t (last_thread (so_far s acts) c))
by_member b s acts t c lt st opens false e = refl
by_member b s acts t c lt st opens true e =
    let h = holder_of (so_far s acts) c in
    let free : is_free (holder_in b.holding c) ≡ is_free h = ap is_free (st.agrees.holding.holders c lt) ∙ free_kept h in
    idle_class_by s acts t c h (has b.sets.banned c) (st.agrees.banned.banned c lt)
    (sym (ap (λ w. w && not (has b.sets.banned c)) free) ∙ sym (opens.idle c lt) ∙ e)

-- the three tests of a core of the board
by_tests : (b : Board) (s : Setting) (acts : List Action) (t n : ℕ) → n ≤ 128 → Stands b s acts → Opens (holder_in b.holding) b.sets.banned b.open_cores →
    IsByTests (class_among b.open_cores.idle s acts t) (has b.open_cores.idle) (λ k. is_held_for s.table t (holder_of (so_far s acts) (sibling_of k)))
    (λ k. is_thread_for s.table t (last_thread (so_far s acts) k)) n
by_tests b s acts t n few st opens = λ c lt. by_member b s acts t c (omega (arith, lt, few)) st opens (has b.open_cores.idle c) refl

pub chosen_beside : (b : Board) (s : Setting) (acts : List Action) (t n c : ℕ) → n ≤ 128 → Stands b s acts → Opens (holder_in b.holding) b.sets.banned b.open_cores →
    Some c ≡ lowest_below (is_beside_own b.open_cores.idle s.table (so_far s acts) t) n →
    Some (record { rank = classes.Sibling; number = c }) ≡ best_below comes_before (class_among b.open_cores.idle s acts t) n
chosen_beside b s acts t n c few st opens e = best_beside _ _ _ _ n c (by_tests b s acts t n few st opens) (sym e)

pub chosen_again : (b : Board) (s : Setting) (acts : List Action) (t n c : ℕ) → n ≤ 128 → Stands b s acts → Opens (holder_in b.holding) b.sets.banned b.open_cores →
    None ≡ lowest_below (is_beside_own b.open_cores.idle s.table (so_far s acts) t) n →
    Some c ≡ lowest_below (was_own_last b.open_cores.idle s.table (so_far s acts) t) n →
    Some (record { rank = classes.RecentlyUsed; number = c }) ≡ best_below comes_before (class_among b.open_cores.idle s acts t) n
chosen_again b s acts t n c few st opens none e = best_again _ _ _ _ n c (by_tests b s acts t n few st opens) (sym none) (sym e)

pub chosen_other : (b : Board) (s : Setting) (acts : List Action) (t n c : ℕ) → n ≤ 128 → Stands b s acts → Opens (holder_in b.holding) b.sets.banned b.open_cores →
    None ≡ lowest_below (is_beside_own b.open_cores.idle s.table (so_far s acts) t) n →
    None ≡ lowest_below (was_own_last b.open_cores.idle s.table (so_far s acts) t) n →
    c < n → has b.open_cores.idle c ≡ true → ((k : ℕ) → k < c → has b.open_cores.idle k ≡ false) →
    Some (record { rank = classes.OtherIdle; number = c }) ≡ best_below comes_before (class_among b.open_cores.idle s acts t) n
chosen_other b s acts t n c few st opens none past lt member between =
    best_other _ _ _ _ n c (by_tests b s acts t n few st opens) (sym none) (sym past) lt member between

held_only : (table : Table) (t : ℕ) (i : Bool) (h : Holder) → (i && is_held h) ≡ false → (i && is_held_for table t h) ≡ false
held_only table t false h e = refl
held_only table t true Free e = refl
held_only table t true (Held p) e = cc
held_only table t true (Leaving p cause) e = refl

first_part : (a b : Bool) → (a && b) ≡ true → a ≡ true
first_part true b e = refl
first_part false b e = cc

pub both_parts : (a b : Bool) → a ≡ true → b ≡ true → (a && b) ≡ true
both_parts true true e f = refl
both_parts true false e f = cc
both_parts false b e f = cc

-- an idle core beside one that is not held is beside none of the task's
pub not_beside : (b : Board) (table : Table) (x : List Action) (t c : ℕ) → c < 128 → sibling_of c < 128 → Agrees b x → Opens (holder_in b.holding) b.sets.banned b.open_cores →
    has b.open_cores.beside_held c ≡ false → is_beside_own b.open_cores.idle table x t c ≡ false
not_beside b table x t c lt low a opens e =
    let kept = holder_in b.holding (sibling_of c) in
    let idle = is_idle_by (holder_in b.holding) b.sets.banned c in
    let h = holder_of x (sibling_of c) in
    let held : is_held_for table t kept ≡ is_held_for table t h = ap (is_held_for table t) (a.holding.holders (sibling_of c) low) ∙ held_as_kept table t h in
    ap (λ w. w && is_held_for table t h) (opens.idle c lt) ∙ sym (ap (λ w. idle && w) held) ∙ held_only table t idle kept (sym (opens.beside c lt) ∙ e)

-- one beside one that is held is idle
pub idle_beside_held : (b : Board) (c : ℕ) → c < 128 → Opens (holder_in b.holding) b.sets.banned b.open_cores → has b.open_cores.beside_held c ≡ true →
    has b.open_cores.idle c ≡ true
idle_beside_held b c lt opens e = opens.idle c lt ∙ first_part _ _ (sym (opens.beside c lt) ∙ e)

pub none_where : (a b : Bool) → a ≡ false → (a && b) ≡ false
none_where false b e = refl
none_where true b e = cc

pub fails : (a b : Bool) → b ≡ false → (a && b) ≡ false
fails false b e = refl
fails true b e = e
