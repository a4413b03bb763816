-- Looks taken one by one fit, and those that are refused leave no trace.
use Rattle.cal_policy.proofs.Common.{◌≡◌, ◌≢◌, ℕ, ◌+◌, ◌<◌, ◌==◌, nat_lt, zero, suc, Bool, true, false, not, cond, List, [], ◌∷◌, length, map, Option, Some, None, slice_get, inl, refl, sym, ap, subst, ◌∙◌, arith, ◌↔◌, true≢false, is_some, option_or, unwrap_or, enumerate_from, length-map, Table, Record, Shown, Look, le-leb, lt-ltb, eq-eqb, IsLater, is_same, IsFitShown, IsShownAfter, Seen, Whole, Busy, Ahead, Foreign, PassEntry, FoundLook, actions_of, looks_of, sent_to, kept_by, last_shown, look_of, judged, is_foreign, IsFitLook, rooms_found, misfit_of, misfit_of_record, fault_of, fault_judged, taken_look, taken_found, taken_looks, taken_input}
use Rattle.std.proofs.lemmas.List.FromFn.{length-enumerate_from}
use Rattle.cal_signal.specs.declared.look.Look.TheVariants as found
use Rattle.cal_signal.specs.Tests.{is_shaped, is_later, is_shown_after, is_busy_pair}
use Rattle.cal_signal.proofs.Testing.{shaped_holds, shaped_test, follows_holds, pair_holds, pair_test}
use Rattle.cal_policy.specs.declared.judgement.look_fault.LookFault.{LookFault}
use Rattle.cal_policy.specs.declared.judgement.look_fault.LookFault.TheVariants as faults
use Rattle.cal_policy.specs.Judgement.Taken.{MisfitsDoNotFit, OnlyFaultsAreRefused, TakenInputFits, OthersCountAsGiven, RoomsCountAsGiven, RefusedLeavesNoTrace}
use Rattle.cal_policy.proofs.HistoryLemmas.OneMore.{kept_push, shown_push}
use Rattle.cal_policy.proofs.JudgementLemmas.OpenInput.{length-judged_looks, made_as_judged}
use Rattle.cal_policy.proofs.BoardLemmas.Replayed.{looks_push}

-- a record is no misfit where it is shaped and may be shown next
record_fits : (last : Shown) (number : ℕ) (rec : Record) (shape follows below same : Bool) →
    is_shaped rec ≡ shape → is_shown_after last (record { number = number; rec = rec }) ≡ follows →
    ◌≡◌ {A = Option LookFault} (cond (not shape) (Some faults.Misshapen) (cond follows None (cond below (Some faults.PlaceFell) (cond same (Some faults.Changed) (Some faults.WordFell))))) None →
    IsFitShown last (record { number = number; rec = rec })
record_fits last number rec true true below same s f e = (shaped_holds rec s, follows_holds last (record { number = number; rec = rec }) f)
record_fits last number rec true false true same s f e = cc
record_fits last number rec true false false true s f e = cc
record_fits last number rec true false false false s f e = cc
record_fits last number rec false follows below same s f e = cc

no_misfit_fits : (last : Shown) (number : ℕ) (rec : Record) → misfit_of_record last number rec ≡ None → IsFitShown last (record { number = number; rec = rec })
no_misfit_fits last number rec e =
    record_fits last number rec (is_shaped rec) (is_shown_after last (record { number = number; rec = rec })) (nat_lt number last.number) (number == last.number) refl refl e

fits_no_misfit : (last : Shown) (number : ℕ) (rec : Record) → is_shaped rec ≡ true → is_shown_after last (record { number = number; rec = rec }) ≡ true → misfit_of_record last number rec ≡ None
fits_no_misfit last number rec s f = rw (s, f) refl

same_itself : (a : Record) → is_same a a ≡ true
same_itself a =
    rw (
      eq-eqb a.taken a.taken refl,
      eq-eqb a.running a.running refl,
      eq-eqb a.queued a.queued refl,
      eq-eqb a.oldest a.oldest refl,
      eq-eqb a.started a.started refl,
      eq-eqb a.misses a.misses refl,
      eq-eqb a.stamp a.stamp refl,
      eq-eqb a.paused a.paused refl,
      eq-eqb a.since a.since refl,
    ) refl

later_test : (a b : Record) → IsLater a b → is_later a b ≡ true
later_test a b l = rw (le-leb a.taken b.taken l.0, le-leb a.misses b.misses l.1, le-leb a.stamp b.stamp l.2) refl

-- what may be shown next passes the test
pub follows_test : (a b : Shown) → IsShownAfter a b → is_shown_after a b ≡ true
follows_test a b h = go (a.number == b.number) refl
  where
    go : (e : Bool) → (a.number == b.number) ≡ e → is_shown_after a b ≡ true
    go true is =
        let at : a.number ≡ b.number = grind (arith, is) in
        let same : is_same a.rec b.rec ≡ true = subst (λ (r : Record). is_same a.rec r ≡ true) (h.same at) (same_itself a.rec) in
        rw (is, same) refl
    go false is =
        let not_at : a.number ≢ b.number = λ at. true≢false (sym (eq-eqb a.number b.number at) ∙ is) in
        let above : a.number < b.number = omega (arith, h.not_below, not_at) in
        rw (is, lt-ltb a.number b.number above, later_test a.rec b.rec (h.later above)) refl

fit_no_misfit : (last : Shown) (number : ℕ) (rec : Record) → IsFitShown last (record { number = number; rec = rec }) → misfit_of_record last number rec ≡ None
fit_no_misfit last number rec fit =
    fits_no_misfit last number rec (shaped_test rec fit.0) (follows_test last (record { number = number; rec = rec }) fit.1)

no_pair : (b : Bool) → ◌≡◌ {A = Option LookFault} (cond b None (Some faults.NoPair)) None → b ≡ true
no_pair true e = refl
no_pair false e = cc

-- whatever is judged of a look with a record, the same must fit
fit_judged : (last : Shown) (ahead foreign : Bool) (number : ℕ) (rec : Record) →
    IsFitLook last (cond ahead (Ahead number rec) (cond foreign (Foreign number rec) (Whole number rec))) ↔ IsFitShown last (record { number = number; rec = rec })
fit_judged last true foreign number rec = (λ h. h, λ h. h)
fit_judged last false true number rec = (λ h. h, λ h. h)
fit_judged last false false number rec = (λ h. h, λ h. h)

pub misfits_do_not_fit : MisfitsDoNotFit
misfits_do_not_fit last cores x k (found.Busy first second) = (
  λ e. pair_holds first second (no_pair (is_busy_pair first second) e),
  λ pair. rw (pair_test first second pair) refl,
)
misfits_do_not_fit last cores x k (found.Whole number rec) =
    let same = fit_judged last (nat_lt (sent_to x k) rec.taken) (is_foreign cores x k rec) number rec in
    (λ e. same.1 (no_misfit_fits last number rec e), λ h. fit_no_misfit last number rec (same.0 h))

or_none_is : (a b : Option LookFault) → option_or a b ≡ None → (a ≡ None) × (b ≡ None)
or_none_is None b e = (refl, e)
or_none_is (Some fault) b e = cc

pub only_faults_are_refused : OnlyFaultsAreRefused
only_faults_are_refused cores h k look =
    let last = last_shown (looks_of h) k in
    let fits = misfits_do_not_fit last cores (actions_of h) k look in (
      λ e. let both = or_none_is (misfit_of last look) (fault_judged (judged cores (actions_of h) k look)) e in (fits.0 both.0, both.1),
      λ both. rw (fits.1 both.0) both.1,
    )

-- each place of a list whose members are numbered
numbered : {X Y : Type 0} (f : ℕ × X → Y) (n : ℕ) (xs : List X) (k : ℕ) (x : X) → slice_get xs k ≡ Some x → slice_get (map f (enumerate_from n xs)) k ≡ Some (f (n + k, x))
numbered f n [] k x e = absurd (true≢false (sym (ap is_some e)))
numbered f n (y ∷ ys) zero x e =
    let place : n ≡ n + 0 = omega arith in
    let same : y ≡ x = ap (λ o. unwrap_or o y) e in
    ap Some (ap (λ m. f (m, y)) place ∙ ap (λ z. f (n + 0, z)) same)
numbered f n (y ∷ ys) (suc k) x e =
    let place : n + 1 + k ≡ n + suc k = omega arith in
    numbered f (n + 1) ys k x e ∙ ap (λ m. Some (f (m, x))) place

-- and each member of such a list is of a place
of_number : {X Y : Type 0} (f : ℕ × X → Y) (n : ℕ) (xs : List X) (k : ℕ) (y : Y) → slice_get (map f (enumerate_from n xs)) k ≡ Some y →
    (x : X) × (slice_get xs k ≡ Some x) × (y ≡ f (n + k, x))
of_number f n [] k y e = absurd (true≢false (sym (ap is_some e)))
of_number f n (x ∷ xs) zero y e =
    let place : n ≡ n + 0 = omega arith in
    (x, refl, sym (ap (λ o. unwrap_or o y) e) ∙ ap (λ m. f (m, x)) place)
of_number f n (x ∷ xs) (suc k) y e =
    let found = of_number f (n + 1) xs k y e in
    let place : n + 1 + k ≡ n + suc k = omega arith in
    (found.0, found.1, found.2 ∙ ap (λ m. f (m, found.0)) place)

-- the same of a list that is numbered from 0
pub from_0 : {X Y : Type 0} (f : ℕ × X → Y) (xs : List X) (k : ℕ) (x : X) → slice_get xs k ≡ Some x → slice_get (map f (enumerate_from 0 xs)) k ≡ Some (f (k, x))
from_0 f xs k x e = let zero : 0 + k ≡ k = omega arith in numbered f 0 xs k x e ∙ ap (λ m. Some (f (m, x))) zero

pub of_from_0 : {X Y : Type 0} (f : ℕ × X → Y) (xs : List X) (k : ℕ) (y : Y) → slice_get (map f (enumerate_from 0 xs)) k ≡ Some y →
    (x : X) × (slice_get xs k ≡ Some x) × (y ≡ f (k, x))
of_from_0 f xs k y e =
    let zero : 0 + k ≡ k = omega arith in
    let found = of_number f 0 xs k y e in
    (found.0, found.1, found.2 ∙ ap (λ m. f (m, found.0)) zero)

-- what is taken fits, whatever was found
pub taken_fits : (cores : ℕ) (h : List PassEntry) (k : ℕ) (look : Look) → IsFitLook (last_shown (looks_of h) k) (judged cores (actions_of h) k (taken_look cores h k look))
taken_fits cores h k look = go (fault_of cores h k look) refl
  where
    go : (o : Option LookFault) → fault_of cores h k look ≡ o → IsFitLook (last_shown (looks_of h) k) (judged cores (actions_of h) k (taken_look cores h k look))
    go None is = rw is ((only_faults_are_refused cores h k look).0 is).0
    go (Some fault) is = rw is (inl (refl, refl))

pub taken_at : (table : Table) (h : List PassEntry) (now bandwidth : ℕ) (looks : List FoundLook) (k : ℕ) (one : FoundLook) → slice_get looks k ≡ Some one →
    slice_get (taken_input table h now bandwidth looks).seen k ≡ Some (judged table.cores (actions_of h) k (taken_look table.cores h k one.look))
taken_at table h now bandwidth looks k one at =
    from_0 (λ found. judged table.cores (actions_of h) found.0 found.1.look) (taken_looks table.cores h looks) k (taken_found table.cores h (k, one))
    (from_0 (taken_found table.cores h) looks k one at)

length_taken : (cores : ℕ) (h : List PassEntry) (looks : List FoundLook) → length (taken_looks cores h looks) ≡ length looks
length_taken cores h looks = length-map (enumerate_from 0 looks) (taken_found cores h) ∙ length-enumerate_from 0 looks

pub taken_input_fits : TakenInputFits
taken_input_fits table h now bandwidth looks count = record {
  looks = record {
    looks = length-judged_looks table h (taken_looks table.cores h looks) ∙ length_taken table.cores h looks ∙ count;
    rooms = length-map (taken_looks table.cores h looks) (λ (found : FoundLook). found.room) ∙ length_taken table.cores h looks ∙ count;
    fit = λ k seen e.
        let f : ℕ × FoundLook → Seen = λ found. judged table.cores (actions_of h) found.0 found.1.look in
        let one = of_from_0 f (taken_looks table.cores h looks) k seen e in
        let taken = of_from_0 (taken_found table.cores h) looks k one.0 one.1 in
        let look : one.0.look ≡ taken_look table.cores h k taken.0.look = ap (λ (found : FoundLook). found.look) taken.2 in
        let is : seen ≡ judged table.cores (actions_of h) k (taken_look table.cores h k taken.0.look) = one.2 ∙ ap (λ l. judged table.cores (actions_of h) k l) look in
        subst (λ (s : Seen). IsFitLook (last_shown (looks_of h) k) s) (sym is) (taken_fits table.cores h k taken.0.look);
  };
  as_judged = λ k seen e.
      let zero : 0 + k ≡ k = omega arith in
      made_as_judged table.cores (actions_of h) 0 (taken_looks table.cores h looks) k seen e ∙ ap (λ m. judged table.cores (actions_of h) m (look_of seen)) zero;
}

pub others_count_as_given : OthersCountAsGiven
others_count_as_given table h now bandwidth looks k one at none =
    taken_at table h now bandwidth looks k one at ∙ rw none refl

rooms_from : (cores : ℕ) (h : List PassEntry) (n : ℕ) (looks : List FoundLook) → rooms_found (map (taken_found cores h) (enumerate_from n looks)) ≡ rooms_found looks
rooms_from cores h n [] = refl
rooms_from cores h n (one ∷ looks) = ap (λ rooms. one.room ∷ rooms) (rooms_from cores h (n + 1) looks)

pub rooms_count_as_given : RoomsCountAsGiven
rooms_count_as_given table h now bandwidth looks = rooms_from table.cores h 0 looks

refused_is_busy : (cores : ℕ) (h : List PassEntry) (k : ℕ) (look : Look) → is_some (fault_of cores h k look) ≡ true → judged cores (actions_of h) k (taken_look cores h k look) ≡ Busy 1 1
refused_is_busy cores h k look e = rw e refl

pub refused_leaves_no_trace : RefusedLeavesNoTrace
refused_leaves_no_trace table h now bandwidth looks acts k one at refused =
    let input = taken_input table h now bandwidth looks in
    let entry : PassEntry = record { input = input; actions = acts } in
    let busy : slice_get input.seen k ≡ Some (Busy 1 1) = taken_at table h now bandwidth looks k one at ∙ ap Some (refused_is_busy table.cores h k one.look refused) in
    record {
      kept = ap (λ looks. kept_by looks k) (looks_push h entry) ∙ kept_push (looks_of h) input.seen k ∙ rw busy refl;
      shown = ap (λ looks. last_shown looks k) (looks_push h entry) ∙ shown_push (looks_of h) input.seen k ∙ rw busy refl;
    }
