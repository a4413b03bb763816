-- The tests of records and looks say what the rules say.
use Rattle.cal_signal.proofs.Common.{◌≡◌, ◌<◌, ◌%◌, ◌==◌, ◌&&◌, nat_lt, nat_le, ℕ, true, inl, inr, refl, arith, Record, IsLater, IsShaped, is_same}
use Rattle.std.proofs.lemmas.Bool.{and_parts, and_from, ltb-true, leb-true, le-leb, lt-ltb, eq-eqb, ne_eqb, or_cases}
use Rattle.cal_machine.specs.declared.machine.TheConstants.{MOST_CORES}
use Rattle.cal_signal.specs.declared.record.TheConstants.{MOST_MISSES}
use Rattle.cal_signal.specs.declared.shown.Shown.{Shown}
use Rattle.cal_signal.specs.Looks.{IsBusyPair}
use Rattle.cal_signal.specs.Shown.{IsShownAfter}
use Rattle.cal_signal.specs.Tests.{is_shaped, is_later, is_shown_after, is_busy_pair}

equal : (a b : ℕ) → (a == b) ≡ true → a ≡ b
equal a b e = grind arith

pub shaped_holds : (rec : Record) → is_shaped rec ≡ true → IsShaped rec
shaped_holds rec e =
    let p = and_parts (nat_le rec.running MOST_CORES) (nat_le rec.misses MOST_MISSES) e in
    (leb-true rec.running MOST_CORES p.0, leb-true rec.misses MOST_MISSES p.1)

pub shaped_test : (rec : Record) → IsShaped rec → is_shaped rec ≡ true
shaped_test rec h = and_from (nat_le rec.running MOST_CORES) (nat_le rec.misses MOST_MISSES) (le-leb rec.running MOST_CORES h.0) (le-leb rec.misses MOST_MISSES h.1)

later_holds : (a b : Record) → is_later a b ≡ true → IsLater a b
later_holds a b e =
    let outer = and_parts (nat_le a.taken b.taken && nat_le a.misses b.misses) (nat_le a.stamp b.stamp) e in
    let inner = and_parts (nat_le a.taken b.taken) (nat_le a.misses b.misses) outer.0 in
    (leb-true a.taken b.taken inner.0, leb-true a.misses b.misses inner.1, leb-true a.stamp b.stamp outer.1)

same_holds : (a b : Record) → is_same a b ≡ true → a ≡ b
same_holds a b e =
    let p8 = and_parts _ (a.since == b.since) e in
    let p7 = and_parts _ (a.paused == b.paused) p8.0 in
    let p6 = and_parts _ (a.stamp == b.stamp) p7.0 in
    let p5 = and_parts _ (a.misses == b.misses) p6.0 in
    let p4 = and_parts _ (a.started == b.started) p5.0 in
    let p3 = and_parts _ (a.oldest == b.oldest) p4.0 in
    let p2 = and_parts _ (a.queued == b.queued) p3.0 in
    let p1 = and_parts (a.taken == b.taken) (a.running == b.running) p2.0 in
    let q0 = equal a.taken b.taken p1.0 in
    let q1 = equal a.running b.running p1.1 in
    let q2 = equal a.queued b.queued p2.1 in
    let q3 = equal a.oldest b.oldest p3.1 in
    let q4 = equal a.started b.started p4.1 in
    let q5 = equal a.misses b.misses p5.1 in
    let q6 = equal a.stamp b.stamp p6.1 in
    let q7 = equal a.paused b.paused p7.1 in
    let q8 = equal a.since b.since p8.1 in
    λ i. record { taken = q0 i; running = q1 i; queued = q2 i; oldest = q3 i; started = q4 i; misses = q5 i; stamp = q6 i; paused = q7 i; since = q8 i }

pub follows_holds : (a b : Shown) → is_shown_after a b ≡ true → IsShownAfter a b
follows_holds a b e = elim (or_cases ((a.number == b.number) && is_same a.rec b.rec) (nat_lt a.number b.number && is_later a.rec b.rec) e) [
  | inl h ↦
      let p = and_parts (a.number == b.number) (is_same a.rec b.rec) h in
      let here : a.number ≡ b.number = equal a.number b.number p.0 in
      record { not_below = omega arith; same = λ _. same_holds a.rec b.rec p.1; later = λ lt. absurd (omega arith) }
  | inr h ↦
      let p = and_parts (nat_lt a.number b.number) (is_later a.rec b.rec) h in
      let above : a.number < b.number = ltb-true a.number b.number p.0 in
      record { not_below = omega arith; same = λ e. absurd (omega arith); later = λ _. later_holds a.rec b.rec p.1 }
]

pub pair_holds : (first second : ℕ) → is_busy_pair first second ≡ true → IsBusyPair first second
pair_holds first second e = elim (or_cases ((first % 2 == 1) && (second == first)) ((first % 2 == 0) && nat_lt first second) e) [
  | inl h ↦ let p = and_parts (first % 2 == 1) (second == first) h in inl (equal (first % 2) 1 p.0, equal second first p.1)
  | inr h ↦ let p = and_parts (first % 2 == 0) (nat_lt first second) h in inr (equal (first % 2) 0 p.0, ltb-true first second p.1)
]

pub pair_test : (first second : ℕ) → IsBusyPair first second → is_busy_pair first second ≡ true
pair_test first second (inl h) = rw (eq-eqb (first % 2) 1 h.0, eq-eqb second first h.1) refl
pair_test first second (inr h) = let even = h.0 in rw (ne_eqb (first % 2) 1 (λ e. omega arith), eq-eqb (first % 2) 0 even, lt-ltb first second h.1) refl
