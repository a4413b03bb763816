-- Equal lists of looks: each variant is told by its own fields.
use Rattle.cal_world.proofs.Common.{◌≡◌, ◌==◌, true, refl, subst, arith, and_parts, eqb-true, eq-eqb, Decides-eqb, Record, Seen, Whole, Busy, Ahead, Foreign}
use Rattle.std.specs.Bool.{Decides}
use Rattle.std.proofs.lemmas.Slice.Eq.{slice_eq-Decides}
use Rattle.cal_signal.specs.contracts.record.RecordPartialEq.TheImpl as record_eq
use Rattle.cal_policy.specs.contracts.history.look.SeenPartialEq.TheImpl.{eq-value}
use Rattle.cal_world.proofs.world.refusing.same_looks.Goals as goal

same_record : (a : Record) → record_eq.eq-value.it a a ≡ true
same_record a = rw (eq-eqb a.taken a.taken refl, eq-eqb a.running a.running refl, eq-eqb a.queued a.queued refl, eq-eqb a.oldest a.oldest refl, eq-eqb a.started a.started refl, eq-eqb a.misses a.misses refl, eq-eqb a.stamp a.stamp refl, eq-eqb a.paused a.paused refl, eq-eqb a.since a.since refl) refl

words_same : (a b : Record) → record_eq.eq-value.it a b ≡ true → a ≡ b
words_same a b e =
    let p0 = and_parts (a.taken == b.taken) _ e in
    let p1 = and_parts (a.running == b.running) _ p0.1 in
    let p2 = and_parts (a.queued == b.queued) _ p1.1 in
    let p3 = and_parts (a.oldest == b.oldest) _ p2.1 in
    let p4 = and_parts (a.started == b.started) _ p3.1 in
    let p5 = and_parts (a.misses == b.misses) _ p4.1 in
    let p6 = and_parts (a.stamp == b.stamp) _ p5.1 in
    let p7 = and_parts (a.paused == b.paused) (a.since == b.since) p6.1 in
    let q0 = eqb-true a.taken b.taken p0.0 in
    let q1 = eqb-true a.running b.running p1.0 in
    let q2 = eqb-true a.queued b.queued p2.0 in
    let q3 = eqb-true a.oldest b.oldest p3.0 in
    let q4 = eqb-true a.started b.started p4.0 in
    let q5 = eqb-true a.misses b.misses p5.0 in
    let q6 = eqb-true a.stamp b.stamp p6.0 in
    let q7 = eqb-true a.paused b.paused p7.0 in
    let q8 = eqb-true a.since b.since p7.1 in
    λ i. record { taken = q0 i; running = q1 i; queued = q2 i; oldest = q3 i; started = q4 i; misses = q5 i; stamp = q6 i; paused = q7 i; since = q8 i }

record_decides : (a b : Record) → Decides (record_eq.eq-value.it a b) (a ≡ b)
record_decides a b = (words_same a b, λ e. subst (λ (c : Record). record_eq.eq-value.it a c ≡ true) e (same_record a))

look_decides : (a b : Seen) → Decides (eq-value.it a b) (a ≡ b)
look_decides (Whole n r) (Whole n2 r2) = grind (arith, Decides-eqb n n2, record_decides r r2)
look_decides (Whole n r) (Busy f2 s2) = (λ e. cc, λ e. cc)
look_decides (Whole n r) (Ahead n2 r2) = (λ e. cc, λ e. cc)
look_decides (Whole n r) (Foreign n2 r2) = (λ e. cc, λ e. cc)
look_decides (Busy f s) (Whole n2 r2) = (λ e. cc, λ e. cc)
look_decides (Busy f s) (Busy f2 s2) = grind (arith, Decides-eqb f f2, Decides-eqb s s2)
look_decides (Busy f s) (Ahead n2 r2) = (λ e. cc, λ e. cc)
look_decides (Busy f s) (Foreign n2 r2) = (λ e. cc, λ e. cc)
look_decides (Ahead n r) (Whole n2 r2) = (λ e. cc, λ e. cc)
look_decides (Ahead n r) (Busy f2 s2) = (λ e. cc, λ e. cc)
look_decides (Ahead n r) (Ahead n2 r2) = grind (arith, Decides-eqb n n2, record_decides r r2)
look_decides (Ahead n r) (Foreign n2 r2) = (λ e. cc, λ e. cc)
look_decides (Foreign n r) (Whole n2 r2) = (λ e. cc, λ e. cc)
look_decides (Foreign n r) (Busy f2 s2) = (λ e. cc, λ e. cc)
look_decides (Foreign n r) (Ahead n2 r2) = (λ e. cc, λ e. cc)
look_decides (Foreign n r) (Foreign n2 r2) = grind (arith, Decides-eqb n n2, record_decides r r2)

pub returns : goal.returns
returns c = slice_eq-Decides look_decides c.args.a.now c.args.b.now c.eq.result c.eq.ensures
