-- A thread is sent at most one command a pass, so at most three in three passes.
use Rattle.cal_assured.proofs.Common.{◌≡◌, ℕ, ◌+◌, ◌-◌, ◌<◌, ◌≤◌, zero, suc, List, ◌++◌, length, take, sym, ap, ◌∙◌, arith, ⊎_elim, Table, actions_of, sent_to}
use Rattle.std.proofs.Math.Seq.{take-length}
use Rattle.std.proofs.lemmas.Option.{slice_get_cases}
use Rattle.cal_policy.specs.declared.history.entry.PassEntry.{PassEntry}
use Rattle.cal_laws.proofs.PointLemmas.EachAction.{actions_more}
use Rattle.cal_policy.specs.declared.policy.Policy.TheVariants.{Assured}
use Rattle.cal_guard.specs.Histories.{EachPolicyIsPermitted}
use Rattle.cal_guard.specs.Laws.{ThreadsAreSentOneCommand}
use Rattle.cal_guard.specs.Permitted.{IsPermittedHistory}
use Rattle.cal_assured.specs.Rings.{RingsHaveRoom}

-- what a thread was sent in the first p passes
abbrev sent_in : List PassEntry → ℕ → ℕ → ℕ
sent_in history k p = sent_to (actions_of (take p history)) k

one_pass : ThreadsAreSentOneCommand → (table : Table) (history : List PassEntry) (k p : ℕ) → IsPermittedHistory table history → p < length history → sent_in history k (p + 1) ≤ sent_in history k p + 1
one_pass once table history k p permitted lt = ⊎_elim
    (λ found.
    let entry : PassEntry = found.0 in
    let all = once (record { table = table; history = history; pass = p; entry = entry; made = length entry.actions }) (record { permitted = permitted; entry = found.2; made = omega arith }) k in
    let same : actions_of (take p history) ++ take (length entry.actions) entry.actions ≡ actions_of (take (p + 1) history) =
    ap (λ acts. actions_of (take p history) ++ acts) (take-length entry.actions) ∙ sym (actions_more history p entry found.2) in
    let at = ap (λ l. sent_to l k) same in
    omega (arith, all, at))
    (λ past. absurd (let no = past.0 in omega (arith, no, lt)))
    (slice_get_cases history p).1

few_passes : ThreadsAreSentOneCommand → (table : Table) (history : List PassEntry) (k p n : ℕ) → IsPermittedHistory table history → p + n ≤ length history → sent_in history k (p + n) ≤ sent_in history k p + n
few_passes once table history k p zero permitted le =
    let same : p + 0 ≡ p = omega arith in
    let at = ap (sent_in history k) same in
    omega (arith, at)
few_passes once table history k p (suc n) permitted le =
    let same : p + suc n ≡ p + n + 1 = omega arith in
    let at = ap (sent_in history k) same in
    let last = one_pass once table history k (p + n) permitted (omega (arith, le)) in
    let before = few_passes once table history k p n permitted (omega (arith, le)) in
    omega (arith, at, last, before)

pub rings_have_room : EachPolicyIsPermitted → ThreadsAreSentOneCommand → RingsHaveRoom
rings_have_room permitted once table history k q taken is =
    let p : ℕ = q - 3 in
    let n : ℕ = q - p in
    let whole : p + n ≡ q = omega arith in
    let three : n ≤ 3 = omega arith in
    let comes = is.comes in
    let before = is.taken_so_far in
    let few = few_passes once table history k p n (permitted Assured table history is.accepted is.legal) (omega (arith, whole, comes)) in
    let at = ap (sent_in history k) whole in
    omega (arith, few, at, three, before)
