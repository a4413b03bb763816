-- A list of rooms, and the set of the rings without room.
use Rattle.cal_policy.proofs.Common.{◌≡◌, ℕ, zero, suc, ◌+◌, ◌<◌, Bool, false, not, List, [], ◌∷◌, length, get_or, refl, ap, sym, ◌∙◌, arith, length-map, Table, threads_of_table, has_thread, Policy, PassEntry, FoundLook, judged_input, judged_looks, rooms_found, IsOpenAt, Setting, rooms_from, setting, setting_at}
use Rattle.cal_machine.specs.declared.thread_set.ThreadSet.{ThreadSet}
use Rattle.cal_policy.specs.declared.judgement.open_pass.OpenPass.{OpenPass}
use Rattle.cal_policy.proofs.JudgementLemmas.OpenPass.{room_came}

-- the ring of a thread below n
pub room_at : (full : ThreadSet) (first n k : ℕ) → k < n → get_or (rooms_from full first n) k false ≡ not (has_thread full (first + k))
room_at full first zero k lt = absurd (omega (arith, lt))
room_at full first (suc n) zero lt = let e : first ≡ first + 0 = omega arith in ap (λ j. not (has_thread full j)) e
room_at full first (suc n) (suc k) lt =
    let e : first + 1 + k ≡ first + suc k = omega arith in
    room_at full (first + 1) n k (omega (arith, lt)) ∙ ap (λ j. not (has_thread full j)) e

-- a list that says of each ring what the set says is the set's
pub rooms_are : (full : ThreadSet) (first : ℕ) (rooms : List Bool) → ((k : ℕ) → k < length rooms → not (has_thread full (first + k)) ≡ get_or rooms k false) →
    rooms_from full first (length rooms) ≡ rooms
rooms_are full first [] at = refl
rooms_are full first (room ∷ rooms) at =
    let here : first + 0 ≡ first = omega arith in
    let head : not (has_thread full first) ≡ room = ap (λ j. not (has_thread full j)) (sym here) ∙ at 0 (omega arith) in
    let tail = rooms_are full (first + 1) rooms (λ k lt. (let e : first + 1 + k ≡ first + suc k = omega arith in ap (λ j. not (has_thread full j)) e ∙ at (suc k) (omega (arith, lt)))) in
    rw (head, tail) refl

-- what came in one by one is the input that is made of it
pub noted_setting : (policy : Policy) (table : Table) (h : List PassEntry) (now bandwidth : ℕ) (found : List FoundLook) (pass : OpenPass) → IsOpenAt table h found pass → pass.count ≡ threads_of_table table →
    setting_at table (record { policy = policy; now = now; bandwidth = bandwidth; full = pass.full }) (record { history = h; seen = judged_looks table h found })
    ≡ setting table h (judged_input table h now bandwidth found)
noted_setting policy table h now bandwidth found pass is all =
    let long : threads_of_table table ≡ length (rooms_found found) = sym all ∙ is.count ∙ sym (length-map found (λ (one : FoundLook). one.room)) in
    let same : rooms_from pass.full 0 (threads_of_table table) ≡ rooms_found found =
    ap (rooms_from pass.full 0) long ∙ rooms_are pass.full 0 (rooms_found found)
    (λ k lt. (let low : k < length found = omega (arith, lt, length-map found (λ (one : FoundLook). one.room)) in
    let e : 0 + k ≡ k = omega arith in ap (λ j. not (has_thread pass.full j)) e ∙ room_came table h found pass is k low)) in
    let S : List Bool → Setting = λ rooms. record { table = table; history = h; input = record { now = now; bandwidth = bandwidth; seen = judged_looks table h found; rooms = rooms } } in
    ap S same
