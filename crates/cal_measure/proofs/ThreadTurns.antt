-- The turns of a thread so far, one turn more.
use Rattle.cal_measure.proofs.Common.{◌≡◌, ◌≤◌, ◌+◌, ◌-◌, ◌∙◌, ℕ, List, [], ◌∷◌, ◌++◌, Option, Some, None, Bool, true, false, cond, ◌&&◌, length, slice_get, refl, ap, sym, arith, length-append, append-nil, slice_get-last, each_of, Entry, timed_at, timed_by, timed_of, joined_below, ended_of, latest_of, turn_by, turns_of, stolen_by, suspension_at, suspension_by, suspensions_in}
use Rattle.cal_machine.proofs.Places.{slice_get_at}
use Rattle.cal_kthread.specs.Turn.{noted}
use Rattle.cal_kthread.specs.declared.journal.entry.Entry.TheVariants.{Arrived, Took, Stole, Served, Yielded, Published}
use Rattle.cal_measure.specs.declared.turns.Turn.{Turn}
use Rattle.cal_measure.proofs.AtMostOne.{each_few, joined_few}
use Rattle.cal_measure.proofs.Paired.{joined_same, before_last, paired_push, paired_whole}

less_one : (turns : List Turn) (turn : Turn) → length (turns ++ turn ∷ []) - 1 ≡ length turns
less_one turns turn = omega (arith, length-append turns (turn ∷ []))

-- the turn is the last one then
pub latest_push : (turns : List Turn) (turn : Turn) → latest_of (turns ++ turn ∷ []) ≡ Some turn
latest_push turns turn = ap (λ k. slice_get (turns ++ turn ∷ []) k) (less_one turns turn) ∙ slice_get-last turns turn

-- and the one that was last has ended
pub ended_push : (turns : List Turn) (turn : Turn) → ended_of turns ++ timed_by 0 (latest_of turns) (Some turn) ≡ ended_of (turns ++ turn ∷ [])
ended_push turns turn = sym (ap (λ k. joined_below (timed_at 0 (turns ++ turn ∷ [])) k) (less_one turns turn) ∙ paired_push (timed_by 0) turns turn refl)

-- a turn that has a next one ends at no last clock
ends_alike : (last : ℕ) (turn : Option Turn) (next : Turn) → timed_by last turn (Some next) ≡ timed_by 0 turn (Some next)
ends_alike last None next = refl
ends_alike last (Some turn) next = refl

next_alike : (last : ℕ) (turn next : Option Turn) (later : Turn) → next ≡ Some later → timed_by last turn next ≡ timed_by 0 turn next
next_alike last turn next later e =
    ap (λ o. timed_by last turn o) e ∙ ends_alike last turn later ∙ ap (λ o. timed_by 0 turn o) (sym e)

-- all turns are those that have ended and the last one
pub timed_whole : (last : ℕ) (turns : List Turn) → ended_of turns ++ timed_by last (latest_of turns) None ≡ timed_of last turns
timed_whole last turns =
    let n = length turns - 1 in
    ap (λ l. l ++ timed_by last (latest_of turns) None) (joined_same (timed_at 0 turns) (timed_at last turns) n (λ i lt.
    let next = slice_get_at turns (i + 1) (omega (arith, lt)) in
    sym (next_alike last (slice_get turns i) (slice_get turns (i + 1)) next.0 next.1)))
    ∙ sym (paired_whole (timed_by last) turns refl)

-- a suspension is of the last turn and the next one
suspended_last : (turn : Option Turn) → suspension_by turn None ≡ []
suspended_last None = refl
suspended_last (Some turn) = refl

suspended_before : (turns : List Turn) → suspensions_in turns ≡ before_last suspension_by turns
suspended_before turns =
    paired_whole suspension_by turns refl
    ∙ ap (λ l. before_last suspension_by turns ++ l) (suspended_last (latest_of turns))
    ∙ append-nil (before_last suspension_by turns)

pub suspensions_push : (turns : List Turn) (turn : Turn) → suspensions_in turns ++ suspension_by (latest_of turns) (Some turn) ≡ suspensions_in (turns ++ turn ∷ [])
suspensions_push turns turn =
    let all : List Turn = turns ++ turn ∷ [] in
    ap (λ l. l ++ suspension_by (latest_of turns) (Some turn)) (suspended_before turns)
    ∙ sym (suspended_before all ∙ ap (λ k. joined_below (suspension_at all) k) (less_one turns turn) ∙ paired_push suspension_by turns turn refl)

-- each tells of one thing at most
turn_by_one : (before : List Entry) (entry : Entry) → length (turn_by before entry) ≤ 1
turn_by_one before (Arrived request) = omega arith
turn_by_one before (Took number command) = omega arith
turn_by_one before (Stole from id) = omega arith
turn_by_one before (Served id) = omega arith
turn_by_one before Yielded = omega arith
turn_by_one before (Published number rec) = omega arith

stolen_by_one : (before : List Entry) (entry : Entry) → length (stolen_by before entry) ≤ 1
stolen_by_one before (Arrived request) = omega arith
stolen_by_one before (Took number command) = omega arith
stolen_by_one before (Stole from id) = omega arith
stolen_by_one before (Served id) = omega arith
stolen_by_one before Yielded = omega arith
stolen_by_one before (Published number rec) = omega arith

timed_by_one : (last : ℕ) (turn next : Option Turn) → length (timed_by last turn next) ≤ 1
timed_by_one last None next = omega arith
timed_by_one last (Some turn) next = omega arith

one_if : (b : Bool) (x : ℕ) → length (cond b (x ∷ []) []) ≤ 1
one_if true x = omega arith
one_if false x = omega arith

suspension_by_one : (turn next : Option Turn) → length (suspension_by turn next) ≤ 1
suspension_by_one None next = omega arith
suspension_by_one (Some turn) None = omega arith
suspension_by_one (Some turn) (Some next) = one_if (turn.at_work && next.suspended) next.stamp

-- so there are no more of them than entries or turns
pub turns_few : (journal : List Entry) → length (turns_of journal) ≤ length journal
turns_few journal = each_few turn_by turn_by_one journal

pub thefts_few : (journal : List Entry) → length (each_of stolen_by journal) ≤ length journal
thefts_few journal = each_few stolen_by stolen_by_one journal

pub ended_few : (turns : List Turn) → length (ended_of turns) ≤ length turns
ended_few turns =
    let few = joined_few (timed_at 0 turns) (λ i. timed_by_one 0 (slice_get turns i) (slice_get turns (i + 1))) (length turns - 1) in
    omega (arith, few)

pub timed_few : (last : ℕ) (turns : List Turn) → length (timed_of last turns) ≤ length turns
timed_few last turns = joined_few (timed_at last turns) (λ i. timed_by_one last (slice_get turns i) (slice_get turns (i + 1))) (length turns)

pub suspensions_few : (turns : List Turn) → length (suspensions_in turns) ≤ length turns
suspensions_few turns = joined_few (suspension_at turns) (λ i. suspension_by_one (slice_get turns i) (slice_get turns (i + 1))) (length turns)

-- a step takes nothing from a journal
pub noted_long : (journal : List Entry) (entry : Option Entry) → length journal ≤ length (noted journal entry)
noted_long journal None = omega arith
noted_long journal (Some entry) = omega (arith, length-append journal (entry ∷ []))
