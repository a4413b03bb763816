-- Parts of a journal, and what its records show of the entries before them.
use Rattle.cal_kthread.proofs.Common.{◌≡◌, ℕ, ◌+◌, zero, suc, Some, List, [], ◌∷◌, ◌++◌, length, refl, sym, ap, ◌∙◌, append_assoc, arith, slice_get, Record, last_from, zero_record, Entry, Arrived, Took, Stole, Served, Yielded, Published, State, first_state, changed_by, state_from, state_after, records_of, commands_of, StandAfter}
use Rattle.cal_kthread.specs.Journal.Entries.{up_to, steps_of, RecordShowsTaken, OthersChangeNothing}
use Rattle.cal_kthread.proofs.JournalLemmas.OneEntryMore.{state_after-push}

-- one command more for each Took
taken-from : (s : State) (xs : List Entry) → (state_from s xs).taken ≡ s.taken + length (commands_of xs)
taken-from s [] = omega arith
taken-from s (Arrived r ∷ xs) = taken-from s xs
taken-from s (Took n c ∷ xs) = let e = taken-from (changed_by (Took n c) s) xs in omega (arith, e)
taken-from s (Stole from id ∷ xs) = taken-from s xs
taken-from s (Served id ∷ xs) = taken-from s xs
taken-from s (Yielded ∷ xs) = taken-from (changed_by Yielded s) xs
taken-from s (Published n r ∷ xs) = taken-from s xs

pub taken-all : (xs : List Entry) → (state_after xs).taken ≡ length (commands_of xs)
taken-all xs = let e = taken-from first_state xs in omega (arith, e)

on-past : (before : List Entry) (x : Entry) (ys : List Entry) (t : ℕ) → t ≡ (state_after ((before ++ x ∷ []) ++ ys)).taken → t ≡ (state_after (before ++ x ∷ ys)).taken
on-past before x ys t e = e ∙ ap (λ l. (state_after l).taken) (append_assoc before (x ∷ []) ys)

-- a record shows how many commands were taken up to its publication
shown-from : (before xs : List Entry) (n : ℕ) (rec : Record) → StandAfter before xs → slice_get (records_of xs) n ≡ Some rec → rec.taken ≡ (state_after (before ++ up_to (suc n) xs)).taken
shown-from before [] n rec stand e = absurd cc
shown-from before (Arrived r ∷ xs) n rec stand e = on-past before (Arrived r) (up_to (suc n) xs) rec.taken (shown-from (before ++ Arrived r ∷ []) xs n rec stand.1 e)
shown-from before (Took k c ∷ xs) n rec stand e = on-past before (Took k c) (up_to (suc n) xs) rec.taken (shown-from (before ++ Took k c ∷ []) xs n rec stand.1 e)
shown-from before (Stole from id ∷ xs) n rec stand e = on-past before (Stole from id) (up_to (suc n) xs) rec.taken (shown-from (before ++ Stole from id ∷ []) xs n rec stand.1 e)
shown-from before (Served id ∷ xs) n rec stand e = on-past before (Served id) (up_to (suc n) xs) rec.taken (shown-from (before ++ Served id ∷ []) xs n rec stand.1 e)
shown-from before (Yielded ∷ xs) n rec stand e = on-past before Yielded (up_to (suc n) xs) rec.taken (shown-from (before ++ Yielded ∷ []) xs n rec stand.1 e)
shown-from before (Published k r ∷ xs) zero rec stand e =
    let same : r ≡ rec = cc in
    sym (ap (λ (q : Record). q.taken) same) ∙ stand.0.1 ∙ sym (ap (λ (s : State). s.taken) (state_after-push before (Published k r)))
shown-from before (Published k r ∷ xs) (suc n) rec stand e =
    on-past before (Published k r) (up_to (suc n) xs) rec.taken (shown-from (before ++ Published k r ∷ []) xs n rec stand.1 e)

-- and is the last record of those entries
last-shown : (z : Record) (xs : List Entry) (n : ℕ) (rec : Record) → slice_get (records_of xs) n ≡ Some rec → rec ≡ last_from z (records_of (up_to (suc n) xs))
last-shown z [] n rec e = absurd cc
last-shown z (Arrived r ∷ xs) n rec e = last-shown z xs n rec e
last-shown z (Took k c ∷ xs) n rec e = last-shown z xs n rec e
last-shown z (Stole from id ∷ xs) n rec e = last-shown z xs n rec e
last-shown z (Served id ∷ xs) n rec e = last-shown z xs n rec e
last-shown z (Yielded ∷ xs) n rec e = last-shown z xs n rec e
last-shown z (Published k r ∷ xs) zero rec e = let same : r ≡ rec = cc in sym same
last-shown z (Published k r ∷ xs) (suc n) rec e = last-shown r xs n rec e

pub record-shows-taken : RecordShowsTaken
record-shows-taken journal zero rec is e = let same : zero_record ≡ rec = cc in (sym (ap (λ (q : Record). q.taken) same), sym same)
record-shows-taken journal (suc n) rec is e =
    (shown-from [] journal n rec is.each e ∙ taken-all (up_to (suc n) journal), last-shown zero_record journal n rec e)

state-steps : (s : State) (xs : List Entry) → state_from s (steps_of xs) ≡ state_from s xs
state-steps s [] = refl
state-steps s (Arrived r ∷ xs) = state-steps s xs
state-steps s (Took n c ∷ xs) = state-steps (changed_by (Took n c) s) xs
state-steps s (Stole from id ∷ xs) = state-steps s xs
state-steps s (Served id ∷ xs) = state-steps s xs
state-steps s (Yielded ∷ xs) = state-steps (changed_by Yielded s) xs
state-steps s (Published n r ∷ xs) = state-steps s xs

records-steps : (xs : List Entry) → records_of (steps_of xs) ≡ records_of xs
records-steps [] = refl
records-steps (Arrived r ∷ xs) = records-steps xs
records-steps (Took n c ∷ xs) = records-steps xs
records-steps (Stole from id ∷ xs) = records-steps xs
records-steps (Served id ∷ xs) = records-steps xs
records-steps (Yielded ∷ xs) = records-steps xs
records-steps (Published n r ∷ xs) = ap (λ l. r ∷ l) (records-steps xs)

commands-steps : (xs : List Entry) → commands_of (steps_of xs) ≡ commands_of xs
commands-steps [] = refl
commands-steps (Arrived r ∷ xs) = commands-steps xs
commands-steps (Took n c ∷ xs) = ap (λ l. c ∷ l) (commands-steps xs)
commands-steps (Stole from id ∷ xs) = commands-steps xs
commands-steps (Served id ∷ xs) = commands-steps xs
commands-steps (Yielded ∷ xs) = commands-steps xs
commands-steps (Published n r ∷ xs) = commands-steps xs

pub others-change-nothing : OthersChangeNothing
others-change-nothing journal = (state-steps first_state journal, records-steps journal, commands-steps journal)
