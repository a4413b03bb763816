-- What lets each entry of a journal happen, as an event, once these commands were sent.
use Rattle.cal_linear.proofs.Common.{◌≡◌, ℕ, ◌+◌, ◌<◌, ◌≤◌, zero, suc, List, [], ◌∷◌, ◌++◌, length, take, Some, sym, ap, subst, ◌∙◌, append_assoc, append-nil, arith, length-append, IsSome, slice_get, filter_map-append, Command, Record, Chain, last_from, MayFollow, zero_record, Entry, Arrived, Took, Stole, Served, Yielded, Published, state_after, record_in, records_of, command_in, commands_of, MayStand, StandAfter, IsJournal, filter_map-push, taken-all, slice_get_seam}
use Rattle.cal_linear.proofs.LegalAlong.{MayBePublished}
use Rattle.cal_linear.proofs.Cuts.{taken_more}
use Rattle.cal_linear.proofs.Lists.{last_from_push}

-- after these entries of its thread, of which these commands were sent to it
abbrev pub MayHappen : List Command → List Entry → Entry → Type 0
MayHappen sent before (Took number command) = (number ≡ (state_after before).taken + 1) × (slice_get sent (state_after before).taken ≡ Some command)
MayHappen sent before Yielded = IsSome (state_after before).core
MayHappen sent before (Published number rec) = (number ≡ length (records_of before) + 1) × MayBePublished (state_after before) (records_of before) rec
MayHappen sent before _ = Unit {0}

abbrev pub MayAllHappen : List Command → List Entry → List Entry → Type 0
MayAllHappen sent before [] = Unit {0}
MayAllHappen sent before (entry ∷ entries) = MayHappen sent before entry × MayAllHappen sent (before ++ entry ∷ []) entries

-- a part of them
pub split : (sent : List Command) (before xs ys : List Entry) → MayAllHappen sent before (xs ++ ys) → MayAllHappen sent before xs × MayAllHappen sent (before ++ xs) ys
split sent before [] ys all = (tt, subst (λ b. MayAllHappen sent b ys) (sym (append-nil before)) all)
split sent before (x ∷ xs) ys all =
    let both = split sent (before ++ x ∷ []) xs ys all.1 in
    ((all.0, both.0), subst (λ b. MayAllHappen sent b ys) (append_assoc before (x ∷ []) xs) both.1)

-- the first commands suffice for those that take no more
abbrev pub HasFirst : List Command → List Command → ℕ → Type 0
HasFirst sent fewer n = (i : ℕ) → i < n → slice_get fewer i ≡ slice_get sent i

may_with : (sent fewer : List Command) (n : ℕ) (before : List Entry) (x : Entry) → HasFirst sent fewer n → (state_after (before ++ x ∷ [])).taken ≤ n → MayHappen sent before x → MayHappen fewer before x
may_with sent fewer n before (Arrived r) has le may = tt
may_with sent fewer n before (Took number command) has le may =
    let a = taken-all before in let b = taken-all (before ++ Took number command ∷ []) in
    let e : length (commands_of (before ++ Took number command ∷ [])) ≡ length (commands_of before) + 1 =
    ap length (filter_map-append command_in before (Took number command ∷ [])) ∙ length-append (commands_of before) (command ∷ []) in
    (may.0, has (state_after before).taken (omega (arith, a, b, e, le)) ∙ may.1)
may_with sent fewer n before (Stole from id) has le may = tt
may_with sent fewer n before (Served id) has le may = tt
may_with sent fewer n before Yielded has le may = may
may_with sent fewer n before (Published number rec) has le may = may

pub all_with : (sent fewer : List Command) (n : ℕ) (before xs : List Entry) → HasFirst sent fewer n → (state_after (before ++ xs)).taken ≤ n → MayAllHappen sent before xs → MayAllHappen fewer before xs
all_with sent fewer n before [] has le all = tt
all_with sent fewer n before (x ∷ xs) has le all =
    let same : (before ++ x ∷ []) ++ xs ≡ before ++ x ∷ xs = append_assoc before (x ∷ []) xs in
    let P : List Entry → Type 0 = λ l. (state_after l).taken ≤ n in
    let most : (state_after ((before ++ x ∷ []) ++ xs)).taken ≤ n = subst P (sym same) le in
    let more = taken_more (before ++ x ∷ []) xs in
    (may_with sent fewer n before x has (omega (arith, most, more)) all.0, all_with sent fewer n (before ++ x ∷ []) xs has most all.1)

-- what a journal's entries may do, if its commands are the first ones sent
one_of_journal : (sent : List Command) (before : List Entry) (x : Entry) (xs : List Entry) → MayStand before x → Chain MayFollow (last_from zero_record (records_of before)) (records_of (x ∷ xs)) →
    ((i : ℕ) (c : Command) → slice_get (commands_of (before ++ x ∷ xs)) i ≡ Some c → slice_get sent i ≡ Some c) → MayHappen sent before x
one_of_journal sent before (Arrived r) xs may chain first = tt
one_of_journal sent before (Took number command) xs may chain first =
    let e : commands_of (before ++ Took number command ∷ xs) ≡ commands_of before ++ command ∷ commands_of xs = filter_map-append command_in before (Took number command ∷ xs) in
    let at : slice_get (commands_of (before ++ Took number command ∷ xs)) (state_after before).taken ≡ Some command =
    ap (λ l. slice_get l (state_after before).taken) e ∙ ap (slice_get (commands_of before ++ command ∷ commands_of xs)) (taken-all before) ∙ slice_get_seam (commands_of before) command (commands_of xs) in
    (may, first (state_after before).taken command at)
one_of_journal sent before (Stole from id) xs may chain first = tt
one_of_journal sent before (Served id) xs may chain first = tt
one_of_journal sent before Yielded xs may chain first = may
one_of_journal sent before (Published number rec) xs may chain first = (may.0, (may.1, may.2, chain.0))

on_same : (before : List Entry) (x : Entry) (xs : List Entry) → records_of (before ++ x ∷ []) ≡ records_of before → Chain MayFollow (last_from zero_record (records_of before)) (records_of xs) →
    Chain MayFollow (last_from zero_record (records_of (before ++ x ∷ []))) (records_of xs)
on_same before x xs e chain = let P : List Record → Type 0 = λ l. Chain MayFollow (last_from zero_record l) (records_of xs) in subst P (sym e) chain

-- and the page goes on after one more entry
chain_on : (before : List Entry) (x : Entry) (xs : List Entry) → Chain MayFollow (last_from zero_record (records_of before)) (records_of (x ∷ xs)) →
    Chain MayFollow (last_from zero_record (records_of (before ++ x ∷ []))) (records_of xs)
chain_on before (Arrived r) xs chain = on_same before (Arrived r) xs (filter_map-push record_in before (Arrived r) ∙ append-nil (records_of before)) chain
chain_on before (Took n c) xs chain = on_same before (Took n c) xs (filter_map-push record_in before (Took n c) ∙ append-nil (records_of before)) chain
chain_on before (Stole from id) xs chain = on_same before (Stole from id) xs (filter_map-push record_in before (Stole from id) ∙ append-nil (records_of before)) chain
chain_on before (Served id) xs chain = on_same before (Served id) xs (filter_map-push record_in before (Served id) ∙ append-nil (records_of before)) chain
chain_on before Yielded xs chain = on_same before Yielded xs (filter_map-push record_in before Yielded ∙ append-nil (records_of before)) chain
chain_on before (Published n r) xs chain =
    let last : last_from zero_record (records_of (before ++ Published n r ∷ [])) ≡ r =
    ap (last_from zero_record) (filter_map-push record_in before (Published n r)) ∙ last_from_push zero_record (records_of before) r in
    let P : Record → Type 0 = λ z. Chain MayFollow z (records_of xs) in
    subst P (sym last) chain.1

from_journal : (sent : List Command) (before xs : List Entry) → StandAfter before xs → Chain MayFollow (last_from zero_record (records_of before)) (records_of xs) →
    ((i : ℕ) (c : Command) → slice_get (commands_of (before ++ xs)) i ≡ Some c → slice_get sent i ≡ Some c) → MayAllHappen sent before xs
from_journal sent before [] stand chain first = tt
from_journal sent before (x ∷ xs) stand chain first =
    let same : (before ++ x ∷ []) ++ xs ≡ before ++ x ∷ xs = append_assoc before (x ∷ []) xs in (
      one_of_journal sent before x xs stand.0 chain first,
      from_journal sent (before ++ x ∷ []) xs stand.1 (chain_on before x xs chain) (λ i c e. first i c (sym (ap (λ l. slice_get (commands_of l) i) same) ∙ e)),
    )

take_get : (n : ℕ) (xs : List Command) (i : ℕ) (c : Command) → slice_get (take n xs) i ≡ Some c → slice_get xs i ≡ Some c
take_get zero xs i c e = absurd (cc)
take_get (suc n) [] i c e = e
take_get (suc n) (x ∷ xs) zero c e = e
take_get (suc n) (x ∷ xs) (suc i) c e = take_get n xs i c e

pub journal_may_happen : (sent : List Command) (journal : List Entry) → IsJournal journal → commands_of journal ≡ take (length (commands_of journal)) sent → MayAllHappen sent [] journal
journal_may_happen sent journal is first =
    from_journal sent [] journal is.each is.page.1 (λ i c e. take_get (length (commands_of journal)) sent i c (sym (ap (λ l. slice_get l i) first) ∙ e))
