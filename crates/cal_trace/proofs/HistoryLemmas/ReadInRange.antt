-- A history that was read is in range.
use Rattle.cal_trace.proofs.Common.{◌≡◌, ◌<◌, ◌≤◌, ◌+◌, ◌-◌, ◌*◌, ◌^◌, ◌==◌, ◌&&◌, not, ℕ, zero, suc, List, [], ◌∷◌, ◌++◌, length, map, codes, Bool, true, false, Option, Some, None, Result, Ok, Err, nat_lt, nat_le, option_and_then, option_to_list, if◌then◌else◌, refl, sym, subst, arith, length-append, unwrap_or, range_with_len, and_parts, ltb-true, leb-true, eqb-true, field_at, Seen, Action, Free, Unban, Ban, Revoke, Cap, Grant, PassEntry, number_in, number_at, is_number_at, has_numbers, header_of, SoFar, at_start, passes_of, add_pass, add_look, add_end, take_look, whole, is_full, is_between, next_thread, take_action, judged, add_action, begun, with_action, history_of, MOST_ACTIONS, is_possible, look_of, look_row, pass_row, end_row, MOST_PASSES, with_digit, digits_of, spelled_number, Each, IsWord, AreWords, HasLookWords, HasActionWord, HasWords, IsLookInRange, IsActionInRange, IsEntryInRange, IsInRange, Fields, record_of, Look, WORDS, shaped_holds, pair_holds, Extent, FaultKind, LookForm, FoundLook, GivenPass}
use Rattle.std.proofs.Common.{option_map, append-nil}
use Rattle.std.specs.Char.{is_ascii_digit}
use Rattle.cal_policy.specs.declared.history.action.Cause.TheVariants as causes
use Rattle.cal_trace.specs.History.ActionRows.{action_row, made, core_row, ban_row, revoke_row, revoke_for_bandwidth_row, cap_row, grant_row}
use Rattle.cal_trace.specs.History.{form_of, take_row, take_form, with_look, looks_in}
use Rattle.cal_trace.specs.declared.history.action_rows.ActionForm.{ActionForm}
use Rattle.cal_trace.specs.declared.history.action_rows.ActionForm.TheVariants as act
use Rattle.cal_trace.specs.declared.fault.FaultKind.TheVariants as kind
use Rattle.cal_trace.specs.declared.history.reading.Form.{Form}
use Rattle.cal_trace.specs.declared.history.reading.Form.TheVariants as form
use Rattle.cal_trace.specs.declared.rows.look_rows.LookForm.TheVariants as looks
use Rattle.cal_trace.proofs.RowLemmas.Conjunctions.{and_four}
use Rattle.cal_trace.proofs.RowLemmas.Checks.{same_ok, check_one, check_two, row_look}
use Rattle.cal_trace.proofs.ListLemmas.EachOne.{each_none, each_cons, each_push}
use Rattle.cal_trace.proofs.RowLemmas.Readings.{kept_under}

-- a number that a field spells is below 2 ^ 64
some_if : (t : Bool) (v k : ℕ) → (if t then Some v else None) ≡ Some k → (t ≡ true) × (v ≡ k)
some_if true v k h = (refl, cc)
some_if false v k h = cc

digit_word : (n b k : ℕ) → with_digit n b ≡ Some k → IsWord k
digit_word n b k h =
    let s = some_if (is_ascii_digit b && nat_lt (n * 10 + (b - 48)) (2 ^ 64)) (n * 10 + (b - 48)) k h in
    let p = and_parts (is_ascii_digit b) (nat_lt (n * 10 + (b - 48)) (2 ^ 64)) s.0 in
    subst IsWord s.1 (ltb-true (n * 10 + (b - 48)) (2 ^ 64) p.1)

after_digit : (o : Option ℕ) (f : ℕ → Option ℕ) (m : ℕ) → ((k : ℕ) → o ≡ Some k → f k ≡ Some m → IsWord m) → option_and_then f o ≡ Some m → IsWord m
after_digit None f m h e = cc
after_digit (Some k) f m h e = h k refl e

digits_word : (n m : ℕ) (bytes : List ℕ) → IsWord n → digits_of n bytes ≡ Some m → IsWord m
unfolding digits_of
digits_word n m [] lt h = let e : n ≡ m = cc in subst IsWord e lt
digits_word n m (b ∷ bytes) lt h = after_digit (with_digit n b) (λ k. digits_of k bytes) m (λ k is e. digits_word k m bytes (digit_word n b k is) e) h

unless : (t : Bool) (o : Option ℕ) (n : ℕ) → (if t then None else o) ≡ Some n → o ≡ Some n
unless true o n h = cc
unless false o n h = h

number_word : (field : List ℕ) (n : ℕ) → spelled_number field ≡ Some n → IsWord n
number_word [] n h = cc
number_word (b ∷ []) n h = digits_word 0 n (b ∷ []) (omega arith) h
number_word (b ∷ c ∷ bytes) n h = digits_word 0 n (b ∷ c ∷ bytes) (omega arith) (unless (b == 48) (digits_of 0 (b ∷ c ∷ bytes)) n h)

word_or : (o : Option ℕ) → ((n : ℕ) → o ≡ Some n → IsWord n) → IsWord (unwrap_or o 0)
word_or None h = omega arith
word_or (Some n) h = h n refl

field_word : (o : Option (List ℕ)) (n : ℕ) → option_and_then spelled_number o ≡ Some n → IsWord n
field_word None n h = cc
field_word (Some field) n h = number_word field n h

pub word_at : (fields : Fields) (place : ℕ) → IsWord (number_at fields place)
word_at fields place = word_or (number_in fields place) (λ n e. field_word (field_at fields place) n e)

-- the words of a row's record
words_from : (f : ℕ → ℕ) (first count : ℕ) → ((k : ℕ) → IsWord (f k)) → Each IsWord (map f (range_with_len first count))
words_from f first zero h = each_none IsWord
words_from f first (suc count) h = each_cons IsWord (f first) (map f (range_with_len (first + 1) count)) (h first) (words_from f (first + 1) count h)

record_words : (fields : Fields) → AreWords (record_of fields)
record_words fields = words_from (number_at fields) 4 WORDS (word_at fields)

-- a look that was read
record IsLookRead (look : Seen) : Type 0 where
  pub words : HasLookWords look
  pub range : IsLookInRange look

look_fits : (form : LookForm) (fields : Fields) → is_possible (look_of form fields) ≡ true → IsLookRead (judged form (look_of form fields))
look_fits looks.Busy fields possible = record { words = (word_at fields 3, word_at fields 4); range = pair_holds (number_at fields 3) (number_at fields 4) possible }
look_fits looks.Whole fields possible = record { words = (word_at fields 3, record_words fields); range = shaped_holds (record_of fields) possible }
look_fits looks.Ahead fields possible = record { words = (word_at fields 3, record_words fields); range = shaped_holds (record_of fields) possible }
look_fits looks.Foreign fields possible = record { words = (word_at fields 3, record_words fields); range = shaped_holds (record_of fields) possible }

row_fits_look : (form : LookForm) (thread : ℕ) (fields : Fields) (found : FoundLook) → look_row form thread fields ≡ Ok found → IsLookRead (judged form found.look)
row_fits_look form thread fields found e =
    let row = row_look form thread fields found e in
    subst (λ (look : Look). IsLookRead (judged form look)) row.0 (look_fits form fields (rw (← row.0) at row.1))

-- an action that was read
record IsActionRead (extent : Extent) (action : Action) : Type 0 where
  pub word : HasActionWord action
  pub range : IsActionInRange extent action

made_fits : {X : Type 0} (extent : Extent) (make : X → Action) (r : Result X FaultKind) (action : Action) → ((x : X) → r ≡ Ok x → IsActionRead extent (make x)) → made make r ≡ Ok action → IsActionRead extent action
made_fits extent make (Err k) action h e = cc
made_fits extent make (Ok x) action h e = subst (IsActionRead extent) (same_ok (make x) action e) (h x refl)

core_fits : (extent : Extent) (fields : Fields) (core : ℕ) → core_row extent fields ≡ Ok core → core < extent.cores
core_fits extent fields core h =
    let c = check_two (has_numbers fields) (nat_lt (number_at fields 1) extent.cores) kind.Number kind.Range (number_at fields 1) core h in
    subst (λ (n : ℕ). n < extent.cores) c.2 (ltb-true (number_at fields 1) extent.cores c.1)

ban_fits : (extent : Extent) (fields : Fields) (action : Action) → ban_row extent fields ≡ Ok action → IsActionRead extent action
ban_fits extent fields action h =
    let c = check_two (has_numbers fields) (nat_lt (number_at fields 1) extent.cores && nat_lt (number_at fields 2) extent.threads) kind.Number kind.Range
    (Ban (number_at fields 1) (number_at fields 2) (number_at fields 3)) action h in
    let p = and_parts (nat_lt (number_at fields 1) extent.cores) (nat_lt (number_at fields 2) extent.threads) c.1 in
    subst (IsActionRead extent) c.2 (record { word = word_at fields 3; range = (ltb-true (number_at fields 1) extent.cores p.0, ltb-true (number_at fields 2) extent.threads p.1) })

revoke_fits : (extent : Extent) (most : ℕ) (fields : Fields) (row : ℕ × ℕ) → revoke_row extent most fields ≡ Ok row → (row.0 < extent.cores) × (row.1 < most)
revoke_fits extent most fields row h =
    let c = check_two (is_number_at fields 1 && is_number_at fields 3) (nat_lt (number_at fields 1) extent.cores && nat_lt (number_at fields 3) most) kind.Number kind.Range
    (number_at fields 1, number_at fields 3) row h in
    let p = and_parts (nat_lt (number_at fields 1) extent.cores) (nat_lt (number_at fields 3) most) c.1 in
    subst (λ (row : ℕ × ℕ). (row.0 < extent.cores) × (row.1 < most)) c.2 (ltb-true (number_at fields 1) extent.cores p.0, ltb-true (number_at fields 3) most p.1)

bandwidth_fits : (extent : Extent) (fields : Fields) (action : Action) → revoke_for_bandwidth_row extent fields ≡ Ok action → IsActionRead extent action
bandwidth_fits extent fields action h =
    let c = check_two (is_number_at fields 1) (nat_lt (number_at fields 1) extent.cores) kind.Number kind.Range (Revoke (number_at fields 1) causes.Bandwidth) action h in
    subst (IsActionRead extent) c.2 (record { word = tt; range = (ltb-true (number_at fields 1) extent.cores c.1, tt) })

cap_fits : (extent : Extent) (fields : Fields) (action : Action) → cap_row extent fields ≡ Ok action → IsActionRead extent action
cap_fits extent fields action h =
    let c = check_two (has_numbers fields) (nat_lt (number_at fields 1) extent.tasks && nat_le (number_at fields 2) 16) kind.Number kind.Range (Cap (number_at fields 1) (number_at fields 2)) action h in
    let p = and_parts (nat_lt (number_at fields 1) extent.tasks) (nat_le (number_at fields 2) 16) c.1 in
    subst (IsActionRead extent) c.2 (record { word = tt; range = (ltb-true (number_at fields 1) extent.tasks p.0, leb-true (number_at fields 2) 16 p.1) })

grant_fits : (extent : Extent) (fields : Fields) (action : Action) → grant_row extent fields ≡ Ok action → IsActionRead extent action
grant_fits extent fields action h =
    let core = number_at fields 1 in
    let thread = number_at fields 2 in
    let class = number_at fields 3 in
    let c = check_two (has_numbers fields) (nat_lt core extent.cores && nat_lt thread extent.threads && nat_le 1 class && nat_le class 5) kind.Number kind.Range (Grant core thread class) action h in
    let p = and_four (nat_lt core extent.cores) (nat_lt thread extent.threads) (nat_le 1 class) (nat_le class 5) c.1 in
    subst (IsActionRead extent) c.2 (record { word = tt; range = (ltb-true core extent.cores p.0, ltb-true thread extent.threads p.1, leb-true 1 class p.2, leb-true class 5 p.3) })

action_fits : (shape : ActionForm) (extent : Extent) (fields : Fields) (action : Action) → action_row shape extent fields ≡ Ok action → IsActionRead extent action
action_fits act.Free extent fields action h = made_fits extent (λ core. Free core) (core_row extent fields) action (λ core e. record { word = tt; range = core_fits extent fields core e }) h
action_fits act.Unban extent fields action h = made_fits extent (λ core. Unban core) (core_row extent fields) action (λ core e. record { word = tt; range = core_fits extent fields core e }) h
action_fits act.Ban extent fields action h = ban_fits extent fields action h
action_fits act.RevokeForBan extent fields action h =
    made_fits extent (λ p. Revoke p.0 (causes.Ban p.1)) (revoke_row extent extent.cores fields) action (λ p e. record { word = tt; range = revoke_fits extent extent.cores fields p e }) h
action_fits act.RevokeForBandwidth extent fields action h = bandwidth_fits extent fields action h
action_fits act.RevokeForTask extent fields action h =
    made_fits extent (λ p. Revoke p.0 (causes.Preempt p.1)) (revoke_row extent extent.tasks fields) action (λ p e. record { word = tt; range = revoke_fits extent extent.tasks fields p e }) h
action_fits act.Cap extent fields action h = cap_fits extent fields action h
action_fits act.Grant extent fields action h = grant_fits extent fields action h

-- a pass at hand
record IsPartRead (extent : Extent) (entry : PassEntry) : Type 0 where
  pub rooms : length entry.input.rooms ≡ length entry.input.seen
  pub most : length entry.actions ≤ MOST_ACTIONS
  pub words : HasWords entry
  pub seen : Each IsLookInRange entry.input.seen
  pub actions : Each (IsActionInRange extent) entry.actions

-- what the rows so far have given
record IsSoFarRead (extent : Extent) (so_far : SoFar PassEntry) : Type 0 where
  pub before : Each (IsEntryInRange extent) so_far.before
  pub part : (entry : PassEntry) → so_far.at_hand ≡ Some entry → IsPartRead extent entry
  pub passes : length (passes_of so_far) ≤ MOST_PASSES

-- a pass that has all its looks
whole_entry : (extent : Extent) (entry : PassEntry) → length entry.input.seen ≡ extent.threads → IsPartRead extent entry → IsEntryInRange extent entry
whole_entry extent entry full part = record { looks = full; rooms = cc (part.rooms); most = part.most; words = part.words; seen = part.seen; actions = part.actions }

entries_fit : (extent : Extent) (before : List PassEntry) (at_hand : Option PassEntry) → is_full looks_in extent.threads at_hand ≡ true → Each (IsEntryInRange extent) before
    → ((entry : PassEntry) → at_hand ≡ Some entry → IsPartRead extent entry) → Each (IsEntryInRange extent) (before ++ option_to_list at_hand)
entries_fit extent before None full fit part = subst (Each (IsEntryInRange extent)) (sym (append-nil before)) fit
entries_fit extent before (Some entry) full fit part =
    each_push (IsEntryInRange extent) before entry fit (whole_entry extent entry (eqb-true (length entry.input.seen) extent.threads full) (part entry refl))

between_fit : (extent : Extent) (so_far : SoFar PassEntry) → is_between looks_in extent.threads so_far ≡ true → IsSoFarRead extent so_far → Each (IsEntryInRange extent) (passes_of so_far)
between_fit extent so_far between r = entries_fit extent so_far.before so_far.at_hand (and_parts (not so_far.ended) (is_full looks_in extent.threads so_far.at_hand) between).1 r.before r.part

-- a pass row
begun_fits : (extent : Extent) (fields : Fields) → IsPartRead extent (begun (record { now = number_at fields 1; bandwidth = number_at fields 2 }))
begun_fits extent fields = record {
  rooms = refl;
  most = omega arith;
  words = record { now = word_at fields 1; bandwidth = word_at fields 2; looks = each_none HasLookWords; starts = each_none HasActionWord };
  seen = each_none IsLookInRange;
  actions = each_none (IsActionInRange extent);
}

just : {X : Type 0} (P : X → Type 0) (x : X) → P x → (y : X) → Some x ≡ Some y → P y
just P x p y e = let same : x ≡ y = cc in subst P same p

pass_added : (extent : Extent) (so_far next : SoFar PassEntry) (r : Result GivenPass FaultKind) → Each (IsEntryInRange extent) (passes_of so_far)
    → ((row : GivenPass) → r ≡ Ok row → IsPartRead extent (begun row) × (length (passes_of so_far) < MOST_PASSES)) → add_pass begun so_far r ≡ Ok next → IsSoFarRead extent next
pass_added extent so_far next (Err k) fit h e = cc
pass_added extent so_far next (Ok row) fit h e =
    let p = h row refl in
    let few = p.1 in
    subst (IsSoFarRead extent) (same_ok _ next e) (record {
      before = fit;
      part = just (IsPartRead extent) (begun row) p.0;
      passes = omega (arith, length-append (passes_of so_far) (begun row ∷ []));
    })

pass_fits : (extent : Extent) (so_far next : SoFar PassEntry) (fields : Fields) → IsSoFarRead extent so_far → take_form extent so_far (Some form.Pass) fields ≡ Ok next → IsSoFarRead extent next
pass_fits extent so_far next fields r h =
    let c = check_one (is_between looks_in extent.threads so_far) kind.Order (add_pass begun so_far (pass_row (length (passes_of so_far)) fields)) next h in
    pass_added extent so_far next (pass_row (length (passes_of so_far)) fields) (between_fit extent so_far c.0 r) (λ row e.
    let d = check_two (has_numbers fields) (nat_lt (length (passes_of so_far)) MOST_PASSES) kind.Number kind.Range (record { now = number_at fields 1; bandwidth = number_at fields 2 }) row e in
    (subst (λ (row : GivenPass). IsPartRead extent (begun row)) d.2 (begun_fits extent fields), ltb-true (length (passes_of so_far)) MOST_PASSES d.1)) c.1

-- the end row
end_added : (extent : Extent) (so_far next : SoFar PassEntry) (r : Result ℕ FaultKind) → Each (IsEntryInRange extent) (passes_of so_far) → length (passes_of so_far) ≤ MOST_PASSES
    → add_end so_far r ≡ Ok next → IsSoFarRead extent next
end_added extent so_far next (Err k) fit few e = cc
end_added extent so_far next (Ok count) fit few e = subst (IsSoFarRead extent) (same_ok _ next e) (record {
  before = fit;
  part = λ entry e. cc;
  passes = subst (λ (x : List PassEntry). length x ≤ MOST_PASSES) (sym (append-nil (passes_of so_far))) few;
})

end_fits : (extent : Extent) (so_far next : SoFar PassEntry) (fields : Fields) → IsSoFarRead extent so_far → take_form extent so_far (Some form.End) fields ≡ Ok next → IsSoFarRead extent next
end_fits extent so_far next fields r h =
    let c = check_one (is_between looks_in extent.threads so_far) kind.Order (add_end so_far (end_row (length (passes_of so_far)) fields)) next h in
    end_added extent so_far next (end_row (length (passes_of so_far)) fields) (between_fit extent so_far c.0 r) r.passes c.1

-- a look row
look_part : (extent : Extent) (entry : PassEntry) (form : LookForm) (found : FoundLook) → IsLookRead (judged form found.look) → IsPartRead extent entry → IsPartRead extent (with_look form found entry)
look_part extent entry form found look part =
    let rooms = part.rooms in
    let seen = judged form found.look in
    record {
      rooms = omega (arith, length-append entry.input.rooms (found.room ∷ []), length-append entry.input.seen (seen ∷ []));
      most = part.most;
      words = record { now = part.words.now; bandwidth = part.words.bandwidth; looks = each_push HasLookWords entry.input.seen seen part.words.looks look.words; starts = part.words.starts };
      seen = each_push IsLookInRange entry.input.seen seen part.seen look.range;
      actions = part.actions;
    }

look_at_hand : (extent : Extent) (at_hand : Option PassEntry) (form : LookForm) (found : FoundLook) → IsLookRead (judged form found.look)
    → ((entry : PassEntry) → at_hand ≡ Some entry → IsPartRead extent entry) → (entry : PassEntry) → option_map (with_look form found) at_hand ≡ Some entry → IsPartRead extent entry
look_at_hand extent None form found look part entry e = cc
look_at_hand extent (Some own) form found look part entry e = just (IsPartRead extent) (with_look form found own) (look_part extent own form found look (part own refl)) entry e

same_length : (before : List PassEntry) (at_hand : Option PassEntry) (more : PassEntry → PassEntry) → length (before ++ option_to_list (option_map more at_hand)) ≡ length (before ++ option_to_list at_hand)
same_length before None more = refl
same_length before (Some entry) more = omega (arith, length-append before (more entry ∷ []), length-append before (entry ∷ []))

look_added : (extent : Extent) (so_far next : SoFar PassEntry) (form : LookForm) (r : Result FoundLook FaultKind) → IsSoFarRead extent so_far
    → ((found : FoundLook) → r ≡ Ok found → IsLookRead (judged form found.look)) → add_look (with_look form) so_far r ≡ Ok next → IsSoFarRead extent next
look_added extent so_far next form (Err k) r h e = cc
look_added extent so_far next form (Ok found) r h e = subst (IsSoFarRead extent) (same_ok _ next e) (record {
  before = r.before;
  part = look_at_hand extent so_far.at_hand form found (h found refl) r.part;
  passes = let few = r.passes in omega (arith, same_length so_far.before so_far.at_hand (with_look form found));
})

look_taken_fits : (extent : Extent) (so_far next : SoFar PassEntry) (form : LookForm) (fields : Fields) (thread : Result ℕ FaultKind) → IsSoFarRead extent so_far
    → take_look (with_look form) (λ k. look_row form k fields) so_far thread ≡ Ok next → IsSoFarRead extent next
look_taken_fits extent so_far next form fields (Err k) r e = cc
look_taken_fits extent so_far next form fields (Ok thread) r e =
    look_added extent so_far next form (look_row form thread fields) r (λ found e. row_fits_look form thread fields found e) e

-- an action row
action_part : (extent : Extent) (entry : PassEntry) (action : Action) → IsActionRead extent action → length entry.actions < MOST_ACTIONS → IsPartRead extent entry → IsPartRead extent (with_action action entry)
action_part extent entry action read few part = record {
  rooms = part.rooms;
  most = omega (arith, length-append entry.actions (action ∷ []));
  words = record { now = part.words.now; bandwidth = part.words.bandwidth; looks = part.words.looks; starts = each_push HasActionWord entry.actions action part.words.starts read.word };
  seen = part.seen;
  actions = each_push (IsActionInRange extent) entry.actions action part.actions read.range;
}

action_added : (extent : Extent) (so_far next : SoFar PassEntry) (entry : PassEntry) (r : Result Action FaultKind) → so_far.at_hand ≡ Some entry → IsSoFarRead extent so_far
    → ((action : Action) → r ≡ Ok action → IsActionRead extent action) → add_action so_far entry r ≡ Ok next → IsSoFarRead extent next
action_added extent so_far next entry (Err k) own r h e = cc
action_added extent so_far next entry (Ok action) own r h e =
    let c = check_one (nat_lt (length entry.actions) MOST_ACTIONS) kind.Range (Ok (record so_far { at_hand = Some (with_action action entry) })) next e in
    let one = r.passes in
    let few : length (so_far.before ++ entry ∷ []) ≤ MOST_PASSES = subst (λ (o : Option PassEntry). length (so_far.before ++ option_to_list o) ≤ MOST_PASSES) own one in
    subst (IsSoFarRead extent) (same_ok _ next c.1) (record {
      before = r.before;
      part = just (IsPartRead extent) (with_action action entry) (action_part extent entry action (h action refl) (ltb-true (length entry.actions) MOST_ACTIONS c.0) (r.part entry own));
      passes = omega (arith, length-append so_far.before (entry ∷ []), length-append so_far.before (with_action action entry ∷ []));
    })

action_taken_fits : (extent : Extent) (so_far next : SoFar PassEntry) (shape : ActionForm) (fields : Fields) (at_hand : Option PassEntry) → so_far.at_hand ≡ at_hand → IsSoFarRead extent so_far
    → take_action extent so_far shape fields at_hand ≡ Ok next → IsSoFarRead extent next
action_taken_fits extent so_far next shape fields None own r e = cc
action_taken_fits extent so_far next shape fields (Some entry) own r e =
    let c = check_one (length entry.input.seen == extent.threads) kind.Order (add_action so_far entry (action_row shape extent fields)) next e in
    action_added extent so_far next entry (action_row shape extent fields) own r (λ action e. action_fits shape extent fields action e) c.1

-- a row
row_fits : (extent : Extent) (so_far next : SoFar PassEntry) (shape : Option Form) (fields : Fields) → IsSoFarRead extent so_far → take_form extent so_far shape fields ≡ Ok next → IsSoFarRead extent next
row_fits extent so_far next None fields r h = cc
row_fits extent so_far next (Some form.Header) fields r h = cc
row_fits extent so_far next (Some form.Pass) fields r h = pass_fits extent so_far next fields r h
row_fits extent so_far next (Some form.End) fields r h = end_fits extent so_far next fields r h
row_fits extent so_far next (Some (form.Look look)) fields r h = look_taken_fits extent so_far next look fields (next_thread looks_in extent.threads so_far.at_hand) r h
row_fits extent so_far next (Some (form.Act shape)) fields r h = action_taken_fits extent so_far next shape fields so_far.at_hand refl r h

-- the rows
end_of_rows : (ended : Bool) (before history : List PassEntry) → (if ended then Some before else None) ≡ Some history → before ≡ history
end_of_rows true before history h = cc
end_of_rows false before history h = cc

-- a history that was read is in range
pub read_in_range : (extent : Extent) (rows : List Fields) (history : List PassEntry) → history_of extent rows ≡ Ok history → IsInRange extent history
read_in_range extent rows history h =
    kept_under (take_row extent) whole (IsSoFarRead extent) (IsInRange extent)
    (λ version so_far next fields r e. row_fits extent so_far next (form_of version fields) fields r e)
    (λ so_far history r e.
    let few = r.passes in
    let done : IsInRange extent so_far.before = record { passes = omega (arith, length-append so_far.before (option_to_list so_far.at_hand)); each = r.before } in
    subst (IsInRange extent) (end_of_rows so_far.ended so_far.before history e) done)
    at_start (header_of (codes "caladan-history") rows) history (record { before = each_none (IsEntryInRange extent); part = λ entry e. cc; passes = omega arith }) h
