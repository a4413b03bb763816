-- The rows of a history's text, each taken for what it was written of.
use Rattle.cal_trace.proofs.Common.{◌≡◌, ◌<◌, ◌==◌, ◌∙◌, ℕ, List, [], ◌∷◌, ◌++◌, length, codes, Bool, true, false, Some, None, Ok, decimal, nat_lt, nat_le, refl, ap, arith, lt-ltb, le-leb, eq-eqb, field_at, Record, Seen, Action, Free, Unban, Ban, Revoke, Cap, Grant, Cause, PassEntry, SoFar, passes_of, is_between, next_thread, add_look, take_look, add_action, begun, with_action, MOST_ACTIONS, room_number, record_fields, look_fields, revocation_fields, action_fields, end_fields, check, look_row, MOST_PASSES, IsWord, HasLookWords, HasActionWord, IsLookInRange, IsCauseInRange, IsActionInRange, Fields, shaped_test, pair_test, Extent, LookForm, FoundLook, WRITTEN}
use Rattle.cal_policy.specs.declared.history.look.Seen.TheVariants as seen
use Rattle.cal_policy.specs.declared.history.action.Cause.TheVariants as causes
use Rattle.cal_trace.specs.History.ActionRows.{action_row, made, core_row, ban_row, revoke_row, revoke_for_bandwidth_row, cap_row, grant_row}
use Rattle.cal_trace.specs.History.{form_of, take_row, take_form, with_look, looks_in}
use Rattle.cal_trace.specs.History.Text.{pass_fields}
use Rattle.cal_trace.specs.declared.history.action_rows.ActionForm.{ActionForm}
use Rattle.cal_trace.specs.declared.history.action_rows.ActionForm.TheVariants as act
use Rattle.cal_trace.specs.declared.fault.FaultKind.TheVariants as kind
use Rattle.cal_trace.specs.declared.history.reading.Form.TheVariants as form
use Rattle.cal_trace.specs.declared.rows.look_rows.LookForm.TheVariants as looks
use Rattle.cal_trace.proofs.HistoryLemmas.Extents.{IsExtent, byte_word}
use Rattle.cal_trace.proofs.HistoryLemmas.RecordRows.{busy_read, record_read}
use Rattle.cal_trace.proofs.RowLemmas.Spelled.{IsSpelled, spelled}

-- these passes, and this one at hand
abbrev pub within : List PassEntry → PassEntry → SoFar PassEntry
within before entry = record { before = before; at_hand = Some entry; ended = false }

-- these passes, and the end
abbrev pub ended : List PassEntry → SoFar PassEntry
ended before = record { before = before; at_hand = None; ended = true }

-- a pass row
pass_read : (extent : Extent) (so_far : SoFar PassEntry) (a b : List ℕ) (now bandwidth : ℕ) → is_between looks_in extent.threads so_far ≡ true → nat_lt (length (passes_of so_far)) MOST_PASSES ≡ true
    → IsSpelled now a → IsSpelled bandwidth b
    → take_row extent WRITTEN so_far (codes "pass" ∷ a ∷ b ∷ []) ≡ Ok (within (passes_of so_far) (begun (record { now = now; bandwidth = bandwidth })))
unfolding field_at
pass_read extent so_far a b now bandwidth between few is_now is_bandwidth = rw (between, few, is_now.number, is_bandwidth.number) refl

pub pass_taken : (extent : Extent) (so_far : SoFar PassEntry) (entry : PassEntry) → is_between looks_in extent.threads so_far ≡ true → length (passes_of so_far) < MOST_PASSES
    → IsWord entry.input.now → IsWord entry.input.bandwidth
    → take_row extent WRITTEN so_far (pass_fields entry) ≡ Ok (within (passes_of so_far) (begun (record { now = entry.input.now; bandwidth = entry.input.bandwidth })))
pass_taken extent so_far entry between few now bandwidth =
    pass_read extent so_far _ _ entry.input.now entry.input.bandwidth between (lt-ltb (length (passes_of so_far)) MOST_PASSES few) (spelled entry.input.now now) (spelled entry.input.bandwidth bandwidth)

-- the end row
end_read : (extent : Extent) (so_far : SoFar PassEntry) (a : List ℕ) (count : ℕ) → is_between looks_in extent.threads so_far ≡ true → IsSpelled count a → (count == length (passes_of so_far)) ≡ true
    → take_row extent WRITTEN so_far (codes "end" ∷ a ∷ []) ≡ Ok (ended (passes_of so_far))
unfolding field_at
end_read extent so_far a count between is_count same = rw (between, is_count.number, same) refl

pub end_taken : (extent : Extent) (so_far : SoFar PassEntry) (count : ℕ) → is_between looks_in extent.threads so_far ≡ true → IsWord count → count ≡ length (passes_of so_far)
    → take_row extent WRITTEN so_far (end_fields count) ≡ Ok (ended (passes_of so_far))
end_taken extent so_far count between is_count same = end_read extent so_far _ count between (spelled count is_count) (eq-eqb count (length (passes_of so_far)) same)

-- what a look row is, by its first field
record_form : (thread : ℕ) (room : Bool) (place : ℕ) (rec : Record) → form_of WRITTEN (record_fields (codes "whole") thread room place rec) ≡ Some (form.Look looks.Whole)
unfolding field_at
record_form thread room place rec = refl

ahead_form : (thread : ℕ) (room : Bool) (place : ℕ) (rec : Record) → form_of WRITTEN (record_fields (codes "ahead") thread room place rec) ≡ Some (form.Look looks.Ahead)
unfolding field_at
ahead_form thread room place rec = refl

foreign_form : (thread : ℕ) (room : Bool) (place : ℕ) (rec : Record) → form_of WRITTEN (record_fields (codes "foreign") thread room place rec) ≡ Some (form.Look looks.Foreign)
unfolding field_at
foreign_form thread room place rec = refl

busy_form : (t r a b : List ℕ) → form_of WRITTEN (codes "busy" ∷ t ∷ r ∷ a ∷ b ∷ []) ≡ Some (form.Look looks.Busy)
unfolding field_at
busy_form t r a b = refl

-- a look row, by its form and its value
look_by : (extent : Extent) (before : List PassEntry) (entry : PassEntry) (look : LookForm) (thread : ℕ) (fields : Fields) (found : FoundLook)
    → form_of WRITTEN fields ≡ Some (form.Look look) → next_thread looks_in extent.threads (Some entry) ≡ Ok thread → look_row look thread fields ≡ Ok found
    → take_row extent WRITTEN (within before entry) fields ≡ Ok (within before (with_look look found entry))
look_by extent before entry look thread fields found is next value =
    ap (λ f. take_form extent (within before entry) f fields) is ∙ ap (take_look (with_look look) (λ k. look_row look k fields) (within before entry)) next
    ∙ ap (add_look (with_look look) (within before entry)) value

-- one more judged look
abbrev pub with_seen : Seen → Bool → PassEntry → PassEntry
with_seen look room entry = record {
  input = record { now = entry.input.now; bandwidth = entry.input.bandwidth; seen = entry.input.seen ++ look ∷ []; rooms = entry.input.rooms ++ room ∷ [] };
  actions = entry.actions;
}

-- the row of a look
pub look_taken : (extent : Extent) (before : List PassEntry) (entry : PassEntry) (thread : ℕ) (room : Bool) (look : Seen) → next_thread looks_in extent.threads (Some entry) ≡ Ok thread
    → IsWord thread → HasLookWords look → IsLookInRange look → take_row extent WRITTEN (within before entry) (look_fields thread room look) ≡ Ok (within before (with_seen look room entry))
look_taken extent before entry thread room (seen.Whole place rec) next is_thread w shaped =
    look_by extent before entry looks.Whole thread (look_fields thread room (seen.Whole place rec)) _ (record_form thread room place rec) next
    (record_read looks.Whole (λ fields. refl) (codes "whole") thread room place rec is_thread w.0 w.1 (shaped_test rec shaped))
look_taken extent before entry thread room (seen.Ahead place rec) next is_thread w shaped =
    look_by extent before entry looks.Ahead thread (look_fields thread room (seen.Ahead place rec)) _ (ahead_form thread room place rec) next
    (record_read looks.Ahead (λ fields. refl) (codes "ahead") thread room place rec is_thread w.0 w.1 (shaped_test rec shaped))
look_taken extent before entry thread room (seen.Foreign place rec) next is_thread w shaped =
    look_by extent before entry looks.Foreign thread (look_fields thread room (seen.Foreign place rec)) _ (foreign_form thread room place rec) next
    (record_read looks.Foreign (λ fields. refl) (codes "foreign") thread room place rec is_thread w.0 w.1 (shaped_test rec shaped))
look_taken extent before entry thread room (seen.Busy first second) next is_thread w pair =
    look_by extent before entry looks.Busy thread (look_fields thread room (seen.Busy first second)) _
    (busy_form (decimal thread) (decimal (room_number room)) (decimal first) (decimal second)) next (busy_read thread room first second is_thread w.0 w.1 (pair_test first second pair))

-- action rows
core_read : (extent : Extent) (core : ℕ) (name a : List ℕ) → IsSpelled core a → nat_lt core extent.cores ≡ true → core_row extent (name ∷ a ∷ []) ≡ Ok core
unfolding field_at
core_read extent core name a is_core below = rw (is_core.number, below) refl

ban_read : (extent : Extent) (core thread started : ℕ) (name a b c : List ℕ) → IsSpelled core a → IsSpelled thread b → IsSpelled started c
    → nat_lt core extent.cores ≡ true → nat_lt thread extent.threads ≡ true → ban_row extent (name ∷ a ∷ b ∷ c ∷ []) ≡ Ok (Ban core thread started)
unfolding field_at
ban_read extent core thread started name a b c is_core is_thread is_started below thread_below = rw (is_core.number, is_thread.number, is_started.number, below, thread_below) refl

revoke_read : (extent : Extent) (most core named : ℕ) (name a word b : List ℕ) → IsSpelled core a → IsSpelled named b
    → nat_lt core extent.cores ≡ true → nat_lt named most ≡ true → revoke_row extent most (name ∷ a ∷ word ∷ b ∷ []) ≡ Ok (core, named)
unfolding field_at
revoke_read extent most core named name a word b is_core is_named below named_below = rw (is_core.number, is_named.number, below, named_below) refl

bandwidth_read : (extent : Extent) (core : ℕ) (name a word : List ℕ) → IsSpelled core a → nat_lt core extent.cores ≡ true
    → revoke_for_bandwidth_row extent (name ∷ a ∷ word ∷ []) ≡ Ok (Revoke core causes.Bandwidth)
unfolding field_at
bandwidth_read extent core name a word is_core below = rw (is_core.number, below) refl

cap_read : (extent : Extent) (task cap : ℕ) (name a b : List ℕ) → IsSpelled task a → IsSpelled cap b
    → nat_lt task extent.tasks ≡ true → nat_le cap 16 ≡ true → cap_row extent (name ∷ a ∷ b ∷ []) ≡ Ok (Cap task cap)
unfolding field_at
cap_read extent task cap name a b is_task is_cap below few = rw (is_task.number, is_cap.number, below, few) refl

grant_read : (extent : Extent) (core thread class : ℕ) (name a b c : List ℕ) → IsSpelled core a → IsSpelled thread b → IsSpelled class c
    → nat_lt core extent.cores ≡ true → nat_lt thread extent.threads ≡ true → nat_le 1 class ≡ true → nat_le class 5 ≡ true
    → grant_row extent (name ∷ a ∷ b ∷ c ∷ []) ≡ Ok (Grant core thread class)
unfolding field_at
grant_read extent core thread class name a b c is_core is_thread is_class below thread_below least most = rw (is_core.number, is_thread.number, is_class.number, below, thread_below, least, most) refl

-- what an action row is, by its first field and its cause
free_form : (a : List ℕ) → form_of WRITTEN (codes "free" ∷ a ∷ []) ≡ Some (form.Act act.Free)
unfolding field_at
free_form a = refl

unban_form : (a : List ℕ) → form_of WRITTEN (codes "unban" ∷ a ∷ []) ≡ Some (form.Act act.Unban)
unfolding field_at
unban_form a = refl

ban_form : (a b c : List ℕ) → form_of WRITTEN (codes "ban" ∷ a ∷ b ∷ c ∷ []) ≡ Some (form.Act act.Ban)
unfolding field_at
ban_form a b c = refl

revoke_ban_form : (a b : List ℕ) → form_of WRITTEN (codes "revoke" ∷ a ∷ codes "ban" ∷ b ∷ []) ≡ Some (form.Act act.RevokeForBan)
unfolding field_at
revoke_ban_form a b = refl

revoke_bandwidth_form : (a : List ℕ) → form_of WRITTEN (codes "revoke" ∷ a ∷ codes "bandwidth" ∷ []) ≡ Some (form.Act act.RevokeForBandwidth)
unfolding field_at
revoke_bandwidth_form a = refl

revoke_task_form : (a b : List ℕ) → form_of WRITTEN (codes "revoke" ∷ a ∷ codes "preempt" ∷ b ∷ []) ≡ Some (form.Act act.RevokeForTask)
unfolding field_at
revoke_task_form a b = refl

cap_form : (a b : List ℕ) → form_of WRITTEN (codes "cap" ∷ a ∷ b ∷ []) ≡ Some (form.Act act.Cap)
unfolding field_at
cap_form a b = refl

grant_form : (a b c : List ℕ) → form_of WRITTEN (codes "grant" ∷ a ∷ b ∷ c ∷ []) ≡ Some (form.Act act.Grant)
unfolding field_at
grant_form a b c = refl

-- the value of an action's row
record IsActionRow (extent : Extent) (action : Action) (fields : Fields) : Type 0 where
  pub shape : ActionForm
  pub is : form_of WRITTEN fields ≡ Some (form.Act shape)
  pub value : action_row shape extent fields ≡ Ok action

byte : (n most : ℕ) → n < most → most < 256 → IsSpelled n (decimal n)
byte n most lt few = spelled n (byte_word n (omega arith))

revocation_row : (extent : Extent) (core : ℕ) (cause : Cause) → IsExtent extent → core < extent.cores → IsCauseInRange extent cause → IsActionRow extent (Revoke core cause) (revocation_fields core cause)
revocation_row extent core (causes.Ban by) few is_core is_by = record {
  shape = act.RevokeForBan;
  is = revoke_ban_form _ _;
  value = ap (made (λ (p : ℕ × ℕ). Revoke p.0 (causes.Ban p.1))) (revoke_read extent extent.cores core by _ _ _ _ (byte core extent.cores is_core few.few_cores) (byte by extent.cores is_by few.few_cores)
      (lt-ltb core extent.cores is_core) (lt-ltb by extent.cores is_by));
}
revocation_row extent core causes.Bandwidth few is_core is_cause = record {
  shape = act.RevokeForBandwidth;
  is = revoke_bandwidth_form _;
  value = bandwidth_read extent core _ _ _ (byte core extent.cores is_core few.few_cores) (lt-ltb core extent.cores is_core);
}
revocation_row extent core (causes.Preempt task) few is_core is_task = record {
  shape = act.RevokeForTask;
  is = revoke_task_form _ _;
  value = ap (made (λ (p : ℕ × ℕ). Revoke p.0 (causes.Preempt p.1))) (revoke_read extent extent.tasks core task _ _ _ _ (byte core extent.cores is_core few.few_cores) (byte task extent.tasks is_task few.few_tasks)
      (lt-ltb core extent.cores is_core) (lt-ltb task extent.tasks is_task));
}

row_of_action : (extent : Extent) (action : Action) → IsExtent extent → HasActionWord action → IsActionInRange extent action → IsActionRow extent action (action_fields action)
row_of_action extent (Free core) few w r = record {
  shape = act.Free;
  is = free_form _;
  value = ap (made (λ (core : ℕ). Free core)) (core_read extent core _ _ (byte core extent.cores r few.few_cores) (lt-ltb core extent.cores r));
}
row_of_action extent (Unban core) few w r = record {
  shape = act.Unban;
  is = unban_form _;
  value = ap (made (λ (core : ℕ). Unban core)) (core_read extent core _ _ (byte core extent.cores r few.few_cores) (lt-ltb core extent.cores r));
}
row_of_action extent (Ban core thread started) few w r = record {
  shape = act.Ban;
  is = ban_form _ _ _;
  value = ban_read extent core thread started _ _ _ _ (byte core extent.cores r.0 few.few_cores) (byte thread extent.threads r.1 few.few_threads) (spelled started w)
      (lt-ltb core extent.cores r.0) (lt-ltb thread extent.threads r.1);
}
row_of_action extent (Revoke core cause) few w r = revocation_row extent core cause few r.0 r.1
row_of_action extent (Cap task cap) few w r = record {
  shape = act.Cap;
  is = cap_form _ _;
  value = cap_read extent task cap _ _ _ (byte task extent.tasks r.0 few.few_tasks) (let most = r.1 in spelled cap (byte_word cap (omega arith)))
      (lt-ltb task extent.tasks r.0) (le-leb cap 16 r.1);
}
row_of_action extent (Grant core thread class) few w r = record {
  shape = act.Grant;
  is = grant_form _ _ _;
  value = grant_read extent core thread class _ _ _ _ (byte core extent.cores r.0 few.few_cores) (byte thread extent.threads r.1 few.few_threads) (let most = r.3 in spelled class (byte_word class (omega arith)))
      (lt-ltb core extent.cores r.0) (lt-ltb thread extent.threads r.1) (le-leb 1 class r.2) (le-leb class 5 r.3);
}

-- an action row, by its form and its value
action_by : (extent : Extent) (before : List PassEntry) (entry : PassEntry) (shape : ActionForm) (fields : Fields) (action : Action)
    → form_of WRITTEN fields ≡ Some (form.Act shape) → (length entry.input.seen == extent.threads) ≡ true → action_row shape extent fields ≡ Ok action
    → nat_lt (length entry.actions) MOST_ACTIONS ≡ true
    → take_row extent WRITTEN (within before entry) fields ≡ Ok (within before (with_action action entry))
action_by extent before entry shape fields action is full value room =
    ap (λ f. take_form extent (within before entry) f fields) is
    ∙ ap (λ (b : Bool). check b kind.Order (add_action (within before entry) entry (action_row shape extent fields))) full
    ∙ ap (add_action (within before entry) entry) value
    ∙ ap (λ (b : Bool). check b kind.Range (Ok (within before (with_action action entry)))) room

-- the row of an action
pub action_taken : (extent : Extent) (before : List PassEntry) (entry : PassEntry) (action : Action) → IsExtent extent → length entry.input.seen ≡ extent.threads
    → length entry.actions < MOST_ACTIONS → HasActionWord action → IsActionInRange extent action
    → take_row extent WRITTEN (within before entry) (action_fields action) ≡ Ok (within before (with_action action entry))
action_taken extent before entry action few full room w r =
    let row = row_of_action extent action few w r in
    action_by extent before entry row.shape (action_fields action) action row.is (eq-eqb (length entry.input.seen) extent.threads full) row.value (lt-ltb (length entry.actions) MOST_ACTIONS room)
