-- The commands of a permitted pass, sent one action after the other.
use Rattle.std.proofs.Common.{◌≡◌, ◌≢◌, ℕ, lit<, if◌then◌else◌, ◌+◌, ◌<◌, ◌≤◌, ◌⊎◌, inl, inr, Bool, true, false, eqb, List, [], ◌∷◌, ◌++◌, length, take, set, Option, Some, None, slice_get, slice_index_or, refl, sym, ap, subst, ◌∙◌, arith, length-append, append_assoc}
use Rattle.std.proofs.Math.ListN.{length-set}
use Rattle.std.proofs.Math.Seq.{take-append_seam}
use Rattle.std.proofs.lemmas.Bool.{eqb-true, eqb-false, eq-eqb}
use Rattle.std.proofs.lemmas.List.{append-nil}
use Rattle.std.proofs.lemmas.Option.{slice_get_within}
use Rattle.cal_command.specs.Rings.{SenderView, HasRoom}
use Rattle.cal_guard.specs.Histories.{IsPermittedPoint}
use Rattle.cal_guard.specs.Laws.{CommandsGoWhereIsRoom, ThreadsAreSentOneCommand}
use Rattle.cal_guard.specs.Permitted.{IsPermittedHistory}
use Rattle.cal_machine.specs.Table.{Table}
use Rattle.cal_machine.specs.declared.command.Command.{Command}
use Rattle.cal_policy.specs.declared.history.action.Action.{Action}
use Rattle.cal_policy.specs.declared.history.entry.PassEntry.{PassEntry}
use Rattle.cal_policy.specs.History.{actions_of, commands_to, sent_to, sends, addressed_to, command_to}
use Rattle.cal_policy.proofs.HistoryLemmas.OneMore.{commands_push}
use Rattle.cal_laws.specs.Point.{Point}
use Rattle.cal_sched.proofs.Lists.{slice_get-set_other, slice_get-set_same}
use Rattle.cal_sched.proofs.Sent.{SentBelow}
use Rattle.cal_machine.proofs.Places.{slice_get_at}
use Rattle.cal_machine.proofs.Last.{some_same, slice_get-last, take_next}

-- what goes to a thread is sent to it and to no other
to_itself : (k : ℕ) (command : Command) → command_to k (Some k) command ≡ command ∷ []
to_itself k command = let same : eqb k k ≡ true = eq-eqb k k refl in rw same refl

to_another : (k t : ℕ) (command : Command) → k ≢ t → command_to k (Some t) command ≡ []
to_another k t command other = go (eqb t k) refl
  where
    go : (b : Bool) → eqb t k ≡ b → (if b then command ∷ [] else []) ≡ []
    go true e = absurd (other (sym (eqb-true t k e)))
    go false e = refl

same_or_other : (k t : ℕ) → (k ≡ t) ⊎ (k ≢ t)
same_or_other k t = go (eqb k t) refl
  where
    go : (b : Bool) → eqb k t ≡ b → (k ≡ t) ⊎ (k ≢ t)
    go true e = inl (eqb-true k t e)
    go false e = inr (eqb-false k t e)

module _ (before : List PassEntry) (last : PassEntry) (senders : List SenderView) where
  -- all actions, up to and with the first i of the last pass
  abbrev upto : ℕ → List Action
  upto i = actions_of before ++ take i last.actions

  upto_next : (i : ℕ) (action : Action) → slice_get last.actions i ≡ Some action → upto (i + 1) ≡ upto i ++ action ∷ []
  upto_next i action at =
      ap (λ xs. actions_of before ++ xs) (take_next last.actions i action at)
      ∙ sym (append_assoc (actions_of before) (take i last.actions) (action ∷ []))

  -- one action more, and what it sends
  commands_next : (i : ℕ) (action : Action) (k : ℕ) (o : Option (ℕ × Command)) → slice_get last.actions i ≡ Some action → addressed_to k o ≡ sends k (upto i) action
      → commands_to (upto (i + 1)) k ≡ commands_to (upto i) k ++ addressed_to k o
  commands_next i action k o at exact =
      ap (λ xs. commands_to xs k) (upto_next i action at) ∙ commands_push (upto i) action k ∙ ap (λ cs. commands_to (upto i) k ++ cs) (sym exact)

  -- the point just before an action of the last pass
  abbrev point : Table → ℕ → Point
  point table i = record { table = table; history = before ++ last ∷ []; pass = length before; entry = last; made = i }

  is_point : (table : Table) (i : ℕ) → IsPermittedHistory table (before ++ last ∷ []) → i ≤ length last.actions → IsPermittedPoint (point table i)
  is_point table i permitted le = record { permitted = permitted; entry = slice_get-last before last; made = le }

  -- before an action that sends to thread k nothing was sent to it in this pass
  first_sent : (table : Table) (i : ℕ) (action : Action) (k : ℕ) (command : Command) → IsPermittedHistory table (before ++ last ∷ []) → ThreadsAreSentOneCommand
      → slice_get last.actions i ≡ Some action → addressed_to k (Some (k, command)) ≡ sends k (upto i) action → sent_to (upto i) k ≤ sent_to (actions_of before) k
  first_sent table i action k command legal one at exact =
      let within : i < length last.actions = slice_get_within last.actions i action at in
      let le : i + 1 ≤ length last.actions = omega arith in
      let most : sent_to (upto (i + 1)) k ≤ sent_to (actions_of before) k + 1 = rw (take-append_seam before (last ∷ [])) at (one (point table (i + 1)) (is_point table (i + 1) legal le) k) in
      let next : sent_to (upto (i + 1)) k ≡ sent_to (upto i) k + 1 =
      ap length (commands_next i action k (Some (k, command)) at exact ∙ ap (λ cs. commands_to (upto i) k ++ cs) (to_itself k command))
      ∙ length-append (commands_to (upto i) k) (command ∷ []) in
      omega arith

  -- room is known on the ring to which an action sends
  pub room_known : (table : Table) (i : ℕ) (action : Action) (k : ℕ) (command : Command) (now : List SenderView) (is : SenderView) → IsPermittedHistory table (before ++ last ∷ []) → CommandsGoWhereIsRoom → ThreadsAreSentOneCommand
      → slice_get last.actions i ≡ Some action → addressed_to k (Some (k, command)) ≡ sends k (upto i) action → length now ≡ length senders
      → ((j : ℕ) (sender : SenderView) → slice_get senders j ≡ Some sender → slice_index_or last.input.rooms j false ≡ true → HasRoom sender)
      → SentBelow i before last senders now → slice_get now k ≡ Some is → HasRoom is
  room_known table i action k command now is legal where_room one at exact many room below here =
      let within : i < length last.actions = slice_get_within last.actions i action at in
      let le : i ≤ length last.actions = omega arith in
      let low : k < length now = slice_get_within now k is here in
      let was = slice_get_at senders k (omega arith) in
      let first = first_sent table i action k command legal one at exact in
      let some : 0 < length (sends k (upto i) action) = rw (← exact, to_itself k command) (lit< tt) in
      let told : slice_index_or last.input.rooms k false ≡ true =
      where_room (point table i) (is_point table i legal le) action at k (rw (take-append_seam before (last ∷ [])) some) in
      elim (below.untouched k was.0 is was.1 here) [
        | inl same ↦ rw same (room k was.0 was.1 told)
        | inr more ↦ absurd (omega arith)
      ]

  -- an action that sends a command to thread t
  pub SentBelow-more : (table : Table) (i : ℕ) (action : Action) (t : ℕ) (command : Command) (now : List SenderView) (is after : SenderView) → IsPermittedHistory table (before ++ last ∷ []) → ThreadsAreSentOneCommand
      → ((k : ℕ) (sender : SenderView) → slice_get senders k ≡ Some sender → sender.sent ≡ commands_to (actions_of before) k)
      → slice_get last.actions i ≡ Some action → ((k : ℕ) → addressed_to k (Some (t, command)) ≡ sends k (upto i) action)
      → SentBelow i before last senders now → slice_get now t ≡ Some is → after.ring ≡ is.ring → after.sent ≡ is.sent ++ command ∷ []
      → SentBelow (i + 1) before last senders (set now t after)
  SentBelow-more table i action t command now is after legal one started at exact below here ring sent =
      let low : t < length now = slice_get_within now t is here in
      let mine : slice_get (set now t after) t ≡ Some after = slice_get-set_same now t after low in
      let gains : commands_to (upto (i + 1)) t ≡ commands_to (upto i) t ++ command ∷ [] =
      commands_next i action t (Some (t, command)) at (exact t) ∙ ap (λ cs. commands_to (upto i) t ++ cs) (to_itself t command) in
      let stays : (k : ℕ) → k ≢ t → commands_to (upto (i + 1)) k ≡ commands_to (upto i) k = λ k other.
      commands_next i action k (Some (t, command)) at (exact k) ∙ ap (λ cs. commands_to (upto i) k ++ cs) (to_another k t command other)
      ∙ append-nil (commands_to (upto i) k) in
      let longer : sent_to (upto (i + 1)) t ≡ sent_to (upto i) t + 1 = ap length gains ∙ length-append (commands_to (upto i) t) (command ∷ []) in
      record {
        rings = length-set now t after ∙ below.rings;
        same = λ k was new e f. elim (same_or_other k t) [
          | inl self ↦
              let it : after ≡ new = some_same after new (sym mine ∙ rw self at f) in
              rw (← it) (ring ∙ below.same t was is (rw self at e) here)
          | inr other ↦ below.same k was new e (sym (slice_get-set_other now t k after other) ∙ f)
        ];
        sent = λ k new f. elim (same_or_other k t) [
          | inl self ↦
              let it : after ≡ new = some_same after new (sym mine ∙ rw self at f) in
              rw (← it, self) (sent ∙ ap (λ cs. cs ++ command ∷ []) (below.sent t is here) ∙ sym gains)
          | inr other ↦ below.sent k new (sym (slice_get-set_other now t k after other) ∙ f) ∙ sym (stays k other)
        ];
        untouched = λ k was new e f. elim (same_or_other k t) [
          | inl self ↦
              let was_sent : sent_to (actions_of before) t ≤ sent_to (upto i) t = elim (below.untouched t was is (rw self at e) here) [
                | inl same ↦
                    let counts : sent_to (upto i) t ≡ sent_to (actions_of before) t = ap length (sym (below.sent t is here) ∙ ap (λ (s : SenderView). s.sent) same ∙ started t was (rw self at e)) in
                    omega arith
                | inr more ↦ omega arith
              ] in
              inr (rw self (omega arith))
          | inr other ↦ rw (stays k other) (below.untouched k was new e (sym (slice_get-set_other now t k after other) ∙ f))
        ];
      }
