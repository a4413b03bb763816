-- The commands of a pass, sent one action after the other.
use Rattle.cal_sched.proofs.Common.{◌≡◌, ◌≢◌, ℕ, lit<, if◌then◌else◌, ◌+◌, ◌<◌, ◌≤◌, ◌⊎◌, inl, inr, Bool, true, false, eqb, List, [], ◌∷◌, ◌++◌, length, take, set, Option, Some, None, slice_get, slice_index_or, refl, sym, ap, subst, ◌∙◌, arith, length-append, append_assoc, append-nil, take_all, slice_get_within, SenderView, HasRoom, Table, IsTable, Action, PassEntry, board_in, RunsOnTable, IsStateAfter, actions_of, commands_to, sent_to, sends, addressed_to, command_to, Policy, IsLegalBy, Point, IsPointBy, HaveSent, MaySend, slice_get_at, some_same, slice_get-last, take_next}
use Rattle.std.proofs.Math.ListN.{length-set}
use Rattle.std.proofs.Math.Seq.{take-append_seam}
use Rattle.std.proofs.lemmas.Bool.{eqb-true, eqb-false, eq-eqb}
use Rattle.cal_command.specs.Commands.{IsSendable}
use Rattle.cal_machine.specs.declared.command.Command.{Command}
use Rattle.cal_machine.specs.declared.command.Command.TheVariants.{Run, Park}
use Rattle.cal_policy.specs.declared.book.Book.{Book}
use Rattle.cal_policy.proofs.HistoryLemmas.OneMore.{commands_push}
use Rattle.cal_laws.proofs.PolicyLemmas.{is_point_by}
use Rattle.cal_sched.proofs.PolicyLemmas.{AreSentOneCommand, GoWhereIsRoom}
use Rattle.cal_sched.proofs.Lists.{slice_get-set_other, slice_get-set_same, snoc_same}
use Rattle.cal_policy.proofs.BoardLemmas.Replayed.{actions_push}

-- the commands of the first i actions were sent, and a ring on which none of them was is as it was
pub record SentBelow (i : ℕ) (before : List PassEntry) (last : PassEntry) (senders now : List SenderView) : Type 0 where
  pub rings : length now ≡ length senders
  pub same : (k : ℕ) (was is : SenderView) → slice_get senders k ≡ Some was → slice_get now k ≡ Some is → is.ring ≡ was.ring
  pub sent : (k : ℕ) (is : SenderView) → slice_get now k ≡ Some is → is.sent ≡ commands_to (actions_of before ++ take i last.actions) k
  pub untouched : (k : ℕ) (was is : SenderView) → slice_get senders k ≡ Some was → slice_get now k ≡ Some is
      → (is ≡ was) ⊎ (sent_to (actions_of before) k < sent_to (actions_of before ++ take i last.actions) k)

-- what goes to a thread is sent to it and to no other
to_itself : (k : ℕ) (command : Command) → command_to k (Some k) command ≡ command ∷ []
to_itself k command = let same : eqb k k ≡ true = eq-eqb k k refl in rw same refl

to_another : (k t : ℕ) (command : Command) → k ≢ t → command_to k (Some t) command ≡ []
to_another k t command other = go (eqb t k) refl
  where
    go : (b : Bool) → eqb t k ≡ b → (if b then command ∷ [] else []) ≡ []
    go true e = absurd (other (sym (eqb-true t k e)))
    go false e = refl

same_or_other : (k t : ℕ) → (k ≡ t) ⊎ (k ≢ t)
same_or_other k t = go (eqb k t) refl
  where
    go : (b : Bool) → eqb k t ≡ b → (k ≡ t) ⊎ (k ≢ t)
    go true e = inl (eqb-true k t e)
    go false e = inr (eqb-false k t e)

pub sendable : (table : Table) (command : Command) → IsTable table → RunsOnTable table command → IsSendable command
sendable table (Run core) ok runs = omega (arith, ok.machine.most, runs)
sendable table Park ok runs = tt

module _ (before : List PassEntry) (last : PassEntry) (senders : List SenderView) where
  -- all actions, up to and with the first i of the last pass
  abbrev upto : ℕ → List Action
  upto i = actions_of before ++ take i last.actions

  upto_next : (i : ℕ) (action : Action) → slice_get last.actions i ≡ Some action → upto (i + 1) ≡ upto i ++ action ∷ []
  upto_next i action at =
      ap (λ xs. actions_of before ++ xs) (take_next last.actions i action at)
      ∙ sym (append_assoc (actions_of before) (take i last.actions) (action ∷ []))

  -- one action more, and what it sends
  commands_next : (i : ℕ) (action : Action) (k : ℕ) (o : Option (ℕ × Command)) → slice_get last.actions i ≡ Some action → addressed_to k o ≡ sends k (upto i) action
      → commands_to (upto (i + 1)) k ≡ commands_to (upto i) k ++ addressed_to k o
  commands_next i action k o at exact =
      ap (λ xs. commands_to xs k) (upto_next i action at) ∙ commands_push (upto i) action k ∙ ap (λ cs. commands_to (upto i) k ++ cs) (sym exact)

  pub SentBelow-none : ((k : ℕ) (sender : SenderView) → slice_get senders k ≡ Some sender → sender.sent ≡ commands_to (actions_of before) k)
      → SentBelow 0 before last senders senders
  SentBelow-none sent = record {
    rings = refl;
    same = λ k was is e f. ap (λ (s : SenderView). s.ring) (sym (some_same was is (sym e ∙ f)));
    sent = λ k is e. sent k is e ∙ ap (λ xs. commands_to xs k) (sym (append-nil (actions_of before)));
    untouched = λ k was is e f. inl (some_same is was (sym f ∙ e));
  }

  -- an action that sends nothing
  pub SentBelow-silent : (i : ℕ) (action : Action) (now : List SenderView) → slice_get last.actions i ≡ Some action → ((k : ℕ) → [] ≡ sends k (upto i) action)
      → SentBelow i before last senders now → SentBelow (i + 1) before last senders now
  SentBelow-silent i action now at exact below =
      let all : (k : ℕ) → commands_to (upto (i + 1)) k ≡ commands_to (upto i) k = λ k.
      commands_next i action k None at (exact k) ∙ append-nil (commands_to (upto i) k) in
      record {
        rings = below.rings;
        same = below.same;
        sent = λ k is e. below.sent k is e ∙ sym (all k);
        untouched = λ k was is e f. rw (all k) (below.untouched k was is e f);
      }

  -- the point just before an action of the last pass
  abbrev point : Table → ℕ → Point
  point table i = record { table = table; history = before ++ last ∷ []; pass = length before; entry = last; made = i }

  is_point : (policy : Policy) (table : Table) (i : ℕ) → IsTable table → IsLegalBy policy table (before ++ last ∷ []) → i ≤ length last.actions → IsPointBy policy (point table i)
  is_point policy table i ok legal le = is_point_by policy (point table i) ok legal (slice_get-last before last) le

  -- before an action that sends to thread k nothing was sent to it in this pass
  first_sent : (policy : Policy) (table : Table) (i : ℕ) (action : Action) (k : ℕ) (command : Command) → IsTable table → IsLegalBy policy table (before ++ last ∷ []) → AreSentOneCommand policy
      → slice_get last.actions i ≡ Some action → addressed_to k (Some (k, command)) ≡ sends k (upto i) action → sent_to (upto i) k ≤ sent_to (actions_of before) k
  first_sent policy table i action k command ok legal one at exact =
      let within : i < length last.actions = slice_get_within last.actions i action at in
      let le : i + 1 ≤ length last.actions = omega arith in
      let most : sent_to (upto (i + 1)) k ≤ sent_to (actions_of before) k + 1 = rw (take-append_seam before (last ∷ [])) at (one (point table (i + 1)) (is_point policy table (i + 1) ok legal le) k) in
      let next : sent_to (upto (i + 1)) k ≡ sent_to (upto i) k + 1 =
      ap length (commands_next i action k (Some (k, command)) at exact ∙ ap (λ cs. commands_to (upto i) k ++ cs) (to_itself k command))
      ∙ length-append (commands_to (upto i) k) (command ∷ []) in
      omega arith

  -- room is known on the ring to which an action sends
  pub room_known : (policy : Policy) (table : Table) (i : ℕ) (action : Action) (k : ℕ) (command : Command) (now : List SenderView) (is : SenderView) → IsTable table
      → IsLegalBy policy table (before ++ last ∷ []) → GoWhereIsRoom policy → AreSentOneCommand policy
      → slice_get last.actions i ≡ Some action → addressed_to k (Some (k, command)) ≡ sends k (upto i) action → length now ≡ length senders
      → ((j : ℕ) (sender : SenderView) → slice_get senders j ≡ Some sender → slice_index_or last.input.rooms j false ≡ true → HasRoom sender)
      → SentBelow i before last senders now → slice_get now k ≡ Some is → HasRoom is
  room_known policy table i action k command now is ok legal where_room one at exact many room below here =
      let within : i < length last.actions = slice_get_within last.actions i action at in
      let le : i ≤ length last.actions = omega arith in
      let low : k < length now = slice_get_within now k is here in
      let was = slice_get_at senders k (omega arith) in
      let first = first_sent policy table i action k command ok legal one at exact in
      let some : 0 < length (sends k (upto i) action) = rw (← exact, to_itself k command) (lit< tt) in
      let told : slice_index_or last.input.rooms k false ≡ true =
      where_room (point table i) (is_point policy table i ok legal le) action at k (rw (take-append_seam before (last ∷ [])) some) in
      elim (below.untouched k was.0 is was.1 here) [
        | inl same ↦ rw same (room k was.0 was.1 told)
        | inr more ↦ absurd (omega arith)
      ]

  -- an action that sends a command to thread t
  pub SentBelow-more : (policy : Policy) (table : Table) (i : ℕ) (action : Action) (t : ℕ) (command : Command) (now : List SenderView) (is after : SenderView) → IsTable table
      → IsLegalBy policy table (before ++ last ∷ []) → AreSentOneCommand policy
      → ((k : ℕ) (sender : SenderView) → slice_get senders k ≡ Some sender → sender.sent ≡ commands_to (actions_of before) k)
      → slice_get last.actions i ≡ Some action → ((k : ℕ) → addressed_to k (Some (t, command)) ≡ sends k (upto i) action)
      → SentBelow i before last senders now → slice_get now t ≡ Some is → after.ring ≡ is.ring → after.sent ≡ is.sent ++ command ∷ []
      → SentBelow (i + 1) before last senders (set now t after)
  SentBelow-more policy table i action t command now is after ok legal one started at exact below here ring sent =
      let low : t < length now = slice_get_within now t is here in
      let mine : slice_get (set now t after) t ≡ Some after = slice_get-set_same now t after low in
      let gains : commands_to (upto (i + 1)) t ≡ commands_to (upto i) t ++ command ∷ [] =
      commands_next i action t (Some (t, command)) at (exact t) ∙ ap (λ cs. commands_to (upto i) t ++ cs) (to_itself t command) in
      let stays : (k : ℕ) → k ≢ t → commands_to (upto (i + 1)) k ≡ commands_to (upto i) k = λ k other.
      commands_next i action k (Some (t, command)) at (exact k) ∙ ap (λ cs. commands_to (upto i) k ++ cs) (to_another k t command other)
      ∙ append-nil (commands_to (upto i) k) in
      let longer : sent_to (upto (i + 1)) t ≡ sent_to (upto i) t + 1 = ap length gains ∙ length-append (commands_to (upto i) t) (command ∷ []) in
      record {
        rings = length-set now t after ∙ below.rings;
        same = λ k was new e f. elim (same_or_other k t) [
          | inl self ↦
              let it : after ≡ new = some_same after new (sym mine ∙ rw self at f) in
              rw (← it) (ring ∙ below.same t was is (rw self at e) here)
          | inr other ↦ below.same k was new e (sym (slice_get-set_other now t k after other) ∙ f)
        ];
        sent = λ k new f. elim (same_or_other k t) [
          | inl self ↦
              let it : after ≡ new = some_same after new (sym mine ∙ rw self at f) in
              rw (← it, self) (sent ∙ ap (λ cs. cs ++ command ∷ []) (below.sent t is here) ∙ sym gains)
          | inr other ↦ below.sent k new (sym (slice_get-set_other now t k after other) ∙ f) ∙ sym (stays k other)
        ];
        untouched = λ k was new e f. elim (same_or_other k t) [
          | inl self ↦
              let was_sent : sent_to (actions_of before) t ≤ sent_to (upto i) t = elim (below.untouched t was is (rw self at e) here) [
                | inl same ↦
                    let counts : sent_to (upto i) t ≡ sent_to (actions_of before) t = ap length (sym (below.sent t is here) ∙ ap (λ (s : SenderView). s.sent) same ∙ started t was (rw self at e)) in
                    omega arith
                | inr more ↦ omega arith
              ] in
              inr (rw self (omega arith))
          | inr other ↦ rw (stays k other) (below.untouched k was new e (sym (slice_get-set_other now t k after other) ∙ f))
        ];
      }

  -- all actions have sent
  pub SentBelow-all : (i : ℕ) (now : List SenderView) → length last.actions ≤ i → SentBelow i before last senders now → HaveSent senders now (before ++ last ∷ [])
  SentBelow-all i now ge below = record {
    rings = below.rings;
    same = below.same;
    sent = λ k is e. below.sent k is e ∙ ap (λ xs. commands_to (actions_of before ++ xs) k) (take_all i last.actions ge) ∙ ap (λ xs. commands_to xs k) (sym (actions_push before last));
  }

-- what may be sent, of the last pass and those before it
pub record OfLast (table : Table) (book : Book) (before : List PassEntry) (last : PassEntry) (senders : List SenderView) : Type 0 where
  pub legal : IsLegalBy book.policy table (before ++ last ∷ [])
  pub agrees : IsStateAfter (board_in book) (before ++ last ∷ [])
  pub sent : (k : ℕ) (sender : SenderView) → slice_get senders k ≡ Some sender → sender.sent ≡ commands_to (actions_of before) k
  pub room : (k : ℕ) (sender : SenderView) → slice_get senders k ≡ Some sender → slice_index_or last.input.rooms k false ≡ true → HasRoom sender

pub of_last : (table : Table) (book : Book) (history : List PassEntry) (senders : List SenderView) (before : List PassEntry) (last : PassEntry)
    → MaySend table book history senders → history ≡ before ++ last ∷ [] → OfLast table book before last senders
of_last table book history senders before last may e =
    let same = snoc_same may.before before may.last last (sym may.whole ∙ e) in
    record {
      legal = subst (IsLegalBy book.policy table) e may.legal;
      agrees = subst (IsStateAfter (board_in book)) e may.agrees;
      sent = λ k sender at. may.sent k sender at ∙ ap (λ h. commands_to (actions_of h) k) same.0;
      room = λ k sender at told. may.room k sender at (ap (λ (l : PassEntry). slice_index_or l.input.rooms k false) same.1 ∙ told);
    }
