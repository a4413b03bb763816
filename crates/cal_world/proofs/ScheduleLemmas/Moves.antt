-- What one event makes of where each thread stands.
use Rattle.cal_world.proofs.Common.{◌≡◌, ℕ, ◌+◌, ◌<◌, Bool, true, false, cond, eqb, List, [], ◌∷◌, ◌++◌, Option, Some, None, refl, sym, ap, ◌∙◌, arith, subst, append_assoc, ⊎_elim, filter_map, option_or, eqb-true, append-nil, filter_map-append, slice_get_cases, Command, Table, Record, Action, PassEntry, actions_of, commands_to, sends, sent_to, ActionIsOneMore, last_of_push, each_of_push, Entry, Took, Yielded, Published, State, state_after, first_state, changed_by, records_of, record_in, commands_of, command_in, Event, Take, Yield, Publish, Read, Skip, Decide, Watch, entry_in, history_in, actions_in, is_take_by, takes_in, publishes_in, next_command, took, entries_for, journal_in, state_in, run_number, last_run_of, last_run, published_by, HasCommand, IsItsState, IsSafeEvent, NothingSent, NotItsState, actions_push}
use Rattle.std.proofs.lemmas.List.Sums.{sum_by-append}
use Rattle.cal_world.proofs.ScheduleLemmas.Journals.{Standing, IsConsistent, took_one, stands_took, gave_up, stands_off, showed, stands_showed, sent_more, stands_sent}
use Rattle.cal_kthread.proofs.JournalLemmas.OneEntryMore.{state-push}

-- where thread k stands after these events, with this journal and this history
abbrev pub standing_by : List Entry → List PassEntry → ℕ → ℕ → Standing
standing_by es history takes k = record {
  state = state_after es;
  run = last_run_of es;
  done = commands_of es;
  published = records_of es;
  sent = commands_to (actions_of history) k;
  takes = takes;
}

abbrev pub standing_in : List Event → ℕ → Standing
standing_in events k = standing_by (journal_in events k) (history_in events) (takes_in events k) k

-- the history, one event more
pub history_same : (before : List Event) (event : Event) → entry_in event ≡ None → history_in (before ++ event ∷ []) ≡ history_in before
history_same before event e = filter_map-append entry_in before (event ∷ [])
    ∙ ap (λ o. history_in before ++ filter_map (λ (u : Event). o) (event ∷ [])) e ∙ append-nil (history_in before)

pub history_more : (before : List Event) (entry : PassEntry) → history_in (before ++ Decide entry ∷ []) ≡ history_in before ++ entry ∷ []
history_more before entry = filter_map-append entry_in before (Decide entry ∷ [])

-- how often a thread took a command
takes_more : (before : List Event) (event : Event) (k : ℕ) → takes_in (before ++ event ∷ []) k ≡ takes_in before k + cond (is_take_by k event) 1 0
takes_more before event k = let n = sum_by-append (λ e. cond (is_take_by k e) 1 0) before (event ∷ []) in omega arith

-- an event that puts nothing into the thread's journal
pub journal_same : (before : List Event) (event : Event) (k : ℕ) → entries_for k before event ≡ [] → journal_in (before ++ event ∷ []) k ≡ journal_in before k
journal_same before event k e = each_of_push (entries_for k) before event ∙ ap (λ es. journal_in before k ++ es) e ∙ append-nil (journal_in before k)

pub takes_same : (before : List Event) (event : Event) (k : ℕ) → is_take_by k event ≡ false → takes_in (before ++ event ∷ []) k ≡ takes_in before k
takes_same before event k e =
    let none : takes_in before k + 0 ≡ takes_in before k = omega arith in
    takes_more before event k ∙ ap (λ (b : Bool). takes_in before k + cond b 1 0) e ∙ none

-- standing by equal journals and so on
same_standing : (es fs : List Entry) (g h : List PassEntry) (m n k : ℕ) → es ≡ fs → g ≡ h → m ≡ n → standing_by es g m k ≡ standing_by fs h n k
same_standing es fs g h m n k a b c = ap (λ xs. standing_by xs g m k) a ∙ ap (λ xs. standing_by fs xs m k) b ∙ ap (λ i. standing_by fs h i k) c

pub nothing_more : (before : List Event) (event : Event) (k : ℕ) → entry_in event ≡ None → entries_for k before event ≡ [] → is_take_by k event ≡ false →
    standing_in (before ++ event ∷ []) k ≡ standing_in before k
nothing_more before event k none quiet untaken =
    same_standing _ _ _ _ _ _ k (journal_same before event k quiet) (history_same before event none) (takes_same before event k untaken)

stays_put : (before : List Event) (event : Event) (k : ℕ) → entry_in event ≡ None → entries_for k before event ≡ [] → is_take_by k event ≡ false → IsConsistent (standing_in before k) →
    IsConsistent (standing_in (before ++ event ∷ []) k)
stays_put before event k none quiet untaken was = subst IsConsistent (sym (nothing_more before event k none quiet untaken)) was

-- with these parts
abbrev with_parts : State → Option ℕ → List Command → List Record → List PassEntry → ℕ → ℕ → Standing
with_parts s run done published history takes k = record {
  state = s;
  run = run;
  done = done;
  published = published;
  sent = commands_to (actions_of history) k;
  takes = takes;
}

same_parts : (s t : State) (run run2 : Option ℕ) (done done2 : List Command) (rs rs2 : List Record) (history : List PassEntry) (takes k : ℕ) → s ≡ t → run ≡ run2 → done ≡ done2 → rs ≡ rs2 →
    with_parts s run done rs history takes k ≡ with_parts t run2 done2 rs2 history takes k
same_parts s t run run2 done done2 rs rs2 history takes k a b c d = cc

pushed : (es : List Entry) (e : Entry) (history : List PassEntry) (takes k : ℕ) →
    standing_by (es ++ e ∷ []) history takes k
    ≡ with_parts (changed_by e (state_after es)) (option_or (run_number e) (last_run_of es)) (commands_of es ++ filter_map command_in (e ∷ []))
    (records_of es ++ filter_map record_in (e ∷ [])) history takes k
pushed es e history takes k = same_parts _ _ _ _ _ _ _ _ history takes k
    (state-push first_state es e)
    (last_of_push (λ before entry. run_number entry) es e)
    (filter_map-append command_in es (e ∷ []))
    (filter_map-append record_in es (e ∷ []))

-- the thread takes a command
pub takes_one : (before : List Event) (thread k : ℕ) → eqb thread k ≡ true → (command : Command) → next_command before k ≡ Some command →
    standing_in (before ++ Take thread ∷ []) k ≡ took_one (standing_in before k) (takes_in before k + 1) command
takes_one before thread k is command next =
    let entries : entries_for k before (Take thread) ≡ Took (takes_in before k + 1) command ∷ [] =
    ap (λ (b : Bool). cond b (took (takes_in before k + 1) (next_command before k)) []) is ∙ ap (took (takes_in before k + 1)) next in
    let journal : journal_in (before ++ Take thread ∷ []) k ≡ journal_in before k ++ Took (takes_in before k + 1) command ∷ [] =
    each_of_push (entries_for k) before (Take thread) ∙ ap (λ es. journal_in before k ++ es) entries in
    let takes : takes_in (before ++ Take thread ∷ []) k ≡ takes_in before k + 1 =
    takes_more before (Take thread) k ∙ ap (λ (b : Bool). takes_in before k + cond b 1 0) is in
    same_standing _ _ _ _ _ _ k journal (history_same before (Take thread) refl) takes
    ∙ pushed (journal_in before k) (Took (takes_in before k + 1) command) (history_in before) (takes_in before k + 1) k
    ∙ ap (λ rs. with_parts (changed_by (Took (takes_in before k + 1) command) (state_in before k)) (option_or (run_number (Took (takes_in before k + 1) command)) (last_run before k))
    (commands_of (journal_in before k) ++ command ∷ []) rs (history_in before) (takes_in before k + 1) k) (append-nil (published_by before k))

take_moves : (before : List Event) (thread k : ℕ) → (b : Bool) → eqb thread k ≡ b → HasCommand before (Take thread) → IsConsistent (standing_in before k) →
    IsConsistent (standing_in (before ++ Take thread ∷ []) k)
take_moves before thread k false is has was =
    stays_put before (Take thread) k refl (ap (λ (b : Bool). cond b (took (takes_in before k + 1) (next_command before k)) []) is) is was
take_moves before thread k true is has was = ⊎_elim
    (λ found.
    let t : Standing = standing_in before k in
    subst IsConsistent (sym (takes_one before thread k is found.0 found.2)) (stands_took t (takes_in before k + 1) found.0 refl found.2 was))
    (λ past.
    let same : thread ≡ k = eqb-true thread k is in
    let P : ℕ → Type 0 = λ n. (state_in before n).taken < sent_to (actions_in before) n in
    let low : (state_in before k).taken < sent_to (actions_in before) k = subst P same has in
    let count = was.count in
    let le = past.0 in absurd (omega arith))
    (slice_get_cases (commands_to (actions_in before) k) (takes_in before k)).1

-- the thread gives up its core
pub yields_one : (before : List Event) (thread k : ℕ) → eqb thread k ≡ true → standing_in (before ++ Yield thread ∷ []) k ≡ gave_up (standing_in before k)
yields_one before thread k is =
    let journal : journal_in (before ++ Yield thread ∷ []) k ≡ journal_in before k ++ Yielded ∷ [] =
    each_of_push (entries_for k) before (Yield thread) ∙ ap (λ (b : Bool). journal_in before k ++ cond b (Yielded ∷ []) []) is in
    same_standing _ _ _ _ _ _ k journal (history_same before (Yield thread) refl) (takes_same before (Yield thread) k refl)
    ∙ pushed (journal_in before k) Yielded (history_in before) (takes_in before k) k
    ∙ same_parts _ _ _ _ _ _ _ _ (history_in before) (takes_in before k) k refl refl (append-nil (commands_of (journal_in before k))) (append-nil (published_by before k))

yield_moves : (before : List Event) (thread k : ℕ) → (b : Bool) → eqb thread k ≡ b → IsConsistent (standing_in before k) → IsConsistent (standing_in (before ++ Yield thread ∷ []) k)
yield_moves before thread k false is was = stays_put before (Yield thread) k refl (ap (λ (b : Bool). cond b (Yielded ∷ []) []) is) refl was
yield_moves before thread k true is was = subst IsConsistent (sym (yields_one before thread k is)) (stands_off (standing_in before k) was)

-- the thread publishes
pub publishes_one : (before : List Event) (thread k : ℕ) (rec : Record) → eqb thread k ≡ true → standing_in (before ++ Publish thread rec ∷ []) k ≡ showed (standing_in before k) rec
publishes_one before thread k rec is =
    let entry : Entry = Published (publishes_in before k + 1) rec in
    let journal : journal_in (before ++ Publish thread rec ∷ []) k ≡ journal_in before k ++ entry ∷ [] =
    each_of_push (entries_for k) before (Publish thread rec) ∙ ap (λ (b : Bool). journal_in before k ++ cond b (entry ∷ []) []) is in
    same_standing _ _ _ _ _ _ k journal (history_same before (Publish thread rec) refl) (takes_same before (Publish thread rec) k refl)
    ∙ pushed (journal_in before k) entry (history_in before) (takes_in before k) k
    ∙ same_parts _ _ _ _ _ _ _ _ (history_in before) (takes_in before k) k refl refl (append-nil (commands_of (journal_in before k))) refl

publish_moves : (before : List Event) (thread k : ℕ) (rec : Record) → (b : Bool) → eqb thread k ≡ b → IsItsState before (Publish thread rec) → IsConsistent (standing_in before k) →
    IsConsistent (standing_in (before ++ Publish thread rec ∷ []) k)
publish_moves before thread k rec false is shows was =
    stays_put before (Publish thread rec) k refl (ap (λ (b : Bool). cond b (Published (publishes_in before k + 1) rec ∷ []) []) is) refl was
publish_moves before thread k rec true is shows was =
    let Q : ℕ → Type 0 = λ n. IsItsState before (Publish n rec) in
    let shown = subst Q (eqb-true thread k is) shows in
    subst IsConsistent (sym (publishes_one before thread k rec is)) (stands_showed (standing_in before k) rec shown.taken shown.running was)

-- every event but a Decide
pub moves : (table : Table) (before : List Event) (event : Event) → IsSafeEvent table before event → entry_in event ≡ None → (k : ℕ) → IsConsistent (standing_in before k) →
    IsConsistent (standing_in (before ++ event ∷ []) k)
moves table before (Take thread) allowed none k was = take_moves before thread k (eqb thread k) refl (allowed NothingSent) was
moves table before (Yield thread) allowed none k was = yield_moves before thread k (eqb thread k) refl was
moves table before (Publish thread rec) allowed none k was = publish_moves before thread k rec (eqb thread k) refl (allowed NotItsState) was
moves table before (Read thread number) allowed none k was = stays_put before (Read thread number) k refl refl refl was
moves table before (Skip thread seen) allowed none k was = stays_put before (Skip thread seen) k refl refl refl was
moves table before (Decide entry) allowed none k was = cc
moves table before (Watch thread number) allowed none k was = stays_put before (Watch thread number) k refl refl refl was

-- what a pass sends to a thread comes after all that was sent
pub sent_on : ActionIsOneMore → (x acts : List Action) (k : ℕ) → (new : List Command) × (commands_to (x ++ acts) k ≡ commands_to x k ++ new)
sent_on more x [] k = ([], ap (λ l. commands_to l k) (append-nil x) ∙ sym (append-nil (commands_to x k)))
sent_on more x (a ∷ acts) k =
    let rest = sent_on more (x ++ a ∷ []) acts k in (
      sends k x a ++ rest.0,
      ap (λ l. commands_to l k) (sym (append_assoc x (a ∷ []) acts)) ∙ rest.1
          ∙ ap (λ cs. cs ++ rest.0) ((more x a).commands k) ∙ append_assoc (commands_to x k) (sends k x a) rest.0,
    )

-- a Decide sends more
pub decide_stands : ActionIsOneMore → (before : List Event) (entry : PassEntry) (k : ℕ) → IsConsistent (standing_in before k) → IsConsistent (standing_in (before ++ Decide entry ∷ []) k)
decide_stands more before entry k was =
    let t : Standing = standing_in before k in
    let h : List PassEntry = history_in before in
    let new = sent_on more (actions_of h) entry.actions k in
    let sent : commands_to (actions_of (h ++ entry ∷ [])) k ≡ commands_to (actions_of h) k ++ new.0 = ap (λ x. commands_to x k) (actions_push h entry) ∙ new.1 in
    let same : standing_in (before ++ Decide entry ∷ []) k ≡ sent_more t new.0 =
    same_standing _ _ _ _ _ _ k (journal_same before (Decide entry) k refl) (history_more before entry) (takes_same before (Decide entry) k refl)
    ∙ ap (λ cs. record t { sent = cs }) sent in
    subst IsConsistent (sym same) (stands_sent t new.0 was)
