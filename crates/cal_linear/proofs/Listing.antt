-- A part of a thread's journal, listed after the events so far.
use Rattle.cal_linear.proofs.Common.{◌≡◌, ℕ, ◌+◌, ◌<◌, Bool, false, eqb, cond, List, [], ◌∷◌, ◌++◌, length, Option, Some, None, refl, sym, ap, subst, ◌∙◌, append_assoc, append-nil, IsSome, option_to_list, option_map, slice_get, filter_map, slice_get_within, filter-append, filter_map-append, Table, Policy, Command, Record, last_from, Seen, PassEntry, threads_of_table, actions_of, commands_to, Entry, Arrived, Took, Stole, Served, Yielded, Published, State, state_after, records_of, Event, Take, Yield, Publish, entry_in, history_in, watch_in, watches_in, steps_of, is_step, event_of, events_of, others-change-nothing, eq-eqb}
use Rattle.cal_linear.proofs.Along.{adds_to, took_next, journal_along, place_of_read, floor_along, looks_with, looks_along}
use Rattle.cal_linear.proofs.LegalAlong.{IsAllowedAlong, IsLegalAlong, MayBePublished}
use Rattle.cal_linear.proofs.OneMore.{history_push, journal_push, looks_push, floor_push, watches_push, legal_push}
use Rattle.cal_linear.proofs.Standing.{MayHappen, MayAllHappen}

-- after `es` a legal list went on to `new` by steps of thread k alone, which has now done `own`
pub record GoesOn (policy : Policy) (table : Table) (k : ℕ) (es new : List Event) (own : List Entry) : Type 0 where
  pub legal : IsLegalAlong policy table new
  pub history : history_in new ≡ history_in es
  pub looks : looks_along new ≡ looks_along es
  pub floors : (j : ℕ) → floor_along new j ≡ floor_along es j
  pub watched : watches_in new ≡ watches_in es
  pub own_journal : journal_along new k ≡ own
  pub others : (j : ℕ) → eqb k j ≡ false → journal_along new j ≡ journal_along es j

-- such an event says nothing but of its thread's journal
pub record IsOwn (k : ℕ) (e : Event) : Type 0 where
  pub decided : entry_in e ≡ None
  pub looks : (seen : List Seen) (es : List Event) → looks_with seen es e ≡ seen
  pub place : (j : ℕ) → place_of_read j e ≡ None
  pub watch : watch_in e ≡ None
  pub others : (j : ℕ) → eqb k j ≡ false → (own : List Entry) (history : List PassEntry) → adds_to j own history e ≡ []

one_on : (policy : Policy) (table : Table) (k : ℕ) (es : List Event) (e : Event) → IsOwn k e → IsLegalAlong policy table es → IsAllowedAlong policy table es e → (own : List Entry) → journal_along es k ++ adds_to k (journal_along es k) (history_in es) e ≡ own →
    GoesOn policy table k es (es ++ e ∷ []) own
one_on policy table k es e is legal may own same = record {
  legal = legal_push policy table es e legal may;
  history = history_push es e ∙ ap (λ o. history_in es ++ option_to_list o) is.decided ∙ append-nil (history_in es);
  looks = looks_push es e ∙ is.looks (looks_along es) es;
  floors = λ j. floor_push j es e ∙ ap (λ o. last_from 0 (filter_map (place_of_read j) es ++ option_to_list o)) (is.place j) ∙ ap (last_from 0) (append-nil (filter_map (place_of_read j) es));
  watched = watches_push es e ∙ ap (λ o. watches_in es ++ option_to_list o) is.watch ∙ append-nil (watches_in es);
  own_journal = journal_push k es e ∙ same;
  others = λ j ne. journal_push j es e ∙ ap (λ l. journal_along es j ++ l) (is.others j ne (journal_along es j) (history_in es)) ∙ append-nil (journal_along es j);
}

take_is_own : (k : ℕ) → IsOwn k (Take k)
take_is_own k = record { decided = refl; looks = λ seen es. refl; place = λ j. refl; watch = refl; others = λ j ne own history. ap (λ (b : Bool). cond b (took_next (state_after own).taken (commands_to (actions_of history) j)) []) ne }

yield_is_own : (k : ℕ) → IsOwn k (Yield k)
yield_is_own k = record { decided = refl; looks = λ seen es. refl; place = λ j. refl; watch = refl; others = λ j ne own history. ap (λ (b : Bool). cond b (Yielded ∷ []) []) ne }

publish_is_own : (k : ℕ) (rec : Record) → IsOwn k (Publish k rec)
publish_is_own k rec = record { decided = refl; looks = λ seen es. refl; place = λ j. refl; watch = refl; others = λ j ne own history. ap (λ (b : Bool). cond b (Published (length (records_of own) + 1) rec ∷ []) []) ne }

-- nothing happened
pub none_on : (policy : Policy) (table : Table) (k : ℕ) (es : List Event) → IsLegalAlong policy table es → (own : List Entry) → journal_along es k ≡ own → GoesOn policy table k es es own
none_on policy table k es legal own same = record { legal = legal; history = refl; looks = refl; floors = λ j. refl; watched = refl; own_journal = same; others = λ j ne. refl }

pub then_on : (policy : Policy) (table : Table) (k : ℕ) (es mid new : List Event) (own more : List Entry) → GoesOn policy table k es mid own → GoesOn policy table k mid new more → GoesOn policy table k es new more
then_on policy table k es mid new own more a b = record {
  legal = b.legal;
  history = b.history ∙ a.history;
  looks = b.looks ∙ a.looks;
  floors = λ j. b.floors j ∙ a.floors j;
  watched = b.watched ∙ a.watched;
  own_journal = b.own_journal;
  others = λ j ne. b.others j ne ∙ a.others j ne;
}

-- entries that stand for no event
quiet : (policy : Policy) (table : Table) (k : ℕ) (es : List Event) (before more : List Entry) → IsLegalAlong policy table es → journal_along es k ≡ steps_of before → steps_of more ≡ [] →
    GoesOn policy table k es (es ++ []) (steps_of (before ++ more))
quiet policy table k es before more legal own none =
    let same = own ∙ sym (filter-append is_step before more ∙ ap (λ l. steps_of before ++ l) none ∙ append-nil (steps_of before)) in
    let P : List Event → Type 0 = λ new. GoesOn policy table k es new (steps_of (before ++ more)) in
    subst P (sym (append-nil es)) (none_on policy table k es legal (steps_of (before ++ more)) same)

-- one step: the thread's journal says that it may happen, and what it adds
one_step : (policy : Policy) (table : Table) (k : ℕ) (es : List Event) (before : List Entry) (x : Entry) (e : Event) → IsOwn k e → IsLegalAlong policy table es → journal_along es k ≡ steps_of before → IsAllowedAlong policy table es e →
    steps_of (x ∷ []) ≡ x ∷ [] → adds_to k (journal_along es k) (history_in es) e ≡ x ∷ [] → GoesOn policy table k es (es ++ e ∷ []) (steps_of (before ++ x ∷ []))
one_step policy table k es before x e is legal own may step adds =
    one_on policy table k es e is legal may (steps_of (before ++ x ∷ []))
    (ap (λ l. l ++ adds_to k (journal_along es k) (history_in es) e) own ∙ ap (λ l. steps_of before ++ l) (adds ∙ sym step) ∙ sym (filter-append is_step before (x ∷ [])))

-- one entry, as the event for which it stands, if there is one
one_entry : (policy : Policy) (table : Table) (k : ℕ) (es : List Event) (before : List Entry) (x : Entry) → k < threads_of_table table → IsLegalAlong policy table es → journal_along es k ≡ steps_of before →
    MayHappen (commands_to (actions_of (history_in es)) k) before x → GoesOn policy table k es (es ++ events_of k (x ∷ [])) (steps_of (before ++ x ∷ []))
one_entry policy table k es before (Arrived r) low legal own may = quiet policy table k es before (Arrived r ∷ []) legal own refl
one_entry policy table k es before (Took number command) low legal own may =
    let sent : List Command = commands_to (actions_of (history_in es)) k in
    let state : state_after (journal_along es k) ≡ state_after before = ap state_after own ∙ (others-change-nothing before).0 in
    let taken : (state_after (journal_along es k)).taken ≡ (state_after before).taken = ap (λ (s : State). s.taken) state in
    let at : slice_get sent (state_after (journal_along es k)).taken ≡ Some command = ap (slice_get sent) taken ∙ may.1 in
    let numbered : (state_after (journal_along es k)).taken + 1 ≡ number = ap (λ n. n + 1) taken ∙ sym may.0 in
    let adds : adds_to k (journal_along es k) (history_in es) (Take k) ≡ Took number command ∷ [] =
    ap (λ (b : Bool). cond b (took_next (state_after (journal_along es k)).taken sent) []) (eq-eqb k k refl)
    ∙ ap (λ (o : Option Command). option_to_list (option_map (Took ((state_after (journal_along es k)).taken + 1)) o)) at ∙ ap (λ n. Took n command ∷ []) numbered in
    one_step policy table k es before (Took number command) (Take k) (take_is_own k) legal own (low, slice_get_within sent (state_after (journal_along es k)).taken command at) refl adds
one_entry policy table k es before (Stole from id) low legal own may = quiet policy table k es before (Stole from id ∷ []) legal own refl
one_entry policy table k es before (Served id) low legal own may = quiet policy table k es before (Served id ∷ []) legal own refl
one_entry policy table k es before Yielded low legal own may =
    let state : state_after (journal_along es k) ≡ state_after before = ap state_after own ∙ (others-change-nothing before).0 in
    let P : State → Type 0 = λ s. IsSome s.core in
    one_step policy table k es before Yielded (Yield k) (yield_is_own k) legal own (low, subst P (sym state) may) refl (ap (λ (b : Bool). cond b (Yielded ∷ []) []) (eq-eqb k k refl))
one_entry policy table k es before (Published number rec) low legal own may =
    let state : state_after (journal_along es k) ≡ state_after before = ap state_after own ∙ (others-change-nothing before).0 in
    let records : records_of (journal_along es k) ≡ records_of before = ap records_of own ∙ (others-change-nothing before).1 in
    let P : State → Type 0 = λ s. MayBePublished s (records_of (journal_along es k)) rec in
    let Q : List Record → Type 0 = λ l. MayBePublished (state_after before) l rec in
    let numbered : length (records_of (journal_along es k)) + 1 ≡ number = ap (λ (l : List Record). length l + 1) records ∙ sym may.0 in
    let adds : adds_to k (journal_along es k) (history_in es) (Publish k rec) ≡ Published number rec ∷ [] =
    ap (λ (b : Bool). cond b (Published (length (records_of (journal_along es k)) + 1) rec ∷ []) []) (eq-eqb k k refl) ∙ ap (λ n. Published n rec ∷ []) numbered in
    one_step policy table k es before (Published number rec) (Publish k rec) (publish_is_own k rec) legal own (low, subst P (sym state) (subst Q (sym records) may.1)) refl adds

-- entries of thread k in turn
pub list_on : (policy : Policy) (table : Table) (k : ℕ) (es : List Event) (before xs : List Entry) → k < threads_of_table table → IsLegalAlong policy table es → journal_along es k ≡ steps_of before →
    MayAllHappen (commands_to (actions_of (history_in es)) k) before xs → GoesOn policy table k es (es ++ events_of k xs) (steps_of (before ++ xs))
list_on policy table k es before [] low legal own all = quiet policy table k es before [] legal own refl
list_on policy table k es before (x ∷ xs) low legal own all =
    let mid : List Event = es ++ events_of k (x ∷ []) in
    let one = one_entry policy table k es before x low legal own all.0 in
    let P : List PassEntry → Type 0 = λ h. MayAllHappen (commands_to (actions_of h) k) (before ++ x ∷ []) xs in
    let rest = list_on policy table k mid (before ++ x ∷ []) xs low one.legal one.own_journal (subst P (sym one.history) all.1) in
    let Q : List Event → Type 0 = λ new. GoesOn policy table k es new (steps_of (before ++ x ∷ xs)) in
    let R : List Entry → Type 0 = λ l. GoesOn policy table k es (mid ++ events_of k xs) (steps_of l) in
    let joined : mid ++ events_of k xs ≡ es ++ events_of k (x ∷ xs) =
    append_assoc es (events_of k (x ∷ [])) (events_of k xs) ∙ ap (λ l. es ++ l) (sym (filter_map-append (event_of k) (x ∷ []) xs)) in
    subst Q joined (subst R (append_assoc before (x ∷ []) xs) (then_on policy table k es mid (mid ++ events_of k xs) (steps_of (before ++ x ∷ [])) (steps_of ((before ++ x ∷ []) ++ xs)) one rest))
