-- What holds after each part of a safe list of events, and is kept by each event.
use Rattle.cal_world.proofs.Common.{◌≡◌, ℕ, ◌+◌, ◌≤◌, true, List, [], ◌∷◌, ◌++◌, length, take, Option, Some, None, refl, sym, ap, ◌∙◌, arith, subst, slice_get, unwrap_or, option_and_then, Run, Table, IsTable, Record, Seen, Whole, Busy, Ahead, Foreign, Action, PassEntry, actions_of, looks_of, setting_of, kept_now, has_left, IsPermittedHistory, IsPermittedPass, ActionIsOneMore, LookIsOneMore, PermittedIsSafe, Event, Take, Yield, Publish, Read, Skip, Decide, Watch, OutOfTurn, NotThePass, entry_in, history_in, actions_in, published_by, read_floor, looks_since, record_at, IsSafeEvent, IsSafeList, actions_push, looks_push}
use Rattle.cal_policy.specs.History.Looks.{kept_by, record_to_keep}
use Rattle.cal_world.proofs.ListLemmas.OneMore.{each_more, of_each_part}
use Rattle.cal_world.proofs.ScheduleLemmas.Journals.{IsConsistent, stands_first}
use Rattle.cal_world.proofs.ScheduleLemmas.SinceDecide.{LooksInOrder, no_looks, looks_after}
use Rattle.cal_world.proofs.ScheduleLemmas.Walk.{RunsStand, NoneLeft, runs_through_pass}
use Rattle.cal_world.proofs.ScheduleLemmas.Moves.{standing_in, moves, decide_stands, history_same, history_more}
use Rattle.cal_world.proofs.ScheduleLemmas.Floors.{Grows, grows}

-- no record of thread k up to its read floor shows that the core of its command at this place was
-- left
abbrev pub unleft_in : List Event → ℕ → ℕ → Type 0
unleft_in events k place = (i : ℕ) → i ≤ read_floor events k → has_left (record_at events k i) (place + 1) ≡ true → ⊥

-- what is kept of thread k was read on its page, at a place that is not above the floor
pub record KeptFromPage (events : List Event) (k : ℕ) (kept : Record) : Type 0 where
  pub place : ℕ
  pub low : place ≤ read_floor events k
  pub there : kept ≡ record_at events k place

-- the invariant
pub record Holds (table : Table) (events : List Event) : Type 0 where
  pub permitted : IsPermittedHistory table (history_in events)
  pub stands : (k : ℕ) → IsConsistent (standing_in events k)
  pub floors : (k : ℕ) → read_floor events k ≤ length (published_by events k)
  pub kept : (k : ℕ) → KeptFromPage events k (kept_by (looks_of (history_in events)) k)
  pub runs : RunsStand table (actions_in events) (unleft_in events)
  pub looks : LooksInOrder events

permitted_first : (table : Table) → IsPermittedHistory table []
permitted_first table = record { passes = λ p entry e. let no : None ≡ Some entry = e in cc }

pub holds_first : (table : Table) → Holds table []
holds_first table = record {
  permitted = permitted_first table;
  stands = λ k. stands_first;
  floors = λ k. omega arith;
  kept = λ k. record { place = 0; low = omega arith; there = refl };
  runs = record {
    low = λ k place c e live. let no : None ≡ Some (Run c) = e in cc;
    there = λ k place c e live. let no : None ≡ Some (Run c) = e in cc;
  };
  looks = no_looks;
}

-- a permitted history, one pass more
permitted_more : (table : Table) (history : List PassEntry) (entry : PassEntry) → IsPermittedHistory table history → IsPermittedPass table history entry → IsPermittedHistory table (history ++ entry ∷ [])
permitted_more table history entry was pass = record { passes = each_more (IsPermittedPass table) history entry was.passes pass }

-- what was left is left still
left_still : (before after : List Event) (k place : ℕ) → Grows before after k → read_floor before k ≤ length (published_by before k) → unleft_in after k place → unleft_in before k place
left_still before after k place grown within live i low left =
    let at = grown.same i (omega arith) in
    let le = grown.floor in live i (omega arith) (ap (λ (r : Record). has_left r (place + 1)) at ∙ left)

-- what was read on the page stands there
kept_still : (before after : List Event) (k : ℕ) (kept : Record) → Grows before after k → read_floor before k ≤ length (published_by before k) → KeptFromPage before k kept → KeptFromPage after k kept
kept_still before after k kept grown within was =
    let low = was.low in
    let le = grown.floor in
    record { place = was.place; low = omega arith; there = was.there ∙ sym (grown.same was.place (omega arith)) }

runs_still : (table : Table) (x : List Action) (before after : List Event) → ((k : ℕ) → Grows before after k) → ((k : ℕ) → read_floor before k ≤ length (published_by before k)) →
    RunsStand table x (unleft_in before) → RunsStand table x (unleft_in after)
runs_still table x before after grown within was = record {
  low = λ k place c is live. was.low k place c is (left_still before after k place (grown k) (within k) live);
  there = λ k place c is live. was.there k place c is (left_still before after k place (grown k) (within k) live);
}

-- an event that is no Decide
other : (table : Table) (before : List Event) (event : Event) → IsSafeEvent table before event → entry_in event ≡ None → Holds table before → Holds table (before ++ event ∷ [])
other table before event allowed none was =
    let after : List Event = before ++ event ∷ [] in
    let grown : (k : ℕ) → Grows before after k = λ k. grows table before event allowed k (was.floors k) in
    let same : history_in after ≡ history_in before = history_same before event none in
    let runs : RunsStand table (actions_in before) (unleft_in after) = runs_still table (actions_in before) before after grown was.floors was.runs in record {
      permitted = subst (IsPermittedHistory table) (sym same) was.permitted;
      stands = λ k. moves table before event allowed none k (was.stands k);
      floors = λ k. (grown k).within;
      kept = λ k. subst (λ h. KeptFromPage after k (kept_by (looks_of h) k)) (sym same) (kept_still before after k _ (grown k) (was.floors k) (was.kept k));
      runs = subst (λ h. RunsStand table (actions_of h) (unleft_in after)) (sym same) runs;
      looks = looks_after table before event (allowed OutOfTurn) was.looks;
    }

-- what a Decide keeps of a thread was read on its page
kept_now_from : LookIsOneMore → (before : List Event) (entry : PassEntry) (k : ℕ) → entry.input.seen ≡ looks_since before → LooksInOrder before →
    KeptFromPage before k (kept_by (looks_of (history_in before)) k) → KeptFromPage before k (kept_by (looks_of (history_in before) ++ entry.input.seen ∷ []) k)
kept_now_from one before entry k same looks was =
    subst (KeptFromPage before k) (sym (one (looks_of (history_in before)) entry.input.seen k)) (looked (slice_get entry.input.seen k) (ap (λ seen. slice_get seen k) (sym same)))
  where
    looked : (o : Option Seen) → slice_get (looks_since before) k ≡ o → KeptFromPage before k (unwrap_or (option_and_then record_to_keep o) (kept_by (looks_of (history_in before)) k))
    looked None is = was
    looked (Some (Busy first second)) is = was
    looked (Some (Ahead number rec)) is = was
    looked (Some (Foreign number rec)) is = was
    looked (Some (Whole number rec)) is = let at = looks.at before k (Whole number rec) is in let floor = at.0 in record { place = number; low = omega arith; there = at.1 }

decide : PermittedIsSafe → ActionIsOneMore → LookIsOneMore → (table : Table) (before : List Event) (entry : PassEntry) → IsTable table → IsSafeEvent table before (Decide entry) → Holds table before →
    Holds table (before ++ Decide entry ∷ [])
decide sound more one table before entry ok allowed was =
    let h : List PassEntry = history_in before in
    let after : List Event = before ++ Decide entry ∷ [] in
    let pass = allowed NotThePass in
    let all : IsPermittedHistory table (h ++ entry ∷ []) = permitted_more table h entry was.permitted pass.1 in
    let grown : (k : ℕ) → Grows before after k = λ k. grows table before (Decide entry) allowed k (was.floors k) in
    let kept : (k : ℕ) → KeptFromPage before k (kept_now (setting_of table h entry) k) = λ k. kept_now_from one before entry k pass.0 was.looks (was.kept k) in
    let none : NoneLeft (kept_now (setting_of table h entry)) (unleft_in before) =
    λ k place live left. live (kept k).place (kept k).low (ap (λ (r : Record). has_left r (place + 1)) (sym (kept k).there) ∙ left) in
    let through : RunsStand table (actions_of h ++ entry.actions) (unleft_in before) = runs_through_pass sound more table h entry (unleft_in before) all none was.runs in
    let same : history_in after ≡ h ++ entry ∷ [] = history_more before entry in
    let actions : actions_in after ≡ actions_of h ++ entry.actions = ap actions_of same ∙ actions_push h entry in
    let looks : looks_of (history_in after) ≡ looks_of h ++ entry.input.seen ∷ [] = ap looks_of same ∙ looks_push h entry in record {
      permitted = subst (IsPermittedHistory table) (sym same) all;
      stands = λ k. decide_stands more before entry k (was.stands k);
      floors = λ k. (grown k).within;
      kept = λ k. subst (λ l. KeptFromPage after k (kept_by l k)) (sym looks) (kept_still before after k _ (grown k) (was.floors k) (kept k));
      runs = subst (λ x. RunsStand table x (unleft_in after)) (sym actions) (runs_still table (actions_of h ++ entry.actions) before after grown was.floors through);
      looks = looks_after table before (Decide entry) (allowed OutOfTurn) was.looks;
    }

pub holds_more : PermittedIsSafe → ActionIsOneMore → LookIsOneMore → (table : Table) → IsTable table → (before : List Event) (event : Event) → IsSafeEvent table before event → Holds table before →
    Holds table (before ++ event ∷ [])
holds_more sound more one table ok before (Decide entry) allowed was = decide sound more one table before entry ok allowed was
holds_more sound more one table ok before (Take thread) allowed was = other table before (Take thread) allowed refl was
holds_more sound more one table ok before (Yield thread) allowed was = other table before (Yield thread) allowed refl was
holds_more sound more one table ok before (Publish thread rec) allowed was = other table before (Publish thread rec) allowed refl was
holds_more sound more one table ok before (Read thread number) allowed was = other table before (Read thread number) allowed refl was
holds_more sound more one table ok before (Skip thread seen) allowed was = other table before (Skip thread seen) allowed refl was
holds_more sound more one table ok before (Watch thread number) allowed was = other table before (Watch thread number) allowed refl was

-- the invariant holds at every point of every safe list
pub holds : PermittedIsSafe → ActionIsOneMore → LookIsOneMore → (table : Table) (events : List Event) → IsTable table → IsSafeList table events → (n : ℕ) → n ≤ length events → Holds table (take n events)
holds sound more one table events ok is =
    of_each_part events (λ part. Holds table part) (holds_first table) (λ i event e was. holds_more sound more one table ok (take i events) event (is.each i event e) was)
