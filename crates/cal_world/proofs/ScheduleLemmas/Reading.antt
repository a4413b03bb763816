-- In a list whose Skips are all of busy looks, what was last shown of a thread was read on its
-- page, and a record that was read is neither ahead nor foreign.
use Rattle.cal_world.proofs.Common.{◌≡◌, ℕ, ◌+◌, ◌-◌, ◌<◌, ◌≤◌, zero, suc, Bool, true, false, ◌&&◌, not, cond, eqb, leb, ltb, List, [], ◌∷◌, ◌++◌, length, take, Option, Some, None, refl, sym, ap, ◌∙◌, arith, subst, ⊎_elim, slice_get, filter_map, unwrap_or, option_and_then, take-length, eqb-true, and_parts, leb-true, nat_tests, append-nil, Table, IsTable, Record, zero_record, IsLater, MayFollow, Chain, Seen, Whole, Busy, Ahead, Foreign, ActionIsOneMore, LookIsOneMore, ArePermitted, PermittedIsSafe, Policy, pass_by, setting_of, Holder, Action, PassEntry, looks_of, holder_of, sent_to, placement_of, Event, Take, Yield, Publish, Read, Skip, Decide, Watch, history_in, actions_in, entries_for, publishes_in, takes_in, next_command, took, entry_in, published_by, read_floor, look_made, looks_since, since_decide, record_at, decided_at, IsItsState, IsAllowedBy, IsSafeEvent, IsSafeList, Command, Yielded, Published, records_of, slice_get_parts, looks_push, pass_from}
use Rattle.cal_signal.proofs.PageLists.{chain_snoc}
use Rattle.cal_signal.specs.declared.look.Look.TheVariants as found
use Rattle.cal_signal.specs.declared.shown.Shown.{Shown}
use Rattle.cal_policy.specs.declared.board.holders.Placement as placements
use Rattle.cal_policy.specs.declared.board.holders.Holder.TheVariants as holders
use Rattle.cal_policy.specs.Judgement.Judging.{judged, is_foreign, is_acknowledged_by, IsFitLook, IsInput}
use Rattle.cal_signal.specs.Shown.{IsFitShown}
use Rattle.cal_policy.specs.History.Looks.{last_shown, shown_at, shown_by, look_of}
use Rattle.cal_world.specs.declared.illegal.Illegal.TheVariants as causes
use Rattle.cal_world.specs.Reads.{IsBusy, SkipsBusy, AllSkipsAreBusy, IsOnReads, ReadsAreWhole}
use Rattle.cal_world.proofs.ListLemmas.OneMore.{of_each_part}
use Rattle.cal_world.proofs.ScheduleLemmas.Chains.{later_at, shaped_at, zero_shaped}
use Rattle.cal_world.proofs.ScheduleLemmas.SinceDecide.{LooksInOrder, looks_same, looks_more, since_none}
use Rattle.cal_world.proofs.ScheduleLemmas.Floors.{Grows, grows, published_more}
use Rattle.cal_world.proofs.ScheduleLemmas.Moves.{history_same, history_more}
use Rattle.cal_world.proofs.ScheduleLemmas.Walk.{by_run}
use Rattle.cal_world.proofs.ScheduleLemmas.Invariant.{Holds, unleft_in, holds_first, holds_more}
use Rattle.cal_policy.proofs.HistoryLemmas.OneMore.{shown_push}

-- what was published is in order

published_same : (before : List Event) (event : Event) (k : ℕ) → records_of (entries_for k before event) ≡ [] → published_by (before ++ event ∷ []) k ≡ published_by before k
published_same before event k e = published_more before event k ∙ ap (λ rs. published_by before k ++ rs) e ∙ append-nil (published_by before k)

pub taken_none : (b : Bool) (number : ℕ) (o : Option Command) → records_of (cond b (took number o) []) ≡ []
taken_none true number (Some command) = refl
taken_none true number None = refl
taken_none false number o = refl

pub yielded_none : (b : Bool) → records_of (cond b (Yielded ∷ []) []) ≡ []
yielded_none true = refl
yielded_none false = refl

in_order : (before : List Event) (thread k : ℕ) (rec : Record) (b : Bool) → eqb thread k ≡ b → IsItsState before (Publish thread rec) → Chain MayFollow zero_record (published_by before k) →
    Chain MayFollow zero_record (published_by (before ++ Publish thread rec ∷ []) k)
in_order before thread k rec false is shows was =
    let none : records_of (entries_for k before (Publish thread rec)) ≡ [] = ap (λ (b : Bool). records_of (cond b (Published (publishes_in before k + 1) rec ∷ []) [])) is in
    subst (Chain MayFollow zero_record) (sym (published_same before (Publish thread rec) k none)) was
in_order before thread k rec true is shows was =
    let one : records_of (entries_for k before (Publish thread rec)) ≡ rec ∷ [] = ap (λ (b : Bool). records_of (cond b (Published (publishes_in before k + 1) rec ∷ []) [])) is in
    let P : ℕ → Type 0 = λ n. IsItsState before (Publish n rec) in
    let follows = (subst P (eqb-true thread k is) shows).follows in
    subst (Chain MayFollow zero_record) (sym (published_more before (Publish thread rec) k ∙ ap (λ rs. published_by before k ++ rs) one))
    (chain_snoc MayFollow zero_record (published_by before k) rec was follows)

pub order_more : (table : Table) (before : List Event) (event : Event) → IsSafeEvent table before event → (k : ℕ) → Chain MayFollow zero_record (published_by before k) →
    Chain MayFollow zero_record (published_by (before ++ event ∷ []) k)
order_more table before (Publish thread rec) allowed k was = in_order before thread k rec (eqb thread k) refl (allowed causes.NotItsState) was
order_more table before (Take thread) allowed k was = subst (Chain MayFollow zero_record) (sym (published_same before (Take thread) k (taken_none (eqb thread k) (takes_in before k + 1) (next_command before k)))) was
order_more table before (Yield thread) allowed k was = subst (Chain MayFollow zero_record) (sym (published_same before (Yield thread) k (yielded_none (eqb thread k)))) was
order_more table before (Read thread number) allowed k was = subst (Chain MayFollow zero_record) (sym (published_same before (Read thread number) k refl)) was
order_more table before (Skip thread seen) allowed k was = subst (Chain MayFollow zero_record) (sym (published_same before (Skip thread seen) k refl)) was
order_more table before (Decide entry) allowed k was = subst (Chain MayFollow zero_record) (sym (published_same before (Decide entry) k refl)) was
order_more table before (Watch thread number) allowed k was = subst (Chain MayFollow zero_record) (sym (published_same before (Watch thread number) k refl)) was

-- no look since the last Decide was judged ahead or foreign
abbrev pub IsPlain : Seen → Type 0
IsPlain (Whole number rec) = Unit {0}
IsPlain (Busy first second) = Unit {0}
IsPlain (Ahead number rec) = ⊥
IsPlain (Foreign number rec) = ⊥

-- what was last shown of thread k was read on its page, at a place that is not above the floor
pub record ShownFromPage (events : List Event) (k : ℕ) (shown : Shown) : Type 0 where
  pub low : shown.number ≤ read_floor events k
  pub there : shown.rec ≡ record_at events k shown.number

pub record HoldsBusy (events : List Event) : Type 0 where
  pub order : (k : ℕ) → Chain MayFollow zero_record (published_by events k)
  pub shown : (k : ℕ) → ShownFromPage events k (last_shown (looks_of (history_in events)) k)
  pub plain : (all : List Event) (k : ℕ) (seen : Seen) → slice_get (filter_map (look_made all) (since_decide events)) k ≡ Some seen → IsPlain seen

-- one event more

plain_same : (before : List Event) (event : Event) → decided_at before event ≡ None → ((all : List Event) → look_made all event ≡ None) → HoldsBusy before →
    (all : List Event) (k : ℕ) (seen : Seen) → slice_get (filter_map (look_made all) (since_decide (before ++ event ∷ []))) k ≡ Some seen → IsPlain seen
plain_same before event e none was all k seen is = was.plain all k seen (sym (ap (λ xs. slice_get xs k) (looks_same before event e none all)) ∙ is)

plain_one : (look : Seen) (j : ℕ) (seen : Seen) → IsPlain look → slice_get (look ∷ []) j ≡ Some seen → IsPlain seen
plain_one look zero seen plain is = let same : look ≡ seen = cc in subst IsPlain same plain
plain_one look (suc j) seen plain is = let none : None ≡ Some seen = is in cc

plain_more : (before : List Event) (event : Event) (look : List Event → Seen) → decided_at before event ≡ None → ((all : List Event) → look_made all event ≡ Some (look all)) →
    ((all : List Event) → IsPlain (look all)) → HoldsBusy before →
    (all : List Event) (k : ℕ) (seen : Seen) → slice_get (filter_map (look_made all) (since_decide (before ++ event ∷ []))) k ≡ Some seen → IsPlain seen
plain_more before event look e made plain was all k seen is = ⊎_elim
    (λ old. was.plain all k seen old)
    (λ new. plain_one (look all) new.0 seen (plain all) new.2)
    (slice_get_parts (filter_map (look_made all) (since_decide before)) (look all ∷ []) k seen (sym (ap (λ xs. slice_get xs k) (looks_more before event e all (look all) (made all))) ∙ is))

busy_plain : (seen : Seen) → IsBusy seen → IsPlain seen
busy_plain (Busy first second) is = tt
busy_plain (Whole number rec) is = tt
busy_plain (Ahead number rec) is = is
busy_plain (Foreign number rec) is = is

plain_after : (before : List Event) (event : Event) → SkipsBusy event → HoldsBusy before →
    (all : List Event) (k : ℕ) (seen : Seen) → slice_get (filter_map (look_made all) (since_decide (before ++ event ∷ []))) k ≡ Some seen → IsPlain seen
plain_after before (Take thread) busy was = plain_same before (Take thread) refl (λ all. refl) was
plain_after before (Yield thread) busy was = plain_same before (Yield thread) refl (λ all. refl) was
plain_after before (Publish thread rec) busy was = plain_same before (Publish thread rec) refl (λ all. refl) was
plain_after before (Watch thread number) busy was = plain_same before (Watch thread number) refl (λ all. refl) was
plain_after before (Read thread number) busy was = plain_more before (Read thread number) (λ all. Whole number (record_at all thread number)) refl (λ all. refl) (λ all. tt) was
plain_after before (Skip thread seen) busy was = plain_more before (Skip thread seen) (λ all. seen) refl (λ all. refl) (λ all. busy_plain seen busy) was
plain_after before (Decide entry) busy was = λ all k seen is. let none : None ≡ Some seen = sym (ap (λ es. slice_get (filter_map (look_made all) es) k) (since_none before entry)) ∙ is in cc

shown_still : (before after : List Event) (k : ℕ) (shown : Shown) → Grows before after k → read_floor before k ≤ length (published_by before k) → ShownFromPage before k shown → ShownFromPage after k shown
shown_still before after k shown grown within was =
    let low = was.low in
    let le = grown.floor in
    record { low = omega arith; there = was.there ∙ sym (grown.same shown.number (omega arith)) }

shown_other : (table : Table) (before : List Event) (event : Event) → entry_in event ≡ None → ((k : ℕ) → Grows before (before ++ event ∷ []) k) → Holds table before → HoldsBusy before →
    (k : ℕ) → ShownFromPage (before ++ event ∷ []) k (last_shown (looks_of (history_in (before ++ event ∷ []))) k)
shown_other table before event none grown held was k =
    let P : List PassEntry → Type 0 = λ h. ShownFromPage (before ++ event ∷ []) k (last_shown (looks_of h) k) in
    subst P (sym (history_same before event none)) (shown_still before (before ++ event ∷ []) k _ (grown k) (held.floors k) (was.shown k))

-- a Decide shows what was read
shown_looked : (before : List Event) (k : ℕ) (old : Shown) → LooksInOrder before → HoldsBusy before → ShownFromPage before k old → (o : Option Seen) → slice_get (looks_since before) k ≡ o →
    ShownFromPage before k (unwrap_or (option_and_then shown_by o) old)
shown_looked before k old looks busy was None is = was
shown_looked before k old looks busy was (Some (Busy first second)) is = was
shown_looked before k old looks busy was (Some (Ahead number rec)) is = absurd (busy.plain before k (Ahead number rec) is)
shown_looked before k old looks busy was (Some (Foreign number rec)) is = absurd (busy.plain before k (Foreign number rec) is)
shown_looked before k old looks busy was (Some (Whole number rec)) is =
    let at = looks.at before k (Whole number rec) is in
    let floor = at.0 in
    record { low = omega arith; there = at.1 }

shown_decide : (table : Table) (before : List Event) (entry : PassEntry) → entry.input.seen ≡ looks_since before → ((k : ℕ) → Grows before (before ++ Decide entry ∷ []) k) → Holds table before →
    HoldsBusy before → (k : ℕ) → ShownFromPage (before ++ Decide entry ∷ []) k (last_shown (looks_of (history_in (before ++ Decide entry ∷ []))) k)
shown_decide table before entry same grown held was k =
    let after : List Event = before ++ Decide entry ∷ [] in
    let h : List PassEntry = history_in before in
    let now : ShownFromPage before k (unwrap_or (shown_at entry.input.seen k) (last_shown (looks_of h) k)) =
    shown_looked before k (last_shown (looks_of h) k) held.looks was (was.shown k) (slice_get entry.input.seen k) (ap (λ seen. slice_get seen k) (sym same)) in
    let looks : looks_of (history_in after) ≡ looks_of h ++ entry.input.seen ∷ [] = ap looks_of (history_more before entry) ∙ looks_push h entry in
    let last : last_shown (looks_of (history_in after)) k ≡ unwrap_or (shown_at entry.input.seen k) (last_shown (looks_of h) k) =
    ap (λ l. last_shown l k) looks ∙ shown_push (looks_of h) entry.input.seen k in
    subst (ShownFromPage after k) (sym last) (shown_still before after k _ (grown k) (held.floors k) now)

shown_after : (table : Table) (before : List Event) (event : Event) → IsSafeEvent table before event → ((k : ℕ) → Grows before (before ++ event ∷ []) k) → Holds table before → HoldsBusy before →
    (k : ℕ) → ShownFromPage (before ++ event ∷ []) k (last_shown (looks_of (history_in (before ++ event ∷ []))) k)
shown_after table before (Take thread) allowed grown held was = shown_other table before (Take thread) refl grown held was
shown_after table before (Yield thread) allowed grown held was = shown_other table before (Yield thread) refl grown held was
shown_after table before (Publish thread rec) allowed grown held was = shown_other table before (Publish thread rec) refl grown held was
shown_after table before (Read thread number) allowed grown held was = shown_other table before (Read thread number) refl grown held was
shown_after table before (Skip thread seen) allowed grown held was = shown_other table before (Skip thread seen) refl grown held was
shown_after table before (Watch thread number) allowed grown held was = shown_other table before (Watch thread number) refl grown held was
shown_after table before (Decide entry) allowed grown held was = shown_decide table before entry (allowed causes.NotThePass).0 grown held was

pub busy_first : HoldsBusy []
busy_first = record {
  order = λ k. tt;
  shown = λ k. record { low = omega arith; there = refl };
  plain = λ all k seen is. let none : None ≡ Some seen = is in cc;
}

pub busy_after : (table : Table) (before : List Event) (event : Event) → IsSafeEvent table before event → SkipsBusy event → Holds table before → HoldsBusy before → HoldsBusy (before ++ event ∷ [])
busy_after table before event allowed busy held was = record {
  order = λ k. order_more table before event allowed k (was.order k);
  shown = shown_after table before event allowed (λ k. grows table before event allowed k (held.floors k)) held was;
  plain = plain_after before event busy was;
}

-- a record that was read is neither ahead nor foreign

has_core : (k p : ℕ) (rec : Record) (h : Holder) → placement_of h ≡ Some (by_run k p) → p + 1 ≤ rec.taken → is_acknowledged_by k rec h ≡ true
has_core k p rec holders.Free e low = cc
has_core k p rec (holders.Held q) e low = let same : q ≡ by_run k p = cc in let P : placements.Placement → Type 0 = λ q. ((eqb q.thread k) && (leb q.number rec.taken)) ≡ true in
    subst P (sym same) (grind (arith, nat_tests))
has_core k p rec (holders.Leaving q cause) e low = let same : q ≡ by_run k p = cc in let P : placements.Placement → Type 0 = λ q. ((eqb q.thread k) && (leb q.number rec.taken)) ≡ true in
    subst P (sym same) (grind (arith, nat_tests))

not_foreign : (off : Bool) (b c : Bool) → (off ≡ false → (b ≡ true) × (c ≡ true)) → (not off && not (b && c)) ≡ false
not_foreign true b c e = refl
not_foreign false b c e = let both = e refl in ap (λ (b : Bool). not (b && c)) both.0 ∙ ap (λ (c : Bool). not c) both.1

leb-from : (a b : ℕ) → a ≤ b → leb a b ≡ true
leb-from a b le = grind (arith, nat_tests)

native : (table : Table) (events : List Event) → Holds table events → (k n : ℕ) → n ≡ read_floor events k → is_foreign table.cores (actions_in events) k (record_at events k n) ≡ false
native table events inv k n floor =
    not_foreign (eqb rec.running 0) (leb rec.running table.cores) (is_acknowledged_by k rec (holder_of (actions_in events) (rec.running - 1))) (λ off. on (shown off))
  where
    rec : Record
    rec = record_at events k n

    shown : eqb rec.running 0 ≡ false → rec.running ≡ 0 → ⊥
    shown off none = grind (arith, nat_tests)

    on : (rec.running ≡ 0 → ⊥) → (leb rec.running table.cores ≡ true) × (is_acknowledged_by k rec (holder_of (actions_in events) (rec.running - 1)) ≡ true)
    on some =
        let was = (inv.stands k).on n some in
        let live : unleft_in events k was.place = λ i low left.
        (let both = and_parts (leb (was.place + 1) (record_at events k i).taken) (eqb (record_at events k i).running 0) left in
        was.unleft i (omega arith) (leb-true _ _ both.0) (eqb-true _ _ both.1)) in
        let low : rec.running - 1 < table.cores = inv.runs.low k was.place (rec.running - 1) was.command live in
        let there : placement_of (holder_of (actions_in events) (rec.running - 1)) ≡ Some (by_run k was.place) = inv.runs.there k was.place (rec.running - 1) was.command live in
        ((let le : rec.running ≤ table.cores = omega arith in leb-from rec.running table.cores le), has_core k was.place rec (holder_of (actions_in events) (rec.running - 1)) there was.acknowledged)

judged_whole : (cores : ℕ) (x : List Action) (k number : ℕ) (rec : Record) → rec.taken ≤ sent_to x k → is_foreign cores x k rec ≡ false →
    judged cores x k (found.Whole number rec) ≡ Whole number rec
judged_whole cores x k number rec sent native =
    let ahead : ltb (sent_to x k) rec.taken ≡ false = grind (arith, nat_tests) in
    ap (λ (b : Bool). cond b (Ahead number rec) (cond (is_foreign cores x k rec) (Foreign number rec) (Whole number rec))) ahead
    ∙ ap (λ (b : Bool). cond b (Foreign number rec) (Whole number rec)) native

fits : (table : Table) (events : List Event) (k number : ℕ) → Holds table events → HoldsBusy events → number ≡ read_floor events k → (last : Shown) → ShownFromPage events k last →
    IsFitShown last (record { number = number; rec = record_at events k number })
fits table events k number inv busy floor last shown =
    let at : (i : ℕ) → Record = λ i. record_at events k i in
    let low = shown.low in
    let within = inv.floors k in (
      shaped_at zero_record (published_by events k) number zero_shaped (busy.order k),
      record {
        not_below = omega arith;
        same = λ e. shown.there ∙ ap at e;
        later = λ less. subst (λ (r : Record). IsLater r (at number)) (sym shown.there)
            (later_at zero_record (published_by events k) last.number number (busy.order k) (omega arith) (omega arith));
      },
    )

-- a look since the last Decide that carries a record is judged Whole
pub whole_read : (table : Table) (events : List Event) → Holds table events → ReadsAreWhole table events
whole_read table events inv k number rec is =
    let at = inv.looks.at events k (Whole number rec) is in
    let taken : (record_at events k number).taken ≤ sent_to (actions_in events) k =
    (let said = ((inv.stands k).page number).taken in let count = (inv.stands k).count in let sent = (inv.stands k).within in omega arith) in
    let whole = judged_whole table.cores (actions_in events) k number (record_at events k number) taken (native table events inv k number at.0) in
    let P : Record → Type 0 = λ r. judged table.cores (actions_in events) k (found.Whole number r) ≡ Whole number r in
    subst P (sym at.1) whole

-- the looks are an input that the pass may be given
reads_fit : (table : Table) (events : List Event) (entry : PassEntry) → Holds table events → HoldsBusy events → IsOnReads table events entry → (k : ℕ) (seen : Seen) →
    slice_get (looks_since events) k ≡ Some seen → IsFitLook (last_shown (looks_of (history_in events)) k) seen × (seen ≡ judged table.cores (actions_in events) k (look_of seen))
reads_fit table events entry inv busy pass k (Whole number rec) is =
    let at = inv.looks.at events k (Whole number rec) is in
    let last : Shown = last_shown (looks_of (history_in events)) k in
    let fit = fits table events k number inv busy at.0 last (busy.shown k) in
    let P : Record → Type 0 = λ r. IsFitLook last (Whole number r) in
    (subst P (sym at.1) fit, sym (whole_read table events inv k number rec is))
reads_fit table events entry inv busy pass k (Busy first second) is = absurd (pass.whole k (Busy first second) is)
reads_fit table events entry inv busy pass k (Ahead number rec) is = absurd (pass.whole k (Ahead number rec) is)
reads_fit table events entry inv busy pass k (Foreign number rec) is = absurd (pass.whole k (Foreign number rec) is)

input_fits : (table : Table) (events : List Event) (entry : PassEntry) → Holds table events → HoldsBusy events → IsOnReads table events entry → IsInput table (history_in events) entry.input
input_fits table events entry inv busy pass =
    let same : (k : ℕ) (seen : Seen) → slice_get entry.input.seen k ≡ Some seen → slice_get (looks_since events) k ≡ Some seen = λ k seen is. ap (λ xs. slice_get xs k) (sym pass.looks) ∙ is in record {
      looks = record {
        looks = ap length pass.looks ∙ pass.all;
        rooms = pass.rooms;
        fit = λ k seen is. (reads_fit table events entry inv busy pass k seen (same k seen is)).0;
      };
      as_judged = λ k seen is. (reads_fit table events entry inv busy pass k seen (same k seen is)).1;
    }

-- a Decide on Reads is refused for its actions alone
pub safe_on_reads : (table : Table) (events : List Event) (entry : PassEntry) → Holds table events → HoldsBusy events → IsOnReads table events entry →
    ArePermitted (setting_of table (history_in events) entry) entry.actions → IsSafeEvent table events (Decide entry)
safe_on_reads table events entry inv busy pass actions causes.NoThread = tt
safe_on_reads table events entry inv busy pass actions causes.NothingSent = tt
safe_on_reads table events entry inv busy pass actions causes.NotOn = tt
safe_on_reads table events entry inv busy pass actions causes.NotItsState = tt
safe_on_reads table events entry inv busy pass actions causes.NoSuchPlace = tt
safe_on_reads table events entry inv busy pass actions causes.OutOfTurn = sym pass.all
safe_on_reads table events entry inv busy pass actions causes.NotThePass =
    (pass.looks, record { input = input_fits table events entry inv busy pass; actions = actions })
safe_on_reads table events entry inv busy pass actions causes.Memory = tt

pub allowed_on_reads : (policy : Policy) (table : Table) (events : List Event) (entry : PassEntry) → Holds table events → HoldsBusy events → IsOnReads table events entry →
    entry.actions ≡ pass_by policy (setting_of table (history_in events) entry) → IsAllowedBy policy table events (Decide entry)
allowed_on_reads policy table events entry inv busy pass actions causes.NoThread = tt
allowed_on_reads policy table events entry inv busy pass actions causes.NothingSent = tt
allowed_on_reads policy table events entry inv busy pass actions causes.NotOn = tt
allowed_on_reads policy table events entry inv busy pass actions causes.NotItsState = tt
allowed_on_reads policy table events entry inv busy pass actions causes.NoSuchPlace = tt
allowed_on_reads policy table events entry inv busy pass actions causes.OutOfTurn = sym pass.all
allowed_on_reads policy table events entry inv busy pass actions causes.NotThePass =
    (pass.looks, pass_from policy table (history_in events) entry (input_fits table events entry inv busy pass) actions)
allowed_on_reads policy table events entry inv busy pass actions causes.Memory = tt

pub holds_busy : PermittedIsSafe → ActionIsOneMore → LookIsOneMore → (table : Table) (events : List Event) → IsTable table → IsSafeList table events →
    AllSkipsAreBusy events → Holds table events × HoldsBusy events
holds_busy sound more one table events ok is busy =
    let P : List Event → Type 0 = λ part. Holds table part × HoldsBusy part in
    subst P (take-length events) (of_each_part events P (holds_first table, busy_first)
    (λ i event e was. (holds_more sound more one table ok (take i events) event (is.each i event e) was.0, busy_after table (take i events) event (is.each i event e) (busy i event e) was.0 was.1))
    (length events) (omega arith))
