-- A look of the scheduler, after the part of the thread's journal that it calls for.
use Rattle.cal_linear.proofs.Common.{nat_tests, ◌≡◌, ℕ, ◌+◌, ◌-◌, ◌<◌, ◌≤◌, max, Bool, true, false, eqb, cond, List, [], ◌∷◌, ◌++◌, length, Option, Some, None, refl, sym, ap, subst, ◌∙◌, append_assoc, append-nil, arith, length-append, option_to_list, option_map, slice_get, filter_map, slice_get_within, eqb-true, Table, Policy, Command, Record, last_from, page_of, Seen, Whole, Busy, Ahead, Foreign, PassEntry, threads_of_table, actions_of, commands_to, sent_to, Entry, IsJournal, state_after, records_of, Event, Read, Skip, history_in, watches_in, KeepsNone, up_to, past, steps_of, between, events_of, journal_at, look_events, looks_from, IsPublication, others-change-nothing, record-shows-taken, taken-all}
use Rattle.cal_linear.proofs.Along.{journal_along, place_of_read, floor_along, looks_along}
use Rattle.cal_linear.proofs.LegalAlong.{IsAllowedAlong, IsLegalAlong}
use Rattle.cal_linear.proofs.Places.{with_look, with_looks, look_leaves}
use Rattle.cal_linear.proofs.Lists.{last_from_push}
use Rattle.cal_linear.proofs.OneMore.{history_push, journal_push, looks_push, floor_push, watches_push, legal_push}
use Rattle.cal_linear.proofs.Cuts.{cut_whole, cut_more, cut_records, cut_page}
use Rattle.cal_linear.proofs.Standing.{MayAllHappen, HasFirst, split, all_with}
use Rattle.cal_linear.proofs.Listing.{GoesOn, list_on}

-- where a legal list has come: these passes are decided, and after them these looks made; of each
-- thread the place that was read last, and all that it did up to that publication
pub record HasCome (policy : Policy) (table : Table) (journals : List (List Entry)) (places : ℕ → ℕ) (passes : List PassEntry) (looks : List Seen) (es : List Event) : Type 0 where
  pub legal : IsLegalAlong policy table es
  pub decided : history_in es ≡ passes
  pub looked : looks_along es ≡ looks
  pub unwatched : watches_in es ≡ []
  pub floors : (j : ℕ) → floor_along es j ≡ places j
  pub done : (j : ℕ) → journal_along es j ≡ steps_of (up_to (places j) (journal_at journals j))

-- a journal whose entries may all happen once these commands were sent, of which the first were
-- sent by these passes
pub record IsSound (sent : List Command) (passes : List PassEntry) (k : ℕ) (journal : List Entry) : Type 0 where
  pub kept : IsJournal journal
  pub may : MayAllHappen sent [] journal
  pub first : HasFirst sent (commands_to (actions_of passes) k) (sent_to (actions_of passes) k)

-- a look that fits where the list has come
abbrev pub FitsLook : List (List Entry) → List PassEntry → ℕ → ℕ → Seen → Type 0
FitsLook journals passes from k (Whole number rec) = (from ≤ number) × IsPublication journals k number rec × (rec.taken ≤ sent_to (actions_of passes) k)
FitsLook journals passes from k _ = Unit {0}

-- the part of the journal that is listed before a Read
part_on : (policy : Policy) (table : Table) (journals : List (List Entry)) (places : ℕ → ℕ) (passes : List PassEntry) (looks : List Seen) (es : List Event) (k number : ℕ) (rec : Record) (sent : List Command) →
    HasCome policy table journals places passes looks es → k < threads_of_table table → IsSound sent passes k (journal_at journals k) → FitsLook journals passes (places k) k (Whole number rec) →
    number ≤ length (records_of (journal_at journals k)) →
    GoesOn policy table k es (es ++ events_of k (between (places k) number (journal_at journals k))) (steps_of (up_to number (journal_at journals k)))
part_on policy table journals places passes looks es k number rec sent come low sound fits within =
    let J : List Entry = journal_at journals k in
    let front : List Entry = up_to (places k) J in
    let part : List Entry = between (places k) number J in
    let reach : number ≡ places k + (number - places k) = (let le = fits.0 in omega (arith, le)) in
    let joined : front ++ part ≡ up_to number J = cut_more (places k) (number - places k) number J reach in
    let M : List Entry → Type 0 = λ l. MayAllHappen sent [] l in
    let up : MayAllHappen sent [] (up_to number J) = (split sent [] (up_to number J) (past number J) (subst M (sym (cut_whole number J)) sound.may)).0 in
    let after : MayAllHappen sent front part = (split sent [] front part (subst M (sym joined) up)).1 in
    let taken : rec.taken ≡ (state_after (front ++ part)).taken = (record-shows-taken J number rec sound.kept fits.1).0 ∙ sym (taken-all (up_to number J)) ∙ sym (ap (λ l. (state_after l).taken) joined) in
    let few : (state_after (front ++ part)).taken ≤ sent_to (actions_of passes) k = (let le = fits.2 in omega (arith, le, taken)) in
    let now = all_with sent (commands_to (actions_of passes) k) (sent_to (actions_of passes) k) front part sound.first few after in
    let N : List PassEntry → Type 0 = λ h. MayAllHappen (commands_to (actions_of h) k) front part in
    let Q : List Entry → Type 0 = λ l. GoesOn policy table k es (es ++ events_of k part) (steps_of l) in
    subst Q joined (list_on policy table k es front part low come.legal (come.done k) (subst N (sym come.decided) now))

-- what a look leaves, at each thread
read_leaves : (places : ℕ → ℕ) (k number : ℕ) (rec : Record) (j : ℕ) → places k ≤ number → (b : Bool) → eqb k j ≡ b → with_look places k (Whole number rec) j ≡ cond b number (places j)
read_leaves places k number rec j le false e = ap (λ (b : Bool). cond b (max (places j) number) (places j)) e
read_leaves places k number rec j le true e =
    let at : places k ≡ places j = ap places (eqb-true k j e) in
    ap (λ (b : Bool). cond b (max (places j) number) (places j)) e ∙ (let most : max (places j) number ≡ number = omega (arith, le, at) in most)

same_either : (b : Bool) (n : ℕ) → cond b n n ≡ n
same_either false n = refl
same_either true n = refl

-- what a Read leaves: the thread's place is the one read, the others' are as they were
read_place : (k number : ℕ) (rec : Record) (places : ℕ → ℕ) (mid : List Event) (j : ℕ) → floor_along mid j ≡ places j → (b : Bool) → eqb k j ≡ b →
    last_from 0 (filter_map (place_of_read j) mid ++ option_to_list (cond b (Some number) None)) ≡ cond b number (places j)
read_place k number rec places mid j was false e = ap (last_from 0) (append-nil (filter_map (place_of_read j) mid)) ∙ was
read_place k number rec places mid j was true e = last_from_push 0 (filter_map (place_of_read j) mid) number

-- and its journal is done up to there
read_done : (journals : List (List Entry)) (k number : ℕ) (places : ℕ → ℕ) (es mid : List Event) (j : ℕ) → journal_along es j ≡ steps_of (up_to (places j) (journal_at journals j)) →
    journal_along mid k ≡ steps_of (up_to number (journal_at journals k)) → ((i : ℕ) → eqb k i ≡ false → journal_along mid i ≡ journal_along es i) → (b : Bool) → eqb k j ≡ b →
    journal_along mid j ≡ steps_of (up_to (cond b number (places j)) (journal_at journals j))
read_done journals k number places es mid j was own others false e = others j e ∙ was
read_done journals k number places es mid j was own others true e =
    let P : ℕ → Type 0 = λ i. journal_along mid i ≡ steps_of (up_to number (journal_at journals i)) in
    subst P (eqb-true k j e) own

-- a look at a record: the part of the journal up to its publication, and the Read
read_on : (policy : Policy) (table : Table) (journals : List (List Entry)) (places : ℕ → ℕ) (passes : List PassEntry) (looks : List Seen) (es : List Event) (k number : ℕ) (rec : Record) (sent : List Command) →
    HasCome policy table journals places passes looks es → k < threads_of_table table → length looks ≡ k → IsSound sent passes k (journal_at journals k) →
    FitsLook journals passes (places k) k (Whole number rec) →
    HasCome policy table journals (with_look places k (Whole number rec)) passes (looks ++ Whole number rec ∷ []) (es ++ look_events k (journal_at journals k) (places k) (Whole number rec))
read_on policy table journals places passes looks es k number rec sent come low turn sound fits =
    let J : List Entry = journal_at journals k in
    let part : List Event = events_of k (between (places k) number J) in
    let mid : List Event = es ++ part in
    let e : Event = Read k number in
    let inside = slice_get_within (page_of (records_of J)) number rec fits.1 in
    let within : number ≤ length (records_of J) = omega (arith, inside) in
    let on = part_on policy table journals places passes looks es k number rec sent come low sound fits within in
    let records : records_of (journal_along mid k) ≡ records_of (up_to number J) = ap records_of on.own_journal ∙ (others-change-nothing (up_to number J)).1 in
    let count : length (records_of (journal_along mid k)) ≡ number = ap (λ (l : List Record). length l) records ∙ cut_records number J within in
    let shown : slice_get (page_of (records_of (journal_along mid k))) number ≡ Some rec = ap (λ (l : List Record). slice_get (page_of l) number) records ∙ cut_page number J within ∙ fits.1 in
    let floor : floor_along mid k ≡ places k = on.floors k ∙ come.floors k in
    let looked : looks_along mid ≡ looks = on.looks ∙ come.looked in
    let may : IsAllowedAlong policy table mid e = (low, (let le = fits.0 in omega (arith, floor, le)), omega (arith, count), ap (λ (l : List Seen). length l) looked ∙ turn) in
    let all : HasCome policy table journals (with_look places k (Whole number rec)) passes (looks ++ Whole number rec ∷ []) (mid ++ e ∷ []) = record {
      legal = legal_push policy table mid e on.legal may;
      decided = history_push mid e ∙ append-nil (history_in mid) ∙ on.history ∙ come.decided;
      looked = looks_push mid e ∙ ap (λ (o : Option Record). looks_along mid ++ option_to_list (option_map (Whole number) o)) shown ∙ ap (λ (l : List Seen). l ++ Whole number rec ∷ []) looked;
      unwatched = watches_push mid e ∙ append-nil (watches_in mid) ∙ on.watched ∙ come.unwatched;
      floors = λ j. floor_push j mid e ∙ read_place k number rec places mid j (on.floors j ∙ come.floors j) (eqb k j) refl ∙ sym (read_leaves places k number rec j fits.0 (eqb k j) refl);
      done = λ j. journal_push j mid e ∙ append-nil (journal_along mid j) ∙ read_done journals k number places es mid j (come.done j) on.own_journal on.others (eqb k j) refl
          ∙ ap (λ n. steps_of (up_to n (journal_at journals j))) (sym (read_leaves places k number rec j fits.0 (eqb k j) refl));
    } in
    let P : List Event → Type 0 = λ new. HasCome policy table journals (with_look places k (Whole number rec)) passes (looks ++ Whole number rec ∷ []) new in
    subst P (append_assoc es part (e ∷ [])) all

-- a look of which no record was kept: the Skip alone
skip_on : (policy : Policy) (table : Table) (journals : List (List Entry)) (places after : ℕ → ℕ) (passes : List PassEntry) (looks : List Seen) (es : List Event) (k : ℕ) (seen : Seen) →
    HasCome policy table journals places passes looks es → k < threads_of_table table → length looks ≡ k → KeepsNone seen → ((j : ℕ) → after j ≡ places j) → HasCome policy table journals after passes (looks ++ seen ∷ []) (es ++ Skip k seen ∷ [])
skip_on policy table journals places after passes looks es k seen come low turn none same =
    let e : Event = Skip k seen in
    record {
      legal = legal_push policy table es e come.legal (low, ap (λ (l : List Seen). length l) come.looked ∙ turn, none);
      decided = history_push es e ∙ append-nil (history_in es) ∙ come.decided;
      looked = looks_push es e ∙ ap (λ (l : List Seen). l ++ seen ∷ []) come.looked;
      unwatched = watches_push es e ∙ append-nil (watches_in es) ∙ come.unwatched;
      floors = λ j. floor_push j es e ∙ ap (last_from 0) (append-nil (filter_map (place_of_read j) es)) ∙ come.floors j ∙ sym (same j);
      done = λ j. journal_push j es e ∙ append-nil (journal_along es j) ∙ come.done j ∙ ap (λ n. steps_of (up_to n (journal_at journals j))) (sym (same j));
    }

look_on : (policy : Policy) (table : Table) (journals : List (List Entry)) (places : ℕ → ℕ) (passes : List PassEntry) (looks : List Seen) (es : List Event) (k : ℕ) (seen : Seen) (sent : List Command) →
    HasCome policy table journals places passes looks es → k < threads_of_table table → length looks ≡ k → IsSound sent passes k (journal_at journals k) → FitsLook journals passes (places k) k seen →
    HasCome policy table journals (with_look places k seen) passes (looks ++ seen ∷ []) (es ++ look_events k (journal_at journals k) (places k) seen)
look_on policy table journals places passes looks es k (Whole number rec) sent come low turn sound fits = read_on policy table journals places passes looks es k number rec sent come low turn sound fits
look_on policy table journals places passes looks es k (Busy first second) sent come low turn sound fits =
    skip_on policy table journals places (with_look places k (Busy first second)) passes looks es k (Busy first second) come low turn tt (λ j. same_either (eqb k j) (places j))
look_on policy table journals places passes looks es k (Ahead number rec) sent come low turn sound fits =
    skip_on policy table journals places (with_look places k (Ahead number rec)) passes looks es k (Ahead number rec) come low turn tt (λ j. same_either (eqb k j) (places j))
look_on policy table journals places passes looks es k (Foreign number rec) sent come low turn sound fits =
    skip_on policy table journals places (with_look places k (Foreign number rec)) passes looks es k (Foreign number rec) come low turn tt (λ j. same_either (eqb k j) (places j))

-- the looks of a pass, from thread k on, each fit where it stands
abbrev pub AllFit : List (List Entry) → List PassEntry → (ℕ → ℕ) → ℕ → List Seen → Type 0
AllFit journals passes places k [] = Unit {0}
AllFit journals passes places k (seen ∷ rest) = FitsLook journals passes (places k) k seen × AllFit journals passes (with_look places k seen) (k + 1) rest

pub looks_on : (policy : Policy) (table : Table) (journals : List (List Entry)) (from places : ℕ → ℕ) (passes : List PassEntry) (looks : List Seen) (es : List Event) (k : ℕ) (rest : List Seen) (sent : ℕ → List Command) →
    HasCome policy table journals places passes looks es → k + length rest ≡ threads_of_table table → length looks ≡ k → ((j : ℕ) → IsSound (sent j) passes j (journal_at journals j)) →
    ((j : ℕ) → k ≤ j → places j ≡ from j) → AllFit journals passes places k rest → HasCome policy table journals (with_looks places k rest) passes (looks ++ rest) (es ++ looks_from journals from k rest)
looks_on policy table journals from places passes looks es k [] sent come count turn sound same fits =
    let P : List Event → Type 0 = λ new. HasCome policy table journals places passes (looks ++ []) new in
    let Q : List Seen → Type 0 = λ l. HasCome policy table journals places passes l es in
    subst P (sym (append-nil es)) (subst Q (sym (append-nil looks)) come)
looks_on policy table journals from places passes looks es k (seen ∷ rest) sent come count turn sound same fits =
    let part : List Event = look_events k (journal_at journals k) (from k) seen in
    let H : ℕ → Type 0 = λ n. HasCome policy table journals (with_look places k seen) passes (looks ++ seen ∷ []) (es ++ look_events k (journal_at journals k) n seen) in
    let next = subst H (same k (omega arith)) (look_on policy table journals places passes looks es k seen (sent k) come (omega (arith, count)) turn (sound k) fits.0) in
    let still : (j : ℕ) → k + 1 ≤ j → with_look places k seen j ≡ from j = λ j le. let other : eqb k j ≡ false = grind (arith, nat_tests) in look_leaves places k seen j other ∙ same j (omega (arith, le)) in
    let longer : length (looks ++ seen ∷ []) ≡ k + 1 = (let e = length-append looks (seen ∷ []) in omega (arith, e, turn)) in
    let all = looks_on policy table journals from (with_look places k seen) passes (looks ++ seen ∷ []) (es ++ part) (k + 1) rest sent next (omega (arith, count)) longer sound still fits.1 in
    let P : List Event → Type 0 = λ new. HasCome policy table journals (with_looks places k (seen ∷ rest)) passes (looks ++ seen ∷ rest) new in
    let Q : List Seen → Type 0 = λ l. HasCome policy table journals (with_looks places k (seen ∷ rest)) passes l ((es ++ part) ++ looks_from journals from (k + 1) rest) in
    subst P (append_assoc es part (looks_from journals from (k + 1) rest)) (subst Q (append_assoc looks (seen ∷ []) rest) all)
