-- Pages and looks, one event more.
use Rattle.cal_world.proofs.Common.{◌≡◌, ℕ, ◌+◌, ◌-◌, ◌<◌, zero, suc, Bool, true, false, cond, eqb, List, [], ◌∷◌, ◌++◌, length, get_or, set, Option, Some, None, refl, sym, ap, ◌∙◌, arith, subst, ⊎_elim, slice_get, filter_map, take-length, append-nil, cases_eq, nat_tests, slice_get_read, Table, Record, zero_record, page_of, last_from, last_published, Seen, Whole, Busy, Ahead, Foreign, ActionIsOneMore, LookIsOneMore, PermittedIsSafe, Published, records_of, Event, Take, Yield, Publish, Read, Skip, Decide, Watch, entries_for, publishes_in, page_in, published_by, decided_at, look_made, looks_since, since_decide, record_at, IsSafeEvent, looks_with, LooksGoOn, PagesAreOf}
use Rattle.cal_world.specs.Policies.{LegalListsAreSafeBy}
use Rattle.cal_world.proofs.ListLemmas.OneMore.{slice_get_set_same, slice_get_set_other, same_lists, each_last}
use Rattle.cal_world.proofs.ScheduleLemmas.Pasts.{list_more}
use Rattle.cal_world.proofs.ScheduleLemmas.SinceDecide.{looks_same, looks_more, looks_length, since_none}
use Rattle.cal_world.proofs.ScheduleLemmas.Floors.{Grows, grows, published_more}
use Rattle.cal_world.proofs.ScheduleLemmas.Moves.{journal_same}
use Rattle.cal_world.proofs.ScheduleLemmas.Invariant.{Holds, holds}

-- the last place of a page
last_there : (x : Record) (rs : List Record) (d : Record) → get_or (x ∷ rs) (length rs) d ≡ last_from x rs
last_there x [] d = refl
last_there x (r ∷ rs) d = last_there r rs d

pub last_place : (page published : List Record) (rec : Record) (n : ℕ) → page ≡ page_of published → n ≡ length page → rec ≡ get_or page (n - 1) rec → rec ≡ last_published published
last_place page published rec n is size at =
    let place : n - 1 ≡ length published = (let size2 = ap length is in omega arith) in
    at ∙ ap (λ m. get_or page m rec) place ∙ ap (λ (p : List Record). get_or p (length published) rec) is ∙ last_there zero_record published rec

-- pages, one event more
pub page_same : (before : List Event) (event : Event) (k : ℕ) → entries_for k before event ≡ [] → page_in (before ++ event ∷ []) k ≡ page_in before k
page_same before event k none = ap (λ es. page_of (records_of es)) (journal_same before event k none)

pub page_more : (before : List Event) (k : ℕ) (rec : Record) → page_in (before ++ Publish k rec ∷ []) k ≡ page_in before k ++ rec ∷ []
page_more before k rec =
    let is : eqb k k ≡ true = grind (arith, nat_tests) in
    let one : records_of (entries_for k before (Publish k rec)) ≡ rec ∷ [] = ap (λ (b : Bool). records_of (cond b (Published (publishes_in before k + 1) rec ∷ []) [])) is in
    ap page_of (published_more before (Publish k rec) k ∙ ap (λ rs. published_by before k ++ rs) one)

page_other : (before : List Event) (thread k : ℕ) (rec : Record) → (thread ≡ k → ⊥) → page_in (before ++ Publish thread rec ∷ []) k ≡ page_in before k
page_other before thread k rec off =
    let no : eqb thread k ≡ false = grind (arith, nat_tests) in
    page_same before (Publish thread rec) k (ap (λ (b : Bool). cond b (Published (publishes_in before k + 1) rec ∷ []) []) no)

pub pages_set : (pages : List (List Record)) (k : ℕ) (old new : List Record) (rec : Record) (before : List Event) → k < length pages → old ≡ get_or pages k old → new ≡ old ++ rec ∷ [] →
    PagesAreOf pages before → PagesAreOf (set pages k new) (before ++ Publish k rec ∷ [])
pages_set pages k old new rec before low there more was j page at = ⊎_elim
    (λ (same : k ≡ j). here same)
    (λ (off : k ≡ j → ⊥). was j page (slice_get_set_other pages k j new page off at) ∙ sym (page_other before k j rec off))
    (cases_eq k j)
  where
    here : k ≡ j → page ≡ page_in (before ++ Publish k rec ∷ []) j
    here same =
        let P : ℕ → Type 0 = λ n. slice_get (set pages k new) n ≡ Some page in
        let found : new ≡ page = slice_get_set_same pages k new page low (subst P (sym same) at) in
        let is : old ≡ page_in before k = was k old (slice_get_read pages (length pages) k old refl low there) in
        let Q : ℕ → Type 0 = λ n. page ≡ page_in (before ++ Publish k rec ∷ []) n in
        subst Q same (sym found ∙ more ∙ ap (λ (p : List Record). p ++ rec ∷ []) is ∙ sym (page_more before k rec))

pub pages_kept_by : (pages : List (List Record)) (before : List Event) (event : Event) → ((k : ℕ) → records_of (entries_for k before event) ≡ []) → PagesAreOf pages before → PagesAreOf pages (before ++ event ∷ [])
pages_kept_by pages before event none was k page at =
    was k page at ∙ sym (ap page_of (published_more before event k ∙ ap (λ rs. published_by before k ++ rs) (none k) ∙ append-nil (published_by before k)))

-- two looks that one event made, by two pages: the same, or both whole, of one place
abbrev Alike : Option Seen → Option Seen → Type 0
Alike (Some (Whole m r)) (Some (Whole n q)) = m ≡ n
Alike a b = a ≡ b

all_alike : (a b : List Event) (es : List Event) (j : ℕ) → Alike (slice_get (filter_map (look_made a) es) j) (slice_get (filter_map (look_made b) es) j)
all_alike a b [] j = refl
all_alike a b (Read thread number ∷ es) zero = refl
all_alike a b (Read thread number ∷ es) (suc j) = all_alike a b es j
all_alike a b (Skip thread seen ∷ es) zero = self (Some seen)
  where
    self : (o : Option Seen) → Alike o o
    self None = refl
    self (Some (Whole n r)) = refl
    self (Some (Busy m n)) = refl
    self (Some (Ahead n r)) = refl
    self (Some (Foreign n r)) = refl
all_alike a b (Skip thread seen ∷ es) (suc j) = all_alike a b es j
all_alike a b (Take thread ∷ es) j = all_alike a b es j
all_alike a b (Yield thread ∷ es) j = all_alike a b es j
all_alike a b (Publish thread rec ∷ es) j = all_alike a b es j
all_alike a b (Decide entry ∷ es) j = all_alike a b es j
all_alike a b (Watch thread number ∷ es) j = all_alike a b es j

-- what was read stays as it was read
looks_stay : (table : Table) (before after : List Event) → Holds table before → ((k : ℕ) → Grows before after k) →
    filter_map (look_made after) (since_decide before) ≡ looks_since before
looks_stay table before after held grown = same_lists _ _ (looks_length after before (since_decide before)) (λ j low. one j _ _ (all_alike after before (since_decide before) j) refl refl)
  where
    one : (j : ℕ) (o p : Option Seen) → Alike o p → slice_get (filter_map (look_made after) (since_decide before)) j ≡ o → slice_get (looks_since before) j ≡ p →
        slice_get (filter_map (look_made after) (since_decide before)) j ≡ slice_get (looks_since before) j
    one j (Some (Whole m r)) (Some (Whole n q)) alike is_o is_p =
        let new = held.looks.at after j (Whole m r) is_o in
        let old = held.looks.at before j (Whole n q) is_p in
        let place : m ≡ n = alike in
        let within = held.floors j in
        let floor = old.0 in
        let rec : r ≡ q = new.1 ∙ ap (record_at after j) place ∙ (grown j).same n (omega arith) ∙ sym old.1 in
        is_o ∙ ap (λ i. Some (Whole i r)) place ∙ ap (λ (x : Record). Some (Whole n x)) rec ∙ sym is_p
    one j None p alike is_o is_p = is_o ∙ alike ∙ sym is_p
    one j (Some (Busy m n)) p alike is_o is_p = is_o ∙ alike ∙ sym is_p
    one j (Some (Ahead m r)) p alike is_o is_p = is_o ∙ alike ∙ sym is_p
    one j (Some (Foreign m r)) p alike is_o is_p = is_o ∙ alike ∙ sym is_p
    one j (Some (Whole m r)) None alike is_o is_p = is_o ∙ alike ∙ sym is_p
    one j (Some (Whole m r)) (Some (Busy k n)) alike is_o is_p = is_o ∙ alike ∙ sym is_p
    one j (Some (Whole m r)) (Some (Ahead k n)) alike is_o is_p = is_o ∙ alike ∙ sym is_p
    one j (Some (Whole m r)) (Some (Foreign k n)) alike is_o is_p = is_o ∙ alike ∙ sym is_p

looks_after_none : (table : Table) (before : List Event) (event : Event) → decided_at before event ≡ None → ((all : List Event) → look_made all event ≡ None) → Holds table before →
    ((k : ℕ) → Grows before (before ++ event ∷ []) k) → looks_since (before ++ event ∷ []) ≡ looks_since before
looks_after_none table before event e none held grown =
    looks_same before event e none (before ++ event ∷ []) ∙ looks_stay table before (before ++ event ∷ []) held grown

looks_after_read : (table : Table) (before : List Event) (thread number : ℕ) → IsSafeEvent table before (Read thread number) → Holds table before →
    looks_since (before ++ Read thread number ∷ []) ≡ looks_since before ++ Whole number (record_at before thread number) ∷ []
looks_after_read table before thread number safe held =
    let after : List Event = before ++ Read thread number ∷ [] in
    let grown : (k : ℕ) → Grows before after k = λ k. grows table before (Read thread number) safe k (held.floors k) in
    let rec : record_at after thread number ≡ record_at before thread number = ap (λ (page : List Record). get_or page number zero_record) (page_same before (Read thread number) thread refl) in
    looks_more before (Read thread number) refl after (Whole number (record_at after thread number)) refl
    ∙ ap (λ l. l ++ Whole number (record_at after thread number) ∷ []) (looks_stay table before after held grown)
    ∙ ap (λ (r : Record). looks_since before ++ Whole number r ∷ []) rec

looks_after_skip : (table : Table) (before : List Event) (thread : ℕ) (seen : Seen) → IsSafeEvent table before (Skip thread seen) → Holds table before →
    looks_since (before ++ Skip thread seen ∷ []) ≡ looks_since before ++ seen ∷ []
looks_after_skip table before thread seen safe held =
    let after : List Event = before ++ Skip thread seen ∷ [] in
    looks_more before (Skip thread seen) refl after seen refl
    ∙ ap (λ l. l ++ seen ∷ []) (looks_stay table before after held (λ k. grows table before (Skip thread seen) safe k (held.floors k)))

looks_go : (table : Table) (before : List Event) (event : Event) → IsSafeEvent table before event → Holds table before → looks_since (before ++ event ∷ []) ≡ looks_with (looks_since before) before event
looks_go table before (Take thread) safe held = looks_after_none table before (Take thread) refl (λ all. refl) held (λ k. grows table before (Take thread) safe k (held.floors k))
looks_go table before (Yield thread) safe held = looks_after_none table before (Yield thread) refl (λ all. refl) held (λ k. grows table before (Yield thread) safe k (held.floors k))
looks_go table before (Publish thread rec) safe held = looks_after_none table before (Publish thread rec) refl (λ all. refl) held (λ k. grows table before (Publish thread rec) safe k (held.floors k))
looks_go table before (Watch thread number) safe held = looks_after_none table before (Watch thread number) refl (λ all. refl) held (λ k. grows table before (Watch thread number) safe k (held.floors k))
looks_go table before (Read thread number) safe held = looks_after_read table before thread number safe held
looks_go table before (Skip thread seen) safe held = looks_after_skip table before thread seen safe held
looks_go table before (Decide entry) safe held = ap (filter_map (look_made (before ++ Decide entry ∷ []))) (since_none before entry)

pub looks_on : LegalListsAreSafeBy → PermittedIsSafe → ActionIsOneMore → LookIsOneMore → LooksGoOn
looks_on safe sound more one policy table before event ok list allowed =
    let all = safe policy table (before ++ event ∷ []) ok (list_more policy table before event list allowed) in
    let P : List Event → Type 0 = Holds table in
    let held : Holds table before = subst P (take-length before) (holds sound more one table before ok (safe policy table before ok list) (length before) (omega arith)) in
    looks_go table before event (each_last (IsSafeEvent table) before event all.each) held
