-- A list that is legal as it is told in LegalAlong.antt is legal as cal_world tells it, with the
-- same projections.
use Rattle.cal_linear.proofs.Common.{◌≡◌, ℕ, ◌+◌, ◌<◌, ◌≤◌, zero, suc, Bool, true, false, eqb, cond, List, [], ◌∷◌, ◌++◌, length, get_or, take, Option, Some, None, refl, sym, ap, subst, ◌∙◌, append_assoc, append-nil, arith, length-append, option_to_list, option_map, IsSome, slice_get, filter_map, count_by, cons_option, unwrap_or, option_and_then, eqb-true, slice_get-get_or, get_or_append_left, filter_map-append, Table, Policy, Command, Record, zero_record, last_from, page_of, Seen, Whole, PassEntry, last_of, actions_of, commands_to, last_of_push, each_of_push, unwrap_or_or, Entry, Took, Yielded, Published, State, changed_by, state_after, record_in, records_of, filter_map-push, state_after-push, Event, Take, Yield, Publish, Read, Skip, Decide, Watch, history_in, is_take_by, is_publish_by, takes_in, publishes_in, next_command, took, entries_for, journal_in, watch_in, watches_in, threads_of_table, HasCommand, PassesBy, IsAllowedBy, IsLegalListBy}
use Rattle.std.proofs.lemmas.List.Sums.{sum_by-append}
use Rattle.cal_machine.specs.declared.command.Command.TheVariants.{Park}
use Rattle.cal_linear.proofs.Along.{adds_to, took_next, journal_along, published_along, place_of_read, floor_along, place_at, watch_floor_along, looks_with, looks_along}
use Rattle.cal_linear.proofs.LegalAlong.{IsAllowedAlong, AllowedAfter, IsLegalAlong, MayBePublished}
use Rattle.cal_world.specs.declared.illegal.Illegal.{Illegal}
use Rattle.cal_world.specs.declared.illegal.Illegal.TheVariants.{NoThread, NothingSent, NotOn, NotItsState, NoSuchPlace, OutOfTurn, NotThePass}
use Rattle.cal_world.specs.Threads.{page_in, place_read, place_watched, read_floor, watch_floor}
use Rattle.cal_world.specs.Looks.{decided_at, since_decide, record_at, look_made, looks_since}
use Rattle.cal_linear.proofs.Lists.{last_from_push}
use Rattle.cal_linear.proofs.OneMore.{journal_push, looks_push, floor_push, watches_push}
use Rattle.cal_world.proofs.ScheduleLemmas.SinceDecide.{since_more, since_none}

-- a Read of a place that is published
abbrev pub IsOnPage : List Event → Event → Type 0
IsOnPage events (Read thread number) = number < length (page_in events thread)
IsOnPage events _ = Unit {0}

abbrev pub AreOnPage : List Event → List Event → Type 0
AreOnPage events [] = Unit {0}
AreOnPage events (event ∷ more) = IsOnPage events event × AreOnPage events more

-- both tell the same of a list
pub record TellAlike (es : List Event) : Type 0 where
  pub journals : (k : ℕ) → journal_in es k ≡ journal_along es k
  pub takes : (k : ℕ) → takes_in es k ≡ (state_after (journal_along es k)).taken
  pub publishes : (k : ℕ) → publishes_in es k ≡ length (published_along es k)
  pub floors : (k : ℕ) → read_floor es k ≡ floor_along es k
  pub watch_floors : (k : ℕ) → watch_floor es k ≡ watch_floor_along es k
  pub looks : looks_since es ≡ looks_along es
  pub on_page : AreOnPage es (since_decide es)

-- what is added to a journal
took_same : (n : ℕ) (o : Option Command) → took n o ≡ option_to_list (option_map (Took n) o)
took_same n None = refl
took_same n (Some c) = refl

adds_same : (es : List Event) (k : ℕ) (e : Event) → TellAlike es → entries_for k es e ≡ adds_to k (journal_along es k) (history_in es) e
adds_same es k (Take thread) was =
    ap (λ l. cond (eqb thread k) l [])
    (took_same (takes_in es k + 1) (next_command es k)
    ∙ ap (λ n. option_to_list (option_map (Took (n + 1)) (slice_get (commands_to (actions_of (history_in es)) k) n))) (was.takes k))
adds_same es k (Yield thread) was = refl
adds_same es k (Publish thread rec) was = ap (λ n. cond (eqb thread k) (Published (n + 1) rec ∷ []) []) (was.publishes k)
adds_same es k (Read thread number) was = refl
adds_same es k (Skip thread seen) was = refl
adds_same es k (Decide entry) was = refl
adds_same es k (Watch thread number) was = refl

journals_more : (es : List Event) (e : Event) (k : ℕ) → TellAlike es → journal_in (es ++ e ∷ []) k ≡ journal_along (es ++ e ∷ []) k
journals_more es e k was = each_of_push (entries_for k) es e ∙ ap (λ l. l ++ entries_for k es e) (was.journals k) ∙ ap (λ l. journal_along es k ++ l) (adds_same es k e was) ∙ sym (journal_push k es e)

-- the counts of Takes and Publishes
count_more : (p : Event → Bool) (es : List Event) (e : Event) → count_by p (es ++ e ∷ []) ≡ count_by p es + cond (p e) 1 0
count_more p es e = let n = sum_by-append (λ x. cond (p x) 1 0) es (e ∷ []) in omega arith

-- an entry that may be added leaves the number taken, or is one more
same_taken : (own : List Entry) (x : Entry) (b : Bool) → (state_after (own ++ x ∷ [])).taken ≡ (state_after own).taken → (state_after (own ++ cond b (x ∷ []) [])).taken ≡ (state_after own).taken
same_taken own x false e = ap (λ l. (state_after l).taken) (append-nil own)
same_taken own x true e = e

push_taken : (own : List Entry) (x : Entry) → (state_after (own ++ x ∷ [])).taken ≡ (changed_by x (state_after own)).taken
push_taken own x = ap (λ (s : State). s.taken) (state_after-push own x)

-- a command that was sent and is not taken
next_there : (commands : List Command) (n : ℕ) → n < length commands → took_next n commands ≡ Took (n + 1) (get_or commands n Park) ∷ []
next_there commands n lt = ap (λ (o : Option Command). option_to_list (option_map (Took (n + 1)) o)) (slice_get-get_or commands n Park lt)

take_adds : (own : List Entry) (commands : List Command) (b : Bool) → (b ≡ true → (state_after own).taken < length commands) →
    (state_after (own ++ cond b (took_next (state_after own).taken commands) [])).taken ≡ (state_after own).taken + cond b 1 0
take_adds own commands false lt = let same = ap (λ l. (state_after l).taken) (append-nil own) in omega (arith, same)
take_adds own commands true lt =
    let n : ℕ = (state_after own).taken in
    let same = ap (λ l. (state_after (own ++ l)).taken) (next_there commands n (lt refl)) in
    let one = push_taken own (Took (n + 1) (get_or commands n Park)) in
    omega (arith, same, one)

adds_taken : (policy : Policy) (table : Table) (es : List Event) (k : ℕ) (e : Event) → IsAllowedAlong policy table es e →
    (state_after (journal_along es k ++ adds_to k (journal_along es k) (history_in es) e)).taken ≡ (state_after (journal_along es k)).taken + cond (is_take_by k e) 1 0
adds_taken policy table es k (Take thread) may =
    take_adds (journal_along es k) (commands_to (actions_of (history_in es)) k) (eqb thread k)
    (λ is. let P : ℕ → Type 0 = λ i. (state_after (journal_along es i)).taken < length (commands_to (actions_of (history_in es)) i) in subst P (eqb-true thread k is) may.1)
adds_taken policy table es k (Yield thread) may = let same = same_taken (journal_along es k) Yielded (eqb thread k) (push_taken (journal_along es k) Yielded) in omega (arith, same)
adds_taken policy table es k (Publish thread rec) may =
    let x : Entry = Published (length (published_along es k) + 1) rec in
    let same = same_taken (journal_along es k) x (eqb thread k) (push_taken (journal_along es k) x) in omega (arith, same)
adds_taken policy table es k (Read thread number) may = let same = ap (λ l. (state_after l).taken) (append-nil (journal_along es k)) in omega (arith, same)
adds_taken policy table es k (Skip thread seen) may = let same = ap (λ l. (state_after l).taken) (append-nil (journal_along es k)) in omega (arith, same)
adds_taken policy table es k (Decide entry) may = let same = ap (λ l. (state_after l).taken) (append-nil (journal_along es k)) in omega (arith, same)
adds_taken policy table es k (Watch thread number) may = let same = ap (λ l. (state_after l).taken) (append-nil (journal_along es k)) in omega (arith, same)

takes_more : (policy : Policy) (table : Table) (es : List Event) (e : Event) (k : ℕ) → TellAlike es → IsAllowedAlong policy table es e → takes_in (es ++ e ∷ []) k ≡ (state_after (journal_along (es ++ e ∷ []) k)).taken
takes_more policy table es e k was may =
    let count = count_more (is_take_by k) es e in
    let added = adds_taken policy table es k e may in
    let new = ap (λ l. (state_after l).taken) (journal_push k es e) in
    let old = was.takes k in
    omega (arith, count, added, new, old)

-- the records among what is added
none_taken : (b : Bool) (n : ℕ) (o : Option Command) → length (records_of (cond b (option_to_list (option_map (Took n) o)) [])) ≡ 0
none_taken false n o = refl
none_taken true n None = refl
none_taken true n (Some c) = refl

none_yielded : (b : Bool) → length (records_of (cond b (Yielded ∷ []) [])) ≡ 0
none_yielded false = refl
none_yielded true = refl

one_published : (b : Bool) (n : ℕ) (rec : Record) → length (records_of (cond b (Published n rec ∷ []) [])) ≡ cond b 1 0
one_published false n rec = refl
one_published true n rec = refl

adds_records : (k : ℕ) (own : List Entry) (history : List PassEntry) (e : Event) → length (records_of (adds_to k own history e)) ≡ cond (is_publish_by k e) 1 0
adds_records k own history (Take thread) = let n : ℕ = (state_after own).taken in none_taken (eqb thread k) (n + 1) (slice_get (commands_to (actions_of history) k) n)
adds_records k own history (Yield thread) = none_yielded (eqb thread k)
adds_records k own history (Publish thread rec) = one_published (eqb thread k) (length (records_of own) + 1) rec
adds_records k own history (Read thread number) = refl
adds_records k own history (Skip thread seen) = refl
adds_records k own history (Decide entry) = refl
adds_records k own history (Watch thread number) = refl

published_more : (es : List Event) (e : Event) (k : ℕ) → published_along (es ++ e ∷ []) k ≡ published_along es k ++ records_of (adds_to k (journal_along es k) (history_in es) e)
published_more es e k = ap records_of (journal_push k es e) ∙ filter_map-append record_in (journal_along es k) (adds_to k (journal_along es k) (history_in es) e)

publishes_more : (es : List Event) (e : Event) (k : ℕ) → TellAlike es → publishes_in (es ++ e ∷ []) k ≡ length (published_along (es ++ e ∷ []) k)
publishes_more es e k was =
    let count = count_more (is_publish_by k) es e in
    let added : List Record = records_of (adds_to k (journal_along es k) (history_in es) e) in
    let one = adds_records k (journal_along es k) (history_in es) e in
    let new = ap (λ (l : List Record). length l) (published_more es e k) ∙ length-append (published_along es k) added in
    let old = was.publishes k in
    omega (arith, count, one, new, old)

-- the floors
last_more : (xs : List ℕ) (o : Option ℕ) → last_from 0 (xs ++ option_to_list o) ≡ unwrap_or o (last_from 0 xs)
last_more xs None = ap (last_from 0) (append-nil xs)
last_more xs (Some n) = last_from_push 0 xs n

same_read : (k : ℕ) (es : List Event) (e : Event) → place_read k es e ≡ place_of_read k e
same_read k es (Take thread) = refl
same_read k es (Yield thread) = refl
same_read k es (Publish thread rec) = refl
same_read k es (Read thread number) = refl
same_read k es (Skip thread seen) = refl
same_read k es (Decide entry) = refl
same_read k es (Watch thread number) = refl

floors_more : (es : List Event) (e : Event) (k : ℕ) → TellAlike es → read_floor (es ++ e ∷ []) k ≡ floor_along (es ++ e ∷ []) k
floors_more es e k was =
    ap (λ o. unwrap_or o 0) (last_of_push (place_read k) es e) ∙ unwrap_or_or (place_read k es e) (last_of (place_read k) es) 0
    ∙ ap (unwrap_or (place_read k es e)) (was.floors k) ∙ ap (λ o. unwrap_or o (floor_along es k)) (same_read k es e)
    ∙ sym (floor_push k es e ∙ last_more (filter_map (place_of_read k) es) (place_of_read k e))

same_watched : (k : ℕ) (es : List Event) (e : Event) → place_watched k es e ≡ option_and_then (place_at k) (watch_in e)
same_watched k es (Take thread) = refl
same_watched k es (Yield thread) = refl
same_watched k es (Publish thread rec) = refl
same_watched k es (Read thread number) = refl
same_watched k es (Skip thread seen) = refl
same_watched k es (Decide entry) = refl
same_watched k es (Watch thread number) = refl

watched_more : (k : ℕ) (ws : List (ℕ × ℕ)) (o : Option (ℕ × ℕ)) → last_from 0 (filter_map (place_at k) (ws ++ option_to_list o)) ≡ unwrap_or (option_and_then (place_at k) o) (last_from 0 (filter_map (place_at k) ws))
watched_more k ws None = ap (λ (l : List (ℕ × ℕ)). last_from 0 (filter_map (place_at k) l)) (append-nil ws)
watched_more k ws (Some w) = ap (last_from 0) (filter_map-push (place_at k) ws w) ∙ last_more (filter_map (place_at k) ws) (place_at k w)

watch_floors_more : (es : List Event) (e : Event) (k : ℕ) → TellAlike es → watch_floor (es ++ e ∷ []) k ≡ watch_floor_along (es ++ e ∷ []) k
watch_floors_more es e k was =
    ap (λ o. unwrap_or o 0) (last_of_push (place_watched k) es e) ∙ unwrap_or_or (place_watched k es e) (last_of (place_watched k) es) 0
    ∙ ap (unwrap_or (place_watched k es e)) (was.watch_floors k) ∙ ap (λ o. unwrap_or o (watch_floor_along es k)) (same_watched k es e)
    ∙ sym (ap (λ (l : List (ℕ × ℕ)). last_from 0 (filter_map (place_at k) l)) (watches_push es e) ∙ watched_more k (watches_in es) (watch_in e))

-- pages only grow
page_more : (es : List Event) (e : Event) (k : ℕ) → TellAlike es → page_in (es ++ e ∷ []) k ≡ page_in es k ++ records_of (adds_to k (journal_along es k) (history_in es) e)
page_more es e k was = ap (λ j. page_of (records_of j)) (journals_more es e k was) ∙ ap page_of (published_more es e k)
    ∙ ap (λ j. page_of (records_of j) ++ records_of (adds_to k (journal_along es k) (history_in es) e)) (sym (was.journals k))

record_stays : (es : List Event) (e : Event) (k n : ℕ) → TellAlike es → n < length (page_in es k) → record_at (es ++ e ∷ []) k n ≡ record_at es k n
record_stays es e k n was lt =
    let added : List Record = records_of (adds_to k (journal_along es k) (history_in es) e) in
    ap (λ (l : List Record). get_or l n zero_record) (page_more es e k was) ∙ get_or_append_left (page_in es k) added zero_record n lt

place_stays : (es : List Event) (e : Event) (k n : ℕ) → TellAlike es → n < length (page_in es k) → n < length (page_in (es ++ e ∷ []) k)
place_stays es e k n was lt =
    let added : List Record = records_of (adds_to k (journal_along es k) (history_in es) e) in
    let size = ap (λ (l : List Record). length l) (page_more es e k was) ∙ length-append (page_in es k) added in
    omega (arith, size, lt)

-- so what was looked at stays as it was
look_stays : (es : List Event) (e : Event) (x : Event) → TellAlike es → IsOnPage es x → look_made (es ++ e ∷ []) x ≡ look_made es x
look_stays es e (Take thread) was on = refl
look_stays es e (Yield thread) was on = refl
look_stays es e (Publish thread rec) was on = refl
look_stays es e (Read thread number) was on = ap (λ rec. Some (Whole number rec)) (record_stays es e thread number was on)
look_stays es e (Skip thread seen) was on = refl
look_stays es e (Decide entry) was on = refl
look_stays es e (Watch thread number) was on = refl

looks_stay : (es : List Event) (e : Event) (xs : List Event) → TellAlike es → AreOnPage es xs → filter_map (look_made (es ++ e ∷ [])) xs ≡ filter_map (look_made es) xs
looks_stay es e [] was on = refl
looks_stay es e (x ∷ xs) was on = ap (λ o. cons_option o (filter_map (look_made (es ++ e ∷ [])) xs)) (look_stays es e x was on.0) ∙ ap (cons_option (look_made es x)) (looks_stay es e xs was on.1)

on_page_stays : (es : List Event) (e : Event) (x : Event) → TellAlike es → IsOnPage es x → IsOnPage (es ++ e ∷ []) x
on_page_stays es e (Take thread) was on = tt
on_page_stays es e (Yield thread) was on = tt
on_page_stays es e (Publish thread rec) was on = tt
on_page_stays es e (Read thread number) was on = place_stays es e thread number was on
on_page_stays es e (Skip thread seen) was on = tt
on_page_stays es e (Decide entry) was on = tt
on_page_stays es e (Watch thread number) was on = tt

are_on_page : (es : List Event) (e : Event) (xs : List Event) → TellAlike es → AreOnPage es xs → IsOnPage (es ++ e ∷ []) e → AreOnPage (es ++ e ∷ []) (xs ++ e ∷ [])
are_on_page es e [] was on here = (here, tt)
are_on_page es e (x ∷ xs) was on here = (on_page_stays es e x was on.0, are_on_page es e xs was on.1 here)

-- the looks since the last Decide, where the event is none
looks_go_on : (es : List Event) (e : Event) (added : List Seen) → TellAlike es → decided_at es e ≡ None → option_to_list (look_made (es ++ e ∷ []) e) ≡ added → looks_with (looks_along es) es e ≡ looks_along es ++ added →
    looks_since (es ++ e ∷ []) ≡ looks_along (es ++ e ∷ [])
looks_go_on es e added was none made with_added =
    ap (filter_map (look_made (es ++ e ∷ []))) (since_more es e none) ∙ filter_map-push (look_made (es ++ e ∷ [])) (since_decide es) e
    ∙ ap (λ l. l ++ option_to_list (look_made (es ++ e ∷ []) e)) (looks_stay es e (since_decide es) was was.on_page ∙ was.looks) ∙ ap (λ l. looks_along es ++ l) made
    ∙ sym (looks_push es e ∙ with_added)

read_adds : (es : List Event) (thread number : ℕ) → TellAlike es → number ≤ length (published_along es thread) →
    looks_with (looks_along es) es (Read thread number) ≡ looks_along es ++ Whole number (record_at (es ++ Read thread number ∷ []) thread number) ∷ []
read_adds es thread number was within =
    let page : List Record = page_of (published_along es thread) in
    let same : page_in es thread ≡ page = ap (λ j. page_of (records_of j)) (was.journals thread) in
    let size = ap (λ (l : List Record). length l) same in
    let lt : number < length (page_in es thread) = omega (arith, size, within) in
    let rec : record_at (es ++ Read thread number ∷ []) thread number ≡ get_or page number zero_record = record_stays es (Read thread number) thread number was lt ∙ ap (λ (l : List Record). get_or l number zero_record) same in
    ap (λ (o : Option Record). looks_along es ++ option_to_list (option_map (Whole number) o)) (slice_get-get_or page number zero_record (omega (arith, within)) ∙ ap Some (sym rec))

looks_more : (policy : Policy) (table : Table) (es : List Event) (e : Event) → TellAlike es → IsAllowedAlong policy table es e → looks_since (es ++ e ∷ []) ≡ looks_along (es ++ e ∷ [])
looks_more policy table es (Take thread) was may = looks_go_on es (Take thread) [] was refl refl (sym (append-nil (looks_along es)))
looks_more policy table es (Yield thread) was may = looks_go_on es (Yield thread) [] was refl refl (sym (append-nil (looks_along es)))
looks_more policy table es (Publish thread rec) was may = looks_go_on es (Publish thread rec) [] was refl refl (sym (append-nil (looks_along es)))
looks_more policy table es (Read thread number) was may = looks_go_on es (Read thread number) _ was refl refl (read_adds es thread number was may.2)
looks_more policy table es (Skip thread seen) was may = looks_go_on es (Skip thread seen) (seen ∷ []) was refl refl refl
looks_more policy table es (Decide entry) was may = ap (filter_map (look_made (es ++ Decide entry ∷ []))) (since_none es entry) ∙ sym (looks_push es (Decide entry))
looks_more policy table es (Watch thread number) was may = looks_go_on es (Watch thread number) [] was refl refl (sym (append-nil (looks_along es)))

page_goes_on : (es : List Event) (e : Event) → TellAlike es → decided_at es e ≡ None → IsOnPage (es ++ e ∷ []) e → AreOnPage (es ++ e ∷ []) (since_decide (es ++ e ∷ []))
page_goes_on es e was none here = let P : List Event → Type 0 = λ l. AreOnPage (es ++ e ∷ []) l in subst P (sym (since_more es e none)) (are_on_page es e (since_decide es) was was.on_page here)

on_page_more : (policy : Policy) (table : Table) (es : List Event) (e : Event) → TellAlike es → IsAllowedAlong policy table es e → AreOnPage (es ++ e ∷ []) (since_decide (es ++ e ∷ []))
on_page_more policy table es (Take thread) was may = page_goes_on es (Take thread) was refl tt
on_page_more policy table es (Yield thread) was may = page_goes_on es (Yield thread) was refl tt
on_page_more policy table es (Publish thread rec) was may = page_goes_on es (Publish thread rec) was refl tt
on_page_more policy table es (Read thread number) was may =
    let size = ap (λ j. length (page_of (records_of j))) (was.journals thread) in
    let within = may.2 in
    page_goes_on es (Read thread number) was refl (place_stays es (Read thread number) thread number was (omega (arith, size, within)))
on_page_more policy table es (Skip thread seen) was may = page_goes_on es (Skip thread seen) was refl tt
on_page_more policy table es (Decide entry) was may = let P : List Event → Type 0 = λ l. AreOnPage (es ++ Decide entry ∷ []) l in subst P (sym (since_none es entry)) tt
on_page_more policy table es (Watch thread number) was may = page_goes_on es (Watch thread number) was refl tt

agrees_first : TellAlike []
agrees_first = record { journals = λ k. refl; takes = λ k. refl; publishes = λ k. refl; floors = λ k. refl; watch_floors = λ k. refl; looks = refl; on_page = tt }

agrees_more : (policy : Policy) (table : Table) (es : List Event) (e : Event) → TellAlike es → IsAllowedAlong policy table es e → TellAlike (es ++ e ∷ [])
agrees_more policy table es e was may = record {
  journals = λ k. journals_more es e k was;
  takes = λ k. takes_more policy table es e k was may;
  publishes = λ k. publishes_more es e k was;
  floors = λ k. floors_more es e k was;
  watch_floors = λ k. watch_floors_more es e k was;
  looks = looks_more policy table es e was may;
  on_page = on_page_more policy table es e was may;
}

-- what is allowed along the list is allowed as cal_world tells it
sent_there : (es : List Event) (k : ℕ) → TellAlike es → (state_after (journal_along es k)).taken < length (commands_to (actions_of (history_in es)) k) → HasCommand es (Take k)
sent_there es k was lt =
    let J : List Entry → Type 0 = λ j. (state_after j).taken < length (commands_to (actions_of (history_in es)) k) in
    subst J (sym (was.journals k)) lt

place_there : (es : List Event) (k number floor there : ℕ) → TellAlike es → there ≡ floor → floor ≤ number → number ≤ length (published_along es k) → (there ≤ number) × (number < length (page_in es k))
place_there es k number floor there was same above within = let size = ap (λ j. length (page_of (records_of j))) (was.journals k) in (omega (arith, same, above), omega (arith, size, within))

turn_there : (es : List Event) (k : ℕ) → TellAlike es → length (looks_along es) ≡ k → k ≡ length (looks_since es)
turn_there es k was e = sym e ∙ ap (λ (l : List Seen). length l) (sym was.looks)

allowed_there : (policy : Policy) (table : Table) (es : List Event) (e : Event) → TellAlike es → IsAllowedAlong policy table es e → (why : Illegal) → PassesBy policy why table es e
allowed_there policy table es (Take k) was may NoThread = may.0
allowed_there policy table es (Take k) was may NothingSent = sent_there es k was may.1
allowed_there policy table es (Take k) was may _ = tt
allowed_there policy table es (Yield k) was may NoThread = may.0
allowed_there policy table es (Yield k) was may NotOn = let P : List Entry → Type 0 = λ j. IsSome (state_after j).core in subst P (sym (was.journals k)) may.1
allowed_there policy table es (Yield k) was may _ = tt
allowed_there policy table es (Publish k rec) was may NoThread = may.0
allowed_there policy table es (Publish k rec) was may NotItsState =
    let P : List Entry → Type 0 = λ j. MayBePublished (state_after j) (records_of j) rec in
    let shows = subst P (sym (was.journals k)) may.1 in
    record { taken = shows.0; running = shows.1; follows = shows.2 }
allowed_there policy table es (Publish k rec) was may _ = tt
allowed_there policy table es (Read k number) was may NoThread = may.0
allowed_there policy table es (Read k number) was may NoSuchPlace = place_there es k number (floor_along es k) (read_floor es k) was (was.floors k) may.1 may.2
allowed_there policy table es (Read k number) was may OutOfTurn = turn_there es k was may.3
allowed_there policy table es (Read k number) was may _ = tt
allowed_there policy table es (Skip k seen) was may NoThread = may.0
allowed_there policy table es (Skip k seen) was may OutOfTurn = (turn_there es k was may.1, may.2)
allowed_there policy table es (Skip k seen) was may _ = tt
allowed_there policy table es (Decide entry) was may OutOfTurn = turn_there es (threads_of_table table) was may.0
allowed_there policy table es (Decide entry) was may NotThePass =
    (sym may.1 ∙ sym was.looks, may.2)
allowed_there policy table es (Decide entry) was may _ = tt
allowed_there policy table es (Watch k number) was may NoThread = may.0
allowed_there policy table es (Watch k number) was may NoSuchPlace = place_there es k number (watch_floor_along es k) (watch_floor es k) was (was.watch_floors k) may.1 may.2
allowed_there policy table es (Watch k number) was may _ = tt

-- each event of a legal list, and that both tell the same of the whole
each_there : (policy : Policy) (table : Table) (before es : List Event) → AllowedAfter policy table before es → TellAlike before → (i : ℕ) (e : Event) → slice_get es i ≡ Some e → IsAllowedBy policy table (before ++ take i es) e
each_there policy table before [] legal was i e at = absurd (cc)
each_there policy table before (x ∷ es) legal was zero e at =
    let same : x ≡ e = cc in
    let P : Event → Type 0 = λ y. IsAllowedBy policy table (before ++ []) y in
    let Q : List Event → Type 0 = λ b. IsAllowedBy policy table b x in
    subst P same (subst Q (sym (append-nil before)) (allowed_there policy table before x was legal.0))
each_there policy table before (x ∷ es) legal was (suc i) e at =
    let Q : List Event → Type 0 = λ b. IsAllowedBy policy table b e in
    subst Q (append_assoc before (x ∷ []) (take i es)) (each_there policy table (before ++ x ∷ []) es legal.1 (agrees_more policy table before x was legal.0) i e at)

agrees_all : (policy : Policy) (table : Table) (before es : List Event) → AllowedAfter policy table before es → TellAlike before → TellAlike (before ++ es)
agrees_all policy table before [] legal was = let P : List Event → Type 0 = λ b. TellAlike b in subst P (sym (append-nil before)) was
agrees_all policy table before (x ∷ es) legal was =
    let P : List Event → Type 0 = λ b. TellAlike b in
    subst P (append_assoc before (x ∷ []) es) (agrees_all policy table (before ++ x ∷ []) es legal.1 (agrees_more policy table before x was legal.0))

pub legal_there : (policy : Policy) (table : Table) (es : List Event) → IsLegalAlong policy table es → IsLegalListBy policy table es
legal_there policy table es legal = record { each = each_there policy table [] es legal agrees_first }

pub agrees : (policy : Policy) (table : Table) (es : List Event) → IsLegalAlong policy table es → TellAlike es
agrees policy table es legal = agrees_all policy table [] es legal agrees_first
