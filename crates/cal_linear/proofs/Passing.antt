-- One pass after another, and then the rest of each journal.
use Rattle.cal_linear.proofs.Common.{furthest, ◌≡◌, ℕ, ◌+◌, ◌-◌, ◌<◌, ◌≤◌, zero, suc, false, eqb, List, [], ◌∷◌, ◌++◌, length, take, Some, refl, sym, ap, subst, ◌∙◌, append_assoc, append-nil, arith, ⊎_elim, slice_get, filter_map, last_from, nat_tests, cases_lt, Table, Command, Seen, PassEntry, threads_of_table, each_after, actions_of, commands_to, sends, sent_to, Policy, Entry, Event, Decide, history_in, watches_in, up_to, past, steps_of, events_of, journal_at, rests_from, looks_from, pass_events, passes_and_rests, AreOfOneRunBy, slice_get_front, slice_get_seam, each_after_append}
use Rattle.std.proofs.lemmas.Grind.{flat_map-append}
use Rattle.std.proofs.Math.Seq.{take-append_seam}
use Rattle.cal_policy.specs.declared.history.action.Action.{Action}
use Rattle.cal_policy.specs.Judgement.Judging.{IsInput}
use Rattle.cal_policy.specs.Policies.{IsPassBy}
use Rattle.cal_linear.proofs.Along.{journal_along, place_of_read}
use Rattle.cal_linear.proofs.LegalAlong.{IsLegalAlong}
use Rattle.cal_linear.proofs.Places.{with_looks, furthest_next}
use Rattle.cal_linear.proofs.OneMore.{history_push, journal_push, looks_push, floor_push, watches_push, legal_push}
use Rattle.cal_linear.proofs.Cuts.{cut_whole}
use Rattle.cal_linear.proofs.Standing.{MayAllHappen, HasFirst, split, journal_may_happen}
use Rattle.cal_linear.proofs.Listing.{list_on}
use Rattle.cal_linear.proofs.Looking.{HasCome, IsSound, looks_on}
use Rattle.cal_linear.proofs.Fitting.{AreShown, pass_fits, shown_after}
use Rattle.cal_policy.proofs.PolicyLemmas.{pass_at_by, pass_input}

-- a pass, with its looks before it
decide_on : (policy : Policy) (table : Table) (journals : List (List Entry)) (places : ℕ → ℕ) (passes : List PassEntry) (entry : PassEntry) (es : List Event) →
    HasCome policy table journals places passes entry.input.seen es → IsPassBy policy table passes entry → HasCome policy table journals places (passes ++ entry ∷ []) [] (es ++ Decide entry ∷ [])
decide_on policy table journals places passes entry es come is =
    let e : Event = Decide entry in
    let P : List PassEntry → Type 0 = λ h. IsPassBy policy table h entry in
    record {
      legal = legal_push policy table es e come.legal (ap (λ (l : List Seen). length l) come.looked ∙ (pass_input policy table passes entry is).looks.looks, come.looked, subst P (sym come.decided) is);
      decided = history_push es e ∙ ap (λ h. h ++ entry ∷ []) come.decided;
      looked = looks_push es e;
      unwatched = watches_push es e ∙ append-nil (watches_in es) ∙ come.unwatched;
      floors = λ j. floor_push j es e ∙ ap (last_from 0) (append-nil (filter_map (place_of_read j) es)) ∙ come.floors j;
      done = λ j. journal_push j es e ∙ append-nil (journal_along es j) ∙ come.done j;
    }

pub sent_first : (passes more : List PassEntry) (k : ℕ) → HasFirst (commands_to (actions_of (passes ++ more)) k) (commands_to (actions_of passes) k) (sent_to (actions_of passes) k)
sent_first passes more k i lt =
    let x : List Action = actions_of passes in
    let both : actions_of (passes ++ more) ≡ x ++ actions_of more = flat_map-append (λ (entry : PassEntry). entry.actions) passes more in
    let whole : commands_to (actions_of (passes ++ more)) k ≡ commands_to x k ++ each_after (sends k) x (actions_of more) = ap (λ y. commands_to y k) both ∙ each_after_append (sends k) [] x (actions_of more) in
    sym (ap (λ l. slice_get l i) whole ∙ slice_get_front (commands_to x k) (each_after (sends k) x (actions_of more)) i lt)

-- all of the passes and the journals is listed
pub record HasAll (policy : Policy) (table : Table) (history : List PassEntry) (journals : List (List Entry)) (es : List Event) : Type 0 where
  pub legal : IsLegalAlong policy table es
  pub decided : history_in es ≡ history
  pub unwatched : watches_in es ≡ []
  pub done : (j : ℕ) → journal_along es j ≡ steps_of (journal_at journals j)

-- the rest of each journal, from thread k on
record HasRests (policy : Policy) (table : Table) (history : List PassEntry) (journals : List (List Entry)) (places : ℕ → ℕ) (k : ℕ) (es : List Event) : Type 0 where
  legal : IsLegalAlong policy table es
  decided : history_in es ≡ history
  unwatched : watches_in es ≡ []
  done : (j : ℕ) → j < k → journal_along es j ≡ steps_of (journal_at journals j)
  open_ones : (j : ℕ) → k ≤ j → journal_along es j ≡ steps_of (up_to (places j) (journal_at journals j))

upto_none : (n : ℕ) → up_to n [] ≡ []
upto_none zero = refl
upto_none (suc n) = refl

rests_on : (policy : Policy) (table : Table) (history : List PassEntry) (journals : List (List Entry)) (places : ℕ → ℕ) (k : ℕ) (rest : List (List Entry)) (es : List Event) →
    length journals ≡ threads_of_table table → k + length rest ≡ length journals → ((i j : ℕ) → j ≡ k + i → journal_at rest i ≡ journal_at journals j) →
    ((j : ℕ) → MayAllHappen (commands_to (actions_of history) j) [] (journal_at journals j)) → HasRests policy table history journals places k es → HasAll policy table history journals (es ++ rests_from places k rest)
rests_on policy table history journals places k [] es threads count same may has =
    let P : List Event → Type 0 = λ new. HasAll policy table history journals new in
    subst P (sym (append-nil es)) (record {
      legal = has.legal;
      decided = has.decided;
      unwatched = has.unwatched;
      done = λ j. ⊎_elim (λ lt. has.done j lt)
          (λ le. let none : [] ≡ journal_at journals j = same (j - k) j (omega (arith, le)) in
          has.open_ones j le ∙ ap (λ l. steps_of (up_to (places j) l)) (sym none) ∙ ap steps_of (upto_none (places j)) ∙ ap steps_of none)
          (cases_lt j k);
    })
rests_on policy table history journals places k (journal ∷ rest) es threads count same may has =
    let own : journal ≡ journal_at journals k = same 0 k (omega arith) in
    let front : List Entry = up_to (places k) journal in
    let back : List Entry = past (places k) journal in
    let sent : List Command = commands_to (actions_of history) k in
    let M : List Entry → Type 0 = λ l. MayAllHappen sent [] l in
    let H : List PassEntry → Type 0 = λ h. MayAllHappen (commands_to (actions_of h) k) front back in
    let after : MayAllHappen sent front back = (split sent [] front back (subst M (sym own ∙ sym (cut_whole (places k) journal)) (may k))).1 in
    let begun : journal_along es k ≡ steps_of front = has.open_ones k (omega arith) ∙ ap (λ l. steps_of (up_to (places k) l)) (sym own) in
    let mid : List Event = es ++ events_of k back in
    let on = list_on policy table k es front back (omega (arith, threads, count)) has.legal begun (subst H (sym has.decided) after) in
    let whole : journal_along mid k ≡ steps_of (journal_at journals k) = on.own_journal ∙ ap steps_of (cut_whole (places k) journal ∙ own) in
    let next : HasRests policy table history journals places (k + 1) mid = record {
      legal = on.legal;
      decided = on.history ∙ has.decided;
      unwatched = on.watched ∙ has.unwatched;
      done = λ j lt. ⊎_elim (λ less. let other : eqb k j ≡ false = grind (arith, nat_tests) in on.others j other ∙ has.done j less)
          (λ le. let P : ℕ → Type 0 = λ i. journal_along mid i ≡ steps_of (journal_at journals i) in let here : k ≡ j = omega (arith, lt, le) in subst P here whole)
          (cases_lt j k);
      open_ones = λ j le. let other : eqb k j ≡ false = grind (arith, nat_tests) in on.others j other ∙ has.open_ones j (omega (arith, le));
    } in
    let all = rests_on policy table history journals places (k + 1) rest mid threads (omega (arith, count)) (λ i j at. same (suc i) j (omega (arith, at))) may next in
    let P : List Event → Type 0 = λ new. HasAll policy table history journals new in
    subst P (append_assoc es (events_of k back) (rests_from places (k + 1) rest)) all

-- the passes that are still to come, and then the rests
passes_on : (policy : Policy) (table : Table) (history : List PassEntry) (journals : List (List Entry)) (passes entries : List PassEntry) (es : List Event) → AreOfOneRunBy policy table history journals → passes ++ entries ≡ history →
    AreShown (furthest passes) passes → HasCome policy table journals (furthest passes) passes [] es →
    HasAll policy table history journals (es ++ (each_after (pass_events journals) passes entries ++ rests_from (furthest history) 0 journals))
passes_on policy table history journals passes [] es run at shown come =
    let whole : passes ≡ history = sym (append-nil passes) ∙ at in
    let C : List PassEntry → Type 0 = λ h. HasCome policy table journals (furthest h) h [] es in
    let all = subst C whole come in
    rests_on policy table history journals (furthest history) 0 journals es run.count (omega arith) (λ i j e. ap (journal_at journals) (let same : i ≡ j = omega (arith, e) in same))
    (λ j. journal_may_happen (commands_to (actions_of history) j) (journal_at journals j) (run.kept j) (run.first j))
    (record {
      legal = all.legal;
      decided = all.decided;
      unwatched = all.unwatched;
      done = λ j lt. absurd (omega (arith, lt));
      open_ones = λ j le. all.done j;
    })
passes_on policy table history journals passes (entry ∷ entries) es run at shown come =
    let seen : List Seen = entry.input.seen in
    let from : ℕ → ℕ = furthest passes in
    let there : slice_get history (length passes) ≡ Some entry = sym (ap (λ l. slice_get l (length passes)) at) ∙ slice_get_seam passes entry entries in
    let before : take (length passes) history ≡ passes = sym (ap (take (length passes)) at) ∙ take-append_seam passes (entry ∷ entries) in
    let I : List PassEntry → Type 0 = λ h. IsPassBy policy table h entry in
    let is : IsPassBy policy table passes entry = subst I before (pass_at_by policy table history run.legal (length passes) entry there) in
    let input : IsInput table passes entry.input = pass_input policy table passes entry is in
    let fits = pass_fits table journals from passes entry.input input shown (run.looks (length passes) entry there) in
    let sent : ℕ → List Command = λ k. commands_to (actions_of history) k in
    let sound : (k : ℕ) → IsSound (sent k) passes k (journal_at journals k) = λ k. record {
      kept = run.kept k;
      may = journal_may_happen (sent k) (journal_at journals k) (run.kept k) (run.first k);
      first = (let F : List PassEntry → Type 0 = λ h. HasFirst (commands_to (actions_of h) k) (commands_to (actions_of passes) k) (sent_to (actions_of passes) k) in
          subst F at (sent_first passes (entry ∷ entries) k));
    } in
    let part : List Event = looks_from journals from 0 seen in
    let last : List Event = Decide entry ∷ [] in
    let looked = looks_on policy table journals from from passes [] es 0 seen sent come (let len = input.looks.looks in omega (arith, len)) refl sound (λ j le. refl) fits in
    let decided = decide_on policy table journals (with_looks from 0 seen) passes entry (es ++ part) looked is in
    let far : with_looks from 0 seen ≡ furthest (passes ++ entry ∷ []) = furthest_next passes entry in
    let C : (ℕ → ℕ) → Type 0 = λ places. HasCome policy table journals places (passes ++ entry ∷ []) [] ((es ++ part) ++ last) in
    let S : (ℕ → ℕ) → Type 0 = λ places. AreShown places (passes ++ entry ∷ []) in
    let all = passes_on policy table history journals (passes ++ entry ∷ []) entries ((es ++ part) ++ last) run (append_assoc passes (entry ∷ []) entries ∙ at)
    (subst S far (shown_after table from passes entry input shown)) (subst C far decided) in
    let P : List Event → Type 0 = λ new. HasAll policy table history journals new in
    let more : List Event = each_after (pass_events journals) (passes ++ entry ∷ []) entries in
    let rests : List Event = rests_from (furthest history) 0 journals in
    subst P
    (append_assoc (es ++ part) last (more ++ rests) ∙ append_assoc es part (last ++ (more ++ rests)) ∙ ap (λ l. es ++ l) (sym (append_assoc part last (more ++ rests)) ∙ sym (append_assoc (part ++ last) more rests)))
    all

-- from the empty list on
pub all_on : (policy : Policy) (table : Table) (history : List PassEntry) (journals : List (List Entry)) → AreOfOneRunBy policy table history journals → HasAll policy table history journals (passes_and_rests history journals)
all_on policy table history journals run =
    passes_on policy table history journals [] history [] run refl (λ j. omega arith)
    (record { legal = tt; decided = refl; looked = refl; unwatched = refl; floors = λ j. refl; done = λ j. refl })
