-- Where a kernel thread stands by its journal, the commands that were sent to it, and the record
-- that is kept of it.
use Rattle.cal_world.proofs.Common.{◌≡◌, ℕ, ◌+◌, ◌-◌, ◌<◌, ◌≤◌, zero, suc, true, false, List, [], ◌∷◌, ◌++◌, length, length-append, get_or, take, Option, Some, None, refl, sym, ap, ◌∙◌, arith, subst, ⊎_elim, slice_get, IsSome, is_some, option_or, take-append-le, get_or_past, get_or_append_left, get_or-append_seam, cases_lt, slice_get_within, Command, Run, Park, Record, zero_record, running_word, page_of, Took, Yielded, State, first_state, core_after, changed_by, run_number}
use Rattle.cal_world.proofs.ListLemmas.OneMore.{slice_get_left, get_or_push}
use Rattle.cal_machine.proofs.Last.{take_next}

-- where a kernel thread stands: its state and its last Run, the commands that it took, what it
-- published, what was sent to it, and how often it took
pub record Standing : Type 0 where
  pub state : State
  pub run : Option ℕ
  pub done : List Command
  pub published : List Record
  pub sent : List Command
  pub takes : ℕ

-- the record at a place of the thread's page; past its end the zero record
abbrev pub at_place : List Record → ℕ → Record
at_place published i = get_or (page_of published) i zero_record

-- a record acknowledges no more than was taken; where it acknowledges the last Run, and the thread
-- is on a core, it does not show it on none
pub record Shows (s : State) (run : Option ℕ) (rec : Record) : Type 0 where
  pub taken : rec.taken ≤ s.taken
  pub on : (r : ℕ) → IsSome s.core → run ≡ Some r → r ≤ rec.taken → rec.running ≡ 0 → ⊥

-- the last Run that was taken is of core c
pub record HasTakenRun (run : Option ℕ) (sent : List Command) (takes c : ℕ) : Type 0 where
  pub place : ℕ
  pub last : run ≡ Some (place + 1)
  pub taken : place < takes
  pub command : slice_get sent place ≡ Some (Run c)

-- the record at place n acknowledges a Run of the core that it shows, and no record up to there
-- shows that the core of this Run was left
pub record WasOn (sent : List Command) (published : List Record) (n : ℕ) : Type 0 where
  pub place : ℕ
  pub command : slice_get sent place ≡ Some (Run ((at_place published n).running - 1))
  pub acknowledged : place + 1 ≤ (at_place published n).taken
  pub unleft : (i : ℕ) → i ≤ n → place + 1 ≤ (at_place published i).taken → (at_place published i).running ≡ 0 → ⊥

-- the commands taken are the first ones of those sent; a thread on a core took a Run of it and none
-- since; its page shows it; and each record on its page that shows a core was true of it
pub record IsConsistent (t : Standing) : Type 0 where
  pub count : t.state.taken ≡ t.takes
  pub within : t.takes ≤ length t.sent
  pub first : t.done ≡ take t.takes t.sent
  pub runs : (c : ℕ) → t.state.core ≡ Some c → HasTakenRun t.run t.sent t.takes c
  pub page : (i : ℕ) → Shows t.state t.run (at_place t.published i)
  pub on : (n : ℕ) → ((at_place t.published n).running ≡ 0 → ⊥) → WasOn t.sent t.published n

-- the start
abbrev pub no_standing : Standing
no_standing = record { state = first_state; run = None; done = []; published = []; sent = []; takes = 0 }

shows_none : Shows first_state None zero_record
shows_none = record { taken = omega arith; on = λ r some e le on. let shown : false ≡ true = some in cc }

none_shown : (i : ℕ) → Shows first_state None (at_place [] i)
none_shown zero = shows_none
none_shown (suc i) = shows_none

none_on : (n : ℕ) → ((at_place [] n).running ≡ 0 → ⊥) → WasOn [] [] n
none_on zero shown = absurd (shown refl)
none_on (suc n) shown = absurd (shown refl)

pub stands_first : IsConsistent no_standing
stands_first = record {
  count = refl;
  within = omega arith;
  first = refl;
  runs = λ c e. let shown : None ≡ Some c = e in cc;
  page = none_shown;
  on = none_on;
}

-- more was sent
abbrev pub sent_more : Standing → List Command → Standing
sent_more t more = record t { sent = t.sent ++ more }

pub stands_sent : (t : Standing) (more : List Command) → IsConsistent t → IsConsistent (sent_more t more)
stands_sent t more was = record {
  count = was.count;
  within = let le = was.within in omega (arith, length-append t.sent more);
  first = was.first ∙ sym (take-append-le t.takes t.sent more was.within);
  runs = λ c e. let run = was.runs c e in record { place = run.place; last = run.last; taken = run.taken; command = slice_get_left t.sent more run.place (Run c) run.command };
  page = was.page;
  on = λ n shown. let on = was.on n shown in record {
    place = on.place;
    command = slice_get_left t.sent more on.place (Run ((at_place t.published n).running - 1)) on.command;
    acknowledged = on.acknowledged;
    unleft = on.unleft;
  };
}

-- the thread took a command
abbrev pub took_one : Standing → ℕ → Command → Standing
took_one t number command = record t {
  state = changed_by (Took number command) t.state;
  run = option_or (run_number (Took number command)) t.run;
  done = t.done ++ command ∷ [];
  takes = t.takes + 1;
}

shows_took : (s : State) (run : Option ℕ) (number : ℕ) (command : Command) (rec : Record) → number ≡ s.taken + 1 → Shows s run rec →
    Shows (changed_by (Took number command) s) (option_or (run_number (Took number command)) run) rec
shows_took s run number (Run core) rec e was = record {
  taken = (let le = was.taken in omega arith);
  on = λ r some same le on. let n : number ≡ r = cc in let was_le = was.taken in omega arith;
}
shows_took s run number Park rec e was = record {
  taken = (let le = was.taken in omega arith);
  on = λ r some same le on. let shown : false ≡ true = some in cc;
}

runs_took : (t : Standing) (number : ℕ) (command : Command) → number ≡ t.takes + 1 → slice_get t.sent t.takes ≡ Some command → (c : ℕ) → core_after command ≡ Some c →
    HasTakenRun (option_or (run_number (Took number command)) t.run) t.sent (t.takes + 1) c
runs_took t number (Run core) e is c on = record {
  place = t.takes;
  last = ap (λ (n : ℕ). Some n) e;
  taken = omega arith;
  command = let same : core ≡ c = cc in is ∙ ap (λ n. Some (Run n)) same;
}
runs_took t number Park e is c on = let shown : None ≡ Some c = on in cc

pub stands_took : (t : Standing) (number : ℕ) (command : Command) → number ≡ t.takes + 1 → slice_get t.sent t.takes ≡ Some command → IsConsistent t → IsConsistent (took_one t number command)
stands_took t number command e is was =
    let count = was.count in
    let n : number ≡ t.state.taken + 1 = omega arith in
    let low = slice_get_within t.sent t.takes command is in record {
      count = omega arith;
      within = omega arith;
      first = ap (λ cs. cs ++ command ∷ []) was.first ∙ sym (take_next t.sent t.takes command is);
      runs = runs_took t number command e is;
      page = λ i. shows_took t.state t.run number command (at_place t.published i) n (was.page i);
      on = was.on;
    }

-- the thread gave up its core
abbrev pub gave_up : Standing → Standing
gave_up t = record t { state = changed_by Yielded t.state }

shows_off : (s : State) (run : Option ℕ) (rec : Record) → Shows s run rec → Shows (changed_by Yielded s) run rec
shows_off s run rec was = record { taken = was.taken; on = λ r some same le on. let shown : false ≡ true = some in cc }

pub stands_off : (t : Standing) → IsConsistent t → IsConsistent (gave_up t)
stands_off t was = record {
  count = was.count;
  within = was.within;
  first = was.first;
  runs = λ c e. let shown : None ≡ Some c = e in cc;
  page = λ i. shows_off t.state t.run (at_place t.published i) (was.page i);
  on = was.on;
}

-- the thread published a record
abbrev pub showed : Standing → Record → Standing
showed t rec = record t { published = t.published ++ rec ∷ [] }

on_some : (o : Option ℕ) → is_some o ≡ true → running_word o ≡ 0 → ⊥
on_some None some e = cc
on_some (Some c) some e = omega arith

shows_new : (s : State) (run : Option ℕ) (rec : Record) → rec.taken ≡ s.taken → rec.running ≡ running_word s.core → Shows s run rec
shows_new s run rec taken running = record { taken = omega arith; on = λ r some same le off. on_some s.core some (sym running ∙ off) }

page_showed : (s : State) (run : Option ℕ) (rs : List Record) (rec : Record) → Shows s run rec → ((i : ℕ) → Shows s run (at_place rs i)) →
    (i : ℕ) → Shows s run (at_place (rs ++ rec ∷ []) i)
page_showed s run rs rec new was i = let P : Record → Type 0 = λ r. Shows s run r in
    ⊎_elim (λ old. subst P (sym old) (was i)) (λ is. subst P (sym is) new) (get_or_push (page_of rs) rec i zero_record)

-- places before the last are as they were
pub place_before : (rs : List Record) (rec : Record) (i : ℕ) → i ≤ length rs → at_place (rs ++ rec ∷ []) i ≡ at_place rs i
place_before rs rec i low = get_or_append_left (page_of rs) (rec ∷ []) zero_record i (omega arith)

pub place_last : (rs : List Record) (rec : Record) → at_place (rs ++ rec ∷ []) (length rs + 1) ≡ rec
place_last rs rec = ap (λ n. get_or (page_of (rs ++ rec ∷ [])) n zero_record) (let n : length rs + 1 ≡ length (page_of rs) = omega arith in n) ∙ get_or-append_seam (page_of rs) rec [] zero_record

place_past : (rs : List Record) (rec : Record) (i : ℕ) → length rs + 1 < i → at_place (rs ++ rec ∷ []) i ≡ zero_record
place_past rs rec i past = get_or_past (page_of (rs ++ rec ∷ [])) i zero_record (omega (arith, length-append rs (rec ∷ [])))

some_core : (o : Option ℕ) (n : ℕ) → n ≡ running_word o → (n ≡ 0 → ⊥) → o ≡ Some (n - 1)
some_core None n e shown = absurd (shown e)
some_core (Some c) n e shown = ap (λ (m : ℕ). Some m) (let same : c ≡ n - 1 = omega arith in same)

-- the last record, where it shows a core
on_last : (t : Standing) (rec : Record) → rec.taken ≡ t.state.taken → rec.running ≡ running_word t.state.core → IsConsistent t → (rec.running ≡ 0 → ⊥) →
    WasOn t.sent (t.published ++ rec ∷ []) (length t.published + 1)
on_last t rec taken running was shown =
    let rs : List Record = t.published in
    let core : t.state.core ≡ Some (rec.running - 1) = some_core t.state.core rec.running running shown in
    let run = was.runs (rec.running - 1) core in
    let last : at_place (rs ++ rec ∷ []) (length rs + 1) ≡ rec = place_last rs rec in
    let here : Shows t.state t.run rec = shows_new t.state t.run rec taken running in
    let shows : (i : ℕ) → Shows t.state t.run (at_place (rs ++ rec ∷ []) i) = page_showed t.state t.run rs rec here was.page in
    let known : run.place + 1 ≤ rec.taken = (let low = run.taken in let count = was.count in omega arith) in
    let some : is_some t.state.core ≡ true = ap is_some core in
    record {
      place = run.place;
      command = run.command ∙ ap (λ (r : Record). Some (Run (r.running - 1))) (sym last);
      acknowledged = subst (λ (r : Record). run.place + 1 ≤ r.taken) (sym last) known;
      unleft = λ i low taken off. (shows i).on (run.place + 1) some run.last taken off;
    }

on_before : (sent : List Command) (rs : List Record) (rec : Record) (n : ℕ) → n ≤ length rs → WasOn sent rs n → WasOn sent (rs ++ rec ∷ []) n
on_before sent rs rec n low was =
    let same : (i : ℕ) → i ≤ n → at_place rs i ≡ at_place (rs ++ rec ∷ []) i = λ i le. sym (place_before rs rec i (omega arith)) in
    let here = same n (omega arith) in
    record {
      place = was.place;
      command = was.command ∙ ap (λ (r : Record). Some (Run (r.running - 1))) here;
      acknowledged = subst (λ (r : Record). was.place + 1 ≤ r.taken) here was.acknowledged;
      unleft = λ i le taken off. was.unleft i le (subst (λ (r : Record). was.place + 1 ≤ r.taken) (sym (same i le)) taken) (ap (λ (r : Record). r.running) (same i le) ∙ off);
    }

on_showed : (t : Standing) (rec : Record) → rec.taken ≡ t.state.taken → rec.running ≡ running_word t.state.core → IsConsistent t → (n : ℕ) →
    ((at_place (t.published ++ rec ∷ []) n).running ≡ 0 → ⊥) → WasOn t.sent (t.published ++ rec ∷ []) n
on_showed t rec taken running was n shown = ⊎_elim
    (λ (low : n < length t.published + 1). on_before t.sent t.published rec n (omega arith)
    (was.on n (λ off. shown (ap (λ (r : Record). r.running) (place_before t.published rec n (omega arith)) ∙ off))))
    (λ (high : length t.published + 1 ≤ n). ⊎_elim
    (λ (past : length t.published + 1 < n). absurd (shown (ap (λ (r : Record). r.running) (place_past t.published rec n past))))
    (λ (le : n ≤ length t.published + 1).
    let last : n ≡ length t.published + 1 = omega arith in
    let P : ℕ → Type 0 = λ n. ((at_place (t.published ++ rec ∷ []) n).running ≡ 0 → ⊥) in
    let Q : ℕ → Type 0 = λ n. WasOn t.sent (t.published ++ rec ∷ []) n in
    let here = subst P last shown in
    subst Q (sym last) (on_last t rec taken running was (λ off. here (ap (λ (r : Record). r.running) (place_last t.published rec) ∙ off))))
    (cases_lt (length t.published + 1) n))
    (cases_lt n (length t.published + 1))

pub stands_showed : (t : Standing) (rec : Record) → rec.taken ≡ t.state.taken → rec.running ≡ running_word t.state.core → IsConsistent t → IsConsistent (showed t rec)
stands_showed t rec taken running was = record {
  count = was.count;
  within = was.within;
  first = was.first;
  runs = was.runs;
  page = page_showed t.state t.run t.published rec (shows_new t.state t.run rec taken running) was.page;
  on = on_showed t rec taken running was;
}
