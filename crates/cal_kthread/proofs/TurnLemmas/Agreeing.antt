-- Each step of a turn keeps a thread and its journal in agreement.
use Rattle.cal_kthread.proofs.Common.{◌≡◌, ℕ, ◌+◌, ◌-◌, ◌<◌, min, Bool, true, false, nat_le, if◌then◌else◌, is_some, Option, Some, None, IfSome, List, [], ◌∷◌, ◌++◌, length, map, refl, sym, ap, subst, ◌∙◌, zero, suc, append-nil, arith, option_to_list, option_map, length_push, map-append, Command, Request, TakerView, PublisherView, IsPage, page_of, last_published, MayFollow, running_word, Current, Entry, Arrived, Took, Stole, Served, Yielded, Source, Waiting, IsJournalOf, HasServed, state_of, held, had_weight, State, MayStand, changed_by, record_in, records_of, command_in, arrival_in, served_in, served_of, core_after, weigh, QueueView, ThreadView}
use Rattle.cal_signal.specs.declared.record.TheConstants.{MOST_MISSES}
use Rattle.cal_kthread.specs.Turn as turn
use Rattle.cal_kthread.proofs.JournalLemmas.OneEntryMore.{filter_map-push, state_after-push, each-push, page-push}
use Rattle.cal_kthread.proofs.ListSums.{weigh-append}

abbrev request_of : Waiting → Request
request_of w = w.request

abbrev id_of : Waiting → ℕ
id_of w = w.request.id

-- what a thread had and what it has in hand grow alike
abbrev Even : ThreadView → ThreadView → Type 0
Even t u = (h : Waiting → ℕ) → had_weight h u + weigh h (held t) ≡ had_weight h t + weigh h (held u)

-- what the thread has had, where the entry serves nothing
kept : (j : List Entry) (t u : ThreadView) → Even t u → HasServed j t → HasServed j u
kept j t u even (served, names, weighs) = (served, names, λ h. let e = even h in let w = weighs h in omega arith)

unserving : (j : List Entry) (e : Entry) (t : ThreadView) → served_in e ≡ None → HasServed j t → HasServed (j ++ e ∷ []) t
unserving j e t none (served, names, weighs) =
    (served, filter_map-push served_in j e ∙ (ap (λ o. served_of j ++ option_to_list o) none ∙ (append-nil _ ∙ names)), weighs)

serving : (j : List Entry) (t u : ThreadView) (w : Waiting) → ((h : Waiting → ℕ) → had_weight h u ≡ had_weight h t) → ((h : Waiting → ℕ) → weigh h (held t) ≡ h w + weigh h (held u))
    → HasServed j t → HasServed (j ++ Served w.request.id ∷ []) u
serving j t u w had lost (served, names, weighs) = (
  served ++ w ∷ [],
  filter_map-push served_in j (Served w.request.id) ∙ (ap (λ l. l ++ w.request.id ∷ []) names ∙ sym (map-append id_of served (w ∷ []))),
  λ h. let a = had h in let b = lost h in let d = weighs h in let e = weigh-append h served (w ∷ []) in omega arith,
)

-- one more entry, and what must be so of the thread after it
noted : (j : List Entry) (e : Entry) (t u : ThreadView) → IsJournalOf j t → MayStand j e → changed_by e (state_of t) ≡ state_of u → t.publisher.published ++ option_to_list (record_in e) ≡ u.publisher.published
    → IsPage (page_of u.publisher.published) → t.taker.taken ++ option_to_list (command_in e) ≡ u.taker.taken → map request_of t.queue.pushed ++ option_to_list (arrival_in e) ≡ map request_of u.queue.pushed
    → HasServed (j ++ e ∷ []) u → IsJournalOf (j ++ e ∷ []) u
noted j e t u a may state records page commands arrivals served =
    let published : records_of (j ++ e ∷ []) ≡ u.publisher.published = filter_map-push record_in j e ∙ (ap (λ l. l ++ option_to_list (record_in e)) a.records ∙ records) in record {
      is_journal = record { each = each-push j e a.is_journal.each may; page = subst (λ l. IsPage (page_of l)) (sym published) page };
      state = state_after-push j e ∙ (ap (changed_by e) a.state ∙ state);
      records = published;
      commands = filter_map-push command_in j e ∙ (ap (λ l. l ++ option_to_list (command_in e)) a.commands ∙ commands);
      arrivals = filter_map-push arrival_in j e ∙ (ap (λ l. l ++ option_to_list (arrival_in e)) a.arrivals ∙ arrivals);
      served = served;
    }

-- the page of a thread that agrees with its journal
page_in : (j : List Entry) (t : ThreadView) → IsJournalOf j t → IsPage (page_of t.publisher.published)
page_in j t a = subst (λ l. IsPage (page_of l)) a.records a.is_journal.page

-- one more entry that only a request's way through the thread asks for: nothing else is changed
apart : (j : List Entry) (e : Entry) (t u : ThreadView) → IsJournalOf j t → MayStand j e → changed_by e (state_of t) ≡ state_of u → record_in e ≡ None → command_in e ≡ None → arrival_in e ≡ None → t.publisher ≡ u.publisher
    → t.taker ≡ u.taker → t.queue.pushed ≡ u.queue.pushed → HasServed (j ++ e ∷ []) u → IsJournalOf (j ++ e ∷ []) u
apart j e t u a may state no_record no_command no_arrival publisher taker pushed served = noted j e t u a may state
    (ap (λ o. t.publisher.published ++ option_to_list o) no_record ∙ (append-nil _ ∙ ap (λ p. p.published) publisher)) (subst (λ p. IsPage (page_of p.published)) publisher (page_in j t a))
    (ap (λ o. t.taker.taken ++ option_to_list o) no_command ∙ (append-nil _ ∙ ap (λ p. p.taken) taker))
    (ap (λ o. map request_of t.queue.pushed ++ option_to_list o) no_arrival ∙ (append-nil _ ∙ ap (map request_of) pushed)) served

-- 1
pub arrives : (j : List Entry) (now : ℕ) (request : Option Request) (t : ThreadView) → IsJournalOf j t → let a = turn.arrived now request t in IsJournalOf (turn.noted j a.1) a.0
arrives j now None t a = a
arrives j now (Some request) t a = let w : Waiting = record { request = request; arrived = now } in let u : ThreadView = (turn.arrived now (Some request) t).0 in
    noted j (Arrived request) t u a tt refl (append-nil _) (page_in j t a) (append-nil _) (sym (map-append request_of t.queue.pushed (w ∷ [])))
    (unserving j (Arrived request) u refl (kept j t u (λ h. refl) a.served))

-- 2
abbrev in_hand : Option Current → Option Waiting → List Waiting
in_hand current front = option_to_list (option_map (λ (c : Current). c.waiting) current) ++ option_to_list front

resumes : (h : Waiting → ℕ) (now : ℕ) (core before : Option ℕ) (current : Option Current) (front : Option Waiting) → weigh h (in_hand (turn.current_after now core before current) front) ≡ weigh h (in_hand current front)
resumes h now None before current front = refl
resumes h now (Some core) before None front = refl
resumes h now (Some core) None (Some current) front = refl
resumes h now (Some core) (Some c) (Some current) front = refl

pub takes : (j : List Entry) (now : ℕ) (command : Option Command) (t : ThreadView) → IsJournalOf j t → let a = turn.taken now command t in IsJournalOf (turn.noted j a.1) a.0
takes j now None t a = a
takes j now (Some command) t a = let u : ThreadView = (turn.taken now (Some command) t).0 in let n : length t.taker.taken + 1 ≡ length u.taker.taken = sym (length_push t.taker.taken command) in
    let e : Entry = Took (length t.taker.taken + 1) command in
    noted j e t u a (ap (λ (s : State). s.taken + 1) (sym a.state)) (λ i. record { taken = n i; core = core_after command }) (append-nil _) (page_in j t a) refl (append-nil _)
    (unserving j e u refl (kept j t u (λ h. let r = resumes h now (core_after command) t.core t.current t.front in omega arith) a.served))

-- 3
robbed-weight : (h : Waiting → ℕ) (vs : List Source) (place : ℕ) (w : Waiting) → place < length vs → weigh (λ (v : Source). weigh h v.thief.had) (turn.robbed vs place w) ≡ weigh (λ (v : Source). weigh h v.thief.had) vs + h w
robbed-weight h [] place w within = absurd (omega arith)
robbed-weight h (v ∷ vs) zero w within = let e = weigh-append h v.thief.had (w ∷ []) in omega arith
robbed-weight h (v ∷ vs) (suc place) w within = let e = robbed-weight h vs place w (omega arith) in omega arith

-- the thread after its queue is popped
unentered : (j : List Entry) (t u : ThreadView) → IsJournalOf j t → state_of t ≡ state_of u → t.publisher ≡ u.publisher → t.taker ≡ u.taker → t.queue.pushed ≡ u.queue.pushed → Even t u → IsJournalOf j u
unentered j t u a state publisher taker pushed even = record {
  is_journal = a.is_journal;
  state = a.state ∙ state;
  records = a.records ∙ ap (λ p. p.published) publisher;
  commands = a.commands ∙ ap (λ p. p.taken) taker;
  arrivals = a.arrivals ∙ ap (map request_of) pushed;
  served = kept j t u even a.served;
}

module _ (j : List Entry) (now : ℕ) (publisher : PublisherView) (taker : TakerView) (queue : QueueView) (sources : List Source) (misses : ℕ) where
  abbrev thread : Option ℕ → Option Current → Option Waiting → ThreadView
  thread core current front = record { publisher = publisher; taker = taker; queue = queue; sources = sources; core = core; current = current; front = front; misses = misses }

  abbrev After : ThreadView × Option Entry → Type 0
  After a = IsJournalOf (turn.noted j a.1) a.0

  provides-at : (core : Option ℕ) (current : Option Current) (front answer : Option Waiting) (theft : Option (ℕ × Waiting)) → IfSome theft (λ place. place.0 < length sources) → IsJournalOf j (thread core current front)
      → After (turn.provided now answer theft (thread core current front))
  provides-at None current front answer theft within a = a
  provides-at (Some core) (Some current) front answer theft within a = a
  provides-at (Some core) None (Some next) answer theft within a = unentered j (thread (Some core) None (Some next)) (thread (Some core) (Some (turn.begun now next)) None) a refl refl refl refl (λ h. refl)
  provides-at (Some core) None None (Some w) theft within a =
      unentered j (thread (Some core) None None) (turn.provided now (Some w) theft (thread (Some core) None None)).0 a refl refl refl refl (λ h. let e = weigh-append h queue.had (w ∷ []) in omega arith)
  provides-at (Some core) None None None None within a = a
  provides-at (Some core) None None None (Some theft) within a = let t = thread (Some core) None None in let u : ThreadView = (turn.provided now None (Some theft) t).0 in
      let e : Entry = Stole (turn.number_at sources theft.0) theft.1.request.id in
      apart j e t u a tt refl refl refl refl refl refl refl (unserving j e u refl (kept j t u (λ h. let r = robbed-weight h sources theft.0 theft.1 within in omega arith) a.served))

  worked-so : (core : ℕ) (current : Current) (front : Option Waiting) (total : ℕ) (last : Bool) → let t = thread (Some core) (Some current) front in IsJournalOf j t
      → After (record t { current = if last then None else Some (record current { remaining = current.remaining - 1 }); misses = total }, if last then Some (Served current.waiting.request.id) else None)
  worked-so core current front total true a = let t = thread (Some core) (Some current) front in let u : ThreadView = record t { current = None; misses = total } in
      apart j (Served current.waiting.request.id) t u a tt refl refl refl refl refl refl refl (serving j t u current.waiting (λ h. refl) (λ h. refl) a.served)
  worked-so core current front total false a = let t = thread (Some core) (Some current) front in
      unentered j t (record t { current = Some (record current { remaining = current.remaining - 1 }); misses = total }) a refl refl refl refl (λ h. refl)

  works-at : (core : Option ℕ) (current : Option Current) (front : Option Waiting) → IsJournalOf j (thread core current front) → After (turn.worked (thread core current front))
  works-at None current front a = a
  works-at (Some core) None front a = let t = thread (Some core) None front in let u : ThreadView = record t { core = None } in
      apart j Yielded t u a (ap (λ (s : State). is_some s.core) a.state) refl refl refl refl refl refl refl (unserving j Yielded u refl (kept j t u (λ h. refl) a.served))
  works-at (Some core) (Some current) front a = worked-so core current front (min (misses + current.waiting.request.misses) MOST_MISSES) (nat_le current.remaining 1) a

  fronts-at : (core : Option ℕ) (current : Option Current) (front answer : Option Waiting) → IsJournalOf j (thread core current front) → IsJournalOf j (turn.fronted answer (thread core current front))
  fronts-at core current (Some next) answer a = a
  fronts-at core current None None a = a
  fronts-at core current None (Some w) a = let t = thread core current None in
      unentered j t (turn.fronted (Some w) t) a refl refl refl refl
      (λ h. let e = weigh-append h queue.had (w ∷ []) in let hand = option_to_list (option_map (λ (c : Current). c.waiting) current) in let x = weigh-append h hand [] in let y = weigh-append h hand (w ∷ []) in omega arith)

pub provides : (j : List Entry) (now : ℕ) (answer : Option Waiting) (theft : Option (ℕ × Waiting)) (t : ThreadView) → IfSome theft (λ place. place.0 < length t.sources) → IsJournalOf j t → let a = turn.provided now answer theft t in IsJournalOf (turn.noted j a.1) a.0
provides j now answer theft t within a = provides-at j now t.publisher t.taker t.queue t.sources t.misses t.core t.current t.front answer theft within a

pub works : (j : List Entry) (t : ThreadView) → IsJournalOf j t → let a = turn.worked t in IsJournalOf (turn.noted j a.1) a.0
works j t a = works-at j 0 t.publisher t.taker t.queue t.sources t.misses t.core t.current t.front a

-- 4
pub fronts : (j : List Entry) (answer : Option Waiting) (t : ThreadView) → IsJournalOf j t → IsJournalOf j (turn.fronted answer t)
fronts j answer t a = fronts-at j 0 t.publisher t.taker t.queue t.sources t.misses t.core t.current t.front answer a

-- 5
pub publishes : (j : List Entry) (now : ℕ) (t : ThreadView) → MayFollow (last_published t.publisher.published) (turn.shown now t) → IsJournalOf j t → let p = turn.published now t in IsJournalOf (j ++ p.1 ∷ []) p.0
publishes j now t follows a = let u : ThreadView = (turn.published now t).0 in let e : Entry = (turn.published now t).1 in
    noted j e t u a (ap (λ l. length l + 1) (sym a.records), ap (λ (s : State). s.taken) (sym a.state), ap (λ (s : State). running_word s.core) (sym a.state)) refl refl
    (page-push t.publisher.published (turn.shown now t) (page_in j t a) follows) (append-nil _) (append-nil _) (unserving j e u refl (kept j t u (λ h. refl) a.served))
