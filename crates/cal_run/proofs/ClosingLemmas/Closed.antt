-- What the ends of all threads come to, when their pages and rings were closed.
use Rattle.cal_run.proofs.Common.{◌≡◌, ℕ, zero, suc, List, [], ◌∷◌, map, length, Some, refl, sym, ap, subst, ◌∙◌, slice_get, get_or_from_slice_get, length-map, some-ne-none, SenderView, Request, ObserverView, FitsPage, page_of, IsAccounted, RunView, run_of, IsJournal, commands_of, records_of, place_of_rest, Entry, EndView, AreFirst, page_at, journal_at, AreClosed, AreEndsOf, AreOtherEnds, HaveClosed, IsClosed, IsEndOf, IsWholeRun, pages_of_runs, rings_of_runs, Seat, journals_of, pages_of_seats, rings_of_seats, seat_of, seats_of, Worker}
use Rattle.cal_kthread.specs.Places.{Each}

-- what holds of each end of a thread
pub each_end : (P : EndView → Type 0) → ((worker : Worker) (e : EndView) → IsEndOf worker e → P e) → (workers : List Worker) (ends : List EndView) → AreEndsOf workers ends → Each P ends
each_end P holds [] [] are k e at = absurd (some-ne-none e (sym at))
each_end P holds [] (x ∷ xs) are k e at = absurd are
each_end P holds (w ∷ ws) [] are k e at = absurd are
each_end P holds (w ∷ ws) (x ∷ xs) are zero e at = let same : x ≡ e = cc in subst P same (holds w x are.0)
each_end P holds (w ∷ ws) (x ∷ xs) are (suc k) e at = each_end P holds ws xs are.1 k e at

-- the members of two lists that are seen alike are as many
pub length_alike : {X Z : Type 0} (f : X → Z) (xs ys : List X) → map f xs ≡ map f ys → length xs ≡ length ys
length_alike f xs ys same = sym (length-map xs f) ∙ ap length same ∙ length-map ys f

-- what is the same of each thread and its end
same_at_ends : {X : Type 0} (f : Worker → X) (g : EndView → X) → ((worker : Worker) (e : EndView) → IsEndOf worker e → g e ≡ f worker) →
    (workers : List Worker) (ends : List EndView) → AreEndsOf workers ends → map g ends ≡ map f workers
same_at_ends f g same [] [] are = refl
same_at_ends f g same [] (x ∷ xs) are = absurd are
same_at_ends f g same (w ∷ ws) [] are = absurd are
same_at_ends f g same (w ∷ ws) (x ∷ xs) are =
    let first : g x ≡ f w = same w x are.0 in
    let others : map g xs ≡ map f ws = same_at_ends f g same ws xs are.1 in
    cc

-- a function after another
map_twice : {X Y Z : Type 0} (f : Y → Z) (g : X → Y) (xs : List X) → map f (map g xs) ≡ map (λ x. f (g x)) xs
map_twice f g [] = refl
map_twice f g (x ∷ xs) = let others = map_twice f g xs in cc

pub places_at_ends : (workers : List Worker) (ends : List EndView) → AreEndsOf workers ends → map (λ (e : EndView). place_of_rest e.rest) ends ≡ map (λ (s : Seat). s.place) (seats_of workers)
places_at_ends workers ends are =
    same_at_ends (λ worker. (seat_of worker.thread).place) (λ e. place_of_rest e.rest) (λ worker e its. ap (λ (s : Seat). s.place) its.seat) workers ends are
    ∙ sym (map_twice (λ (s : Seat). s.place) (λ (w : Worker). seat_of w.thread) workers)

pages_at_ends : (workers : List Worker) (ends : List EndView) → AreEndsOf workers ends → pages_of_runs (map run_of ends) ≡ pages_of_seats (seats_of workers)
pages_at_ends workers ends are =
    map_twice (λ (r : RunView). r.publisher.page) run_of ends
    ∙ same_at_ends (λ worker. (seat_of worker.thread).page) (λ e. e.publisher.page) (λ worker e its. ap (λ (s : Seat). s.page) its.seat) workers ends are
    ∙ sym (map_twice (λ (s : Seat). s.page) (λ (w : Worker). seat_of w.thread) workers)

rings_at_ends : (workers : List Worker) (ends : List EndView) → AreEndsOf workers ends → rings_of_runs (map run_of ends) ≡ rings_of_seats (seats_of workers)
rings_at_ends workers ends are =
    map_twice (λ (r : RunView). r.taker.ring) run_of ends
    ∙ same_at_ends (λ worker. (seat_of worker.thread).ring) (λ e. e.taker.ring) (λ worker e its. ap (λ (s : Seat). s.ring) its.seat) workers ends are
    ∙ sym (map_twice (λ (s : Seat). s.ring) (λ (w : Worker). seat_of w.thread) workers)

-- the other ends of threads' pages and rings are those of their ends
pub others_at_ends : (workers : List Worker) (ends settled : List EndView) (observers watchers : List ObserverView) (senders : List SenderView) → AreEndsOf workers ends →
    map run_of settled ≡ map run_of ends → AreOtherEnds (pages_of_seats (seats_of workers)) (rings_of_seats (seats_of workers)) observers watchers senders →
    AreOtherEnds (pages_of_runs (map run_of settled)) (rings_of_runs (map run_of settled)) observers watchers senders
others_at_ends workers ends settled observers watchers senders are same others =
    let pages : pages_of_runs (map run_of settled) ≡ pages_of_seats (seats_of workers) =
    ap pages_of_runs same ∙ pages_at_ends workers ends are in
    let rings : rings_of_runs (map run_of settled) ≡ rings_of_seats (seats_of workers) =
    ap rings_of_runs same ∙ rings_at_ends workers ends are in
    record { observed = others.observed ∙ sym pages; watched = others.watched ∙ sym pages; sent = others.sent ∙ sym rings }

-- where two lists are the same but for what they are seen by, a place of one is one of the other
goes_with : {X Y Z : Type 0} (f : X → Z) (g : Y → Z) (xs : List X) (ys : List Y) (k : ℕ) (x : X) → map f xs ≡ map g ys → slice_get xs k ≡ Some x → (y : Y) × (slice_get ys k ≡ Some y)
goes_with f g [] ys k x same at = absurd (cc)
goes_with f g (z ∷ xs) [] k x same at = absurd (cc)
goes_with f g (z ∷ xs) (y ∷ ys) zero x same at = (y, refl)
goes_with f g (z ∷ xs) (y ∷ ys) (suc k) x same at = let others : map f xs ≡ map g ys = cc in goes_with f g xs ys k x others at

whole_at : (workers : List Worker) (ends : List EndView) (k : ℕ) (run : RunView) → AreEndsOf workers ends → slice_get (map run_of ends) k ≡ Some run → IsWholeRun run
whole_at [] [] k run are at = absurd (cc)
whole_at [] (x ∷ xs) k run are at = absurd are
whole_at (w ∷ ws) [] k run are at = absurd are
whole_at (w ∷ ws) (x ∷ xs) zero run are at = let same : run_of x ≡ run = cc in subst IsWholeRun same are.0.whole
whole_at (w ∷ ws) (x ∷ xs) (suc k) run are at = whole_at ws xs k run are.1 at

journal_of_run : (ends : List EndView) (k : ℕ) (run : RunView) → slice_get (map run_of ends) k ≡ Some run → slice_get (map (λ (e : EndView). e.journal) ends) k ≡ Some run.journal
journal_of_run [] k run at = absurd (cc)
journal_of_run (x ∷ xs) zero run at = let same : run_of x ≡ run = cc in ap (λ (r : RunView). Some r.journal) same
journal_of_run (x ∷ xs) (suc k) run at = journal_of_run xs k run at

run_of_journal : (ends : List EndView) (k : ℕ) (journal : List Entry) → slice_get (map (λ (e : EndView). e.journal) ends) k ≡ Some journal → (run : RunView) × (slice_get (map run_of ends) k ≡ Some run) × (run.journal ≡ journal)
run_of_journal [] k journal at = absurd (cc)
run_of_journal (x ∷ xs) zero journal at = (run_of x, refl, (cc))
run_of_journal (x ∷ xs) (suc k) journal at = run_of_journal xs k journal at

-- the journal of thread k is that of its run, and so are its page and what it took
record IsRunAt (journals : List (List Entry)) (k : ℕ) (run : RunView) : Type 0 where
  page : page_of run.publisher.published ≡ page_at journals k
  ring : run.taker.taken ≡ commands_of (journal_at journals k)

run_at : (workers : List Worker) (ends : List EndView) (k : ℕ) (run : RunView) → AreEndsOf workers ends → slice_get (map run_of ends) k ≡ Some run → IsRunAt (map (λ (e : EndView). e.journal) ends) k run
run_at workers ends k run are at =
    let own : journal_at (map (λ (e : EndView). e.journal) ends) k ≡ run.journal = get_or_from_slice_get (map (λ (e : EndView). e.journal) ends) k run.journal [] (journal_of_run ends k run at) in
    let whole = whole_at workers ends k run are at in
    record {
      page = ap page_of (sym whole.page ∙ ap records_of (sym own));
      ring = sym whole.ring ∙ ap commands_of (sym own);
    }

module _ (workers : List Worker) (ends settled : List EndView) (observers watchers : List ObserverView) (senders : List SenderView) (are : AreEndsOf workers ends)
    (same : map run_of settled ≡ map run_of ends) (others : AreOtherEnds (pages_of_seats (seats_of workers)) (rings_of_seats (seats_of workers)) observers watchers senders) (closed : AreClosed (map run_of settled) observers watchers senders) where
  -- what is known of the four ends of thread k
  closed_at : (k : ℕ) (run : RunView) → slice_get (map run_of ends) k ≡ Some run → (o w : ObserverView) (s : SenderView) → slice_get observers k ≡ Some o → slice_get watchers k ≡ Some w →
      slice_get senders k ≡ Some s → IsClosed run o w s
  closed_at k run at o w s ato atw ats = closed k run o w s (ap (λ (l : List RunView). slice_get l k) same ∙ at) ato atw ats

  observed_at : (k : ℕ) (o : ObserverView) → slice_get observers k ≡ Some o → FitsPage (page_at (map (λ (e : EndView). e.journal) ends) k) o.looks
  observed_at k o at =
      let ends_there = others_at_ends workers ends ends observers watchers senders are refl others in
      let run = goes_with (λ (o : ObserverView). o.page) (λ (r : RunView). r.publisher.page) observers (map run_of ends) k o ends_there.observed at in
      let watcher = goes_with (λ (r : RunView). r.publisher.page) (λ (o : ObserverView). o.page) (map run_of ends) watchers k run.0 (sym ends_there.watched) run.1 in
      let sender = goes_with (λ (r : RunView). r.taker.ring) (λ (s : SenderView). s.ring) (map run_of ends) senders k run.0 (sym ends_there.sent) run.1 in
      let fits = (closed_at k run.0 run.1 o watcher.0 sender.0 at watcher.1 sender.1).observed in
      subst (λ page. FitsPage page o.looks) (run_at workers ends k run.0 are run.1).page fits

  watched_at : (k : ℕ) (w : ObserverView) → slice_get watchers k ≡ Some w → FitsPage (page_at (map (λ (e : EndView). e.journal) ends) k) w.looks
  watched_at k w at =
      let ends_there = others_at_ends workers ends ends observers watchers senders are refl others in
      let run = goes_with (λ (o : ObserverView). o.page) (λ (r : RunView). r.publisher.page) watchers (map run_of ends) k w ends_there.watched at in
      let observer = goes_with (λ (r : RunView). r.publisher.page) (λ (o : ObserverView). o.page) (map run_of ends) observers k run.0 (sym ends_there.observed) run.1 in
      let sender = goes_with (λ (r : RunView). r.taker.ring) (λ (s : SenderView). s.ring) (map run_of ends) senders k run.0 (sym ends_there.sent) run.1 in
      let fits = (closed_at k run.0 run.1 observer.0 w sender.0 observer.1 at sender.1).watched in
      subst (λ page. FitsPage page w.looks) (run_at workers ends k run.0 are run.1).page fits

  taken_at : (k : ℕ) (s : SenderView) → slice_get senders k ≡ Some s → AreFirst (commands_of (journal_at (map (λ (e : EndView). e.journal) ends) k)) s.sent
  taken_at k s at =
      let ends_there = others_at_ends workers ends ends observers watchers senders are refl others in
      let run = goes_with (λ (s : SenderView). s.ring) (λ (r : RunView). r.taker.ring) senders (map run_of ends) k s ends_there.sent at in
      let observer = goes_with (λ (r : RunView). r.publisher.page) (λ (o : ObserverView). o.page) (map run_of ends) observers k run.0 (sym ends_there.observed) run.1 in
      let watcher = goes_with (λ (r : RunView). r.publisher.page) (λ (o : ObserverView). o.page) (map run_of ends) watchers k run.0 (sym ends_there.watched) run.1 in
      let first = (closed_at k run.0 run.1 observer.0 watcher.0 s observer.1 watcher.1 at).taken in
      subst (λ taken. AreFirst taken s.sent) (run_at workers ends k run.0 are run.1).ring first

  kept_at : (k : ℕ) (journal : List Entry) → slice_get (map (λ (e : EndView). e.journal) ends) k ≡ Some journal → IsJournal journal
  kept_at k journal at =
      let run = run_of_journal ends k journal at in
      subst IsJournal run.2 (whole_at workers ends k run.0 are run.1).kept

  pub have_closed : (lefts : List (List Request)) → length lefts ≡ length ends → IsAccounted (map (λ (e : EndView). e.journal) ends) lefts →
      HaveClosed workers observers watchers senders (journals_of workers) lefts
  have_closed lefts count account =
      let is : map (λ (e : EndView). e.journal) ends ≡ journals_of workers = same_at_ends (λ worker. worker.thread.journal) (λ e. e.journal) (λ worker e end. end.journal) workers ends are in
      let its : HaveClosed workers observers watchers senders (map (λ (e : EndView). e.journal) ends) lefts = record {
        same = is;
        kept = kept_at;
        observed = observed_at;
        watched = watched_at;
        taken = taken_at;
        count = count ∙ count_ends;
        account = account;
      } in
      subst (λ (js : List (List Entry)). HaveClosed workers observers watchers senders js lefts) is its
    where
      count_ends : length ends ≡ length workers
      count_ends = sym (length-map ends (λ (e : EndView). e.journal)) ∙ ap length (same_at_ends (λ worker. worker.thread.journal) (λ e. e.journal) (λ worker e end. end.journal) workers ends are)
          ∙ length-map workers (λ (w : Worker). w.thread.journal)
