-- The parts of a run that was just opened.
use Rattle.cal_run.proofs.Common.{◌≡◌, ℕ, List, [], ◌∷◌, ◌++◌, length, map, refl, sym, ap, subst, ◌∙◌, append_assoc, slice_get, length-map, map-append, SenderView, IsTeam, Place, place_of, KernelView, Table, Policy, threads_of_table, HaveSeenNothing, HaveSentNothing, SchedulerView, WatchView, new_watch, ObserverView, Arrivals, figures_of, AreParts, HasMade, HaveMade, HaveMadeNoTurn, MadeNoTurn, Seat, seat_of, seats_of, Parts, Worker, slice_get_seam}
use Rattle.cal_kthread.specs.Team.Opening.{AreOpened}
use Rattle.cal_run.proofs.Members.{both_get}
use Rattle.cal_run.proofs.WorkersLemmas.Turns.{one_more}

-- the first of these threads have workers, and the rest are still to come
pub record HaveWorkers (arrivals : Arrivals) (threads rest : List KernelView) (workers : List Worker) : Type 0 where
  pub split : map (λ (w : Worker). w.thread) workers ++ rest ≡ threads
  pub made : HaveMade arrivals 0 workers

-- the next thread made no turn
pub next_is_fresh : (arrivals : Arrivals) (threads rest : List KernelView) (thread : KernelView) (workers : List Worker) →
    HaveWorkers arrivals threads (thread ∷ rest) workers → HaveMadeNoTurn threads → MadeNoTurn thread
next_is_fresh arrivals threads rest thread workers so_far fresh =
    let own : List KernelView = map (λ (w : Worker). w.thread) workers in
    fresh (length own) thread (ap (λ (l : List KernelView). slice_get l (length own)) (sym so_far.split) ∙ slice_get_seam own thread rest)

-- one worker more
pub worker_more : (arrivals : Arrivals) (threads rest : List KernelView) (thread : KernelView) (workers : List Worker) (worker : Worker) →
    HaveWorkers arrivals threads (thread ∷ rest) workers → worker.thread ≡ thread → HasMade arrivals (length workers) 0 worker →
    HaveWorkers arrivals threads rest (workers ++ worker ∷ [])
worker_more arrivals threads rest thread workers worker so_far its made = record {
  split =
      let own : List KernelView = map (λ (w : Worker). w.thread) workers in
      ap (λ (l : List KernelView). l ++ rest) (map-append (λ (w : Worker). w.thread) workers (worker ∷ []))
      ∙ append_assoc own (worker.thread ∷ []) rest
      ∙ ap (λ (t : KernelView). own ++ t ∷ rest) its
      ∙ so_far.split;
  made = one_more arrivals 0 workers worker so_far.made made;
}

-- opened threads made no turn
pub opened_are_fresh : (threads : List KernelView) (observers : List ObserverView) (senders : List SenderView) (watchers : List ObserverView) →
    AreOpened threads observers senders watchers → HaveMadeNoTurn threads
opened_are_fresh threads observers senders watchers opened k thread at =
    let fresh = opened.fresh k thread (both_get threads k thread at) in (fresh.journal, fresh.published)

pub saw_nothing : (threads : List KernelView) (observers : List ObserverView) (senders : List SenderView) (watchers : List ObserverView) →
    AreOpened threads observers senders watchers → HaveSeenNothing observers
saw_nothing threads observers senders watchers opened k observer at = (opened.unseen k observer (both_get observers k observer at)).1

pub watched_nothing : (threads : List KernelView) (observers : List ObserverView) (senders : List SenderView) (watchers : List ObserverView) →
    AreOpened threads observers senders watchers → HaveSeenNothing watchers
watched_nothing threads observers senders watchers opened k observer at = (opened.unwatched k observer (both_get watchers k observer at)).1

pub sent_nothing : (threads : List KernelView) (observers : List ObserverView) (senders : List SenderView) (watchers : List ObserverView) →
    AreOpened threads observers senders watchers → HaveSentNothing senders
sent_nothing threads observers senders watchers opened k sender at = opened.unsent k sender (both_get senders k sender at)

-- what the seats of workers give is what their threads give
of_seats : {Y : Type 0} (f : Seat → Y) (workers : List Worker) →
    map (λ (t : KernelView). f (seat_of t)) (map (λ (w : Worker). w.thread) workers) ≡ map f (seats_of workers)
of_seats f [] = refl
of_seats {Y} f (w ∷ ws) = ap (λ (ys : List Y). f (seat_of w.thread) ∷ ys) (of_seats f ws)

pub seats_give : {Y : Type 0} (f : Seat → Y) (threads : List KernelView) (workers : List Worker) → map (λ (w : Worker). w.thread) workers ≡ threads →
    map (λ (t : KernelView). f (seat_of t)) threads ≡ map f (seats_of workers)
seats_give f threads workers same = ap (λ (l : List KernelView). map (λ (t : KernelView). f (seat_of t)) l) (sym same) ∙ of_seats f workers

-- the parts belong together, and did nothing yet
pub are_opened : (policy : Policy) (table : Table) (arrivals : Arrivals) (m : ℕ) (parts : Parts) (threads : List KernelView) (observers : List ObserverView) (senders : List SenderView) (watchers : List ObserverView) →
    length threads ≡ threads_of_table table → AreOpened threads observers senders watchers → IsTeam (map (λ (k : KernelView). place_of k.thread) threads) →
    map (λ (w : Worker). w.thread) parts.workers.items ≡ threads → HaveMade arrivals 0 parts.workers.items →
    parts.scheduler ≡ record { table = table; policy = policy; history = []; observers = observers; senders = senders } →
    parts.watch ≡ new_watch watchers m → AreParts table arrivals 0 0 0 parts
are_opened policy table arrivals m parts threads observers senders watchers count opened team same made scheduler watch = record {
  together = record {
    same_table = ap (λ (s : SchedulerView). s.table) scheduler;
    threads = length-map parts.workers.items (λ (w : Worker). seat_of w.thread)
        ∙ sym (length-map parts.workers.items (λ (w : Worker). w.thread)) ∙ ap (λ (l : List KernelView). length l) same ∙ count;
    pages = ap (λ (s : SchedulerView). map (λ (o : ObserverView). o.page) s.observers) scheduler ∙ opened.observed
        ∙ seats_give (λ (s : Seat). s.page) threads parts.workers.items same;
    rings = ap (λ (s : SchedulerView). map (λ (r : SenderView). r.ring) s.senders) scheduler ∙ opened.rings
        ∙ seats_give (λ (s : Seat). s.ring) threads parts.workers.items same;
    watched = ap (λ (w : WatchView). map (λ (o : ObserverView). o.page) w.observers) watch ∙ opened.watched
        ∙ seats_give (λ (s : Seat). s.page) threads parts.workers.items same;
    unwatched = let P : WatchView → Type 0 = λ w. HaveSeenNothing w.given in
        subst P (sym watch) (watched_nothing threads observers senders watchers opened);
    team = let P : List Place → Type 0 = λ l. IsTeam l in
        subst P (seats_give (λ (s : Seat). s.place) threads parts.workers.items same) team;
  };
  passes = ap (λ (s : SchedulerView). map figures_of s.history) scheduler;
  turns = made;
  rounds = ap (λ (w : WatchView). length w.rounds) watch;
}
