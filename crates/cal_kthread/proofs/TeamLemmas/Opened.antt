-- A new team: thread after thread is opened, and task after task is linked.
use Rattle.cal_kthread.proofs.Common.{◌≡◌, ℕ, zero, suc, ◌+◌, ◌-◌, ◌<◌, ◌≤◌, nat_eq, List, [], ◌∷◌, ◌++◌, map, length, take, drop, sym, refl, ap, ◌∙◌, subst, ⊎_elim, arith, some, some-ne-none, get_elem?, at_map, at_snoc, SenderView, ObserverView, Links, IsLinked, StoleNothing, unlinked, numbers_at, shares_at, thieves_of, AreOpened, Each, one_if, QueueId, Place, IsTeam, lent, lent_to, thief_place, KernelView, IsFresh, Source, weigh}
use native.Mathlib.Decide.{ℕ_discrete}
use Rattle.cal_machine.specs.Tasks.{first_thread, task_at}
use Rattle.cal_machine.specs.declared.task.Task.{Task}
use Rattle.cal_kthread.proofs.ListSums.{map-append, map-at, same-through, at-get_or, within}
use Rattle.cal_machine.proofs.ThreadNumbers.{first_next}
use Rattle.cal_signal.proofs.Parting.{at_grown}
use Rattle.cal_kthread.proofs.TeamLemmas.Lending.{place}

each-more : {T : Type 0} (P : T → Type 0) (xs : List T) (y : T) → Each P xs → P y → Each P (xs ++ y ∷ [])
each-more P xs y all here k x e = ⊎_elim (all k x) (λ (same : y ≡ x). subst P same here) (at_snoc xs y x k e)

both-more : {T U V : Type 0} (f : T → V) (g : U → V) (xs : List T) (ys : List U) (x : T) (y : U) → map f xs ≡ map g ys → f x ≡ g y → map f (xs ++ x ∷ []) ≡ map g (ys ++ y ∷ [])
both-more f g xs ys x y all here = map-append f xs (x ∷ []) ∙ (λ i. all i ++ here i ∷ []) ∙ sym (map-append g ys (y ∷ []))

still-fresh : (t : KernelView) → IsFresh t → IsFresh (unlinked t)
still-fresh t f = record { journal = f.journal; published = f.published; taken = f.taken; shares = refl; pushed = f.pushed; had = f.had; handed = f.handed; sources = refl; core = f.core; current = f.current; front = f.front; misses = f.misses }

-- without thieves nothing was stolen
fresh-idle : (t : KernelView) → IsFresh t → StoleNothing t
fresh-idle t f k v e = absurd (some-ne-none v (sym (subst (λ vs. get_elem? vs k ≡ some v) f.sources e)))

-- the first of the threads that are still to come did nothing yet
pub next-is-fresh : (threads before after : List KernelView) (t : KernelView) → before ++ t ∷ after ≡ threads → Each (λ thread. IsFresh (unlinked thread)) threads → t.journal ≡ []
next-is-fresh threads before after t split fresh = (fresh (length before) t (subst (λ l. get_elem? l (length before) ≡ some t) split (seam before))).journal
  where
    seam : (ts : List KernelView) → get_elem? (ts ++ t ∷ after) (length ts) ≡ some t
    seam [] = refl
    seam (x ∷ ts) = seam ts

pub all-idle : (threads : List KernelView) → Each IsFresh threads → Each StoleNothing threads
all-idle threads fresh k t e = fresh-idle t (fresh k t e)

pub one-more : (ts : List KernelView) (os : List ObserverView) (ss : List SenderView) (ws : List ObserverView) (t : KernelView) (o : ObserverView) (s : SenderView) (w : ObserverView)
    → AreOpened ts os ss ws → t.number ≡ length ts → IsFresh t → (t.thread.publisher.page ≡ o.page) × (t.thread.publisher.page ≡ w.page)
    → (o.loads ≡ []) × (o.looks ≡ []) × (w.loads ≡ []) × (w.looks ≡ []) → (t.thread.taker.ring ≡ s.ring) × (s.sent ≡ []) × (s.free ≡ 4)
    → AreOpened (ts ++ t ∷ []) (os ++ o ∷ []) (ss ++ s ∷ []) (ws ++ w ∷ [])
one-more ts os ss ws t o s w a number fresh page unseen ring = record {
  numbers = λ k x e. ⊎_elim (a.numbers k x) (λ (u : (k ≡ length ts) × (t ≡ x)). sym (ap (λ (y : KernelView). y.number) u.1) ∙ number ∙ sym u.0) (at_grown ts t x k e);
  fresh = each-more (λ (x : KernelView). IsFresh (unlinked x)) ts t a.fresh (still-fresh t fresh);
  thieves = each-more StoleNothing ts t a.thieves (fresh-idle t fresh);
  observed = both-more (λ (x : ObserverView). x.page) (λ (x : KernelView). x.thread.publisher.page) os ts o t a.observed (sym page.0);
  watched = both-more (λ (x : ObserverView). x.page) (λ (x : KernelView). x.thread.publisher.page) ws ts w t a.watched (sym page.1);
  rings = both-more (λ (x : SenderView). x.ring) (λ (x : KernelView). x.thread.taker.ring) ss ts s t a.rings (sym ring.0);
  unseen = each-more (λ (x : ObserverView). (x.loads ≡ []) × (x.looks ≡ [])) os o a.unseen (unseen.0, unseen.1);
  unwatched = each-more (λ (x : ObserverView). (x.loads ≡ []) × (x.looks ≡ [])) ws w a.unwatched (unseen.2, unseen.3);
  unsent = each-more (λ (x : SenderView). x.sent ≡ []) ss s a.unsent ring.1;
  free = each-more (λ (x : SenderView). x.free ≡ 4) ss s a.free ring.2;
}

pub more-fresh : (ts : List KernelView) (t : KernelView) → Each IsFresh ts → IsFresh t → Each IsFresh (ts ++ t ∷ [])
more-fresh = each-more IsFresh

-- what is opened stays so when thieves are given
pub opened-linked : (before after : List KernelView) (os : List ObserverView) (ss : List SenderView) (ws : List ObserverView) → AreOpened before os ss ws
    → map unlinked after ≡ map unlinked before → Each StoleNothing after → AreOpened after os ss ws
opened-linked before after os ss ws a same idle = record {
  numbers = λ k t e. let o = was k t e in sym (ap (λ (x : KernelView). x.number) o.2) ∙ a.numbers k o.0 o.1;
  fresh = λ k t e. let o = was k t e in subst IsFresh o.2 (a.fresh k o.0 o.1);
  thieves = idle;
  observed = a.observed ∙ sym (pages (λ (x : KernelView). x.thread.publisher.page));
  watched = a.watched ∙ sym (pages (λ (x : KernelView). x.thread.publisher.page));
  rings = a.rings ∙ sym (pages (λ (x : KernelView). x.thread.taker.ring));
  unseen = a.unseen;
  unwatched = a.unwatched;
  unsent = a.unsent;
  free = a.free;
}
  where
    was : (k : ℕ) (t : KernelView) → get_elem? after k ≡ some t → (o : KernelView) × (get_elem? before k ≡ some o) × (unlinked o ≡ unlinked t)
    was k t e = map-at unlinked before k (unlinked t) (subst (λ l. get_elem? l k ≡ some (unlinked t)) same (at_map unlinked after k t e))

    pages : {U : Type 0} (f : KernelView → U) → map (λ x. f (unlinked x)) after ≡ map (λ x. f (unlinked x)) before
    pages f = same-through f unlinked after before same

abbrev Untouched : ℕ → List KernelView → Type 0
Untouched k threads = (numbers_at k threads ≡ []) × (shares_at k threads ≡ 16)

there : {T : Type 0} (xs : List T) (k : ℕ) → k < length xs → (x : T) × (get_elem? xs k ≡ some x)
there [] k within = absurd (omega (arith, within))
there (x ∷ xs) zero within = (x, refl)
there (x ∷ xs) (suc k) within = there xs k (omega (arith, within))

pub untouched : (threads : List KernelView) → Each IsFresh threads → (k : ℕ) → k < length threads → Untouched k threads
untouched threads fresh k within = let t = there threads k within in let f = fresh k t.0 t.1 in (
  at-get_or (map thieves_of threads) k (thieves_of t.0) [] (at_map thieves_of threads k t.0 t.1) ∙ ap (map (λ (v : Source). v.number)) f.sources,
  at-get_or (map (λ (x : KernelView). x.thread.queue.shares) threads) k t.0.thread.queue.shares 0 (at_map (λ (x : KernelView). x.thread.queue.shares) threads k t.0 t.1) ∙ f.shares,
)

nothing-lent : (j : ℕ) (threads : List KernelView) → Each IsFresh threads → lent j (map place threads) ≡ 0
nothing-lent j [] fresh = refl
nothing-lent j (t ∷ ts) fresh = let a : lent_to j (place t) ≡ 0 = ap (λ (vs : List Source). weigh (λ (x : ℕ × QueueId). one_if (nat_eq x.0 j)) (map thief_place vs)) (fresh 0 t refl).sources in
    let b = nothing-lent j ts (λ k. fresh (suc k)) in omega (arith, a, b)

-- threads without thieves are a team
pub fresh-team : (threads : List KernelView) → Each IsFresh threads → IsTeam (map place threads)
fresh-team threads fresh = record {
  thieves = λ k p e i x f. let t = map-at place threads k p e in
      let none : p.thieves ≡ [] = sym (ap (λ (q : Place). q.thieves) t.2) ∙ ap (map thief_place) (fresh k t.0 t.1).sources in
      absurd (some-ne-none x (sym (subst (λ l. get_elem? l i ≡ some x) none f)));
  shares = λ k p e. let t = map-at place threads k p e in let s : p.shares ≡ 16 = sym (ap (λ (q : Place). q.shares) t.2) ∙ (fresh k t.0 t.1).shares in
      let n = nothing-lent k threads fresh in omega (arith, s, n);
}

first-suc : (tasks : List Task) (t : ℕ) → t < length tasks → first_thread tasks (suc t) ≡ first_thread tasks t + (task_at tasks t).limit
first-suc tasks t h = let e : t + 1 ≡ suc t = omega arith in subst (λ (m : ℕ). first_thread tasks m ≡ first_thread tasks t + (task_at tasks t).limit) e (first_next tasks t h)

first-before : (tasks : List Task) (s t : ℕ) → s < t → t ≤ length tasks → first_thread tasks s + (task_at tasks s).limit ≤ first_thread tasks t
first-before tasks s zero before h = absurd (omega (arith, before))
first-before tasks s (suc t) before h = let n = first-suc tasks t (omega (arith, h)) in
    elim (ℕ_discrete s t) [
      | yes same ↦ let e : first_thread tasks s + (task_at tasks s).limit ≡ first_thread tasks t + (task_at tasks t).limit = ap (λ (m : ℕ). first_thread tasks m + (task_at tasks m).limit) same in omega (arith, n, e)
      | no differ ↦ let e = first-before tasks s t (omega (arith, before, differ)) (omega (arith, h)) in omega (arith, n, e)
    ]

-- the tasks before this one are linked, and the threads from its first on have no thieves yet
pub record LinkedUpTo (tasks : List Task) (t : ℕ) (start threads : List KernelView) : Type 0 where
  pub team : IsTeam (map place threads)
  pub same : map unlinked threads ≡ map unlinked start
  pub idle : Each StoleNothing threads
  pub done : (s : ℕ) → s < t → IsLinked (first_thread tasks s) (task_at tasks s).limit ((task_at tasks s).limit - 1) threads
  pub due : (k : ℕ) → first_thread tasks t ≤ k → k < length threads → Untouched k threads

pub none-linked : (tasks : List Task) (threads : List KernelView) → Each IsFresh threads → LinkedUpTo tasks 0 threads threads
none-linked tasks threads fresh = record {
  team = fresh-team threads fresh;
  same = refl;
  idle = all-idle threads fresh;
  done = λ s before. absurd (omega (arith, before));
  due = λ k _ within. untouched threads fresh k within;
}

pub one-more-linked : (tasks : List Task) (t : ℕ) (start before after : List KernelView) → t < length tasks → length after ≡ length before → LinkedUpTo tasks t start before
    → Links (first_thread tasks t) (task_at tasks t).limit before after → IsLinked (first_thread tasks t) (task_at tasks t).limit ((task_at tasks t).limit - 1) after
    → LinkedUpTo tasks (t + 1) start after
one-more-linked tasks t start before after within long so_far links linked = record {
  team = links.team;
  same = links.same ∙ so_far.same;
  idle = links.thieves so_far.idle;
  done = λ s h. elim (ℕ_discrete s t) [
    | yes e ↦ subst (λ (m : ℕ). IsLinked (first_thread tasks m) (task_at tasks m).limit ((task_at tasks m).limit - 1) after) (sym e) linked
    | no differ ↦ let b = first-before tasks s t (omega (arith, h, differ)) (omega (arith, within)) in let l = so_far.done s (omega (arith, h, differ)) in record {
      numbers = λ p w. (links.outside (first_thread tasks s + p) (λ g. absurd (omega (arith, b, w, g)))).0 ∙ l.numbers p w;
      shares = λ p w. let o = (links.outside (first_thread tasks s + p) (λ g. absurd (omega (arith, b, w, g)))).1 in let q = l.shares p w in omega (arith, o, q);
    }
  ];
  due = λ k past w. let n = first_next tasks t within in let o = links.outside k (λ _. omega (arith, n, past)) in
      let u = so_far.due k (omega (arith, n, past)) (omega (arith, w, long)) in (o.0 ∙ u.0, o.1 ∙ u.1);
}

pub linked-task : (tasks : List Task) (t first count : ℕ) (start before after : List KernelView) → first ≡ first_thread tasks t → count ≡ (task_at tasks t).limit → t < length tasks
    → length after ≡ length before → LinkedUpTo tasks t start before → Links first count before after → IsLinked first count (count - 1) after → LinkedUpTo tasks (t + 1) start after
linked-task tasks t first count start before after first_is count_is h long so_far links linked = one-more-linked tasks t start before after h long so_far
    (subst (λ (f : ℕ). Links f (task_at tasks t).limit before after) first_is (subst (λ (c : ℕ). Links first c before after) count_is links))
    (subst (λ (f : ℕ). IsLinked f (task_at tasks t).limit ((task_at tasks t).limit - 1) after) first_is (subst (λ (c : ℕ). IsLinked first c (c - 1) after) count_is linked))

-- a slice of all of a list, written back
pub written-back : {T : Type 0} (xs ys : List T) (n : ℕ) → n ≡ length ys → length xs ≡ length ys → take n (xs ++ drop (length xs) ys) ≡ xs
written-back [] [] zero long same = refl
written-back [] [] (suc n) long same = absurd (omega (arith, long))
written-back [] (y ∷ ys) n long same = absurd (omega (arith, same))
written-back (x ∷ xs) [] n long same = absurd (omega (arith, same))
written-back (x ∷ xs) (y ∷ ys) zero long same = absurd (omega (arith, long))
written-back (x ∷ xs) (y ∷ ys) (suc n) long same = ap (λ l. x ∷ l) (written-back xs ys n (omega (arith, long)) (omega (arith, same)))
