use Rattle.cal_kthread.proofs.Common.{◌≡◌, ◌∷◌, ◌++◌, [], List, length, map, sym, ap, subst, ◌∙◌, ⊎_elim, append_assoc, arith, map-append, into_iter_items, at_snoc, KeepsItsWork, HandedOutNothing, EndView, RestView, place_of, place_of_rest, KernelView}
use Rattle.cal_kthread.proofs.end.ending.end_all.Goals as goal

-- what is the same of each of two lists is so with one more that agree
one_more_each : {X Y Z : Type 0} (f : X → Z) (g : Y → Z) (xs : List X) (ys : List Y) (x : X) (y : Y) → map f xs ≡ map g ys → f x ≡ g y
    → map f (xs ++ x ∷ []) ≡ map g (ys ++ y ∷ [])
one_more_each {X} {Y} {Z} f g xs ys x y same last =
    map-append f xs (x ∷ []) ∙ ap (λ (l : List Z). l ++ f x ∷ []) same ∙ ap (λ (z : Z). map g ys ++ z ∷ []) last ∙ sym (map-append g ys (y ∷ []))

pub loop-thread-preserved : goal.loop-thread-preserved
loop-thread-preserved c =
    let at = c.loop-thread in
    let thread = c.in-Some.thread in
    let steps : into_iter_items at.thread-iterator ≡ thread ∷ into_iter_items c.next.new.self = c.in-Some.ensures.steps.0 in record {
      whole = append_assoc at.yielded (thread ∷ []) _ ∙ rw (← steps) at.invariant.whole;
      places = rw c.in_ok-push.ensures.items
          (one_more_each (λ (e : EndView). place_of_rest e.rest) (λ (t : KernelView). place_of t.thread) at.ends.items at.yielded c.end.result thread at.invariant.places c.end.ensures.place);
      journals = rw c.in_ok-push.ensures.items
          (one_more_each (λ (e : EndView). e.journal) (λ (t : KernelView). t.journal) at.ends.items at.yielded c.end.result thread at.invariant.journals c.end.ensures.journal);
      work = rw c.in_ok-push.ensures.items (λ k e here. ⊎_elim (at.invariant.work k e) (λ (same : c.end.result ≡ e). subst KeepsItsWork same c.end.ensures.work) (at_snoc at.ends.items c.end.result e k here));
      untouched = rw c.in_ok-push.ensures.items (λ k e here. ⊎_elim (at.invariant.untouched k e) (λ (same : c.end.result ≡ e). subst HandedOutNothing same (ap (λ (r : RestView). r.left) c.end.ensures.rest)) (at_snoc at.ends.items c.end.result e k here));
      len = (let was = at.invariant.len in let gone = c.in-Some.ensures.steps.1 in let short = ap length steps in omega arith);
    }
