use Rattle.cal_facts.proofs.Common.{◌≡◌, ◌++◌, ◌∷◌, ◌∙◌, ◌<◌, ◌+◌, [], ℕ, nat_eq, cond, List, Option, Some, map, take, get_or, length, sym, ap, subst, append_assoc, map-append, take_more, last_of_push, or_if, AreServed, served_by, service_of, told_of, Served}
use Rattle.cal_policy.specs.History.Lists.{last_of}
use Rattle.cal_measure.specs.declared.services.Service.{Service}
use Rattle.cal_facts.specs.declared.requests.served.ServedRequests.{ServedRequests}
use Rattle.cal_facts.proofs.requests.served.ServedRequests.put_thread.Goals as goal

told_more : (id : ℕ) (all : List Served) (one : Served) (was new : Option Served) → was ≡ service_of all id
    → new ≡ cond (nat_eq one.service.id id) (Some one) was → new ≡ service_of (all ++ one ∷ []) id
told_more id all one was new w n =
    let same = nat_eq one.service.id id in
    n ∙ ap (λ (o : Option Served). cond same (Some one) o) w ∙ sym (last_of_push (told_of id) all one ∙ or_if same one (last_of (told_of id) all))

grown : (all : List Served) (thread : ℕ) (services : List Service) (i : ℕ) (d : Service) → i < length services →
    all ++ map (served_by thread) (take (i + 1) services) ≡ (all ++ map (served_by thread) (take i services)) ++ served_by thread (get_or services i d) ∷ []
grown all thread services i d low =
    ap (λ (l : List Service). all ++ map (served_by thread) l) (take_more services i d low)
    ∙ ap (λ (l : List Served). all ++ l) (map-append (served_by thread) (take i services) (get_or services i d ∷ []))
    ∙ sym (append_assoc all (map (served_by thread) (take i services)) (served_by thread (get_or services i d) ∷ []))

pub loop-service-preserved : goal.loop-service-preserved
loop-service-preserved c = λ all was.
    let services = c.args.services.now in
    let i = c.loop-service.service-index in
    let thread = c.args.thread in
    let before = all ++ map (served_by thread) (take i services) in
    let now : ServedRequests = record { by_id = c.insert.new.self } in
    subst (λ (l : List Served). AreServed l now) (sym (grown all thread services i _ c.loop-service-test.true))
    (record { same = λ id. told_more id before _ _ _ ((c.loop-service.invariant all was).same id) (c.in_ok-insert.ensures.updates.0 id) })
