use Rattle.std.proofs.Common.{rules, arith, [], ◌∷◌, ◌++◌, ◌∙◌, Some, Ok, map, ap, sym, subst}
use Rattle.std.specs.Option.{unwrap_or}
use Rattle.std.proofs.lemmas.Iterator.Consumers.{YieldsList-end}
use Rattle.std.proofs.lemmas.Iterator.Adapters.{YieldsList-from_vec}
use Rattle.std.proofs.lemmas.List.{map-append, map-id}
use Rattle.std.proofs.lemmas.List.Elements.{Contains-append_left, Contains-push}
use Rattle.cal_run.specs.declared.fault.SimFault.{SimFault}
use Rattle.cal_run.specs.declared.fault.SimFault.TheVariants.{Gate}
use Rattle.cal_threads.specs.Faults.{IsLeast}
use Rattle.cal_threads.proofs.Pairs.{pairs_push, pairs_pushed}
use Rattle.cal_threads.proofs.Ends.{IsLeastSoFar, ended_by_gate, least_is_gate, least_with_fault, least_with_value}
use Rattle.cal_threads.proofs.kernel_threads.join_workers.Goals as goal

-- A kernel thread came back.
pub loop-thread-preserved-in-Ok : goal.loop-thread-preserved-in-Ok
loop-thread-preserved-in-Ok g c =
    let was = c.loop-thread.invariant in
    let noted = c.in-Ok.ensures.noted in
    let pushed = rw c.unwrap.ensures at c.push.ensures.items in (
      grind (arith, pairs_push),
      (λ gate. let end = was.1 gate in (end.0, Contains-append_left _ _ _ end.1, end.2)),
      search rules,
      pairs_pushed _ _ _ _ _ _ was.3 c.in-Ok.ensures.kept noted,
      subst (λ l. IsLeastSoFar l c.loop-thread.fault) (sym noted) (least_with_value _ _ _ was.4),
      (λ none. noted ∙ ap (λ l. l ++ Ok c.in-Ok.worker ∷ []) (was.5 none) ∙ sym (map-append (λ x. Ok x) c.loop-thread.workers.items (c.in-Ok.worker ∷ []))
          ∙ ap (map (λ x. Ok x)) (sym pushed)),
    )

-- A fault came. Where the least is the gate's, so is this one.
pub loop-thread-preserved : goal.loop-thread-preserved
loop-thread-preserved g c =
    let was = c.loop-thread.invariant in
    let noted = c.in-Err.ensures.noted in (
      (λ none. cc),
      (λ gate. (c.in-Some.thread, Contains-push _ _, ended_by_gate _ _ c.in-Err.ensures.kept (least_is_gate _ _ _ c.least.ensures (ap (λ o. unwrap_or o Gate) gate)))),
      search rules,
      pairs_pushed _ _ _ _ _ _ was.3 c.in-Err.ensures.kept noted,
      subst (λ l. IsLeastSoFar l (Some c.least.result)) (sym noted)
          (least_with_fault _ _ _ _ was.4 (subst (λ (f : SimFault). IsLeast c.in-Err.other f c.least.result) c.unwrap_or.ensures c.least.ensures)),
      (λ none. absurd (cc)),
    )

-- No thread was joined yet.
pub loop-thread-init : goal.loop-thread-init
loop-thread-init g c =
    let none = c.none-answers.ensures in (
      grind arith,
      (λ gate. absurd (cc)),
      search rules,
      rw none tt,
      rw none (λ other at. absurd (omega (arith, at.1))),
      (λ start. none ∙ sym (ap (map (λ x. Ok x)) c.requires.empty)),
    )

-- All threads were joined.
pub returns-in-None-fault-clause-answered : goal.returns-in-None-fault-clause-answered
returns-in-None-fault-clause-answered g c =
    let began = c.into_iter-thread-iterator.ensures.into_iter_gives in
    let end = YieldsList-end (YieldsList-from_vec {s = c.into_iter-thread-iterator.result} _ began.0 (began.1 ∙ c.args.threads.ok.0)) _ _ c.loop-thread.yielded_by _ c.next.new.self c.in-None.is c.next.ensures.steps in
    rw (← end.0, map-id c.loop-thread.yielded) c.loop-thread.invariant.3

pub returns-in-Some-fault-clause-answered : goal.returns-in-Some-fault-clause-answered
returns-in-Some-fault-clause-answered g c =
    let began = c.into_iter-thread-iterator.ensures.into_iter_gives in
    let end = YieldsList-end (YieldsList-from_vec {s = c.into_iter-thread-iterator.result} _ began.0 (began.1 ∙ c.args.threads.ok.0)) _ _ c.loop-thread.yielded_by _ c.next.new.self c.in-None.is c.next.ensures.steps in
    rw (← end.0, map-id c.loop-thread.yielded) c.loop-thread.invariant.3

pub returns-in-Some-fault-clause-least : goal.returns-in-Some-fault-clause-least
returns-in-Some-fault-clause-least g c = subst (IsLeastSoFar c.loop-thread.answers.noted) c.in-Some-fault.is c.loop-thread.invariant.4

pub returns-in-Some-fault-clause-ended : goal.returns-in-Some-fault-clause-ended
returns-in-Some-fault-clause-ended g c =
    let began = c.into_iter-thread-iterator.ensures.into_iter_gives in
    let end = YieldsList-end (YieldsList-from_vec {s = c.into_iter-thread-iterator.result} _ began.0 (began.1 ∙ c.args.threads.ok.0)) _ _ c.loop-thread.yielded_by _ c.next.new.self c.in-None.is c.next.ensures.steps in
    λ gate. rw (← end.0, map-id c.loop-thread.yielded) (c.loop-thread.invariant.1 (c.in-Some-fault.is ∙ ap Some gate))
