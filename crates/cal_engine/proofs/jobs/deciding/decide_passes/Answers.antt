use Rattle.cal_engine.proofs.Common.{◌≡◌, ◌<◌, ◌+◌, ◌^◌, ◌++◌, ◌∷◌, [], Err, length, length-append, refl, sym, ap, ◌∙◌, arith, rules, threads_in, IsInput, rows_of, HasGiven, decided_pass, input_of}
use Rattle.cal_machine.specs.TableTasks.{threads_of_table}
use Rattle.cal_trace.specs.Signals.Fitting.{IsFittingPass}
use Rattle.cal_trace.specs.Signals.{signals_of}
use Rattle.cal_trace.proofs.SignalLemmas.Accepted.{last_fits}
use Rattle.cal_trace.proofs.GivenSignals.{few_given}
use Rattle.cal_input.specs.declared.fault.RunFault.TheVariants as fault
use Rattle.cal_engine.proofs.Decided.{IsDecided-none, IsDecided-append, judged_is_input}
use Rattle.cal_engine.proofs.InTurn.{all_decided, refused_signals}
use Rattle.cal_engine.proofs.jobs.deciding.decide_passes.Goals as goal

pub loop-decider-init : goal.loop-decider-init
loop-decider-init g c = record {
  ready = c.requires.ready;
  of = c.in_ok-decider.ensures.of;
  by = c.in_ok-decider.ensures.policy;
  deciding = λ trace has. record {
    given = [];
    history = [];
    has = has;
    so_far = IsDecided-none c.args.policy c.args.config.now;
    decided = record { agrees = c.in_ok-decider.ensures.agrees; kept = c.requires.opened };
    count = refl;
  };
}

pub hand_on-requires-clause-looks : goal.hand_on-requires-clause-looks
hand_on-requires-clause-looks g c =
    let some = c.requires.given in
    let before = c.loop-decider.invariant.deciding some.0 some.1 in
    let threads = threads_in c.args.config.now.tasks in
    let has = rw c.in-Some.is at (c.in_ok-pass.ensures.gives threads some.0 before.given before.has) in
    (last_fits threads before.given c.in-Some.pass has.fit.before).looks

pub loop-decider-preserved : goal.loop-decider-preserved
loop-decider-preserved g c = record {
  ready = rw c.in-Some.is at c.in_ok-pass.ensures.ready;
  of = c.in_ok-hand_on.ensures.of;
  by = c.in_ok-hand_on.ensures.policy ∙ c.loop-decider.invariant.by;
  deciding = λ trace start.
      let table = c.args.config.now in
      let threads = threads_in table.tasks in
      let policy = c.args.policy in
      let by = c.loop-decider.invariant.by in
      let before = c.loop-decider.invariant.deciding trace start in
      let given = before.given in
      let h = before.history in
      let pass = c.in-Some.pass in
      let has : HasGiven threads trace (given ++ pass ∷ []) c.next.new.self = rw c.in-Some.is at (c.in_ok-pass.ensures.gives threads trace given before.has) in
      let fits : IsFittingPass (threads_of_table table) given pass = last_fits threads given pass has.fit.before in
      let input : IsInput table h (input_of table h pass) = judged_is_input table h given pass before.so_far.shown fits in
      let few : length h + 1 < 2 ^ 64 = omega (arith, before.count, length-append given (pass ∷ []), few_given threads trace (given ++ pass ∷ []) c.next.new.self has) in
      record {
        given = given ++ pass ∷ [];
        history = h ++ decided_pass policy table h pass ∷ [];
        has = has;
        so_far = IsDecided-append policy table given h pass fits before.so_far;
        decided = rw by at (c.in_ok-hand_on.ensures.decided h (rw by before.so_far.legal) input few before.decided);
        count = length-append h (decided_pass policy table h pass ∷ []) ∙ ap (λ n. n + 1) before.count ∙ sym (length-append given (pass ∷ []));
      };
}

pub returns-in_err-pass-clause-decided : goal.returns-in_err-pass-clause-decided
returns-in_err-pass-clause-decided g c = λ trace start.
    let table = c.args.config.now in
    let threads = threads_in table.tasks in
    let before = c.loop-decider.invariant.deciding trace start in
    let same : c.from_residual-in_err-pass.result ≡ Err (fault.Trace c.in_err-pass.field-0.0) = search rules in
    rw same (refused_signals c.args.policy table (signals_of threads (rows_of trace)) c.in_err-pass.field-0.0 (c.in_err-pass.ensures.gives threads trace before.given before.has))

pub returns-clause-decided : goal.returns-clause-decided
returns-clause-decided g c = λ trace start.
    let table = c.args.config.now in
    let threads = threads_in table.tasks in
    let before = c.loop-decider.invariant.deciding trace start in
    let gives = rw c.in_default.is at (c.in_ok-pass.ensures.gives threads trace before.given before.has) in
    all_decided c.args.policy (g.K.Keeper.keeps c.loop-decider.keeper) table (signals_of threads (rows_of trace)) before.given before.history c.loop-decider.decider gives before.so_far c.loop-decider.invariant.by before.decided
