use Rattle.cal_facts.proofs.Common.{◌≡◌, [], ◌∷◌, ◌++◌, Err, refl, arith, rules, length-append, extent_of}
use Rattle.cal_input.specs.Recorded.{recorded_run_of}
use Rattle.cal_input.specs.declared.fault.RunFault.TheVariants as fault
use Rattle.cal_facts.proofs.Counted.{all_counted, no_passes, one_more, refused_rows}
use Rattle.cal_facts.proofs.counting.count_passes.Goals as goal

pub loop-history-init : goal.loop-history-init
loop-history-init c = record {
  ready = c.in_ok-_config.ensures.ready;
  counting = record {
    table = c.in_ok-_config._config;
    given = [];
    has = c.in_ok-_config.ensures.given;
    counted = refl;
  };
}

pub loop-history-preserved : goal.loop-history-preserved
loop-history-preserved c =
    let before = c.loop-history.invariant.counting in
    let table = before.table in
    let trace = before.has.trace in
    let few = one_more c.args.input.now c.loop-history.history c.loop-history.count before in
    let next = c.in_ok-_entry.ensures.gives (extent_of table) trace before.given before.has.has in
    let one = length-append before.given (c.in-Some._entry ∷ []) in
    record {
      ready = rw c.in-Some.is at c.in_ok-_entry.ensures.ready;
      counting = record {
        table = table;
        given = before.given ++ c.in-Some._entry ∷ [];
        has = record { trace = trace; parts = before.has.parts; has = rw c.in-Some.is at next };
        counted = grind (arith, few, before.counted, one);
      };
    }

pub returns-in_err-_config : goal.returns-in_err-_config
returns-in_err-_config c =
    let same : c.from_residual.result ≡ Err c.in_err-_config.field-0.0 = search rules in
    let run = recorded_run_of c.args.input.now in
    rw same (no_passes run c.in_err-_config.field-0.0 c.in_err-_config.ensures.fault)

pub returns-in_err-_entry : goal.returns-in_err-_entry
returns-in_err-_entry c =
    let before = c.loop-history.invariant.counting in
    let table = before.table in
    let trace = before.has.trace in
    let f = c.in_err-_entry.field-0.0 in
    let next = c.in_err-_entry.ensures.gives (extent_of table) trace before.given before.has.has in
    let same : c.from_residual-in_err-_entry.result ≡ Err (fault.Trace f) = search rules in
    rw same (refused_rows c.args.input.now table trace f before.has.parts next)

pub returns : goal.returns
returns c =
    let before = c.loop-history.invariant.counting in
    let table = before.table in
    let trace = before.has.trace in
    let next = c.in_ok-_entry.ensures.gives (extent_of table) trace before.given before.has.has in
    all_counted c.args.input.now c.loop-history.history c.loop-history.count before
    (rw c.in_default.is at next)
