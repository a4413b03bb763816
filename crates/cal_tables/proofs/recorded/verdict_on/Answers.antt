use Rattle.cal_tables.proofs.Common.{◌<◌, ◌≤◌, ◌^◌, ◌++◌, ◌∷◌, [], List, length, length-take-le, take, take_all, arith, subst, grown, IsAuditBy, IsVerdictBy, PassEntry}
use Rattle.cal_tables.proofs.recorded.verdict_on.Goals as goal

pub loop-entry-preserved : goal.loop-entry-preserved
loop-entry-preserved c =
    let xs = c.args.history.now in
    let i = c.loop-entry.entry-index in
    let within : i < length xs = c.loop-entry-test.true in
    let few = c.requires in
    let short : length (take i xs) < 2 ^ 64 = omega (arith, within, few, length-take-le i xs (omega (arith, within))) in
    record {
      audits = grown (λ (l : List PassEntry). IsAuditBy c.args.policy c.args.config.now l c.next.new.self) xs i _ within
          (subst (λ (e : PassEntry). IsAuditBy c.args.policy c.args.config.now (take i xs ++ e ∷ []) c.next.new.self) c.entry-item.is
          (c.next.ensures.own c.args.policy (take i xs) short c.loop-entry.invariant.audits));
      of = c.next.ensures.of;
    }

pub returns : goal.returns
returns c =
    let xs = c.args.history.now in
    let i = c.loop-entry.entry-index in
    let end = c.loop-entry-test.false in
    let all : length xs ≤ i = omega (arith, end) in
    subst (λ (l : List PassEntry). IsVerdictBy c.args.policy c.args.config.now l c.verdict.result) (take_all i xs all)
    (c.verdict.ensures.own c.args.policy c.args.config.now (take i xs) c.loop-entry.invariant.audits)
