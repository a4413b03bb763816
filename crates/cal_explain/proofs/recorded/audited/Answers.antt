use Rattle.std.proofs.Common.{◌<◌, ◌≤◌, ◌^◌, ◌++◌, ◌∷◌, [], List, length, get_or, length-take-le, sym, take, take_all, arith, subst}
use Rattle.std.proofs.lemmas.List.{take_more}
use Rattle.cal_policy.specs.Policies.{IsAuditBy, IsVerdictBy}
use Rattle.cal_policy.specs.declared.history.entry.PassEntry.{PassEntry}
use Rattle.cal_explain.proofs.recorded.audited.Goals as goal

pub loop-entry-preserved : goal.loop-entry-preserved
loop-entry-preserved c =
    let xs = c.args.history.now in
    let i = c.loop-entry.entry-index in
    let within : i < length xs = c.loop-entry-test.true in
    let short : length (take i xs) < 2 ^ 64 = omega (arith, within, length-take-le i xs (omega (arith, within))) in
    let P : List PassEntry → Type 0 = λ l. IsAuditBy c.args.policy c.args.config.now l c.next.new.self in
    record {
      audits = subst P (sym (take_more xs i c.entry-item.result within))
          (subst (λ (e : PassEntry). P (take i xs ++ e ∷ [])) c.entry-item.is (c.next.ensures.own c.args.policy (take i xs) short c.loop-entry.invariant.audits));
      of = c.next.ensures.of;
    }

pub returns : goal.returns
returns c =
    let xs = c.args.history.now in
    let i = c.loop-entry.entry-index in
    let end = c.loop-entry-test.false in
    let all : length xs ≤ i = omega (arith, end) in
    subst (λ (l : List PassEntry). IsVerdictBy c.args.policy c.args.config.now l c.verdict.result) (take_all i xs all)
    (c.verdict.ensures.own c.args.policy c.args.config.now (take i xs) c.loop-entry.invariant.audits)
