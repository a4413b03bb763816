use Rattle.std.proofs.Common.{◌≡◌, ◌<◌, List, Some, ap, get_or, length, refl, slice_get, subst, sym, arith}
use Rattle.std.proofs.lemmas.Option.{slice_get-get_or, slice_get_read}
use Rattle.cal_trace.specs.declared.arrivals.GivenPass.{GivenPass}
use Rattle.cal_replay.proofs.replayer.Replayer.pass_of.Goals as goal

pub pass-requires-clause-range : goal.pass-requires-clause-range
pass-requires-clause-range c =
    let h = c.args.history.now in
    let many = c.requires.many in
    let low = c.requires.here in
    let here = slice_get_read h (length h) c.args.p c.index-history-p.result refl (omega (arith, many, low)) c.index-history-p.is in
    c.requires.range.each.at c.args.p c.index-history-p.result here

pub returns-in-Err-clause-fault : goal.returns-in-Err-clause-fault
returns-in-Err-clause-fault c =
    let h = c.args.history.now in
    let p = c.args.p in
    let many = c.requires.many in
    let low = c.requires.here in
    let here = slice_get_read h (length h) p c.index-history-p.result refl (omega (arith, many, low)) c.index-history-p.is in
    let all = c.as_slice.result.now in
    let few : p < length all = subst (λ (l : List GivenPass). p < length l) (sym c.as_slice.ensures) low in
    let given : GivenPass = get_or all p (record { now = 0; bandwidth = 0 }) in
    let at : slice_get c.args.arrivals.now.passes p ≡ Some given = subst (λ (l : List GivenPass). slice_get l p ≡ Some given) c.as_slice.ensures (slice_get-get_or all p _ few) in
    (c.index-history-p.result, given, here, at, c.requires.replayed.permitted, c.in-Err.ensures.fault _ c.requires.replayed)
