use Rattle.cal_linear.proofs.Common.{◌≡◌, ◌++◌, List, arith, rules, ap, ◌∙◌, sym, subst, replicate, length, take, Event, linear, passes_and_rests, watch_events, whole_looks_of, no_front, places_in, IsLinearisedBy}
use Rattle.cal_linear.proofs.Order.{places_none}
use Rattle.cal_policy.proofs.PolicyLemmas.{pass_at_by, pass_input}
use Rattle.cal_linear.proofs.linear.linearise_by.Goals as goal

pub append_run-requires-clause-looks : goal.append_run-requires-clause-looks
append_run-requires-clause-looks c = λ p entry e. let size = (pass_input c.args.policy c.args.config.now (take p c.args.history.now) entry (pass_at_by c.args.policy c.args.config.now c.args.history.now c.requires.run.legal p entry e)).looks.looks in let count = c.requires.run.count in omega (arith, size, count)

pub append_run-requires-clause-first : goal.append_run-requires-clause-first
append_run-requires-clause-first c =
    let journals = c.args.journals.now in
    let made : c.in_ok-fronts.fronts.items ≡ replicate (length journals) no_front = search rules in
    ap places_in (c.as_mut_slice.ensures.value ∙ made) ∙ places_none (length journals)

pub returns : goal.returns
returns c =
    let journals = c.args.journals.now in
    let history = c.args.history.now in
    let watched = c.args.watched.now in
    let all : c.append_watches.new.events.items ≡ linear history journals watched =
    c.in_ok-append_watches.ensures ∙ ap (λ (l : List Event). l ++ watch_events (whole_looks_of watched)) (c.in_ok-append_run.ensures ∙ ap (λ (l : List Event). l ++ passes_and_rests history journals) c.new-events.ensures.items) in
    let P : List Event → Type 0 = λ events. IsLinearisedBy c.args.policy c.args.config.now history journals watched events in
    record { legal = subst P (sym all) (c.linear_is_legal_by.ensures c.args.policy c.args.config.now history journals watched c.requires.run c.requires.watched); order = all }
