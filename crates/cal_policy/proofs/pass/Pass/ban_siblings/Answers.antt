-- Each pair with a taken core gives what is due, and the pairs between give nothing.
use Rattle.cal_policy.proofs.Common.{◌≡◌, ◌*◌, ◌/◌, ◌+◌, ◌≤◌, ◌++◌, ap, ◌∙◌, arith, in_turn, in_pair, setting_in, bans_at_by}
use Rattle.cal_policy.proofs.PassLemmas.PartSoFar.{Reached_step, Reached_skip}
use Rattle.cal_policy.proofs.PassLemmas.Pairs.{in_turn_pairs}
use Rattle.cal_policy.proofs.PassLemmas.NothingDue.{ban_pair_past}
use Rattle.cal_policy.proofs.pass.Pass.ban_siblings.Goals as goal

pub loop-core-preserved : goal.loop-core-preserved
loop-core-preserved c =
    let p = c.args.self.now.terms.now.policy in
    let i = c.loop-core.invariant in
    let core = c.in-Some.core in
    let most = c.requires.of_table.accepted.machine.most in
    let even = c.requires.of_table.accepted.machine.even in
    let below = c.in-Some.ensures.next.1 in
    let from = c.in-Some.ensures.next.0 in
    let later : c.loop-core.next ≤ core / 2 = omega (arith, from) in record {
      acts = λ h st. let s = setting_in c.args.self.now h in let r = i.acts h st in
          Reached_step (in_pair (bans_at_by p s)) s c.args.out.now _ _ c.loop-core.board _ (core / 2) _
          (Reached_skip (in_pair (bans_at_by p s)) s c.args.out.now _ c.loop-core.board c.loop-core.next (core / 2) later
          (λ k a b. ban_pair_past p c.loop-core.over c.loop-core.board s c.loop-core.out r.1 i.ready i.over k (omega (arith, a, b, below, most))
          (c.in-Some.ensures.between (2 * k) (omega (arith, a)) (omega (arith, b)))
          (c.in-Some.ensures.between (2 * k + 1) (omega (arith, a)) (omega (arith, b)))) r)
          (c.ban_in_pair-both.ensures.due h _ r.1) c.make_both.ensures.out (c.make_both.ensures.stands s);
      ready = c.make_both.ensures.ready;
      over = c.some_may_be_over-over.ensures;
      length = omega (arith, c.make_both.ensures.length, i.length, later);
      next = omega (arith, below, even);
    }

pub returns-clause-acts : goal.returns-clause-acts
returns-clause-acts c = λ h st.
    let p = c.args.self.now.terms.now.policy in
    let s = setting_in c.args.self.now h in
    let i = c.loop-core.invariant in
    let r = i.acts h st in
    let most = c.requires.of_table.accepted.machine.most in
    let even = c.requires.of_table.accepted.machine.even in
    let half = c.args.self.now.config.now.cores / 2 in
    let e : 2 * half ≡ s.table.cores = omega (arith, even) in
    let all = Reached_skip (in_pair (bans_at_by p s)) s c.args.out.now _ c.loop-core.board c.loop-core.next half (omega (arith, i.next))
    (λ k a b. ban_pair_past p c.loop-core.over c.loop-core.board s c.loop-core.out r.1 i.ready i.over k (omega (arith, b, most))
    (c.in_default.ensures.none (2 * k) (omega (arith, a)) (omega (arith, b)))
    (c.in_default.ensures.none (2 * k + 1) (omega (arith, a)) (omega (arith, b)))) r in
    (all.0 ∙ ap (λ l. c.args.out.now ++ l) (in_turn_pairs (bans_at_by p s) c.args.out.now half ∙ ap (in_turn (bans_at_by p s) c.args.out.now) e), all.1)
