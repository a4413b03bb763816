-- Of each pair with a banned core that one's ban ends where it is due, and the pairs between give nothing.
use Rattle.cal_policy.proofs.Common.{◌≡◌, ◌*◌, ◌/◌, ◌+◌, ◌<◌, ◌≤◌, ◌++◌, ap, sym, ◌∙◌, arith, in_turn, in_pair, setting_in, unban_at_by}
use Rattle.cal_policy.proofs.AssuredLemmas.ByHolders.{counts_on}
use Rattle.cal_policy.proofs.PassLemmas.PartSoFar.{Reached_step, Reached_skip}
use Rattle.cal_policy.proofs.PassLemmas.Pairs.{in_turn_pairs, unban_alone, unban_pair_keeps}
use Rattle.cal_policy.proofs.PassLemmas.NothingDue.{unban_pair_not_banned}
use Rattle.cal_policy.proofs.pass.Pass.end_bans.Goals as goal

pub loop-core-preserved : goal.loop-core-preserved
loop-core-preserved c =
    let p = c.args.self.now.terms.now.policy in
    let i = c.loop-core.invariant in
    let core = c.in-Some.core in
    let most = c.requires.of_table.accepted.machine.most in
    let even = c.requires.of_table.accepted.machine.even in
    let below = c.in-Some.ensures.next.1 in
    let from = c.in-Some.ensures.next.0 in
    let later : c.loop-core.next ≤ core / 2 = omega (arith, from) in
    let low : core < 128 = omega (arith, below, most) in record {
      acts = λ h apart st. let s = setting_in c.args.self.now h in let r = i.acts h apart st in
          Reached_step (in_pair (unban_at_by p s)) s c.args.out.now _ _ c.loop-core.board _ (core / 2) _
          (Reached_skip (in_pair (unban_at_by p s)) s c.args.out.now _ c.loop-core.board c.loop-core.next (core / 2) later
          (λ k a b. unban_pair_not_banned p c.loop-core.board s c.loop-core.out r.1 k (omega (arith, a, b, below, most))
          (c.in-Some.ensures.between (2 * k) (omega (arith, a)) (omega (arith, b)))
          (c.in-Some.ensures.between (2 * k + 1) (omega (arith, a)) (omega (arith, b)))) r)
          (c.unban_due_counting-action.ensures.due h _ r.1 (i.counted h apart st)
          ∙ unban_alone p s c.loop-core.out core (i.apart h apart st) (sym (r.1.agrees.banned.banned core low) ∙ c.in-Some.ensures.member))
          c.make.ensures.out (c.make.ensures.stands s);
      apart = λ h apart st. let s = setting_in c.args.self.now h in let r = i.acts h apart st in
          rw (
            c.make.ensures.out,
            c.unban_due_counting-action.ensures.due h _ r.1 (i.counted h apart st),
            unban_alone p s c.loop-core.out core (i.apart h apart st) (sym (r.1.agrees.banned.banned core low) ∙ c.in-Some.ensures.member),
          )
          (unban_pair_keeps p s c.loop-core.out (core / 2) (i.apart h apart st));
      counted = λ h apart st. let s = setting_in c.args.self.now h in let r = i.acts h apart st in
          rw (c.make.ensures.out, c.unban_due_counting-action.ensures.due h _ r.1 (i.counted h apart st))
          (counts_on p s c.loop-core.out core _ (c.unban_due_counting-action.ensures.counted h _ r.1 (i.counted h apart st)));
      ready = c.make.ensures.ready;
      length = omega (arith, c.make.ensures.length, i.length, later);
      next = omega (arith, below, even);
    }

pub returns-clause-acts : goal.returns-clause-acts
returns-clause-acts c = λ h apart st.
    let p = c.args.self.now.terms.now.policy in
    let s = setting_in c.args.self.now h in
    let r = c.loop-core.invariant.acts h apart st in
    let most = c.requires.of_table.accepted.machine.most in
    let even = c.requires.of_table.accepted.machine.even in
    let half = c.args.self.now.config.now.cores / 2 in
    let e : 2 * half ≡ s.table.cores = omega (arith, even) in
    let all = Reached_skip (in_pair (unban_at_by p s)) s c.args.out.now _ c.loop-core.board c.loop-core.next half (omega (arith, c.loop-core.invariant.next))
    (λ k a b. unban_pair_not_banned p c.loop-core.board s c.loop-core.out r.1 k (omega (arith, b, most))
    (c.in_default.ensures.none (2 * k) (omega (arith, a)) (omega (arith, b)))
    (c.in_default.ensures.none (2 * k + 1) (omega (arith, a)) (omega (arith, b)))) r in
    (all.0 ∙ ap (λ l. c.args.out.now ++ l) (in_turn_pairs (unban_at_by p s) c.args.out.now half ∙ ap (in_turn (unban_at_by p s) c.args.out.now) e), all.1)
