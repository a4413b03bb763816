use Rattle.cal_policy.proofs.PolicyLemmas.{orderly_by}
use Rattle.cal_world.proofs.world.refusing.is_next_pass.Goals as goal

pub is_pass_by-requires : goal.is_pass_by-requires
is_pass_by-requires c = orderly_by c.args.policy c.args.config.now c.args.history.now c.limits.ensures c.requires
