use Rattle.cal_policy.specs.declared.history.core_class.CoreClass.TheVariants as classes
use Rattle.cal_measure.specs.Actions as acts
use Rattle.cal_measure.specs.declared.actions.LossKind.TheVariants as kinds
use Rattle.cal_measure.proofs.Counting.{counted}
use Rattle.cal_measure.proofs.actions.TaskState.with_one.Goals as goal

pub returns : goal.returns
returns c = λ x low a n.
    let table = c.args.self.now.config.now in
    let t = c.args.self.now.task in
    let action = c.args.action in
    record {
      grants_beside = counted (acts.is_grant table t classes.Sibling) x action c.args.numbers.now.grants_beside _ c.is_grant.result low n.grants_beside (c.is_grant.ensures x) c.plus.ensures;
      grants_again = counted (acts.is_grant table t classes.RecentlyUsed) x action c.args.numbers.now.grants_again _ c.is_grant-2.result low n.grants_again (c.is_grant-2.ensures x) c.plus-2.ensures;
      grants_other = counted (acts.is_grant table t classes.OtherIdle) x action c.args.numbers.now.grants_other _ c.is_grant-3.result low n.grants_other (c.is_grant-3.ensures x) c.plus-3.ensures;
      lost_to_bans = counted (acts.is_loss table t kinds.Ban) x action c.args.numbers.now.lost_to_bans _ c.is_loss-by_ban.result low n.lost_to_bans (c.is_loss-by_ban.ensures x a) c.plus-4.ensures;
      lost_to_bandwidth = counted (acts.is_loss table t kinds.Bandwidth) x action c.args.numbers.now.lost_to_bandwidth _ c.is_loss-by_bandwidth.result low n.lost_to_bandwidth (c.is_loss-by_bandwidth.ensures x a) c.plus-5.ensures;
      lost_to_tasks = counted (acts.is_loss table t kinds.Task) x action c.args.numbers.now.lost_to_tasks _ c.is_loss-by_task.result low n.lost_to_tasks (c.is_loss-by_task.ensures x a) c.plus-6.ensures;
      taken_from_others = counted (acts.is_taking table t) x action c.args.numbers.now.taken_from_others _ c.is_taking-taking.result low n.taken_from_others (c.is_taking-taking.ensures x a) c.plus-7.ensures;
      cuts = counted (acts.is_cut table t) x action c.args.numbers.now.cuts _ c.is_cut.result low n.cuts (c.is_cut.ensures x a) c.plus-8.ensures;
      raises = counted (acts.is_raise table t) x action c.args.numbers.now.raises _ c.is_raise.result low n.raises (c.is_raise.ensures x a) c.plus-9.ensures;
      bans = counted (acts.is_ban table t) x action c.args.numbers.now.bans _ c.is_ban.result low n.bans (c.is_ban.ensures x) c.plus-10.ensures;
    }
