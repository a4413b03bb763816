use Rattle.std.proofs.Common.{ap, sym, ◌∙◌}
use Rattle.cal_signal.specs.declared.shown.Shown.{Shown}
use Rattle.caladan_c.specs.Facts.{found_shown}
use Rattle.caladan_c.proofs.gone.gone_look.Goals as goal

pub returns-in-Some-clause-legal : goal.returns-in-Some-clause-legal
returns-in-Some-clause-legal c = λ policy h legal state.
    let permitted = c.each_policy_is_permitted.ensures policy c.args.config.now h c.limits.ensures legal in
    record {
      is = c.tell_shown.ensures ∙ ap (λ (it : Shown). found_shown it) (c.in-Some.ensures.some h state);
      kept = c.permitted_gone_is_kept.ensures c.args.config.now h c.args.thread permitted (sym (c.in-Some.ensures.none h state));
      frees = λ input seen core placement lt there own. c.gone_frees_its_cores.ensures policy c.args.config.now h c.args.thread input c.limits.ensures legal seen core placement lt there own;
    }

pub returns-in-Some-clause-permitted : goal.returns-in-Some-clause-permitted
returns-in-Some-clause-permitted c = λ h permitted state. record {
  is = c.tell_shown.ensures ∙ ap (λ (it : Shown). found_shown it) (c.in-Some.ensures.some h state);
  kept = c.permitted_gone_is_kept.ensures c.args.config.now h c.args.thread permitted (sym (c.in-Some.ensures.none h state));
  may = λ input seen core placement lt there own. c.gone_may_be_freed.ensures c.args.config.now h c.args.thread input permitted seen core placement lt there own;
}
