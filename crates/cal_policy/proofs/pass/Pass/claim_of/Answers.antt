use Rattle.cal_policy.proofs.Common.{ap, ◌∙◌, has_acted, so_far, setting_in}
use Rattle.cal_policy.proofs.pass.Pass.claim_of.Goals as goal

pub returns : goal.returns
returns c = λ h acts st now.
    let x = so_far (setting_in c.args.self.now h) acts in
    let acted = c.has_acted-acted.ensures ∙ ap (λ l. has_acted c.args.self.now.config.now l c.args.task) now in
    record {
      is_short = c.is_short.ensures x st.agrees;
      lacks = c.lacks.ensures.lacks x st.agrees;
      needs = c.needs.ensures h acts st;
      pressing = c.pressing.ensures h acts st;
      helpers = c.helpers.ensures.count h acts st;
      surplus = c.surplus.ensures.count h acts st;
      coming = c.coming.ensures.count h acts st;
      waits = c.waits.ensures h acts st;
      has_acted = acted;
      may_revoke = c.may_revoke_for.ensures h acts st (c.unhelped-unhelped.ensures.count h acts st) acted;
    }
