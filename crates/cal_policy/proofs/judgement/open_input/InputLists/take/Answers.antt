use Rattle.cal_policy.proofs.Common.{◌≡◌, ◌++◌, ◌∷◌, [], length, ap, ◌∙◌, rules, Seen, actions_of, judged}
use Rattle.cal_policy.proofs.JudgementLemmas.OpenInput.{found_push, length-judged_looks}
use Rattle.cal_policy.proofs.judgement.open_input.InputLists.take.Goals as goal

pub returns-clause-found : goal.returns-clause-found
returns-clause-found c = λ h looks agrees of.
    let table = c.args.config.now in
    let lists = c.args.self.now in
    let count : c.len.result ≡ length lists.seen = search rules in
    let place : c.len.result ≡ length looks = count ∙ ap length of.seen ∙ length-judged_looks table h looks in
    let judged_so = c.judge-seen.ensures h agrees ∙ ap (λ k. judged table.cores (actions_of h) k c.args.found.look) place in
    found_push table h looks c.args.found lists c.push.new.self of (c.push.ensures.seen ∙ ap (λ (s : Seen). lists.seen ++ s ∷ []) judged_so) c.push.ensures.rooms
