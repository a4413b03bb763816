use Rattle.cal_policy.proofs.Common.{◌≡◌, ◌+◌, not, ap, sym, ◌∙◌, arith, threads_of_table, has_thread}
use Rattle.cal_policy.proofs.PassLemmas.Rooms.{room_at}
use Rattle.cal_policy.proofs.pass.Pass.has_room.Goals as goal

pub returns : goal.returns
returns c = λ h.
    let full = c.args.self.now.terms.now.full in
    let here : c.args.thread ≡ 0 + c.args.thread = omega arith in
    ap not (c.has.ensures ∙ ap (has_thread full) here)
    ∙ sym (room_at full 0 (threads_of_table c.args.self.now.config.now) c.args.thread c.requires.thread)
