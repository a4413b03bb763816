-- Its ring is full just where the set of full rings has it.
use Rattle.cal_guard.proofs.Common.{◌≡◌, ◌+◌, not, sym, ap, ◌∙◌, arith, option_or, threads_of_table, has_thread, Setting, setting_at, has_room, NoRoom, SecondCommand, unless, was_sent}
use Rattle.cal_policy.proofs.PassLemmas.Rooms.{room_at}
use Rattle.cal_guard.proofs.passing.wrong_to_send.Goals as goal

pub returns : goal.returns
returns c = λ table h acts low sent.
    let s : Setting = setting_at table c.args.terms.now h in
    let full = c.args.terms.now.full in
    let k = c.args.thread in
    let zero : 0 + k ≡ k = omega arith in
    let room : not (has_thread full k) ≡ has_room s k = sym (room_at full 0 (threads_of_table table) k low ∙ ap (λ j. not (has_thread full j)) zero) in
    let unsent : c.unless-unsent.result ≡ unless (not (was_sent s acts k)) SecondCommand =
    c.unless-unsent.ensures ∙ ap (λ b. unless (not b) SecondCommand) (c.has.ensures ∙ sent.sent k c.requires) in
    let space : c.unless.result ≡ unless (has_room s k) NoRoom = c.unless.ensures ∙ ap (λ b. unless b NoRoom) (ap (λ b. not b) c.has-2.ensures ∙ room) in
    c.or.ensures ∙ ap (λ o. option_or o c.unless-unsent.result) space ∙ ap (λ o. option_or (unless (has_room s k) NoRoom) o) unsent
