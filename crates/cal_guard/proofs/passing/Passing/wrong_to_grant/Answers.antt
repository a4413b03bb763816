-- The core, the task and the thread are all as the actions say.
use Rattle.cal_guard.proofs.Common.{◌≡◌, List, not, ap, ◌∙◌, option_or, owner_of, Action, is_banned, Setting, setting_at, so_far, Banned, unless, wrong_to_book, wrong_to_send}
use Rattle.cal_guard.proofs.passing.Passing.wrong_to_grant.Goals as goal

pub returns : goal.returns
returns c = λ h acts agrees sent.
    let table = c.args.config.now in
    let s : Setting = setting_at table c.args.terms.now h in
    let x : List Action = so_far s acts in
    let t = owner_of table c.args.thread in
    let book : c.wrong_to_book.result ≡ wrong_to_book table x t = c.wrong_to_book.ensures x agrees ∙ ap (λ n. wrong_to_book table x n) c.task_of-task.ensures.task in
    let send : c.wrong_to_send.result ≡ wrong_to_send s acts c.args.thread = c.wrong_to_send.ensures table h acts c.requires.thread sent in
    let free : c.unless.result ≡ unless (not (is_banned x c.args.core)) Banned = c.unless.ensures ∙ ap (λ b. unless (not b) Banned) (c.is_banned.ensures x agrees) in
    c.or.ensures ∙ ap (λ o. option_or o c.or-books.result) free
    ∙ ap (λ o. option_or (unless (not (is_banned x c.args.core)) Banned) o)
    (c.or-books.ensures ∙ ap (λ o. option_or o c.wrong_to_send.result) book ∙ ap (λ o. option_or (wrong_to_book table x t) o) send)
