use Rattle.cal_world.proofs.Common.{[], ◌∷◌, ◌++◌, length, refl, sym, ◌∙◌, slice_get_read, Take}
use Rattle.cal_world.proofs.WorldLemmas.Noted.{standings_set, of_other_take, next_is, has_next}
use Rattle.cal_world.proofs.world.present.take_next.Goals as goal

pub after_take-requires : goal.after_take-requires
after_take-requires c = c.in-Some.ensures.small

pub returns-in-Some-clause-of : goal.returns-in-Some-clause-of
returns-in-Some-clause-of c = λ before sent has was.
    let ss = c.args.standings.now.items in
    let k = c.args.k in
    let outbox = slice_get_read c.args.sent.now.items (length c.args.sent.now.items) k c.index.result.now refl c.requires.sent c.index.ensures in
    standings_set ss k c.index-standing.result.now c.after_take.result before (before ++ Take k ∷ [])
    (slice_get_read ss (length ss) k c.index-standing.result.now refl c.requires.standing c.index-standing.ensures) was
    (λ of. c.after_take.ensures before k (next_is c.index-standing.result.now before k c.index.result.now.commands (sent k c.index.result.now outbox) of ∙ sym c.command.ensures.command ∙ c.in-Some.is) of)
    (λ j t off of. of_other_take t before k j off of)

pub returns-in_default-clause-of : goal.returns-in_default-clause-of
returns-in_default-clause-of c = λ before sent has was.
    let ss = c.args.standings.now.items in
    let k = c.args.k in
    let outbox = slice_get_read c.args.sent.now.items (length c.args.sent.now.items) k c.index.result.now refl c.requires.sent c.index.ensures in
    let standing = slice_get_read ss (length ss) k c.index-standing.result.now refl c.requires.standing c.index-standing.ensures in
    absurd (has_next c.index-standing.result.now before k c.index.result.now.commands (sent k c.index.result.now outbox) (was k c.index-standing.result.now standing) has
    (sym c.command.ensures.command ∙ c.in_default.is))
