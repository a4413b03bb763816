use Rattle.cal_policy.proofs.Common.{◌∙◌, kept_in}
use Rattle.cal_policy.proofs.BoardLemmas.Unshown.{shows_kept}
use Rattle.cal_policy.proofs.board.records.Keeping.keep.Goals as goal

pub returns-clause-shows : goal.returns-clause-shows
returns-clause-shows c = λ holder was.
    shows_kept holder (kept_in c.args.self.now) (kept_in c.put.new.self) c.args.k c.args.rec.now c.args.unshown.now c.note_left.new.unshown
    c.put.ensures.kept c.note_left.ensures.before (λ core lt off on. c.note_left.ensures.left core lt off (c.running.ensures ∙ on)) was
