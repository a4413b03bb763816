use Rattle.cal_kthread.proofs.Common.{List, sym, subst, IsPage, page_of, IsShaped, Record}
use Rattle.cal_kthread.proofs.TurnLemmas.Publishing.{last-shaped}
use Rattle.cal_kthread.proofs.bare_thread.BareThread.last_record.Goals as goal

-- its page is one
pub returns-clause-shaped : goal.returns-clause-shaped
returns-clause-shaped c =
    let P : List Record → Type 0 = λ l. IsPage (page_of l) in
    let page = subst P c.agrees.ensures.page c.agrees.ensures.journal.page in
    subst IsShaped (sym c.shown.ensures) (last-shaped c.args.self.now.thread.publisher.published page)
