use Rattle.cal_measure.proofs.Common.{◌++◌, ◌∷◌, [], List, replicate, subst, AllZip, replicate_more, Entry, IsThreadWorkOf}
use Rattle.cal_measure.proofs.WorksOfEach.{zip_more}
use Rattle.cal_measure.proofs.thread_work.each.open_works.Goals as goal

pub loop-init : goal.loop-init
loop-init c = rw c.new-works.ensures.items tt

pub loop-preserved : goal.loop-preserved
loop-preserved c =
    let works = c.loop.works.items in
    let journals : List (List Entry) = replicate c.loop.counter [] in
    rw c.in_ok-push.ensures.items
    (subst (λ (l : List (List Entry)). AllZip IsThreadWorkOf l (works ++ c.open.result ∷ [])) (replicate_more c.loop.counter [])
    (zip_more IsThreadWorkOf journals works [] c.open.result c.loop.invariant c.open.ensures))
