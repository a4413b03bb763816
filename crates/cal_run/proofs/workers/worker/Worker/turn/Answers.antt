use Rattle.cal_run.proofs.Common.{◌≡◌, ◌+◌, ℕ, List, sym, ap, subst, ◌∙◌, refl, slice_index_or, Some, arith, slice_get, slice_get-get_or, request_at, IsNext, Worker}
use Rattle.cal_run.proofs.WorkersLemmas.OneTurn.{has_room, made_more}
use Rattle.cal_run.proofs.workers.worker.Worker.turn.Goals as goal

pub turn-requires-clause-room : goal.turn-requires-clause-room
turn-requires-clause-room c = let few = has_room c.turns_add_up.ensures c.args.arrivals.now c.args.self.now c.args.j c.requires.fits c.requires.given c.requires.made in omega (arith, few)

pub returns-clause-made : goal.returns-clause-made
returns-clause-made c =
    let arrivals = c.args.arrivals.now in
    let was : Worker = c.args.self.now in
    let is : Worker = record was { thread = c.turn.new.self; next = c.coming-request.result.1 } in
    let j = c.args.j in
    let now = slice_index_or c.as_slice.result.now j 0 in
    let at : slice_get arrivals.turns j ≡ Some now = slice_get-get_or arrivals.turns j 0 c.requires.given ∙ ap (λ (l : List ℕ). Some (slice_index_or l j 0)) (sym c.as_slice.ensures) in
    let same = c.as_slice-requests.ensures in
    let came = c.coming-request.ensures.request ∙ ap (λ l. request_at l was.number j) same in
    made_more c.one_turn_more.ensures arrivals was is j now c.coming-request.result.0 c.requires.fits at came c.requires.made refl c.in_ok-entries.ensures.added
    (subst (λ l. IsNext l was.number (j + 1) c.coming-request.result.1) same c.coming-request.ensures.next) c.in_ok-entries.ensures.stamped
