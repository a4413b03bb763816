use Rattle.cal_paced.proofs.Common.{◌≡◌, ℕ, Bool, sym, ◌∙◌, arith, slice_index, has, request_at, comes_to_turn, AreShares, share, share_on}
use Rattle.cal_paced.proofs.Turning.{comes-same, memory-within, turn-by}
use Rattle.cal_paced.proofs.rounds.shared_turn.Goals as goal

pub shares_of-shares-requires-clause-memory : goal.shares_of-shares-requires-clause-memory
shares_of-shares-requires-clause-memory c =
    let some = c.requires.some in
    let same = some.2.memory in
    let low = memory-within some.0 some.1 in omega (arith, same, low)

pub cores-works-requires-clause-alone : goal.cores-works-requires-clause-alone
cores-works-requires-clause-alone c = let some = c.requires.some in (c.shares_of-shares.ensures some.0 some.1 c.args.worker.now.thread some.2 (sym c.last_record.ensures.last)).within

pub cores-works-requires-clause-beside : goal.cores-works-requires-clause-beside
cores-works-requires-clause-beside c = let some = c.requires.some in (c.shares_of-shares.ensures some.0 some.1 c.args.worker.now.thread some.2 (sym c.last_record.ensures.last)).more

pub cores-works-requires-clause-all : goal.cores-works-requires-clause-all
cores-works-requires-clause-all c = let some = c.requires.some in (c.shares_of-shares.ensures some.0 some.1 c.args.worker.now.thread some.2 (sym c.last_record.ensures.last)).all

pub cores-works-requires-clause-clear : goal.cores-works-requires-clause-clear
cores-works-requires-clause-clear c = let some = c.requires.some in (c.shares_of-shares.ensures some.0 some.1 c.args.worker.now.thread some.2 (sym c.last_record.ensures.last)).clear

pub left_over-requires-clause-alone : goal.left_over-requires-clause-alone
left_over-requires-clause-alone c = let some = c.requires.some in (c.shares_of-shares.ensures some.0 some.1 c.args.worker.now.thread some.2 (sym c.last_record.ensures.last)).within

pub left_over-requires-clause-beside : goal.left_over-requires-clause-beside
left_over-requires-clause-beside c = let some = c.requires.some in (c.shares_of-shares.ensures some.0 some.1 c.args.worker.now.thread some.2 (sym c.last_record.ensures.last)).more

pub returns-clause-shares : goal.returns-clause-shares
returns-clause-shares c plan threads means =
    let was = c.args.worker.now in
    let is = c.turn_on.new.self in
    let given = c.args.given.now in
    let saved : ℕ = c.args.saved.now in
    let shares = c.shares_of-shares.result in
    let are : AreShares plan threads was.thread shares = c.shares_of-shares.ensures plan threads was.thread means (sym c.last_record.ensures.last) in
    let told = c.in_ok-entries.ensures.turned in
    let now = slice_index given.turns c.args.r in
    let request = request_at given.requests was.number c.args.r in
    let own = share plan threads was.thread in
    let works : ℕ → Bool = has c.cores-works.result in
    let agree : (core : ℕ) → works core ≡ comes_to_turn saved own core =
    (λ core. c.cores-works.ensures core ∙ comes-same saved (share_on shares) own core (are.on core)) in
    turn-by now request own saved _ works told.0 was.thread is.thread agree told.1 told.2
    (c.left_over.ensures.left own works now request told.0 was.thread is.thread are.on (record { thread = told.2; work = told.3; shows = c.in_ok-entries.ensures.shows }) agree)
