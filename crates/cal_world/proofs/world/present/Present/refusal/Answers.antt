-- What is known of the thread of an event: it is the table's, and what is kept of it is what the events
-- say.
use Rattle.cal_world.proofs.Common.{◌≡◌, ◌<◌, ℕ, List, length, refl, ap, subst, ◌∙◌, arith, slice_get_read, Table, threads_of_table, Command, commands_to, Seen, Record, looks_since, actions_in, state_in, published_by, page_in, NamesThread, IsPresent, IsOf, Event}
use Rattle.std.proofs.Common.{slice_get}
use Rattle.cal_signal.specs.Pages as pages
use Rattle.cal_world.specs.declared.world.present.Present.{Present}
use Rattle.cal_world.proofs.world.present.Present.refusal.Goals as goal

in_standings : (table : Table) (before : List Event) (p : Present) (k : ℕ) → IsPresent table before p → k < threads_of_table table → k < length p.standings.items
in_standings table before p k was low = let all = was.all_standings in omega (arith, low, all)

in_pages : (table : Table) (before : List Event) (p : Present) (k : ℕ) → IsPresent table before p → k < threads_of_table table → k < length p.pages.items
in_pages table before p k was low = let all = was.all_pages in omega (arith, low, all)

in_sent : (table : Table) (before : List Event) (p : Present) (k : ℕ) → IsPresent table before p → k < threads_of_table table → k < length p.sent.items
in_sent table before p k was low = let all = was.all_sent in omega (arith, low, all)

pub returns-in-Take : goal.returns-in-Take
returns-in-Take c = λ before was.
    let t = c.args.config.now in
    let p = c.args.self.now in
    let k = c.in-Take.k in
    let low : k < threads_of_table t = subst (NamesThread t) c.in-Take.is (c.names_thread.ensures.0 c.if-not-names_thread.false) in
    let standing = c.index.result.now in
    let outbox = c.index-in-Take.result.now in
    let of : IsOf standing before k = was.standings k standing (slice_get_read p.standings.items (length p.standings.items) k standing refl (in_standings t before p k was low) c.index.ensures) in
    let sent : outbox.commands ≡ commands_to (actions_in before) k = was.sent k outbox (slice_get_read p.sent.items (length p.sent.items) k outbox refl (in_sent t before p k was low) c.index-in-Take.ensures) in
    let next : c.command.result ≡ slice_get (commands_to (actions_in before) k) (state_in before k).taken =
    c.command.ensures.command ∙ ap (λ (l : List Command). slice_get l standing.taken) sent ∙ ap (λ n. slice_get (commands_to (actions_in before) k) n) of.taken in
    rw c.in-Take.is (c.refusal_of_take.ensures c.args.policy t before k low next)

pub returns-in-Yield : goal.returns-in-Yield
returns-in-Yield c = λ before was.
    let t = c.args.config.now in
    let p = c.args.self.now in
    let k = c.in-Yield.k in
    let low : k < threads_of_table t = subst (NamesThread t) c.in-Yield.is (c.names_thread.ensures.0 c.if-not-names_thread.false) in
    let standing = c.index-in-Yield.result.now in
    let of : IsOf standing before k = was.standings k standing (slice_get_read p.standings.items (length p.standings.items) k standing refl (in_standings t before p k was low) c.index-in-Yield.ensures) in
    rw c.in-Yield.is (c.refusal_of_yield.ensures c.args.policy t before k low of)

pub returns-in-Publish : goal.returns-in-Publish
returns-in-Publish c = λ before was.
    let t = c.args.config.now in
    let p = c.args.self.now in
    let k = c.in-Publish.k in
    let low : k < threads_of_table t = subst (NamesThread t) c.in-Publish.is (c.names_thread.ensures.0 c.if-not-names_thread.false) in
    let page = c.index-in-Publish.result.now in
    let standing = c.index-in-Publish-2.result.now in
    let of : IsOf standing before k = was.standings k standing (slice_get_read p.standings.items (length p.standings.items) k standing refl (in_standings t before p k was low) c.index-in-Publish-2.ensures) in
    let its : page ≡ page_in before k = was.pages k page (slice_get_read p.pages.items (length p.pages.items) k page refl (in_pages t before p k was low) c.index-in-Publish.ensures) in
    let last : c.last-last.result ≡ pages.last_published (published_by before k) = c.last-last.ensures (published_by before k) its in
    rw c.in-Publish.is (c.refusal_of_publish.ensures c.args.policy t before k low of last)

pub returns-in-Read : goal.returns-in-Read
returns-in-Read c = λ before was.
    let t = c.args.config.now in
    let p = c.args.self.now in
    let k = c.in-Read.k in
    let low : k < threads_of_table t = subst (NamesThread t) c.in-Read.is (c.names_thread.ensures.0 c.if-not-names_thread.false) in
    let page = c.index-in-Read.result.now in
    let standing = c.index-standing.result.now in
    let of : IsOf standing before k = was.standings k standing (slice_get_read p.standings.items (length p.standings.items) k standing refl (in_standings t before p k was low) c.index-standing.ensures) in
    let its : page ≡ page_in before k = was.pages k page (slice_get_read p.pages.items (length p.pages.items) k page refl (in_pages t before p k was low) c.index-in-Read.ensures) in
    let places : c.places-places.result ≡ length (page_in before k) = c.places-places.ensures ∙ ap (λ (l : List Record). length l) its in
    let looks : c.len.result ≡ length (looks_since before) =
    (let size = c.len.ensures in let own = p.looks.ok.0 in let all = ap (λ (l : List Seen). length l) was.looks in omega (arith, size, own, all)) in
    rw c.in-Read.is (c.refusal_of_read.ensures c.args.policy t before low of places looks)

pub returns-in-Skip : goal.returns-in-Skip
returns-in-Skip c = λ before was.
    let t = c.args.config.now in
    let p = c.args.self.now in
    let k = c.in-Skip.k in
    let low : k < threads_of_table t = subst (NamesThread t) c.in-Skip.is (c.names_thread.ensures.0 c.if-not-names_thread.false) in
    let looks : c.len-in-Skip.result ≡ length (looks_since before) =
    (let size = c.len-in-Skip.ensures in let own = p.looks.ok.0 in let all = ap (λ (l : List Seen). length l) was.looks in omega (arith, size, own, all)) in
    rw c.in-Skip.is (c.refusal_of_skip.ensures c.args.policy t before low looks)

pub returns-in-Watch : goal.returns-in-Watch
returns-in-Watch c = λ before was.
    let t = c.args.config.now in
    let p = c.args.self.now in
    let k = c.in-Watch.k in
    let low : k < threads_of_table t = subst (NamesThread t) c.in-Watch.is (c.names_thread.ensures.0 c.if-not-names_thread.false) in
    let page = c.index-in-Watch.result.now in
    let standing = c.index-in-Watch-2.result.now in
    let of : IsOf standing before k = was.standings k standing (slice_get_read p.standings.items (length p.standings.items) k standing refl (in_standings t before p k was low) c.index-in-Watch-2.ensures) in
    let its : page ≡ page_in before k = was.pages k page (slice_get_read p.pages.items (length p.pages.items) k page refl (in_pages t before p k was low) c.index-in-Watch.ensures) in
    let places : c.places-places-in-Watch.result ≡ length (page_in before k) = c.places-places-in-Watch.ensures ∙ ap (λ (l : List Record). length l) its in
    rw c.in-Watch.is (c.refusal_of_watch.ensures c.args.policy t before k low of places)
