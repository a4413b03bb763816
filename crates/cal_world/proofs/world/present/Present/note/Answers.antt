use Rattle.cal_world.proofs.Common.{◌+◌, List, [], ◌∷◌, ◌++◌, eqb, refl, sym, ap, ◌∙◌, subst, Seen, Event, Take, Yield, Publish, Read, Skip, Watch, NothingSent, takes_in, next_command, looks_since, IsAllowedBy}
use Rattle.cal_world.proofs.WorldLemmas.Noted.{standings_kept, of_other, of_publish}
use Rattle.cal_world.proofs.ScheduleLemmas.Kept.{pages_kept_by}
use Rattle.cal_world.proofs.WorldLemmas.Present.{present_by, changes}
use Rattle.cal_world.proofs.ScheduleLemmas.Reading.{taken_none, yielded_none}
use Rattle.cal_world.proofs.world.present.Present.note.Goals as goal

pub returns-in-Take-clause-ok : goal.returns-in-Take-clause-ok
returns-in-Take-clause-ok c = λ policy table before ok list allowed was.
    let event : Event = Take c.in-Take.k in
    let may : IsAllowedBy policy table before event = subst (IsAllowedBy policy table before) c.in-Take.is allowed in
    let looks = sym (c.looks_go_on.ensures policy table before event ok list may) in
    rw c.in-Take.is (present_by table before event c.args.self.now _ refl was (changes before event c.args.self.now _ (refl, refl, refl, c.take_next.ensures.length, refl)
    (c.take_next.ensures.of before was.sent (may NothingSent) was.standings)
    (pages_kept_by c.args.self.now.pages.items before event (λ k. taken_none (eqb c.in-Take.k k) (takes_in before k + 1) (next_command before k)) was.pages)
    (was.looks ∙ looks)))

pub returns-in-Yield-clause-ok : goal.returns-in-Yield-clause-ok
returns-in-Yield-clause-ok c = λ policy table before ok list allowed was.
    let event : Event = Yield c.in-Yield.k in
    let may : IsAllowedBy policy table before event = subst (IsAllowedBy policy table before) c.in-Yield.is allowed in
    let looks = sym (c.looks_go_on.ensures policy table before event ok list may) in
    rw c.in-Yield.is (present_by table before event c.args.self.now _ refl was (changes before event c.args.self.now _ (refl, refl, refl, c.leave_core.ensures.length, refl)
    (c.leave_core.ensures.of before was.standings)
    (pages_kept_by c.args.self.now.pages.items before event (λ k. yielded_none (eqb c.in-Yield.k k)) was.pages)
    (was.looks ∙ looks)))

pub returns-in_ok-publish-in-Publish-clause-ok : goal.returns-in_ok-publish-in-Publish-clause-ok
returns-in_ok-publish-in-Publish-clause-ok c = λ policy table before ok list allowed was.
    let event : Event = Publish c.in-Publish.k c.in-Publish.rec in
    let may : IsAllowedBy policy table before event = subst (IsAllowedBy policy table before) c.in-Publish.is allowed in
    let looks = sym (c.looks_go_on.ensures policy table before event ok list may) in
    rw c.in-Publish.is (present_by table before event c.args.self.now _ refl was (changes before event c.args.self.now _ (refl, refl, refl, refl, c.publish.ensures.length)
    (standings_kept c.args.self.now.standings.items before (before ++ event ∷ []) was.standings (λ k s. of_publish s before c.in-Publish.k k c.in-Publish.rec))
    (c.in_ok-publish-in-Publish.ensures.ok before was.pages)
    (was.looks ∙ looks)))

pub returns-in_ok-push-in-Read-clause-ok : goal.returns-in_ok-push-in-Read-clause-ok
returns-in_ok-push-in-Read-clause-ok c = λ policy table before ok list allowed was.
    let event : Event = Read c.in-Read.k c.in-Read.number in
    let may : IsAllowedBy policy table before event = subst (IsAllowedBy policy table before) c.in-Read.is allowed in
    let looks = sym (c.looks_go_on.ensures policy table before event ok list may) in
    rw c.in-Read.is (present_by table before event c.args.self.now _ refl was (changes before event c.args.self.now _ (refl, refl, refl, c.raise_read_floor.ensures.length, refl)
    (c.raise_read_floor.ensures.of before was.standings)
    (pages_kept_by c.args.self.now.pages.items before event (λ k. refl) was.pages)
    (c.in_ok-push-in-Read.ensures.items ∙ ap (λ (l : List Seen). l ++ c.look_at.result ∷ []) was.looks
    ∙ ap (λ (seen : Seen). looks_since before ++ seen ∷ []) (c.look_at.ensures before was.pages) ∙ looks)))

pub returns-in_ok-push-in-Skip-clause-ok : goal.returns-in_ok-push-in-Skip-clause-ok
returns-in_ok-push-in-Skip-clause-ok c = λ policy table before ok list allowed was.
    let event : Event = Skip c.in-Skip.field-0 c.in-Skip.seen in
    let may : IsAllowedBy policy table before event = subst (IsAllowedBy policy table before) c.in-Skip.is allowed in
    let looks = sym (c.looks_go_on.ensures policy table before event ok list may) in
    rw c.in-Skip.is (present_by table before event c.args.self.now _ refl was (changes before event c.args.self.now _ (refl, refl, refl, refl, refl)
    (standings_kept c.args.self.now.standings.items before (before ++ event ∷ []) was.standings (λ k s. of_other s before event k refl refl refl refl))
    (pages_kept_by c.args.self.now.pages.items before event (λ k. refl) was.pages)
    (c.in_ok-push-in-Skip.ensures.items ∙ ap (λ (l : List Seen). l ++ c.in-Skip.seen ∷ []) was.looks ∙ looks)))

pub returns-in-Watch-clause-ok : goal.returns-in-Watch-clause-ok
returns-in-Watch-clause-ok c = λ policy table before ok list allowed was.
    let event : Event = Watch c.in-Watch.k c.in-Watch.number in
    let may : IsAllowedBy policy table before event = subst (IsAllowedBy policy table before) c.in-Watch.is allowed in
    let looks = sym (c.looks_go_on.ensures policy table before event ok list may) in
    rw c.in-Watch.is (present_by table before event c.args.self.now _ refl was (changes before event c.args.self.now _ (refl, refl, refl, c.raise_watch_floor.ensures.length, refl)
    (c.raise_watch_floor.ensures.of before was.standings)
    (pages_kept_by c.args.self.now.pages.items before event (λ k. refl) was.pages)
    (was.looks ∙ looks)))

pub returns-in_ok-decide-in-Decide-clause-ok : goal.returns-in_ok-decide-in-Decide-clause-ok
returns-in_ok-decide-in-Decide-clause-ok c = λ policy table before ok list allowed was. rw c.in-Decide.is (c.in_ok-decide-in-Decide.ensures.ok table before was)
