-- What a pass finds, as far as it has come.
use Rattle.cal_sched.proofs.Common.{◌≡◌, ℕ, List, length, ◌∙◌, ObserverView, SenderView, FoundLook, HasLooked, HasAsked, HaveFound}
use Rattle.cal_sched.proofs.Below.{Below}

-- what one look and one question each come to
abbrev pub Looks : ObserverView → ObserverView → FoundLook → Type 0
Looks was is one = HasLooked was is one.look

abbrev pub Asks : SenderView → SenderView → FoundLook → Type 0
Asks was is one = HasAsked was is one.room

-- the first k pages and rings have been gone to, and the others are as they were
pub record FoundBelow (k : ℕ) (observers looked : List ObserverView) (senders asked : List SenderView) (found : List FoundLook) : Type 0 where
  pub pages : Below Looks k observers looked found
  pub rings : Below Asks k senders asked found

pub FoundBelow-all : (k : ℕ) (observers looked : List ObserverView) (senders asked : List SenderView) (found : List FoundLook) → k ≡ length observers
    → FoundBelow k observers looked senders asked found → HaveFound observers looked senders asked found
FoundBelow-all k observers looked senders asked found is below = record {
  pages = below.pages.same_many;
  rings = below.rings.same_many;
  one_each = below.pages.count ∙ is;
  looks = below.pages.each;
  rooms = below.rings.each;
}
