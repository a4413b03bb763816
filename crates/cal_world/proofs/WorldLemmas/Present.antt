-- All the plain data, one event more.
use Rattle.cal_world.proofs.Common.{◌≡◌, ℕ, ◌<◌, arith, List, [], ◌∷◌, ◌++◌, length, None, refl, sym, ap, ◌∙◌, subst, filter_map, Table, PassEntry, Policy, actions_of, Event, Take, Yield, Publish, Read, Skip, Decide, Watch, entry_in, history_in, actions_in, looks_since, look_made, AreSent, AreGranted, StandingsAreOf, PagesAreOf, threads_of_table, NoThread, IsAllowedBy, IsPresent, KeepsThread, KeepsThreadOf, actions_push}
use Rattle.cal_world.specs.declared.world.present.Present.{Present}
use Rattle.cal_world.proofs.ScheduleLemmas.Moves.{history_same, history_more}
use Rattle.cal_world.proofs.WorldLemmas.Noted.{standings_kept, of_other}
use Rattle.cal_world.proofs.ScheduleLemmas.Kept.{pages_kept_by}
use Rattle.cal_world.proofs.ScheduleLemmas.SinceDecide.{since_none}

-- what an event that is no Decide leaves as it was, and what it changes
pub record Changes (before : List Event) (event : Event) (p q : Present) : Type 0 where
  pub sent : q.sent.items ≡ p.sent.items
  pub granted : q.granted ≡ p.granted
  pub history : q.history.items ≡ p.history.items
  pub standings : StandingsAreOf q.standings.items (before ++ event ∷ [])
  pub pages : PagesAreOf q.pages.items (before ++ event ∷ [])
  pub looks : q.looks.items ≡ looks_since (before ++ event ∷ [])
  pub all_standings : length q.standings.items ≡ length p.standings.items
  pub all_pages : length q.pages.items ≡ length p.pages.items

-- the same, where all that stays is said at once, and the lengths of what changes
pub changes : (before : List Event) (event : Event) (p q : Present)
    → (q.sent.items ≡ p.sent.items) × (q.granted ≡ p.granted) × (q.history.items ≡ p.history.items)
    × (length q.standings.items ≡ length p.standings.items) × (length q.pages.items ≡ length p.pages.items)
    → StandingsAreOf q.standings.items (before ++ event ∷ []) → PagesAreOf q.pages.items (before ++ event ∷ [])
    → q.looks.items ≡ looks_since (before ++ event ∷ []) → Changes before event p q
changes before event p q same standings pages looks = record {
  sent = same.0;
  granted = same.1;
  history = same.2;
  standings = standings;
  pages = pages;
  looks = looks;
  all_standings = same.3;
  all_pages = same.4;
}

pub present_by : (table : Table) (before : List Event) (event : Event) (p q : Present) → entry_in event ≡ None → IsPresent table before p → Changes before event p q → IsPresent table (before ++ event ∷ []) q
present_by table before event p q none was new =
    let same : history_in before ≡ history_in (before ++ event ∷ []) = sym (history_same before event none) in record {
      standings = new.standings;
      pages = new.pages;
      sent = subst (λ h. AreSent q.sent.items (actions_of h)) same (subst (λ s. AreSent s (actions_in before)) (sym new.sent) was.sent);
      granted = subst (λ h. AreGranted q.granted (actions_of h)) same (subst (λ g. AreGranted g (actions_in before)) (sym new.granted) was.granted);
      looks = new.looks;
      history = new.history ∙ was.history ∙ same;
      all_standings = new.all_standings ∙ was.all_standings;
      all_pages = new.all_pages ∙ was.all_pages;
      all_sent = ap length new.sent ∙ was.all_sent;
    }

-- what a Decide leaves as it was, and what it changes
pub record Decides (before : List Event) (entry : PassEntry) (p q : Present) : Type 0 where
  pub standings : q.standings.items ≡ p.standings.items
  pub pages : q.pages.items ≡ p.pages.items
  pub sent : AreSent q.sent.items (actions_in before ++ entry.actions)
  pub granted : AreGranted q.granted (actions_in before ++ entry.actions)
  pub looks : q.looks.items ≡ []
  pub history : q.history.items ≡ p.history.items ++ entry ∷ []
  pub all_sent : length q.sent.items ≡ length p.sent.items

pub present_decided : (table : Table) (before : List Event) (entry : PassEntry) (p q : Present) → IsPresent table before p → Decides before entry p q → IsPresent table (before ++ Decide entry ∷ []) q
present_decided table before entry p q was new =
    let after : List Event = before ++ Decide entry ∷ [] in
    let actions : actions_in before ++ entry.actions ≡ actions_in after = sym (ap actions_of (history_more before entry) ∙ actions_push (history_in before) entry) in record {
      standings = standings_kept q.standings.items before after (subst (λ s. StandingsAreOf s before) (sym new.standings) was.standings) (λ k s. of_other s before (Decide entry) k refl refl refl refl);
      pages = pages_kept_by q.pages.items before (Decide entry) (λ k. refl) (subst (λ s. PagesAreOf s before) (sym new.pages) was.pages);
      sent = subst (AreSent q.sent.items) actions new.sent;
      granted = subst (AreGranted q.granted) actions new.granted;
      looks = new.looks ∙ sym (ap (filter_map (look_made after)) (since_none before entry));
      history = new.history ∙ ap (λ h. h ++ entry ∷ []) was.history ∙ sym (history_more before entry);
      all_standings = ap length new.standings ∙ was.all_standings;
      all_pages = ap length new.pages ∙ was.all_pages;
      all_sent = new.all_sent ∙ was.all_sent;
    }

one : (table : Table) (before : List Event) (k : ℕ) (p : Present) → IsPresent table before p → k < threads_of_table table → KeepsThread p k
one table before k p was low =
    let s = was.all_standings in let g = was.all_pages in let o = was.all_sent in record { standing = omega arith; page = omega arith; sent = omega arith }

-- an event that is allowed is of a thread that is kept
pub has_thread : (policy : Policy) (table : Table) (before : List Event) (event : Event) (p : Present) → IsPresent table before p → IsAllowedBy policy table before event → KeepsThreadOf p event
has_thread policy table before (Take thread) p was allowed = one table before thread p was (allowed NoThread)
has_thread policy table before (Yield thread) p was allowed = one table before thread p was (allowed NoThread)
has_thread policy table before (Publish thread rec) p was allowed = one table before thread p was (allowed NoThread)
has_thread policy table before (Read thread number) p was allowed = one table before thread p was (allowed NoThread)
has_thread policy table before (Skip thread seen) p was allowed = tt
has_thread policy table before (Decide entry) p was allowed = tt
has_thread policy table before (Watch thread number) p was allowed = one table before thread p was (allowed NoThread)
