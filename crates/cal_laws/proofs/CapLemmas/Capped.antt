-- A best-effort task holds no more than its cap, but for the moment between its cut and the
-- revocation.
use Rattle.cal_laws.proofs.Common.{◌≡◌, ℕ, ◌+◌, ◌-◌, ◌≤◌, ◌⊎◌, zero, suc, Bool, true, false, cond, eqb, nat_lt, List, [], ◌∷◌, ◌++◌, length, take, Some, None, refl, sym, ap, ◌∙◌, arith, inl, inr, subst, append_assoc, ⊎_elim, length-append, slice_get, take-length, and_parts, eqb-true, append-nil, slice_get_cases, slice_get_within, ThreadsAreOfTheirTask, Table, IsTable, owner_of, is_latency_critical, Action, Free, Unban, Ban, Revoke, Cap, Grant, PassEntry, actions_of, holder_of, count_below, is_held_for, held_by, cap_of, Setting, setting_of, so_far, is_held_with_room, can_lose, IsLegal, IsRevokedForBandwidth, IsCapCut, IsCapRise, IsSound, LegalIsSound, ActionIsOneMore, ChosenHasWaitedLongest, Point, IsPoint, setting_at, made_at, MayBookMore, held_le_booked, take_next}
use Rattle.cal_policy.specs.declared.history.action.Cause.TheVariants as causes
use Rattle.cal_laws.proofs.ListLemmas.Below.{highest_is}
use Rattle.cal_laws.proofs.ExclusionLemmas.SameHolders.{held_same}
use Rattle.cal_laws.proofs.CapLemmas.Followed.{AllFollowed, pass_followed, revocation_next}
use Rattle.cal_laws.proofs.ChoiceLemmas.Granted.{grant_facts, books}
use Rattle.cal_laws.proofs.CapLemmas.Held.{held_freed, held_revoked, held_lost, held_granted, held_elsewhere, cap_same, cap_new}
use Rattle.cal_laws.proofs.PointLemmas.EachAction.{actions_more}
use Rattle.cal_laws.proofs.CauseLemmas.Revoked.{takes_held, after_cap}

abbrev pub Within : Table → List Action → ℕ → Type 0
Within table x t = held_by table x t ≤ cap_of table x t

-- the task was just cut, and the next of all actions of the pass revokes a core of it
pub record JustCut (s : Setting) (all acts : List Action) (i t : ℕ) : Type 0 where
  pub core : ℕ
  pub next : slice_get all i ≡ Some (Revoke core causes.Bandwidth)
  pub own : is_held_for s.table t (holder_of (so_far s acts) core) ≡ true
  pub held : held_by s.table (so_far s acts) t ≤ cap_of s.table (so_far s acts) t + 1
  pub earlier : List Action
  pub cap : ℕ
  pub just_before : acts ≡ earlier ++ Cap t cap ∷ []

-- what an action leaves: the task is within its cap, or was cut by the action
pub record IsCutBy (s : Setting) (x : List Action) (a : Action) (t : ℕ) : Type 0 where
  pub cap : ℕ
  pub is : a ≡ Cap t cap
  pub over : nat_lt s.table.bandwidth_limit s.input.bandwidth ≡ true
  pub held : held_by s.table (x ++ a ∷ []) t ≤ cap_of s.table (x ++ a ∷ []) t + 1

capped : ActionIsOneMore → (s : Setting) (acts : List Action) (task cap t : ℕ) → Within s.table (so_far s acts) t → (IsCapCut s acts task cap) ⊎ (IsCapRise s acts task cap) → (b : Bool) → eqb task t ≡ b →
    (Within s.table (so_far s acts ++ Cap task cap ∷ []) t) ⊎ (IsCutBy s (so_far s acts) (Cap task cap) t)
capped more s acts task cap t w m false e =
    let x : List Action = so_far s acts in
    let held = held_same s.table x (x ++ Cap task cap ∷ []) (more x (Cap task cap)).holder t in
    let same = cap_same more s.table x (Cap task cap) t (ap (λ (b : Bool). cond b (Some cap) None) e) in
    inl (omega (arith, held, same, w))
capped more s acts task cap t w (inl m) true e =
    let x : List Action = so_far s acts in
    let held = held_same s.table x (x ++ Cap task cap ∷ []) (more x (Cap task cap)).holder t in
    let new = cap_new more s.table x (Cap task cap) t cap (ap (λ (b : Bool). cond b (Some cap) None) e) in
    let task_is : task ≡ t = eqb-true task t e in
    let below : cap ≡ held_by s.table x t - 1 = m.below ∙ ap (λ n. held_by s.table x n - 1) (sym m.number ∙ task_is) in
    inr (record { cap = cap; is = ap (λ n. Cap n cap) task_is; over = m.cut.over; held = omega (arith, held, new, below) })
capped more s acts task cap t w (inr m) true e =
    let x : List Action = so_far s acts in
    let held = held_same s.table x (x ++ Cap task cap ∷ []) (more x (Cap task cap)).holder t in
    let new = cap_new more s.table x (Cap task cap) t cap (ap (λ (b : Bool). cond b (Some cap) None) e) in
    let above : cap ≡ cap_of s.table x t + 1 = m.above ∙ ap (λ n. cap_of s.table x n + 1) (eqb-true task t e) in
    inl (omega (arith, held, new, above, w))

pub granted : ActionIsOneMore → (s : Setting) (x : List Action) (core thread class t : ℕ) → is_latency_critical s.table t ≡ false → Within s.table x t → MayBookMore s.table x (owner_of s.table thread) →
    (b : Bool) → eqb (owner_of s.table thread) t ≡ b → Within s.table (x ++ Grant core thread class ∷ []) t
granted more s x core thread class t best w room false e =
    let held = held_elsewhere s.table x core thread class t e in
    let same = cap_same more s.table x (Grant core thread class) t refl in omega (arith, held, same, w)
granted more s x core thread class t best w room true e =
    let held = held_granted s.table x core thread class t in
    let same = cap_same more s.table x (Grant core thread class) t refl in
    let own : MayBookMore s.table x t = subst (MayBookMore s.table x) (eqb-true (owner_of s.table thread) t e) room in
    omega (arith, held, same, held_le_booked s.table x t, own.cap best)

-- one action more
step : ActionIsOneMore → ThreadsAreOfTheirTask → ChosenHasWaitedLongest → (s : Setting) (acts : List Action) (a : Action) (t : ℕ) → is_latency_critical s.table t ≡ false → IsSound s acts a →
    Within s.table (so_far s acts) t → (Within s.table (so_far s acts ++ a ∷ []) t) ⊎ (IsCutBy s (so_far s acts) a t)
step more numbered longest s acts (Free core) t best sound w =
    let x : List Action = so_far s acts in inl (omega (arith, held_freed more s.table x core t, cap_same more s.table x (Free core) t refl, w))
step more numbered longest s acts (Revoke core cause) t best sound w =
    let x : List Action = so_far s acts in inl (omega (arith, held_revoked more s.table x core cause t, cap_same more s.table x (Revoke core cause) t refl, w))
step more numbered longest s acts (Unban core) t best sound w =
    let x : List Action = so_far s acts in
    inl (omega (arith, held_same s.table x (x ++ Unban core ∷ []) (more x (Unban core)).holder t, cap_same more s.table x (Unban core) t refl, w))
step more numbered longest s acts (Ban core thread started) t best sound w =
    let x : List Action = so_far s acts in
    inl (omega (arith, held_same s.table x (x ++ Ban core thread started ∷ []) (more x (Ban core thread started)).holder t, cap_same more s.table x (Ban core thread started) t refl, w))
step more numbered longest s acts (Cap task cap) t best sound w = capped more s acts task cap t w sound.made (eqb task t) refl
step more numbered longest s acts (Grant core thread class) t best sound w =
    let x : List Action = so_far s acts in
    let facts = grant_facts numbered longest s acts core thread class sound.made in
    let room = subst (MayBookMore s.table x) (sym facts.owner) (books s x sound.made.task sound.made.chosen.room) in
    inl (granted more s x core thread class t best w room (eqb (owner_of s.table thread) t) refl)

-- the last members of equal lists are equal
snoc_last : {X : Type 0} (xs ys : List X) (a b : X) → xs ++ a ∷ [] ≡ ys ++ b ∷ [] → a ≡ b
snoc_last [] [] a b e = cc
snoc_last [] (y ∷ ys) a b e = let same = ap length e ∙ ap suc (length-append ys (b ∷ [])) in absurd (omega (arith, same))
snoc_last (x ∷ xs) [] a b e = let same = ap suc (sym (length-append xs (a ∷ []))) ∙ ap length e in absurd (omega (arith, same))
snoc_last (x ∷ xs) (y ∷ ys) a b e = let tails : xs ++ a ∷ [] ≡ ys ++ b ∷ [] = cc in snoc_last xs ys a b tails

-- the core that is revoked after a cut is the task's
own_core : ActionIsOneMore → (s : Setting) (acts : List Action) (core t cap : ℕ) → IsRevokedForBandwidth s (acts ++ Cap t cap ∷ []) core →
    is_held_for s.table t (holder_of (so_far s (acts ++ Cap t cap ∷ [])) core) ≡ true
own_core more s acts core t cap m =
    let before : List Action = so_far s m.earlier in
    let same = snoc_last acts m.earlier (Cap t cap) (Cap m.victim.number _) m.just_before in
    let number : t ≡ m.victim.number = cc in
    let both = and_parts (is_held_for s.table m.victim.number (holder_of before core)) (is_held_with_room s (holder_of before core))
    (highest_is (can_lose s before m.victim.number) s.table.cores core m.cut.highest).passes in
    ap (λ n. is_held_for s.table n (holder_of (so_far s (acts ++ Cap t cap ∷ [])) core)) number
    ∙ ap (is_held_for s.table m.victim.number) (after_cap more s (acts ++ Cap t cap ∷ []) m.earlier m.victim.number _ m.just_before core) ∙ both.0

-- the state after some actions of a pass
abbrev pub IsCapped : Setting → List Action → List Action → ℕ → ℕ → Type 0
IsCapped s all acts i t = (Within s.table (so_far s acts) t) ⊎ (JustCut s all acts i t)

-- a task that was cut loses its core
cut_ends : ActionIsOneMore → (s : Setting) (all acts : List Action) (i : ℕ) (a : Action) (t : ℕ) → slice_get all i ≡ Some a → IsSound s acts a → JustCut s all acts i t →
    Within s.table (so_far s acts ++ a ∷ []) t
cut_ends more s all acts i a t e sound j =
    let x : List Action = so_far s acts in
    let revoke : Action = Revoke j.core causes.Bandwidth in
    let same : a ≡ revoke = cc in
    let fitting = (subst (IsSound s acts) same sound).fits in
    let low = (takes_held s.table x j.core causes.Bandwidth fitting).low in
    let lost = held_lost more s.table x j.core causes.Bandwidth t low j.own in
    let cap = cap_same more s.table x revoke t refl in
    let was = j.held in
    let P : Action → Type 0 = λ a. Within s.table (x ++ a ∷ []) t in
    subst P (sym same) (omega (arith, lost, cap, was))

-- a task that is cut is cut just now
cut_begins : LegalIsSound → ActionIsOneMore → (table : Table) (history : List PassEntry) → IsTable table → IsLegal table history → (p : ℕ) (entry : PassEntry) → slice_get history p ≡ Some entry →
    (i : ℕ) (a : Action) (t : ℕ) → slice_get entry.actions i ≡ Some a → take (suc i) entry.actions ≡ take i entry.actions ++ a ∷ [] →
    IsCutBy (setting_of table (take p history) entry) (so_far (setting_of table (take p history) entry) (take i entry.actions)) a t →
    JustCut (setting_of table (take p history) entry) entry.actions (take i entry.actions ++ a ∷ []) (suc i) t
cut_begins sound more table history ok legal p entry e i a t f at cut =
    let s : Setting = setting_of table (take p history) entry in
    let acts : List Action = take i entry.actions in
    let All : List Action → Type 0 = λ acts. AllFollowed s acts in
    let followed = subst All (sym (legal.passes p entry e).actions) (pass_followed s) in
    let next = revocation_next s entry.actions i t cut.cap followed cut.over (f ∙ ap (λ a. Some a) cut.is) in
    let Made : List Action → Type 0 = λ acts. IsRevokedForBandwidth s acts next.0 in
    let made = subst Made (at ∙ ap (λ a. acts ++ a ∷ []) cut.is) (sound table history ok legal p entry e (suc i) (Revoke next.0 causes.Bandwidth) next.1).made in
    let P : Action → Type 0 = λ a. is_held_for table t (holder_of (so_far s (acts ++ a ∷ [])) next.0) ≡ true in
    let Q : List Action → Type 0 = λ x. held_by table x t ≤ cap_of table x t + 1 in
    record {
      core = next.0;
      next = next.1;
      own = subst P (sym cut.is) (own_core more s acts next.0 t cut.cap made);
      held = subst Q (append_assoc (actions_of (take p history)) acts (a ∷ [])) cut.held;
      earlier = acts;
      cap = cut.cap;
      just_before = ap (λ a. acts ++ a ∷ []) cut.is;
    }

within_pass : LegalIsSound → ActionIsOneMore → ThreadsAreOfTheirTask → ChosenHasWaitedLongest → (table : Table) (history : List PassEntry) → IsTable table → IsLegal table history →
    (p : ℕ) (entry : PassEntry) → slice_get history p ≡ Some entry → (t : ℕ) → is_latency_critical table t ≡ false → Within table (actions_of (take p history)) t →
    (i : ℕ) → i ≤ length entry.actions → IsCapped (setting_of table (take p history) entry) entry.actions (take i entry.actions) i t
within_pass sound more numbered longest table history ok legal p entry e t best begin zero le =
    let P : List Action → Type 0 = λ x. Within table x t in inl (subst P (sym (append-nil (actions_of (take p history)))) begin)
within_pass sound more numbered longest table history ok legal p entry e t best begin (suc i) le = ⊎_elim
    (λ found.
    let s : Setting = setting_of table (take p history) entry in
    let acts : List Action = take i entry.actions in
    let a : Action = found.0 in
    let here = sound table history ok legal p entry e i a found.2 in
    let one : suc i ≡ i + 1 = omega arith in
    let at : take (suc i) entry.actions ≡ acts ++ a ∷ [] = ap (λ n. take n entry.actions) one ∙ take_next entry.actions i a found.2 in
    let P : List Action → Type 0 = λ x. Within table x t in
    let C : List Action → Type 0 = λ acts. IsCapped s entry.actions acts (suc i) t in
    let moved : Within table (so_far s acts ++ a ∷ []) t → Within table (so_far s (acts ++ a ∷ [])) t = λ w. subst P (append_assoc (actions_of (take p history)) acts (a ∷ [])) w in
    subst C (sym at) (⊎_elim
    (λ w. ⊎_elim (λ w. inl (moved w)) (λ cut. inr (cut_begins sound more table history ok legal p entry e i a t found.2 at cut)) (step more numbered longest s acts a t best here w))
    (λ j. inl (moved (cut_ends more s entry.actions acts i a t found.2 here j)))
    (within_pass sound more numbered longest table history ok legal p entry e t best begin i (omega arith))))
    (λ past. absurd (let no = past.0 in omega arith))
    (slice_get_cases entry.actions i).1

none_held : (table : Table) (t n : ℕ) → count_below (λ c. is_held_for table t (holder_of [] c)) n ≤ 0
none_held table t zero = omega arith
none_held table t (suc n) = omega (arith, none_held table t n)

-- after a whole pass no cut is open
after_pass : (s : Setting) (all : List Action) (t : ℕ) → IsCapped s all (take (length all) all) (length all) t → Within s.table (so_far s all) t
after_pass s all t (inl w) = let P : List Action → Type 0 = λ acts. Within s.table (so_far s acts) t in subst P (take-length all) w
after_pass s all t (inr j) = let no = slice_get_within all (length all) _ j.next in absurd (omega (arith, no))

after_passes : LegalIsSound → ActionIsOneMore → ThreadsAreOfTheirTask → ChosenHasWaitedLongest → (table : Table) (history : List PassEntry) → IsTable table → IsLegal table history →
    (t : ℕ) → is_latency_critical table t ≡ false → (p : ℕ) → p ≤ length history → Within table (actions_of (take p history)) t
after_passes sound more numbered longest table history ok legal t best zero le = omega (arith, none_held table t table.cores)
after_passes sound more numbered longest table history ok legal t best (suc p) le = ⊎_elim
    (λ found.
    let entry : PassEntry = found.0 in
    let begin = after_passes sound more numbered longest table history ok legal t best p (omega arith) in
    let whole = after_pass (setting_of table (take p history) entry) entry.actions t
    (within_pass sound more numbered longest table history ok legal p entry found.2 t best begin (length entry.actions) (omega arith)) in
    let one : suc p ≡ p + 1 = omega arith in
    let P : List Action → Type 0 = λ x. Within table x t in
    subst P (sym (ap (λ n. actions_of (take n history)) one ∙ actions_more history p entry found.2)) whole)
    (λ past. absurd (let no = past.0 in omega arith))
    (slice_get_cases history p).1

-- at each point
pub capped_at : LegalIsSound → ActionIsOneMore → ThreadsAreOfTheirTask → ChosenHasWaitedLongest → (here : Point) → IsPoint here → (t : ℕ) → is_latency_critical here.table t ≡ false →
    IsCapped (setting_at here) here.entry.actions (made_at here) here.made t
capped_at sound more numbered longest here is t best =
    let within = slice_get_within here.history here.pass here.entry is.entry in
    within_pass sound more numbered longest here.table here.history is.table is.legal here.pass here.entry is.entry t best
    (after_passes sound more numbered longest here.table here.history is.table is.legal t best here.pass (omega (arith, within))) here.made is.made
