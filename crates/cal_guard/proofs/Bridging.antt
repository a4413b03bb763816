-- A legal history is permitted, and each of its actions is for its cause: by the laws of cal_laws.
use Rattle.cal_guard.proofs.Common.{◌≡◌, ℕ, ◌+◌, ◌≤◌, Bool, true, false, cond, eqb, List, [], ◌∷◌, ◌++◌, length, take, Some, sym, ap, ◌∙◌, arith, subst, append_assoc, ⊎_elim, slice_get, take-length, nat_tests, slice_get_within, Command, Run, Park, Table, IsTable, Action, Free, Unban, Ban, Revoke, Cap, Grant, PassEntry, actions_of, command_to, sends, sent_to, is_latency_critical, held_by, cap_of, placement_of, so_far, LegalIsSound, LastThreadIsPlaced, Point, IsPoint, made_at, actions_at, next_at, NoneHeld, NoBannedIsGranted, BannedAreEmptyAfterPasses, BannedAreEmptiedAtOnce, BansAreDue, BansEndUnshown, GrantsKeepToCaps, RevocationsLeaveGuarantees, TasksKeepToCaps, last_loser, actions_more, sound_at, MayBeSent, MayBeMade, IsPermitted, core_revoked, LegalIsPermitted, sent_push, sent_grows}
use Rattle.cal_policy.specs.declared.history.action.Cause.TheVariants as causes
use Rattle.cal_policy.specs.Pass.{IsLegal}
use Rattle.cal_policy.specs.declared.policy.Policy.TheVariants.{Caladan}
use Rattle.cal_policy.proofs.PassLemmas.Legality.{legal_upto_by}
use Rattle.cal_laws.specs.Point.{setting_at}
use Rattle.cal_laws.specs.Caps.{CapsAreDue}
use Rattle.cal_laws.specs.Cause.{RevocationsHaveCause}
use Rattle.cal_laws.specs.OneEach.{CommandsGoWhereIsRoom, ThreadsAreSentOneCommand, PassesAreShort}
use Rattle.cal_guard.specs.Causes.{IsForItsCause, LegalIsRight}
use Rattle.cal_machine.proofs.Last.{take_next}

-- the laws that are cited
pub record Safety : Type 0 where
  pub sound : LegalIsSound
  pub last : LastThreadIsPlaced
  pub room : CommandsGoWhereIsRoom
  pub one : ThreadsAreSentOneCommand
  pub short : PassesAreShort
  pub leaves : RevocationsLeaveGuarantees
  pub caps : GrantsKeepToCaps
  pub unbanned : NoBannedIsGranted
  pub emptied : BannedAreEmptiedAtOnce
  pub empty : BannedAreEmptyAfterPasses
  pub capped : TasksKeepToCaps

is_next : (here : Point) → IsPoint here → (a : Action) → next_at here ≡ Some a → IsPoint (record { table = here.table; history = here.history; pass = here.pass; entry = here.entry; made = here.made + 1 })
is_next here is a e = record { table = is.table; legal = is.legal; entry = is.entry; made = (let lt = slice_get_within here.entry.actions here.made a e in omega (arith, lt)) }

actions_next : (here : Point) (a : Action) → next_at here ≡ Some a → so_far (setting_at here) (take (here.made + 1) here.entry.actions) ≡ actions_at here ++ a ∷ []
actions_next here a e =
    let x : List Action = actions_of (take here.pass here.history) in
    ap (λ xs. x ++ xs) (take_next here.entry.actions here.made a e) ∙ sym (append_assoc x (made_at here) (a ∷ []))

-- a thread to which a command is sent may be sent one
may_send : Safety → (here : Point) → IsPoint here → (a : Action) → next_at here ≡ Some a → (k : ℕ) → length (sends k (actions_at here) a) ≡ 1 → MayBeSent (setting_at here) (made_at here) k
may_send laws here is a e k sent =
    let after = laws.one (record { table = here.table; history = here.history; pass = here.pass; entry = here.entry; made = here.made + 1 }) (is_next here is a e) k in
    let same = ap (λ l. sent_to l k) (actions_next here a e) in
    let sum = sent_push (actions_at here) a k in
    let grown = sent_grows (actions_of (take here.pass here.history)) (made_at here) k in record {
      room = laws.room here is a e k (omega (arith, sent));
      unsent = omega (arith, after, same, sum, grown, sent);
    }

to_itself : (k : ℕ) (command : Command) → length (command_to k (Some k) command) ≡ 1
to_itself k command = let same : eqb k k ≡ true = grind (arith, nat_tests) in ap (λ (b : Bool). length (cond b (command ∷ []) [])) same

may : Safety → (here : Point) → IsPoint here → (a : Action) → next_at here ≡ Some a → MayBeMade (setting_at here) (made_at here) a
may laws here is (Free core) e = (sound_at laws.sound here is (Free core) e).made.left
may laws here is (Unban core) e = tt
may laws here is (Ban core thread started) e = tt
may laws here is (Cap task cap) e = tt
may laws here is (Grant core thread class) e = record {
  unbanned = laws.unbanned here is core thread class e;
  books = laws.caps here is core thread class e;
  send = may_send laws here is (Grant core thread class) e thread (to_itself thread (Run core));
}
may laws here is (Revoke core cause) e =
    let x : List Action = actions_at here in
    let leaves = laws.leaves here is core cause e in
    let sound = sound_at laws.sound here is (Revoke core cause) e in
    let thread = last_loser x core leaves.loser (laws.last x core) (sound.steady.granted core leaves.loser (ap placement_of leaves.held)) in
    let sent = ap (λ o. length (command_to leaves.loser.thread o Park)) thread ∙ to_itself leaves.loser.thread Park in record {
      loser = leaves.loser;
      held = leaves.held;
      over = leaves.over;
      send = may_send laws here is (Revoke core cause) e leaves.loser.thread sent;
    }

permitted : Safety → (here : Point) → IsPoint here → (a : Action) → next_at here ≡ Some a → IsPermitted (setting_at here) (made_at here) a
permitted laws here is a e = record {
  fits = (sound_at laws.sound here is a e).fits;
  may = may laws here is a e;
  empties = λ core banned held.
      let just = laws.emptied here is core banned held in
      let both : Some a ≡ Some (Revoke core (causes.Ban just.by)) = sym e ∙ just.revoked in
      let same : a ≡ Revoke core (causes.Ban just.by) = cc in ap core_revoked same;
  lowers = λ t best over. ⊎_elim
      (λ within. absurd (omega (arith, within, over)))
      (λ cut.
      let both : Some a ≡ Some (Revoke cut.core causes.Bandwidth) = sym e ∙ cut.next in
      let same : a ≡ Revoke cut.core causes.Bandwidth = cc in record { core = cut.core; revoked = ap core_revoked same; own = cut.own })
      (laws.capped here is t best);
}

-- at the end of a pass nothing comes next
lowered_at : Safety → (table : Table) (history : List PassEntry) → IsTable table → IsLegal table history → (p : ℕ) (entry : PassEntry) → slice_get history p ≡ Some entry → (t : ℕ) →
    is_latency_critical table t ≡ false → held_by table (actions_of (take p history) ++ entry.actions) t ≤ cap_of table (actions_of (take p history) ++ entry.actions) t
lowered_at laws table history ok legal p entry e t best =
    let n = length entry.actions in
    let x : List Action = actions_of (take p history) in
    let whole : take n entry.actions ≡ entry.actions = take-length entry.actions in
    let P : List Action → Type 0 = λ acts. held_by table (x ++ acts) t ≤ cap_of table (x ++ acts) t in
    ⊎_elim
    (λ within. subst P whole within)
    (λ cut. absurd (let lt = slice_get_within entry.actions n (Revoke cut.core causes.Bandwidth) cut.next in omega (arith, lt)))
    (laws.capped (record { table = table; history = history; pass = p; entry = entry; made = n }) (record { table = ok; legal = legal; entry = e; made = omega arith }) t best)

pub legal_permitted : Safety → LegalIsPermitted
legal_permitted laws table history ok legal = record {
  passes = λ p entry e.
      let low = slice_get_within history p entry e in
      let upto : IsLegal table (take (p + 1) history) = legal_upto_by Caladan table history (p + 1) (omega (arith, low)) (λ q lt other f. legal.passes q other f) in record {
        input = (legal.passes p entry e).input;
        actions = record {
          each = λ i a f. permitted laws (record { table = table; history = history; pass = p; entry = entry; made = i })
              (record { table = ok; legal = legal; entry = e; made = (let lt = slice_get_within entry.actions i a f in omega (arith, lt)) }) a f;
          short = laws.short (record { table = table; history = history; pass = p; entry = entry; made = 0 }) (record { table = ok; legal = legal; entry = e; made = omega arith });
          settled = record {
            emptied = subst NoneHeld (actions_more history p entry e) (laws.empty table (take (p + 1) history) ok upto);
            lowered = record { within = lowered_at laws table history ok legal p entry e };
          };
        };
      };
}

-- the laws on causes that are cited
pub record Causes : Type 0 where
  pub revoked : RevocationsHaveCause
  pub due : BansAreDue
  pub ended : BansEndUnshown
  pub capped : CapsAreDue

for_its_cause : Causes → (here : Point) → IsPoint here → (a : Action) → next_at here ≡ Some a → IsForItsCause (setting_at here) (made_at here) a
for_its_cause laws here is (Free core) e = tt
for_its_cause laws here is (Grant core thread class) e = tt
for_its_cause laws here is (Unban core) e = laws.ended here is core e
for_its_cause laws here is (Ban core thread started) e = laws.due here is core thread started e
for_its_cause laws here is (Cap task cap) e = laws.capped here is task cap e
for_its_cause laws here is (Revoke core cause) e = laws.revoked here is core cause e

pub legal_right : LegalIsPermitted → Causes → LegalIsRight
legal_right permitted laws table history ok legal = record {
  permitted = permitted table history ok legal;
  causes = record {
    at = λ p entry e i a f. for_its_cause laws (record { table = table; history = history; pass = p; entry = entry; made = i })
        (record { table = ok; legal = legal; entry = e; made = (let lt = slice_get_within entry.actions i a f in omega (arith, lt)) }) a f;
  };
}
