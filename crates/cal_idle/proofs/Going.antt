-- Histories that leave the same go on alike, by each policy.
use Rattle.std.proofs.Common.{◌≡◌, ◌≤◌, ◌↔◌, List, [], ◌∷◌, ◌++◌, length, Some, refl, sym, ap, ◌∙◌, arith, subst, append_assoc, append-nil, length-append, slice_get}
use Rattle.std.proofs.Math.Seq.{take-append_seam}
use Rattle.cal_machine.specs.Table.{Table}
use Rattle.cal_policy.specs.declared.history.action.Action.{Action}
use Rattle.cal_policy.specs.declared.history.entry.PassEntry.{PassEntry}
use Rattle.cal_policy.specs.declared.history.input.Input.{Input}
use Rattle.cal_policy.specs.declared.policy.Policy.{Policy}
use Rattle.cal_policy.specs.declared.policy.Policy.TheVariants.{Caladan, Assured}
use Rattle.cal_policy.specs.History.Looks.{look_of}
use Rattle.cal_policy.specs.Judgement.Judging.{IsInput, IsFitLook, judged}
use Rattle.cal_policy.specs.Policies.{IsPassBy, IsLegalBy}
use Rattle.cal_policy.proofs.PolicyLemmas.{pass_input, pass_actions, pass_from, pass_at_by, legal_upto_by, legal_more_by}
use Rattle.cal_idle.proofs.Leaving.{same_push, same_back, idle_leaves}
use Rattle.cal_idle.specs.Idle.{IsIdle, LeaveTheSame, GoesByWhatIsLeft, IdlePassesChangeNothing}

-- ---- cut a history ----

place_after : (one two : List PassEntry) (entry : PassEntry) → slice_get (one ++ entry ∷ two) (length one) ≡ Some entry
place_after [] two entry = refl
place_after (e ∷ one) two entry = place_after one two entry

pub legal_first : (policy : Policy) (table : Table) (one two : List PassEntry) → IsLegalBy policy table (one ++ two) → IsLegalBy policy table one
legal_first policy table one two legal =
    let within : length one ≤ length (one ++ two) = omega (arith, length-append one two) in
    let cut = legal_upto_by policy table (one ++ two) (length one) within (λ p lt entry at. pass_at_by policy table (one ++ two) legal p entry at) in
    subst (λ (h : List PassEntry). IsLegalBy policy table h) (take-append_seam one two) cut

pub pass_there : (policy : Policy) (table : Table) (one : List PassEntry) (entry : PassEntry) (two : List PassEntry) → IsLegalBy policy table (one ++ entry ∷ two) → IsPassBy policy table one entry
pass_there policy table one entry two legal =
    subst (λ (h : List PassEntry). IsPassBy policy table h entry) (take-append_seam one (entry ∷ two))
    (pass_at_by policy table (one ++ entry ∷ two) legal (length one) entry (place_after one two entry))

-- ---- the next pass ----

input_same : (table : Table) (one other : List PassEntry) (input : Input) → LeaveTheSame one other → IsInput table one input → IsInput table other input
input_same table one other input same is = record {
  looks = record {
    looks = is.looks.looks;
    rooms = is.looks.rooms;
    fit = λ k seen at. subst (λ shown. IsFitLook shown seen) (same.shown k) (is.looks.fit k seen at);
  };
  as_judged = λ k seen at. is.as_judged k seen at ∙ ap (λ (x : List Action). judged table.cores x k (look_of seen)) same.done;
}

pub pass_alike : (policy : Policy) (table : Table) (one other : List PassEntry) (entry : PassEntry) → GoesByWhatIsLeft policy → LeaveTheSame one other →
    IsPassBy policy table one entry → IsPassBy policy table other entry
pass_alike policy table one other entry goes same pass =
    pass_from policy table other entry (input_same table one other entry.input same (pass_input policy table one entry pass))
    (pass_actions policy table one entry pass ∙ goes table one other entry.input same)

-- ---- all passes after ----

pub goes_on : (policy : Policy) (table : Table) (one other after : List PassEntry) → GoesByWhatIsLeft policy → LeaveTheSame one other →
    IsLegalBy policy table (one ++ after) → IsLegalBy policy table other → IsLegalBy policy table (other ++ after)
goes_on policy table one other [] goes same legal legal_other = subst (λ (h : List PassEntry). IsLegalBy policy table h) (sym (append-nil other)) legal_other
goes_on policy table one other (entry ∷ after) goes same legal legal_other =
    let P : List PassEntry → Type 0 = λ h. IsLegalBy policy table h in
    let next = pass_alike policy table one other entry goes same (pass_there policy table one entry after legal) in
    let more = legal_more_by policy table other entry legal_other next in
    subst P (append_assoc other (entry ∷ []) after)
    (goes_on policy table (one ++ entry ∷ []) (other ++ entry ∷ []) after goes (same_push one other entry same)
    (subst P (sym (append_assoc one (entry ∷ []) after)) legal) more)

-- ---- an idle pass ----

pub change_by : (policy : Policy) → GoesByWhatIsLeft policy → (table : Table) (before : List PassEntry) (entry : PassEntry) (after : List PassEntry) → IsIdle before entry →
    IsLegalBy policy table (before ++ entry ∷ after) ↔ (IsPassBy policy table before entry × IsLegalBy policy table (before ++ after))
change_by policy goes table before entry after idle =
    let P : List PassEntry → Type 0 = λ h. IsLegalBy policy table h in
    let same = idle_leaves before entry idle in
    let seam = append_assoc before (entry ∷ []) after in (
      (λ legal. (
        pass_there policy table before entry after legal,
        goes_on policy table (before ++ entry ∷ []) before after goes same (subst P (sym seam) legal) (legal_first policy table before (entry ∷ after) legal),
      )),
      (λ both. subst P seam
          (goes_on policy table before (before ++ entry ∷ []) after goes (same_back (before ++ entry ∷ []) before same) both.1
          (legal_more_by policy table before entry (legal_first policy table before after both.1) both.0))),
    )

pub change_nothing : ((policy : Policy) → GoesByWhatIsLeft policy) → IdlePassesChangeNothing
change_nothing goes policy table before entry after idle = change_by policy (goes policy) table before entry after idle

pub by_each : GoesByWhatIsLeft Caladan → GoesByWhatIsLeft Assured → (policy : Policy) → GoesByWhatIsLeft policy
by_each caladan assured Caladan = caladan
by_each caladan assured Assured = assured
