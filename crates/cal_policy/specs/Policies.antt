-- What each policy makes of a pass, and which histories are its own. Of Caladan's these are the
-- definitions of Pass.antt and Verdict.antt, of the second policy's those of Assured/Pass.antt.
use Rattle.std.specs.Prelude.{◌≡◌, ℕ, ◌<◌, List, [], ◌∷◌, ◌++◌, length, take, Option, Some, None}
use Rattle.std.specs.Prelude.{slice_get, codes, if◌then◌else◌}
use Rattle.std.specs.Str.{bytes_eq}
use Rattle.cal_machine.specs.Table.{Table}
use Rattle.cal_policy.specs.declared.auditor.Auditor.{Auditor}
use Rattle.cal_policy.specs.declared.book.Book.{Book}
use Rattle.cal_policy.specs.declared.history.action.Action.{Action}
use Rattle.cal_policy.specs.declared.history.entry.PassEntry.{PassEntry}
use Rattle.cal_policy.specs.declared.history.input.Input.{Input}
use Rattle.cal_policy.specs.declared.judgement.open_input.FoundLook.{FoundLook}
use Rattle.cal_policy.specs.declared.judgement.open_pass.OpenPass.{OpenPass}
use Rattle.cal_policy.specs.declared.policy.Policy.{Policy}
use Rattle.cal_policy.specs.declared.policy.Policy.TheVariants.{Caladan, Assured}
use Rattle.cal_policy.specs.declared.verdict.Verdict.{Verdict}
use Rattle.cal_policy.specs.declared.verdict.Verdict.TheVariants.{Legal, Illegal}
use Rattle.cal_policy.specs.Assured.Pass as assured
use Rattle.cal_policy.specs.Auditor.{IsAuditOf, KeepsUp}
use Rattle.cal_policy.specs.Book.{board_in}
use Rattle.cal_policy.specs.Judgement.Judging.{IsInput}
use Rattle.cal_policy.specs.Judgement.OpenInput.{judged_input}
use Rattle.cal_policy.specs.Judgement.OpenPass.{IsOpenAt}
use Rattle.cal_policy.specs.Pass.{pass_of, IsPass, IsLegal}
use Rattle.cal_policy.specs.Setting.{Setting, setting}
use Rattle.cal_policy.specs.State.{IsStateAfter}
use Rattle.cal_policy.specs.Verdict.{IsVerdict}

-- the name of a policy, and the policy of a name
abbrev pub policy_name : Policy → List ℕ
policy_name Caladan = codes "caladan"
policy_name Assured = codes "assured"

abbrev pub policy_named : List ℕ → Option Policy
policy_named name = if bytes_eq name (codes "caladan") then Some Caladan
    else if bytes_eq name (codes "assured") then Some Assured else None

-- the actions of a pass
abbrev pub pass_by : Policy → Setting → List Action
pass_by Caladan s = pass_of s
pass_by Assured s = assured.pass_of s

-- an entry is a pass of the policy after these
abbrev pub IsPassBy : Policy → Table → List PassEntry → PassEntry → Type 0
IsPassBy Caladan table before entry = IsPass table before entry
IsPassBy Assured table before entry = assured.IsPass table before entry

-- a history of the policy: each entry is a pass of it after those before it
abbrev pub IsLegalBy : Policy → Table → List PassEntry → Type 0
IsLegalBy Caladan table history = IsLegal table history
IsLegalBy Assured table history = assured.IsLegal table history

-- pass p is the first that is none of the second policy: those before it are its own, and it is no
-- pass after them
pub record IsFirstOther (table : Table) (history : List PassEntry) (p : ℕ) : Type 0 where
  pub within : p < length history
  pub before : assured.IsLegal table (take p history)
  pub illegal : (entry : PassEntry) → slice_get history p ≡ Some entry →
      ¬ assured.IsPass table (take p history) entry

-- what an audit by the policy says of a history: legal where it is, else the first pass that is none
abbrev pub IsVerdictBy : Policy → Table → List PassEntry → Verdict → Type 0
IsVerdictBy Caladan table history verdict = IsVerdict table history verdict
IsVerdictBy Assured table history Legal = assured.IsLegal table history
IsVerdictBy Assured table history (Illegal p) = IsFirstOther table history p

-- it is so after each history of the book's policy that leaves the state which the book keeps
abbrev pub AfterOwn : Table → Book → (List PassEntry → Type 0) → Type 0
AfterOwn table book is = (h : List PassEntry) → IsLegalBy book.policy table h →
    IsStateAfter (board_in book) h → is h

-- and whose next pass may be given this input
abbrev pub AfterOwnOn : Table → Book → Input → (List PassEntry → Type 0) → Type 0
AfterOwnOn table book input is = (h : List PassEntry) → IsLegalBy book.policy table h →
    IsStateAfter (board_in book) h → IsInput table h input → is h

-- the same of a pass on these looks as they came in, at this clock and bandwidth figure: of the
-- history and of the input that is made of the looks
abbrev pub AfterOwnOpen : Table → Book → ℕ → ℕ → OpenPass → (List PassEntry → Input → Type 0) →
    Type 0
AfterOwnOpen table book now bandwidth looks is = (h : List PassEntry) (found : List FoundLook) →
    IsLegalBy book.policy table h → IsStateAfter (board_in book) h →
    IsOpenAt table h found looks → is h (judged_input table h now bandwidth found)

-- the book's next pass: its policy's actions on the input, after which it keeps the state
pub record IsNextBy (table : Table) (before after : Book) (h : List PassEntry) (input : Input)
    (actions : List Action) : Type 0 where
  pub acts : actions ≡ pass_by before.policy (setting table h input)
  pub agrees : IsStateAfter (board_in after) (h ++ record {
    input = input;
    actions = actions;
  } ∷ [])

-- the auditor goes by the second policy, was handed this history, and its verdict is the history's
pub record IsOwnAudit (table : Table) (history : List PassEntry) (auditor : Auditor) : Type 0 where
  pub policy : auditor.book.policy ≡ Assured
  pub right : IsVerdictBy Assured table history auditor.verdict
  pub keeps_up : KeepsUp history auditor auditor.verdict

-- the auditor goes by the policy, was handed this history, and its verdict is the history's
abbrev pub IsAuditBy : Policy → Table → List PassEntry → Auditor → Type 0
IsAuditBy Caladan table history auditor = IsAuditOf table history auditor
IsAuditBy Assured table history auditor = IsOwnAudit table history auditor
