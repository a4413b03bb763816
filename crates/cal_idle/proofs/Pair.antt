-- Two settings of the same input, after histories that leave the same.
use Rattle.std.proofs.Common.{◌≡◌, ℕ, List, ◌++◌, ap, sym, ◌∙◌}
use Rattle.std.specs.Option.{unwrap_or}
use Rattle.cal_machine.specs.Table.{Table}
use Rattle.cal_policy.specs.declared.history.action.Action.{Action}
use Rattle.cal_policy.specs.declared.history.entry.PassEntry.{PassEntry}
use Rattle.cal_policy.specs.declared.history.input.Input.{Input}
use Rattle.cal_policy.specs.History.{looks_of}
use Rattle.cal_policy.specs.History.Looks.{to_keep_at}
use Rattle.cal_policy.specs.Setting.{Setting, setting, so_far, kept_now, kept_before}
use Rattle.cal_policy.proofs.HistoryLemmas.OneMore.{kept_push}
use Rattle.cal_idle.specs.Idle.{LeaveTheSame}

pub record Pair : Type 0 where
  pub table : Table
  pub input : Input
  pub one : List PassEntry
  pub other : List PassEntry
  pub same : LeaveTheSame one other

abbrev pub first : Pair → Setting
first w = setting w.table w.one w.input

abbrev pub second : Pair → Setting
second w = setting w.table w.other w.input

-- all actions so far are the same, and so are the records that are kept in the pass and before it
pub so_far_same : (w : Pair) (acts : List Action) → so_far (first w) acts ≡ so_far (second w) acts
so_far_same w acts = λ i. w.same.done i ++ acts

pub kept_same : (w : Pair) (k : ℕ) → kept_now (first w) k ≡ kept_now (second w) k
kept_same w k = kept_push (looks_of w.one) w.input.seen k ∙ ap (unwrap_or (to_keep_at w.input.seen k)) (w.same.kept k) ∙ sym (kept_push (looks_of w.other) w.input.seen k)

pub before_same : (w : Pair) (k : ℕ) → kept_before (first w) k ≡ kept_before (second w) k
before_same w k = w.same.kept k

-- a part that does the same after the same actions
pub part_same : (p q : List Action → List Action) → ((acts : List Action) → p acts ≡ q acts) → (a b : List Action) → a ≡ b → a ++ p a ≡ b ++ q b
part_same p q each a b e = ap (λ l. l ++ p l) e ∙ ap (λ l. b ++ l) (each b)
