-- What is kept inside a pass, and when it is what the history and the actions of the pass say.
use Rattle.std.specs.Prelude.{◌≡◌, ℕ, ◌+◌, ◌<◌, ◌≤◌, true, List, [], ◌∷◌, ◌++◌, length}
use Rattle.std.specs.Prelude.{Some, slice_get}
use Rattle.cal_machine.specs.Table.{Table}
use Rattle.cal_machine.specs.declared.thread_set.ThreadSet.{ThreadSet}
use Rattle.cal_machine.specs.ThreadSet.{has_thread}
use Rattle.cal_machine.specs.declared.numbering.TheConstants.{MOST_THREADS}
use Rattle.cal_policy.specs.declared.board.Board.{Board}
use Rattle.cal_policy.specs.declared.history.action.Action.{Action}
use Rattle.cal_policy.specs.declared.history.action_list.TheConstants.{MOST_ACTIONS}
use Rattle.cal_policy.specs.History.{holder_of}
use Rattle.cal_policy.specs.Board.Counts.{is_held}
use Rattle.cal_policy.specs.declared.history.entry.PassEntry.{PassEntry}
use Rattle.cal_policy.specs.declared.history.input.Input.{Input}
use Rattle.cal_policy.specs.declared.history.look.Seen.{Seen}
use Rattle.cal_policy.specs.declared.judgement.open_input.FoundLook.{FoundLook}
use Rattle.cal_policy.specs.declared.pass.terms.Terms.{Terms}
use Rattle.cal_policy.specs.Judgement.OpenInput.{judged_looks}
use Rattle.cal_policy.specs.Judgement.OpenPass.{IsOpenAt, ShowNoted}
use Rattle.cal_policy.specs.Setting.{Setting, Begun, setting, setting_at, so_far}
use Rattle.cal_policy.specs.Board.{NamesTable}
use Rattle.cal_policy.specs.State.{IsStateAfter, Stands}
use Rattle.cal_guard.specs.declared.pass_looks.PassLooks.{PassLooks}
use Rattle.cal_guard.specs.declared.pass_looks.PassLooks.TheVariants.{Listed, Noted}
use Rattle.cal_guard.specs.declared.passing.Passing.{Passing}
use Rattle.cal_guard.specs.Permitted.{IsPermittedHistory}
use Rattle.cal_guard.specs.Refusals.{was_sent}

-- the set has the threads that were sent a command in this pass
pub record IsSetOfSent (set : ThreadSet) (s : Setting) (acts : List Action) : Type 0 where
  pub sent : (k : ℕ) → k < MOST_THREADS → has_thread set k ≡ was_sent s acts k

-- the history goes on with the pass that had these actions, and a pass on this input begins
abbrev pub next_setting : Setting → List Action → Input → Setting
next_setting s acts input = record {
  table = s.table;
  history = s.history ++ record { input = s.input; actions = acts } ∷ [];
  input = input;
}

-- no look is of a thread past the last
abbrev pub AreFew : PassLooks → Type 0
AreFew (Listed listed) = length listed.now ≤ MOST_THREADS
AreFew (Noted pass) = Unit {0}

-- these are the looks, or they show what is noted of them
abbrev pub AreShown : PassLooks → List Seen → Type 0
AreShown (Listed listed) seen = listed.now ≡ seen
AreShown (Noted pass) seen = ShowNoted pass.now seen

-- after this history these are the looks: those listed, or those that came in, as they are judged
abbrev pub AreLooks : PassLooks → Table → List PassEntry → List Seen → Type 0
AreLooks (Listed listed) table history seen = listed.now ≡ seen
AreLooks (Noted pass) table history seen = (found : List FoundLook) ×
    IsOpenAt table history found pass.now × (judged_looks table history found ≡ seen)

-- on these terms and looks the pass after this history goes by this input
pub record GoesBy (table : Table) (terms : Terms) (looks : PassLooks) (history : List PassEntry)
    (input : Input) : Type 0 where
  pub seen : AreLooks looks table history input.seen
  pub same : setting table history input
      ≡ setting_at table terms (record { history = history; seen = input.seen })

-- these actions may be made where the pass has `made`: each names what the table has, and with it
-- the pass has not too many
abbrev pub MayFollow : Table → ℕ → List Action → Type 0
MayFollow table made actions = (i : ℕ) (a : Action) → slice_get actions i ≡ Some a →
    NamesTable table a × (made + i < MOST_ACTIONS)

-- every core that is held is one of the machine's
pub record HeldAreLow (table : Table) (x : List Action) : Type 0 where
  pub low : (c : ℕ) → is_held (holder_of x c) ≡ true → c < table.cores

-- the state, and who was sent a command, are those after the actions acts of the pass, whoever
-- permitted them
pub record IsAfter (passing : Passing) (s : Setting) (acts : List Action) : Type 0 where
  pub stands : Stands passing.board s acts
  pub sent : IsSetOfSent passing.sent s acts

-- after the actions acts of the pass
pub record IsInside (passing : Passing) (s : Setting) (acts : List Action) : Type 0 where
  pub stands : Stands passing.board s acts
  pub sent : IsSetOfSent passing.sent s acts
  pub made : passing.made ≡ length acts
  pub few : length acts ≤ MOST_ACTIONS
  pub low : HeldAreLow s.table (so_far s acts)

-- it is so within each pass on these terms that this state may be in, after the actions of it so far
abbrev pub InsideOn : Table → Terms → Passing → (Setting → List Action → Type 0) → Type 0
InsideOn table terms passing is = (h : Begun) (acts : List Action) →
    IsInside passing (setting_at table terms h) acts → is (setting_at table terms h) acts

-- it holds for every permitted history that leaves this board, and every input with these terms and
-- looks
abbrev pub GoingBy : Table → Terms → PassLooks → Board → (List PassEntry → Input → Type 0) → Type 0
GoingBy table terms looks board is = (h : List PassEntry) (input : Input) →
    GoesBy table terms looks h input → IsPermittedHistory table h → IsStateAfter board h → is h input
