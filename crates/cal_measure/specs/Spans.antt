-- The spans of a history: which thread had which core, from which pass to which. Doranjei's
-- own.
pub mod Bans
pub mod Tracking
pub mod Laws
use Rattle.std.specs.Prelude.{ℕ, ◌+◌, ◌==◌, zero, suc, List, [], ◌∷◌, ◌++◌, map, Option, Some, None}
use Rattle.std.specs.Prelude.{option_map, if◌then◌else◌}
use Rattle.std.specs.Option.{unwrap_or}
use Rattle.cal_policy.specs.History.Lists.{last_of, each_of}
use Rattle.cal_policy.specs.History.{holder_of}
use Rattle.cal_policy.specs.declared.board.holders.Holder.{Holder}
use Rattle.cal_policy.specs.declared.board.holders.Holder.TheVariants as holders
use Rattle.cal_policy.specs.declared.history.action.Action.{Action}
use Rattle.cal_policy.specs.declared.history.action.Action.TheVariants.{Free, Unban, Ban, Revoke}
use Rattle.cal_policy.specs.declared.history.action.Action.TheVariants.{Cap, Grant}
use Rattle.cal_policy.specs.declared.history.entry.PassEntry.{PassEntry}
use Rattle.cal_measure.specs.Turns.{one_of}
use Rattle.cal_measure.specs.declared.spans.span.Left.{Left}
use Rattle.cal_measure.specs.declared.spans.span.Span.{Span}

-- an action, and the pass that made it
pub record Move : Type 0 where
  pub pass : ℕ
  pub action : Action

abbrev pub made_in : ℕ → Action → Move
made_in p a = record { pass = p; action = a }

-- the actions of passes, end to end, where the first pass has this number
abbrev pub moves_from : ℕ → List PassEntry → List Move
moves_from p [] = []
moves_from p (entry ∷ entries) = map (made_in p) entry.actions ++ moves_from (p + 1) entries

-- the actions of a history, each with its pass
abbrev pub moves_of : List PassEntry → List Move
moves_of history = moves_from 0 history

-- the same without their passes
abbrev pub actions_in : List Move → List Action
actions_in moves = map (λ m. m.action) moves

-- the span that a grant begins
abbrev pub granted : ℕ → ℕ → ℕ → ℕ → Span
granted p core thread class = record {
  core = core;
  thread = thread;
  class = class;
  from = p;
  left = None;
  to = None;
}

-- a span that ends
abbrev pub ended : ℕ → Span → Span
ended p span = record span { to = Some p }

-- an action as a Grant or a Free of core c: the span that it begins; a Free begins none
abbrev pub begun_by : ℕ → ℕ → Action → Option (Option Span)
begun_by c p (Grant core thread class) =
    if core == c then Some (Some (granted p core thread class)) else None
begun_by c p (Free core) = if core == c then Some None else None
begun_by c p (Revoke core cause) = None
begun_by c p (Unban core) = None
begun_by c p (Ban core thread started) = None
begun_by c p (Cap task cap) = None

-- the span that the last Grant of core c began, where no Free came after it. So a Revoke of a core
-- that is free, which no orderly history has, shows nothing
abbrev pub begun_of : List Move → ℕ → Option Span
begun_of moves c = unwrap_or (last_of (λ before m. begun_by c m.pass m.action) moves) None

-- an action as a Revoke of core c: its pass and its cause
abbrev pub told_by : ℕ → ℕ → Action → Option Left
told_by c p (Revoke core cause) =
    if core == c then Some (record { pass = p; cause = cause }) else None
told_by c p (Grant core thread class) = None
told_by c p (Free core) = None
told_by c p (Unban core) = None
told_by c p (Ban core thread started) = None
told_by c p (Cap task cap) = None

-- the last Revoke of core c
abbrev pub told_of : List Move → ℕ → Option Left
told_of moves c = last_of (λ before m. told_by c m.pass m.action) moves

-- a span whose core is being left
abbrev pub left_as : Option Left → Span → Span
left_as told span = record span { left = told }

-- the span of a core by its holder: a free core is in none; a core that is held is in the one that
-- its last grant began; a core that is being left is in that one, left as the last revocation told
abbrev pub span_by : Holder → Option Left → Option Span → Option Span
span_by holders.Free told begun = None
span_by (holders.Held placement) told begun = begun
span_by (holders.Leaving placement cause) told begun = option_map (left_as told) begun

-- the span that core c is in after these actions, if any
abbrev pub span_at : List Move → ℕ → Option Span
span_at moves c = span_by (holder_of (actions_in moves) c) (told_of moves c) (begun_of moves c)

-- the span that ends in pass p, if any
abbrev pub ending : ℕ → Option Span → List Span
ending p stay = one_of (option_map (ended p) stay)

-- the span that an action of pass p ends, after these actions: a Free that of its core; a Grant
-- too, where the core is not free
abbrev pub ended_by : List Move → ℕ → Action → List Span
ended_by before p (Free core) = ending p (span_at before core)
ended_by before p (Grant core thread class) = ending p (span_at before core)
ended_by before p (Revoke core cause) = []
ended_by before p (Unban core) = []
ended_by before p (Ban core thread started) = []
ended_by before p (Cap task cap) = []

-- the spans that these actions end, in their order
abbrev pub ended_of : List Move → List Span
ended_of moves = each_of (λ before m. ended_by before m.pass m.action) moves

-- the spans that the cores below n are in after these actions, by core
abbrev pub open_of : List Move → ℕ → List Span
open_of moves zero = []
open_of moves (suc n) = open_of moves n ++ one_of (span_at moves n)

-- the spans of a history: those that ended, as they did, and then those that go on at its end, by
-- core
abbrev pub spans_of : ℕ → List PassEntry → List Span
spans_of cores history = ended_of (moves_of history) ++ open_of (moves_of history) cores
