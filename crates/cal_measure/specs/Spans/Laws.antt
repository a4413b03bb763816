-- What the spans of every history tell.
use Rattle.std.specs.Prelude.{◌≡◌, ◌<◌, ◌≤◌, ℕ, List, take, Option, Some, None}
use Rattle.std.specs.List.{Contains}
use Rattle.cal_machine.specs.Table.{Table}
use Rattle.cal_policy.specs.declared.board.holders.Holder.{Holder}
use Rattle.cal_policy.specs.declared.board.holders.Holder.TheVariants as holders
use Rattle.cal_policy.specs.declared.board.holders.Placement as placements
use Rattle.cal_policy.specs.declared.history.action.Cause.{Cause}
use Rattle.cal_policy.specs.declared.history.entry.PassEntry.{PassEntry}
use Rattle.cal_policy.specs.Board.{placement_of}
use Rattle.cal_policy.specs.History.{actions_of, holder_of}
use Rattle.cal_policy.specs.Judgement.Orderly.{IsOrderly}
use Rattle.cal_measure.specs.Spans.{moves_of, span_at, spans_of}
use Rattle.cal_measure.specs.declared.spans.span.Span.{Span}

-- what ends then, or never, goes on after the first n passes: it did not end in one of them
abbrev pub GoesOn : ℕ → Option ℕ → Type 0
GoesOn n None = Unit {0}
GoesOn n (Some q) = n ≤ q

-- a span shows after the first n passes: it began in one of them, and goes on
pub record Shows (span : Span) (n : ℕ) : Type 0 where
  pub began : span.from < n
  pub goes_on : GoesOn n span.to

-- the one span is the other, as far as it has come
pub record IsOf (stay span : Span) : Type 0 where
  pub core : span.core ≡ stay.core
  pub thread : span.thread ≡ stay.thread
  pub class : span.class ≡ stay.class
  pub from : span.from ≡ stay.from

-- whatever span a core is in after the first n passes, a span of the history shows it there
abbrev pub StaysAreShown : Type 0
StaysAreShown =
    (cores : ℕ) (history : List PassEntry) (n c : ℕ) (stay : Span) → c < cores →
    span_at (moves_of (take n history)) c ≡ Some stay
    → (span : Span) × Contains (spans_of cores history) span × IsOf stay span × Shows span n

-- a span of the history that shows after the first n passes is the one that its core is in there
abbrev pub ShownAreStays : Type 0
ShownAreStays =
    (cores : ℕ) (history : List PassEntry) (n : ℕ) (span : Span) →
    Contains (spans_of cores history) span → Shows span n
    → (stay : Span) × (span_at (moves_of (take n history)) span.core ≡ Some stay) × IsOf stay span

-- no two spans of a core show after the same pass, unless they are one: the same grant's
abbrev pub SpansAreApart : Type 0
SpansAreApart =
    (cores : ℕ) (history : List PassEntry) (n : ℕ) (one other : Span) →
    Contains (spans_of cores history) one → Contains (spans_of cores history) other
    → one.core ≡ other.core → Shows one n → Shows other n → IsOf one other

-- a stay of thread k that is not being left
pub record IsHeldStay (stay : Option Span) (k : ℕ) : Type 0 where
  pub span : Span
  pub there : stay ≡ Some span
  pub thread : span.thread ≡ k
  pub not_left : span.left ≡ None

-- a stay of thread k that is being left, for this cause
pub record IsLeftStay (stay : Option Span) (k : ℕ) (cause : Cause) : Type 0 where
  pub span : Span
  pub there : stay ≡ Some span
  pub thread : span.thread ≡ k
  pub since : ℕ
  pub left : span.left ≡ Some (record { pass = since; cause = cause })

-- what a holder says of the span that its core is in: a free core is in none; a core that is held,
-- in one of the holder's thread that is not being left; a core that is being left, in one of that
-- thread that is being left, for the holder's cause
abbrev pub IsStayOf : Holder → Option Span → Type 0
IsStayOf holders.Free stay = stay ≡ None
IsStayOf (holders.Held placement) stay = IsHeldStay stay placement.thread
IsStayOf (holders.Leaving placement cause) stay = IsLeftStay stay placement.thread cause

-- after the first n passes of an orderly history the span that a core is in is as its holder says
abbrev pub StaysAreHolders : Type 0
StaysAreHolders = (table : Table) (history : List PassEntry) (n c : ℕ) → IsOrderly table history
    → IsStayOf (holder_of (actions_of (take n history)) c) (span_at (moves_of (take n history)) c)

-- whoever holds or leaves a core after the first n passes of an orderly history: a span of the
-- history shows the thread there
abbrev pub HoldersAreShown : Type 0
HoldersAreShown =
    (cores : ℕ) (table : Table) (history : List PassEntry) (n c : ℕ)
    (placement : placements.Placement) → IsOrderly table history → c < cores
    → placement_of (holder_of (actions_of (take n history)) c) ≡ Some placement
    → (span : Span) × Contains (spans_of cores history) span × (span.core ≡ c) ×
    (span.thread ≡ placement.thread) × Shows span n

-- a span of an orderly history that shows after the first n passes is of the thread that holds or
-- leaves its core there
abbrev pub ShownAreHolders : Type 0
ShownAreHolders =
    (cores : ℕ) (table : Table) (history : List PassEntry) (n : ℕ) (span : Span) →
    IsOrderly table history → Contains (spans_of cores history) span
    → Shows span n → (placement : placements.Placement) ×
    (placement_of (holder_of (actions_of (take n history)) span.core) ≡ Some placement)
    × (span.thread ≡ placement.thread)
