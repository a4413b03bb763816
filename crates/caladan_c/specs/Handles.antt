-- What a pointer owns, and what a call finds in a handle.
use Rattle.std.specs.Prelude.{Option, Some, None}
use base.Fml.{Fml, ftrue}
use denote.RattleType.{RattleType}
use denote.RawPtr.{Ptr}
use Rattle.std.specs.Box.Ownership.{box_owns}
use Rattle.std.specs.Global.{Global}
use Rattle.std.specs.contracts.impls.GlobalAllocator.TheImpl.{ghosts}

-- where it keeps something, the same as a box of that, else nothing
abbrev pub pointer_owns : (row : RattleType) → Option row.Denot → Global → Ptr → Fml
pointer_owns row (Some kept) alloc at = box_owns (ghosts.dealloc_token alloc) row at kept
pointer_owns row None alloc at = ftrue
