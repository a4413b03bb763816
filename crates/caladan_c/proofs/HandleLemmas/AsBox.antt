-- The pointer, where it keeps something, and its parts own what a box at the same types owns.
use Rattle.caladan_c.proofs.Common.{impl, tnil, dnil, sym, ◌≡◌, true, Option, Some, None, refl, is_some, Slot, plain, Bx}
use mathlib.Core.List.{[]}
use mathlib.Core.Bool.{true≢false}
use Rattle.std.specs.contracts.alloc.Global as Heap
use Rattle.std.specs.contracts.impls.GlobalAllocator.TheImpl.{ghosts, dict}
use Rattle.std.proofs.alloc.Global.TheLaws as heap
use Rattle.caladan_c.specs.contracts.handle.kept.Kept as Kept
use Rattle.caladan_c.proofs.handle.kept.Kept.TheLaws as kept
use Rattle.caladan_c.specs.contracts.handle.loose.Loose as Loose
use Rattle.caladan_c.specs.contracts.handle.pointer.Pointer as Pointer

abbrev pub E : Bx
E = record { row = Kept.the_row; laws = kept.the_row_laws; al = record { row = Heap.the_row; laws = heap.the_row_laws; g = ghosts; d = dict; drops = impl [] tnil dnil } }

abbrev pub FromLoose : Slot 0
FromLoose = plain (λ _. Loose.the_row Kept.the_row Heap.the_row ghosts)

abbrev pub FromPointer : Slot 0
FromPointer = plain (λ _. Pointer.the_row)

abbrev pub FromAlloc : Slot 0
FromAlloc = plain (λ _. Heap.the_row)

-- what is kept, where something is
pub kept_of : {A : Type 0} (maybe : Option A) → is_some maybe ≡ true → (x : A) × (maybe ≡ Some x)
kept_of (Some x) e = (x, refl)
kept_of None e = absurd (true≢false (sym e))
