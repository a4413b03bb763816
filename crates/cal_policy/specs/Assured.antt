-- The pass of the second policy, `assured`, in the same words as that of Pass.antt: what its tasks
-- wait for, what is kept for whom, and the parts in which it differs.
pub mod Acted
pub mod AtTurn
pub mod Cause
pub mod Grants
pub mod Hyperthreads
pub mod InFlight
pub mod Order
pub mod Owed
pub mod Pass
pub mod Short
pub mod Taking
pub mod Turns
