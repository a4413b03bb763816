-- The turns of kernel threads and what comes to them.
pub mod NextRequest
pub mod OneTurn
pub mod Turns
pub mod GivenTurns
