mod Common
pub mod QueueMoves
pub mod TurnLemmas
pub mod JournalLemmas
pub mod EndLemmas
pub mod TeamLemmas
pub mod ListSums
