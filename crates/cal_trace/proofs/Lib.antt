mod Common
pub mod RowLemmas
pub mod SignalLemmas
pub mod ListLemmas
pub mod HistoryLemmas
pub mod GivenSignals
pub mod ArrivalLemmas
pub mod ArrivalsFit
pub mod ComingLemmas
pub mod Ids
pub mod Tallies
